-- What an evaluation begins with.
use Rattle.std.specs.Prelude.{ℕ, ◌≡◌, List}
use Rattle.bm_base.specs.Memory.{Content}
use Rattle.src_names.specs.RProgram.{RProgram}
use Rattle.bm_words.specs.Table.{DataOf}
use Rattle.bm_course.specs.Course.{Course, ◌>>=◌, give}
use Rattle.bm_inputs.specs.Sources.{source_course}
use Rattle.bm_inputs.specs.Memories.{memory_course}
use Rattle.bmimd_top.specs.declared.eval.Ready.{Ready}

-- the program and the memory
pub record Evaluated : Type 0 where
  pub program : RProgram
  pub memory : List Content

abbrev pub evaluated : RProgram → List Content → Evaluated
evaluated program memory = record { program = program; memory = memory }

-- the source, and then the data for its names
abbrev pub ready_course : List ℕ → DataOf → Course Evaluated
ready_course name given = do
  program ← source_course name
  memory ← memory_course program.names given
  give (evaluated program memory)

-- what the code keeps of it
pub record IsReady (kept : Ready) (e : Evaluated) : Type 0 where
  pub program : kept.program ≡ e.program
  pub memory : kept.store ≡ e.memory
