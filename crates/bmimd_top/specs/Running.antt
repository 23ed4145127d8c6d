-- What a program is compiled to, and its run.
use Rattle.std.specs.Prelude.{◌≡◌, ℕ, List, [], ◌∷◌, Result, Ok, Err}
use Rattle.bm_base.specs.Machine.{Machine}
use Rattle.bm_base.specs.Memory.{Content}
use Rattle.timing_script.specs.declared.script.Script.{Script}
use Rattle.bm_words.specs.Table.{MachineOf, UnitOf, Static, Dynamic, RunWordsOf}
use Rattle.unit_law.specs.State.{Program}
use Rattle.src_names.specs.RProgram.{RProgram}
use Rattle.compiled_image.specs.Compiled.{IsCompiled}
use Rattle.run_text.specs.declared.kind.UnitKind.{UnitKind}
use Rattle.run_text.specs.declared.kind.UnitKind.TheVariants as kind
use Rattle.run_text.specs.RunText.{IsRunText}
use Rattle.run_text.specs.TraceText.{IsRunTrace}
use Rattle.bm_inputs.specs.Counts.{counts_line}
use Rattle.bm_course.specs.declared.status.TheConstants.{ENDED}
use Rattle.bm_course.specs.Course.{Refused, Output, Product, text_only, Course, ◌>>=◌, judge}
use Rattle.bm_inputs.specs.Sources.{source_course}
use Rattle.bm_inputs.specs.Machines.{machine_course}
use Rattle.bm_inputs.specs.Scripts.{script_course}
use Rattle.bm_inputs.specs.Memories.{memory_course}
use Rattle.bm_inputs.specs.Beginning.{Beginning, beginning}

abbrev pub kind_of : UnitOf → UnitKind
kind_of Static = kind.Static
kind_of Dynamic = kind.Dynamic

-- it is the text of the run that begins with this, on the unit and for the ticks of the words
abbrev pub IsRunBy : RunWordsOf → Beginning → Output → Type 0
IsRunBy run b text = IsRunText b.image (kind_of run.unit) b.script b.memory run.budget text

-- the text of that run
abbrev pub Runs : RunWordsOf → Beginning → Result Product Refused → Type 0
Runs run b (Ok p) = (text : Output) × IsRunBy run b text × (p ≡ text_only text)
Runs run b (Err r) = ⊥

-- it is the trace of that run
abbrev pub IsTraceBy : RunWordsOf → Beginning → Output → Type 0
IsTraceBy run b text = IsRunTrace b.image (kind_of run.unit) b.script b.memory run.budget text

abbrev pub Traces : RunWordsOf → Beginning → Result Product Refused → Type 0
Traces run b (Ok p) = (text : Output) × IsTraceBy run b text × (p ≡ text_only text)
Traces run b (Err r) = ⊥

-- what an image has
abbrev pub counts_text : Program → Output
counts_text image = record { status = ENDED; lines = counts_line image ∷ [] }

-- what a run begins with where this program is compiled for this machine
abbrev pub Begins : Machine → RProgram → Script → List Content → Result Beginning Refused → Type 0
Begins machine p script memory (Ok b) = (image : Program) × IsCompiled machine p image × (b ≡ beginning image script memory)
Begins machine p script memory (Err r) = ⊥

-- the script and the data, and then what the program is compiled to on the machine
abbrev pub compiled_course : RunWordsOf → Machine → RProgram → Course Beginning
compiled_course run machine p = do
  script ← script_course run.script
  memory ← memory_course p.names run.given
  judge (Begins machine p script memory)

-- the source and the machine before them
abbrev pub sourced_course : List ℕ → MachineOf → RunWordsOf → Course Beginning
sourced_course name machine run = do
  program ← source_course name
  spec ← machine_course machine
  compiled_course run spec program
