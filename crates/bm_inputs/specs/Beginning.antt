-- What a run begins with.
use Rattle.std.specs.Prelude.{ℕ, ◌≡◌, List}
use Rattle.bm_base.specs.Memory.{Content}
use Rattle.unit_law.specs.State.{Program}
use Rattle.timing_script.specs.declared.script.Script.{Script}
use Rattle.bm_words.specs.Table.{RunWordsOf}
use Rattle.bm_course.specs.Course.{Course, ◌>>=◌, give}
use Rattle.bm_inputs.specs.Scripts.{script_course}
use Rattle.bm_inputs.specs.Memories.{memory_course}
use Rattle.bm_inputs.specs.declared.begun.Begun.{Begun}

-- the image, the script of its durations, and the memory
pub record Beginning : Type 0 where
  pub image : Program
  pub script : Script
  pub memory : List Content

abbrev pub beginning : Program → Script → List Content → Beginning
beginning image script memory = record { image = image; script = script; memory = memory }

-- the script, and then the data for the names of the image
abbrev pub begins_course : RunWordsOf → Program → Course Beginning
begins_course run image = do
  script ← script_course run.script
  memory ← memory_course image.names run.given
  give (beginning image script memory)

-- the image, and then what its run begins with
abbrev pub begun_course : Course Program → RunWordsOf → Course Beginning
begun_course images run = do
  image ← images
  begins_course run image

-- what the code keeps of it
pub record IsBegun (kept : Begun) (b : Beginning) : Type 0 where
  pub image : kept.image ≡ b.image
  pub script : kept.script ≡ b.script
  pub memory : kept.store ≡ b.memory
