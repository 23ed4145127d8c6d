-- The laws of the courses of commands.
use Rattle.std.specs.Prelude.{ℕ, List}
use Rattle.bm_words.specs.Table.{MachineOf, DataOf, RunWordsOf}
use Rattle.bm_base.specs.Machine.{Machine, IsMachine}
use Rattle.src_names.specs.RProgram.{RProgram}
use Rattle.src_names.specs.Right.{IsRight}
use Rattle.bm_course.specs.Course.{Gives}
use Rattle.bm_course.specs.Laws.{IsDetermined}
use Rattle.bm_inputs.specs.Sources.{source_course}
use Rattle.bm_inputs.specs.Machines.{machine_course}
use Rattle.bm_inputs.specs.Images.{loaded_course}
use Rattle.bm_inputs.specs.BeginningLaws.{BeginningsHaveOneStep, MemoriesAreRight}
use Rattle.bmimd_top.specs.Running.{sourced_course}
use Rattle.bmimd_top.specs.Compiling.{made_course}
use Rattle.bmimd_top.specs.Listing.{listed_course}
use Rattle.bmimd_top.specs.Evaluating.{ready_course}
use Rattle.bmimd_top.specs.Command.{course_of}

-- what words ask for, and the readings of which it has parts
pub record CoursesHaveOneStep : Type 0 where
  pub words : (words : List (List ℕ)) → IsDetermined (course_of words)
  pub sourced : (name : List ℕ) (machine : MachineOf) (run : RunWordsOf) → IsDetermined (sourced_course name machine run)
  pub made : (name : List ℕ) (machine : MachineOf) → IsDetermined (made_course name machine)
  pub listed : (name : List ℕ) (machine : MachineOf) → IsDetermined (listed_course name machine)
  pub ready : (name : List ℕ) (given : DataOf) → IsDetermined (ready_course name given)

-- the laws of what commands read: one step each, and what is given is right
pub record LawsOfReadings : Type 0 where
  pub one : CoursesHaveOneStep
  pub sources : (name : List ℕ) → IsDetermined (source_course name)
  pub machines : (word : MachineOf) → IsDetermined (machine_course word)
  pub loaded : (name : List ℕ) → IsDetermined (loaded_course name)
  pub right : (name : List ℕ) (contents rest : List (List ℕ)) (p : RProgram) → source_course name contents (Gives p rest) → IsRight p
  pub lawful : (word : MachineOf) (contents rest : List (List ℕ)) (m : Machine) → machine_course word contents (Gives m rest) → IsMachine m
  pub begun : BeginningsHaveOneStep
  pub memories : MemoriesAreRight
