-- The program of a source file.
use Rattle.std.specs.Prelude.{ℕ, ◌≡◌, List, Result, Ok, Err, Some}
use Rattle.bm_base.specs.declared.limits.TheConstants.{MOST_SOURCE_BYTES}
use Rattle.src_names.specs.RProgram.{RProgram}
use Rattle.src_front.specs.declared.fault.SourceFault.{SourceFault}
use Rattle.src_front.specs.Reads.{Reads, FirstFault}
use Rattle.bm_inputs.specs.SourceLines.{source_refused}
use Rattle.bm_course.specs.Course.{Refused, Course, ◌>>=◌, judge}
use Rattle.bm_course.specs.Limited.{limited}

-- the program that the bytes read as, or what their first fault is refused with
abbrev pub ReadsSource : List ℕ → Result RProgram Refused → Type 0
ReadsSource bytes (Ok program) = Reads bytes program
ReadsSource bytes (Err r) = (fault : SourceFault) × FirstFault bytes fault × (source_refused fault ≡ Some r)

abbrev pub source_course : List ℕ → Course RProgram
source_course name = do
  bytes ← limited name MOST_SOURCE_BYTES
  judge (ReadsSource bytes)
