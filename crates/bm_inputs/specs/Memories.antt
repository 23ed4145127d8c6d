-- The memory that a run or an evaluation begins with.
use Rattle.std.specs.Prelude.{ℕ, ◌≡◌, List, Result, Ok, Err, Some}
use Rattle.bm_base.specs.declared.limits.TheConstants.{MOST_DATA_BYTES}
use Rattle.bm_base.specs.Entry.{Entry}
use Rattle.bm_base.specs.Memory.{Content, initial}
use Rattle.timing_script.specs.declared.fault.DataFault.{DataFault}
use Rattle.timing_script.specs.Data.{IsDataOf, IsFirstFault}
use Rattle.bm_words.specs.Table.{DataOf, Declared, DataFile}
use Rattle.bm_course.specs.Course.{Refused, Course, ◌>>=◌, give, judge}
use Rattle.bm_course.specs.Limited.{limited}
use Rattle.bm_inputs.specs.DataLines.{data_refused}

-- the memory that the bytes give these names, or what their first fault is refused with
abbrev pub ReadsData : List Entry → List ℕ → Result (List Content) Refused → Type 0
ReadsData names bytes (Ok memory) = IsDataOf names bytes memory
ReadsData names bytes (Err r) = (fault : DataFault) × IsFirstFault names bytes fault × (data_refused fault ≡ Some r)

abbrev pub data_file_course : List Entry → List ℕ → Course (List Content)
data_file_course names name = do
  bytes ← limited name MOST_DATA_BYTES
  judge (ReadsData names bytes)

-- the declared memory, or that with the values of a file laid over it
abbrev pub memory_course : List Entry → DataOf → Course (List Content)
memory_course names Declared = give (initial names)
memory_course names (DataFile name) = data_file_course names name

-- what the code keeps of it is the memory itself
abbrev pub IsMemory : List Content → List Content → Type 0
IsMemory kept memory = kept ≡ memory
