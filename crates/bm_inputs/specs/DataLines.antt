-- What the faults of a data file are refused with.
use Rattle.std.specs.Prelude.{ℕ, List, ◌++◌, codes, decimal, Option, None}
use Rattle.timing_script.specs.declared.fault.DataFault.{DataFault}
use Rattle.timing_script.specs.declared.fault.DataFault.TheVariants.{DataText, DataName, DataTwice, DataCount, Memory}
use Rattle.bm_course.specs.declared.status.TheConstants.{DATA}
use Rattle.bm_course.specs.Course.{Refused}
use Rattle.bm_inputs.specs.SourceLines.{plain}

-- the refusal of data with this line
abbrev pub told : List ℕ → Option Refused
told line = plain DATA line

abbrev pub data_refused : DataFault → Option Refused
data_refused (DataText line) = told (codes "error 30: data line " ++ decimal line ++ codes "\n")
data_refused (DataName line) = told (codes "error 31: data line " ++ decimal line ++ codes " names nothing\n")
data_refused (DataCount line given room) = told (codes "error 32: data line " ++ decimal line ++ codes " gives " ++ decimal given
    ++ codes " values for " ++ decimal room ++ codes "\n")
data_refused (DataTwice line first) = told (codes "error 33: data line " ++ decimal line ++ codes " repeats line " ++ decimal first
    ++ codes "\n")
data_refused Memory = None
