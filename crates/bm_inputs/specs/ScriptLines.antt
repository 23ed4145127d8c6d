-- What the fault of a script file is refused with.
use Rattle.std.specs.Prelude.{◌++◌, codes, decimal, Option, None}
use Rattle.timing_script.specs.declared.reading.ScriptFault.{ScriptFault}
use Rattle.timing_script.specs.declared.reading.ScriptFault.TheVariants.{ScriptText, Memory}
use Rattle.bm_course.specs.declared.status.TheConstants.{SCRIPT}
use Rattle.bm_course.specs.Course.{Refused}
use Rattle.bm_inputs.specs.SourceLines.{plain}

abbrev pub script_refused : ScriptFault → Option Refused
script_refused (ScriptText line) = plain SCRIPT (codes "error 29: script line " ++ decimal line ++ codes "\n")
script_refused Memory = None
