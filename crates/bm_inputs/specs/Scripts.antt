-- The script that a word names.
use Rattle.std.specs.Prelude.{ℕ, ◌≡◌, List, Result, Ok, Err, Some}
use Rattle.bm_base.specs.declared.limits.TheConstants.{MOST_SCRIPT_BYTES}
use Rattle.timing_script.specs.declared.script.Script.{Script}
use Rattle.timing_script.specs.declared.script.Script.TheVariants as script
use Rattle.timing_script.specs.declared.reading.ScriptFault.{ScriptFault}
use Rattle.timing_script.specs.Text.{IsScriptOf, IsFault}
use Rattle.bm_words.specs.Table.{ScriptOf, Least, Most, Seed, ScriptFile}
use Rattle.bm_course.specs.Course.{Refused, Course, ◌>>=◌, give, judge}
use Rattle.bm_course.specs.Limited.{limited}
use Rattle.bm_inputs.specs.ScriptLines.{script_refused}

-- the script whose text the bytes are, or what their first wrong line is refused with
abbrev pub ReadsScript : List ℕ → Result Script Refused → Type 0
ReadsScript bytes (Ok script) = IsScriptOf bytes script
ReadsScript bytes (Err r) = (fault : ScriptFault) × IsFault bytes fault × (script_refused fault ≡ Some r)

abbrev pub script_file_course : List ℕ → Course Script
script_file_course name = do
  bytes ← limited name MOST_SCRIPT_BYTES
  judge (ReadsScript bytes)

abbrev pub script_course : ScriptOf → Course Script
script_course Least = give script.Least
script_course Most = give script.Most
script_course (Seed n) = give (script.Seed n)
script_course (ScriptFile name) = script_file_course name

-- what the code keeps of it is the script itself
abbrev pub IsScript : Script → Script → Type 0
IsScript kept script = kept ≡ script
