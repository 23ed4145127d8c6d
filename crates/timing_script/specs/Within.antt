-- Every script gives durations within the interval.
use Rattle.std.specs.Prelude.{ℕ, ◌≤◌}
use Rattle.bm_base.specs.declared.spec.Interval.{Interval}
use Rattle.timing_law.specs.Duration.{IsWithin}
use Rattle.timing_law.specs.Within.{duration_by-within}
use Rattle.timing_script.specs.Script.{offset_of, script_duration}
use Rattle.timing_script.specs.declared.script.Script.{Script}

pub script_duration-within : (script : Script) (processor k : ℕ) (interval : Interval) → interval.least ≤ interval.most
    → IsWithin interval (script_duration script processor k interval)
script_duration-within script processor k interval ordered = duration_by-within (offset_of script processor k interval) interval ordered
