-- Programs of which each conflicting pair is in order, times taken into account.
use Rattle.std.specs.Prelude.{ℕ}
use Rattle.tuple_ir.specs.Conflict.{Conflict}
use Rattle.unit_law.specs.State.{Code, Program, code_at}
use Rattle.time_interval.specs.Bounds.{Pace, pace_on}
use Rattle.time_interval.specs.Ordered.{IsOrdered}

-- what the bounds along a block's line depend on beside the line
abbrev pub pace_of : Program → Code → Pace
pace_of m code = pace_on m.machine code.tuples

-- each conflicting pair is ordered by processor, by barrier or by time
abbrev pub ConflictsOrdered : Program → Type 0
ConflictsOrdered m = (b x y : ℕ) → Conflict (code_at m b).tuples x y → IsOrdered (pace_of m (code_at m b)) (code_at m b).line x y
