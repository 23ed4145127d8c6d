use Rattle.std.proofs.Common.{ℕ, ◌<◌, ◌≤◌, ◌-◌, length, get_or, true}
use Rattle.src_lexer.proofs.pieces.span_end.Given as goal

abbrev pub invariant-loop-to : goal.invariant-loop-to
invariant-loop-to g l = record { from : l.from ≤ l.to; within : l.to ≤ length l.src; each : (i : ℕ) → l.from ≤ i → i < l.to → goal.F-post g l.goes_on (get_or l.src i 0) true }

abbrev pub decreases-loop-to : goal.decreases-loop-to
decreases-loop-to g l = length l.src - l.to
