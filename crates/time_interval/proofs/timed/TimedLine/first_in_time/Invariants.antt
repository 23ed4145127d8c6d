use Rattle.std.proofs.Common.{ℕ, ◌<◌}
use Rattle.time_interval.specs.declared.reference.Reference.TheVariants as since
use Rattle.time_interval.specs.Ordered.{IsInTime}
use Rattle.time_interval.proofs.timed.TimedLine.first_in_time.Given as goal

abbrev pub invariant-loop-index : goal.invariant-loop-index
invariant-loop-index l = (j : ℕ) → j < l.index → ¬ IsInTime l.self.pace l.self.line l.g l.i (since.Bar j)
