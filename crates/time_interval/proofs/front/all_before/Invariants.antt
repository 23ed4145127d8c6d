use Rattle.std.proofs.Common.{ℕ, ◌<◌, get_or}
use Rattle.time_interval.specs.Ahead.{IsBefore}
use Rattle.time_interval.proofs.front.all_before.Given as goal

abbrev pub invariant-loop-g : goal.invariant-loop-g
invariant-loop-g l = (k d : ℕ) → k < l.g-index → IsBefore l.timing l.items (get_or l.producers k d) l.p
