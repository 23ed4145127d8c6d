use Rattle.std.proofs.Common.{◌≡◌}
use Rattle.time_interval.specs.Places.{without_place}
use Rattle.time_interval.proofs.edit.move_on.Given as goal

abbrev pub invariant-loop-k : goal.invariant-loop-k
invariant-loop-k l = l.target ≡ without_place l.k l.items
