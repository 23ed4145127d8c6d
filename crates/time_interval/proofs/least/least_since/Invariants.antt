use Rattle.std.proofs.Common.{◌≡◌, drop}
use Rattle.time_interval.specs.Bounds.{since_bar}
use Rattle.time_interval.proofs.least.least_since.Given as goal

abbrev pub invariant-loop-place : goal.invariant-loop-place
invariant-loop-place l = since_bar l.timing l.index l.items ≡ since_bar l.timing l.left (drop l.place l.items)
