use Rattle.std.proofs.Common.{◌≡◌, ◌+◌, drop}
use Rattle.time_interval.specs.Places.{place_of_bar}
use Rattle.time_interval.proofs.along.place_of_bar.Given as goal

abbrev pub invariant-loop-place : goal.invariant-loop-place
invariant-loop-place l = place_of_bar l.index l.items ≡ l.place + place_of_bar l.left (drop l.place l.items)
