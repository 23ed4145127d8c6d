use Rattle.std.proofs.Common.{◌≡◌, take}
use Rattle.time_interval.proofs.timed.copy_of.Given as goal

abbrev pub invariant-loop-item : goal.invariant-loop-item
invariant-loop-item l = l.items ≡ take l.item-index l.item-items
