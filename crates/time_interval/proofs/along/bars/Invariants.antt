use Rattle.std.proofs.Common.{◌≡◌, ◌+◌, length, drop}
use Rattle.line_model.specs.Streams.{masks}
use Rattle.time_interval.proofs.along.bars.Given as goal

abbrev pub invariant-loop-item : goal.invariant-loop-item
invariant-loop-item l = length (masks l.items) ≡ l.bars + length (masks (drop l.item-index l.items))
