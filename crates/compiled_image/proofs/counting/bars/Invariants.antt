use Rattle.std.proofs.Common.{◌≡◌, ◌+◌, length, drop}
use Rattle.line_model.specs.Streams.{masks}
use Rattle.compiled_image.proofs.counting.bars.Given as goal

abbrev pub invariant-loop-item : goal.invariant-loop-item
invariant-loop-item l = length (masks l.line.items) ≡ l.bars + length (masks (drop l.item-index l.line.items))
