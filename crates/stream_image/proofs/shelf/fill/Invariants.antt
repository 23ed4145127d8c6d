use Rattle.std.proofs.Common.{◌≡◌, take}
use Rattle.line_model.specs.Streams.{masks}
use Rattle.stream_image.proofs.shelf.fill.Given as goal

abbrev pub invariant-loop-item : goal.invariant-loop-item
invariant-loop-item l = l.queue.items ≡ masks (take l.item-index l.item-items)
