use Rattle.std.proofs.Common.{◌≡◌, take}
use Rattle.line_model.specs.Streams.{stream}
use Rattle.stream_image.proofs.stream_list.fill.Given as goal

abbrev pub invariant-loop-item : goal.invariant-loop-item
invariant-loop-item l = l.own.items ≡ stream l.p (take l.item-index l.item-items)
