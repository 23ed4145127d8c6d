use Rattle.std.proofs.Common.{take}
use Rattle.std.specs.List.{AllByRecursion}
use Rattle.stream_image.specs.Keeps.{ItemFits}
use Rattle.stream_image.proofs.bytes.items_are_bytes.Given as goal

abbrev pub invariant-loop-item : goal.invariant-loop-item
invariant-loop-item l = AllByRecursion ItemFits (take l.item-index l.items)
