use Rattle.std.proofs.Common.{◌≡◌, drop}
use Rattle.stream_image.specs.Line.{items_of}
use Rattle.stream_image.proofs.line.items_of.Given as goal

abbrev pub invariant-loop-stream : goal.invariant-loop-stream
invariant-loop-stream l = items_of (drop l.stream-index l.streams) l.p ≡ items_of l.streams l.p
