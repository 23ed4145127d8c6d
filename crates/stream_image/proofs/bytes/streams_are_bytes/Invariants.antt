use Rattle.std.proofs.Common.{take}
use Rattle.stream_image.specs.Keeps.{AreItems}
use Rattle.stream_image.proofs.bytes.streams_are_bytes.Given as goal

abbrev pub invariant-loop-stream : goal.invariant-loop-stream
invariant-loop-stream l = AreItems (take l.stream-index l.streams)
