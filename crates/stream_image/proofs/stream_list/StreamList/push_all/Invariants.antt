use Rattle.std.proofs.Common.{◌≡◌, ◌++◌, take}
use Rattle.stream_image.proofs.stream_list.StreamList.push_all.Given as goal

abbrev pub invariant-loop-stream : goal.invariant-loop-stream
invariant-loop-stream l = l.self ≡ l.fn.self ++ take l.stream-index l.streams
