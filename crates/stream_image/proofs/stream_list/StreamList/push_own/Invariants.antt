use Rattle.std.proofs.Common.{◌≡◌, ◌++◌}
use Rattle.stream_image.specs.Flat.{streams_on}
use Rattle.stream_image.proofs.stream_list.StreamList.push_own.Given as goal

abbrev pub invariant-loop-p : goal.invariant-loop-p
invariant-loop-p l = l.self ≡ l.fn.self ++ streams_on l.p l.line.items
