use Rattle.std.proofs.Common.{◌≡◌}
use Rattle.std.specs.Prelude.{slice_range}
use Rattle.stream_image.specs.Line.{items_of}
use Rattle.stream_image.proofs.stream_list.StreamList.find.Given as goal

abbrev pub invariant-loop-k : goal.invariant-loop-k
invariant-loop-k l = items_of (slice_range l.self l.from l.to) l.p ≡ items_of (slice_range l.self l.k l.to) l.p
