use Rattle.std.proofs.Common.{◌≡◌, map}
use Rattle.std.specs.List.{range_with_len}
use Rattle.dependence.specs.Links.{link_at}
use Rattle.dependence.proofs.Linked.{AreKept}
use Rattle.dependence.proofs.links.links.Given as goal

abbrev pub invariant-loop-b : goal.invariant-loop-b
invariant-loop-b l = (l.links.items ≡ map (link_at l.tuples) (range_with_len 0 l.b)) × AreKept l.tuples l.b l.latest
