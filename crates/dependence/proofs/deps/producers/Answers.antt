use Rattle.std.proofs.Common.{length, slice_index, ap, ◌∙◌, arith}
use Rattle.dependence.proofs.Linked.{links_long, link_there}
use Rattle.dependence.proofs.deps.producers.Goals as goal

pub bounds-links-b : goal.bounds-links-b
bounds-links-b c = omega (arith, links_long c.args.tuples.now, ap length c.requires.links)

pub walk-requires-clause-link : goal.walk-requires-clause-link
walk-requires-clause-link c = ap (λ l. slice_index l c.args.b) c.requires.links ∙ link_there c.args.tuples.now c.args.b 0 c.requires.tuple
