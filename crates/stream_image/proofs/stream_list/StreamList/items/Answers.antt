use Rattle.std.proofs.Common.{◌∙◌, sym, ap, arith}
use Rattle.stream_image.specs.declared.given.Stream.{Stream}
use Rattle.stream_image.proofs.ColumnFacts.{streams_long, stream_in}
use Rattle.stream_image.proofs.stream_list.StreamList.items.Goals as goal

pub list-requires : goal.list-requires
list-requires c = let n = streams_long c.self.inside.processors.items c.self.inside.items c.args.self.now c.self.invariant c.self.view_is in let s = c.self.invariant in omega (arith, n, s, c.requires)

pub returns : goal.returns
returns c = c.list.ensures ∙ sym (ap (λ (s : Stream). s.items) (stream_in c.self.inside.processors.items c.self.inside.items c.args.self.now c.args.k 0 c.self.invariant c.self.view_is c.requires))
