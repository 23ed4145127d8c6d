use Rattle.std.proofs.Common.{◌∙◌, sym, ap, length, arith, get_or, List, ℕ}
use Rattle.stream_image.specs.declared.given.Stream.{Stream}
use Rattle.stream_image.proofs.ColumnFacts.{streams_long, stream_in}
use Rattle.stream_image.proofs.stream_list.StreamList.processor.Goals as goal

pub bounds-as_slice-k : goal.bounds-as_slice-k
bounds-as_slice-k c = let n = streams_long c.self.inside.processors.items c.self.inside.items c.args.self.now c.self.invariant c.self.view_is in let s = ap length c.as_slice.ensures.value in omega (arith, n, s, c.requires)

pub returns : goal.returns
returns c = ap (λ (ps : List ℕ). get_or ps c.args.k 0) c.as_slice.ensures.value ∙ sym (ap (λ (s : Stream). s.processor) (stream_in c.self.inside.processors.items c.self.inside.items c.args.self.now c.args.k 0 c.self.invariant c.self.view_is c.requires))
