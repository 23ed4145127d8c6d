use Rattle.std.proofs.Common.{arith, slice_index_or}
use Rattle.std.proofs.lemmas.List.{take_more}
use Rattle.compiled_image.proofs.Tallies.{tally_next, up_to, kind_some}
use Rattle.compiled_image.proofs.pairs.add_row.Goals as goal

pub loop-a-preserved : goal.loop-a-preserved
loop-a-preserved c = (
  up_to _ _ c.add.new.self (omega arith) (c.add.ensures.few _ c.loop-a.invariant.0),
  λ pace line pairs front ordered h.
      let a = slice_index_or c.args.producers.now c.loop-a.a-index 0 in
      let k = kind_some pace line c.args.b a c.args.on c.args.seen c.has.result c.has-in-loop-a.result front c.has.ensures c.has-in-loop-a.ensures (ordered c.loop-a.a-index 0 c.loop-a-test.true) in
      tally_next pace line pairs c.args.producers.now c.loop-a.a-index c.args.b a k.0 _ _ (take_more c.args.producers.now c.loop-a.a-index 0 c.loop-a-test.true) (c.loop-a.invariant.1 pace line pairs front ordered h) k.2 (λ reasons e. c.add.ensures.more reasons k.0 k.1 e),
)
