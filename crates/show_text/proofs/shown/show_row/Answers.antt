use Rattle.std.proofs.lemmas.List.{take_more}
use Rattle.show_text.proofs.Pairs.{pairs_next}
use Rattle.show_text.proofs.shown.show_row.Goals as goal

pub loop-a-preserved : goal.loop-a-preserved
loop-a-preserved c =
    rw c.in_ok-push-in-Some.ensures.ok
    (record {
      pairs = λ xs h. pairs_next _ _ xs c.args.producers.now c.loop-a.a-index c.loop-a.pairs _ (take_more c.args.producers.now c.loop-a.a-index 0 c.loop-a-test.true) (c.loop-a.invariant.pairs xs h) c.in-Some.ensures;
    })
