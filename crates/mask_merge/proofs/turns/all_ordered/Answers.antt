use Rattle.std.proofs.Common.{ℕ, subst, below_more, get_or}
use Rattle.time_interval.specs.Ordered.{IsOrdered}
use Rattle.mask_merge.proofs.TurnFacts.{some_ordered, same_default}
use Rattle.mask_merge.proofs.turns.all_ordered.Goals as goal

pub loop-g-preserved : goal.loop-g-preserved
loop-g-preserved c = λ k d. below_more (λ (j : ℕ). IsOrdered c.args.bounds.now.pace c.args.bounds.now.line (get_or c.producers-g-items.result.now j d) c.loop-i.i) c.loop-g.g-index (λ j. c.loop-g.invariant j d)
    (subst (λ x. IsOrdered c.args.bounds.now.pace c.args.bounds.now.line x c.loop-i.i) (same_default c.producers-g-items.result.now c.loop-g.g-index 0 d c.loop-g-test.true) (some_ordered _ _ _ _ c.ordered.result c.is_none.result c.is_none.ensures c.if-is_none.false c.ordered.ensures)) k
