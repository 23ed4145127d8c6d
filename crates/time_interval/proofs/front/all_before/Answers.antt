use Rattle.std.proofs.Common.{ℕ, subst, below_more, get_or}
use Rattle.time_interval.specs.Ahead.{IsBefore}
use Rattle.time_interval.proofs.AheadFacts.{same_default}
use Rattle.time_interval.proofs.front.all_before.Goals as goal

pub loop-g-preserved : goal.loop-g-preserved
loop-g-preserved c = λ k d. below_more (λ (j : ℕ). IsBefore c.args.timing.now c.args.items.now (get_or c.args.producers.now j d) c.args.p) c.loop-g.g-index (λ j. c.loop-g.invariant j d)
    (subst (λ x. IsBefore c.args.timing.now c.args.items.now x c.args.p) (same_default c.args.producers.now c.loop-g.g-index 0 d c.loop-g-test.true) (c.orders.ensures.0 c.if-not-orders.false)) k
