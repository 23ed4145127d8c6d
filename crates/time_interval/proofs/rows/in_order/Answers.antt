use Rattle.std.proofs.Common.{sym, true≢false, ◌∙◌}
use Rattle.time_interval.proofs.AheadFacts.{in_order_next, may_stand_there}
use Rattle.time_interval.proofs.rows.in_order.Goals as goal

pub loop-item-preserved : goal.loop-item-preserved
loop-item-preserved c =
    let r = in_order_next c.args.deps.now.producers c.args.items.now c.loop-item.item-index c.item-item.result c.loop-item.passed c.passed_with-passed.result c.loop-item-test.true c.item-item.is c.loop-item.invariant.behind c.loop-item.invariant.known (c.may_stand.ensures.0 c.if-not-may_stand.false) c.passed_with-passed.ensures in
    record { behind = r.behind; known = r.known }

pub returns-then-not-may_stand : goal.returns-then-not-may_stand
returns-then-not-may_stand c = (λ e. absurd (true≢false (sym e)), λ h. absurd (true≢false (sym (c.may_stand.ensures.1 (may_stand_there c.args.deps.now.producers c.args.items.now c.loop-item.item-index c.item-item.result c.loop-item.passed c.loop-item-test.true c.item-item.is c.loop-item.invariant.known h)) ∙ c.if-not-may_stand.true)))
