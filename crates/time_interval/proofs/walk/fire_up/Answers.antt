use Rattle.std.proofs.Common.{◌∙◌}
use Rattle.time_interval.specs.Steps.{by_processor}
use Rattle.time_interval.proofs.MemberFacts.{up_first, up_next}
use Rattle.time_interval.proofs.walk.fire_up.Goals as goal

pub loop-p-init : goal.loop-p-init
loop-p-init c = record {
  within = c.next_member-p.ensures.high;
  member = c.next_member-p.ensures.member;
  made = up_first c.args.mask c.args.fired (by_processor c.args.up.now) c.args.processors c.next_member-p.result c.next_member-p.ensures;
}

pub loop-p-preserved : goal.loop-p-preserved
loop-p-preserved c = record {
  within = c.next_member-p-in-loop-p.ensures.high;
  member = c.next_member-p-in-loop-p.ensures.member;
  made = c.greater_of_both-greatest.ensures ∙ up_next c.args.mask c.args.fired (by_processor c.args.up.now) c.args.processors c.loop-p.p c.next_member-p-in-loop-p.result c.loop-p.greatest c.next_member-p-in-loop-p.ensures (c.loop-p.invariant.member c.loop-p-test.true) c.loop-p.invariant.made;
}
