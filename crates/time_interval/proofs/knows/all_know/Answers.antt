use Rattle.time_interval.proofs.KnownSets.{all_first, all_next}
use Rattle.time_interval.proofs.knows.all_know.Goals as goal

pub loop-p-init : goal.loop-p-init
loop-p-init c = record {
  within = c.next_member-p.ensures.high;
  member = c.next_member-p.ensures.member;
  made = all_first c.args.mask c.args.fired c.args.ups.now c.args.processors c.next_member-p.result c.next_member-p.ensures;
}

pub loop-p-preserved : goal.loop-p-preserved
loop-p-preserved c = record {
  within = c.next_member-p-in-loop-p.ensures.high;
  member = c.next_member-p-in-loop-p.ensures.member;
  made = all_next c.args.mask c.args.fired c.args.ups.now c.args.processors c.loop-p.p c.next_member-p-in-loop-p.result c.loop-p.all c.next_member-p-in-loop-p.ensures (c.loop-p.invariant.member c.loop-p-test.true) c.loop-p.invariant.made;
}
