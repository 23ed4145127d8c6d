use Rattle.time_interval.proofs.SetFacts.{union_first, union_next}
use Rattle.time_interval.proofs.seen.union_of.Goals as goal

pub loop-p-init : goal.loop-p-init
loop-p-init c = record {
  within = c.next_member-p.ensures.high;
  member = c.next_member-p.ensures.member;
  made = union_first c.args.mask c.args.sets.now c.args.processors c.next_member-p.result c.next_member-p.ensures;
}

pub loop-p-preserved : goal.loop-p-preserved
loop-p-preserved c = record {
  within = c.next_member-p-in-loop-p.ensures.high;
  member = c.next_member-p-in-loop-p.ensures.member;
  made = union_next c.args.mask c.args.sets.now c.args.processors c.loop-p.p c.next_member-p-in-loop-p.result c.loop-p.union c.next_member-p-in-loop-p.ensures (c.loop-p.invariant.member c.loop-p-test.true) c.loop-p.invariant.made;
}
