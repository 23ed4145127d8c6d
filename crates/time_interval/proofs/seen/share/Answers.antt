use Rattle.std.proofs.Common.{◌≡◌, ap, sym, arith, ◌∙◌, ◌&&◌, nat_lt, if◌then◌else◌}
use Rattle.bm_base.specs.Mask.{has_bit}
use Rattle.time_interval.specs.Sets.{set_at}
use Rattle.time_interval.proofs.MemberFacts.{put_first, put_next, put_last}
use Rattle.time_interval.proofs.SetFacts.{put_at}
use Rattle.time_interval.proofs.seen.share.Goals as goal

pub loop-p-init : goal.loop-p-init
loop-p-init c = record {
  within = c.next_member-p.ensures.high;
  member = c.next_member-p.ensures.member;
  made = λ q. ap (λ b. if b then c.args.set else set_at c.args.sets.now q) (sym (put_first c.args.mask c.args.processors c.next_member-p.result q c.next_member-p.ensures));
}

pub loop-p-preserved : goal.loop-p-preserved
loop-p-preserved c = record {
  within = c.next_member-p-in-loop-p.ensures.high;
  member = c.next_member-p-in-loop-p.ensures.member;
  made = λ q. put_next c.args.mask c.args.processors c.loop-p.p c.next_member-p-in-loop-p.result q c.args.set (set_at c.args.sets.now q) (set_at c.loop-p.sets q) _ c.next_member-p-in-loop-p.ensures (c.loop-p.invariant.member c.loop-p-test.true) (c.loop-p.invariant.made q) (put_at c.loop-p.sets c.loop-p.p q c.args.set (omega arith));
}

pub returns : goal.returns
returns c = λ q.
    let e : c.loop-p.p ≡ c.args.processors = omega arith in
    c.loop-p.invariant.made q ∙ ap (λ n. if nat_lt q n && has_bit c.args.mask q then c.args.set else set_at c.args.sets.now q) e ∙ ap (λ b. if b then c.args.set else set_at c.args.sets.now q) (put_last c.args.mask c.args.processors q c.requires.members)
