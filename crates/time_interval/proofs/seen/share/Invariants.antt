use Rattle.std.proofs.Common.{◌≡◌, ℕ, ◌-◌, ◌<◌, ◌≤◌, ◌&&◌, true, nat_lt, if◌then◌else◌}
use Rattle.bm_base.specs.Mask.{has_bit}
use Rattle.time_interval.specs.Sets.{set_at}
use Rattle.time_interval.proofs.seen.share.Given as goal

abbrev pub invariant-loop-p : goal.invariant-loop-p
invariant-loop-p l = record {
  within : l.p ≤ l.processors;
  member : l.p < l.processors → has_bit l.mask l.p ≡ true;
  made : (q : ℕ) → set_at l.sets q ≡ (if nat_lt q l.p && has_bit l.mask q then l.set else set_at l.initial.sets q);
}

abbrev pub decreases-loop-p : goal.decreases-loop-p
decreases-loop-p l = l.processors - l.p
