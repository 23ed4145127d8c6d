use Rattle.std.proofs.Common.{◌≡◌, ℕ, ◌-◌, ◌<◌, ◌≤◌, ◌&&◌, true, nat_lt, if◌then◌else◌}
use Rattle.bm_base.specs.Mask.{has_bit}
use Rattle.time_interval.specs.Steps.{by_processor}
use Rattle.time_interval.proofs.walk.resume.Given as goal

abbrev pub invariant-loop-p : goal.invariant-loop-p
invariant-loop-p l = record {
  within : l.p ≤ l.processors;
  member : l.p < l.processors → has_bit l.mask l.p ≡ true;
  made : (q : ℕ) → by_processor l.bounds q ≡ (if nat_lt q l.p && has_bit l.mask q then l.bound else by_processor l.initial.bounds q);
}

abbrev pub decreases-loop-p : goal.decreases-loop-p
decreases-loop-p l = l.processors - l.p
