use Rattle.std.proofs.Common.{◌≡◌, ◌-◌, ◌<◌, ◌≤◌, true}
use Rattle.bm_base.specs.Mask.{has_bit}
use Rattle.time_interval.specs.Bounds.{fire_lo}
use Rattle.time_interval.specs.Steps.{by_processor}
use Rattle.time_interval.proofs.walk.fire_lo.Given as goal

abbrev pub invariant-loop-p : goal.invariant-loop-p
invariant-loop-p l = record {
  within : l.p ≤ l.processors;
  member : l.p < l.processors → has_bit l.mask l.p ≡ true;
  made : l.greatest ≡ fire_lo l.p l.mask (by_processor l.lo);
}

abbrev pub decreases-loop-p : goal.decreases-loop-p
decreases-loop-p l = l.processors - l.p
