use Rattle.std.proofs.Common.{◌≡◌, ◌-◌, ◌<◌, ◌≤◌, true}
use Rattle.bm_base.specs.Mask.{has_bit}
use Rattle.time_interval.specs.Bounds.{fire_up}
use Rattle.time_interval.specs.Steps.{by_processor}
use Rattle.time_interval.proofs.walk.fire_up.Given as goal

abbrev pub invariant-loop-p : goal.invariant-loop-p
invariant-loop-p l = record {
  within : l.p ≤ l.processors;
  member : l.p < l.processors → has_bit l.mask l.p ≡ true;
  made : l.greatest ≡ fire_up l.p l.mask l.fn.fired (by_processor l.up);
}

abbrev pub decreases-loop-p : goal.decreases-loop-p
decreases-loop-p l = l.processors - l.p
