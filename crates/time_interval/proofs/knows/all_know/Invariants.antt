use Rattle.std.proofs.Common.{◌≡◌, ℕ, ◌-◌, ◌<◌, ◌≤◌, true}
use Rattle.bm_base.specs.Mask.{has_bit}
use Rattle.time_interval.specs.Knows.{all_know}
use Rattle.time_interval.specs.Sets.{seen_by}
use Rattle.time_interval.proofs.knows.all_know.Given as goal

abbrev pub invariant-loop-p : goal.invariant-loop-p
invariant-loop-p l = record {
  within : l.p ≤ l.processors;
  member : l.p < l.processors → has_bit l.mask l.p ≡ true;
  made : (r : ℕ) → has_bit l.all r ≡ all_know l.p l.mask (has_bit l.fn.fired) (seen_by l.ups) r;
}

abbrev pub decreases-loop-p : goal.decreases-loop-p
decreases-loop-p l = l.processors - l.p
