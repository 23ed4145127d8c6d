use Rattle.std.proofs.Common.{◌≡◌, ℕ, ◌-◌, ◌<◌, ◌≤◌, true}
use Rattle.bm_base.specs.Mask.{has_bit}
use Rattle.time_interval.specs.Seen.{seen_of_members}
use Rattle.time_interval.specs.Sets.{seen_by}
use Rattle.time_interval.proofs.seen.union_of.Given as goal

abbrev pub invariant-loop-p : goal.invariant-loop-p
invariant-loop-p l = record {
  within : l.p ≤ l.processors;
  member : l.p < l.processors → has_bit l.mask l.p ≡ true;
  made : (g : ℕ) → has_bit l.union g ≡ seen_of_members l.p l.mask (seen_by l.sets) g;
}

abbrev pub decreases-loop-p : goal.decreases-loop-p
decreases-loop-p l = l.processors - l.p
