use Rattle.std.proofs.Common.{ℕ, ◌<◌, slice_index_or, [], Contains, get_or}
use Rattle.time_interval.specs.Ordered.{IsOrdered}
use Rattle.mask_merge.proofs.turns.all_ordered.Given as goal

abbrev pub invariant-loop-i : goal.invariant-loop-i
invariant-loop-i l = (i g : ℕ) → i < l.i → Contains (slice_index_or l.deps.producers i []) g → IsOrdered l.bounds.pace l.bounds.line g i

abbrev pub invariant-loop-g : goal.invariant-loop-g
invariant-loop-g l = (k d : ℕ) → k < l.g-index → IsOrdered l.bounds.pace l.bounds.line (get_or l.g-items k d) l.i
