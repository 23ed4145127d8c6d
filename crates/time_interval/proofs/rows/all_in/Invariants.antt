use Rattle.std.proofs.Common.{◌≡◌, ℕ, ◌<◌, true, get_or}
use Rattle.bm_base.specs.Mask.{has_bit}
use Rattle.time_interval.proofs.rows.all_in.Given as goal

abbrev pub invariant-loop-g : goal.invariant-loop-g
invariant-loop-g l = (k d : ℕ) → k < l.g-index → has_bit l.set (get_or l.numbers k d) ≡ true
