use Rattle.std.proofs.Common.{◌≡◌, ℕ, nat_eq, take, []}
use Rattle.std.specs.List.{list_any}
use Rattle.bm_base.specs.Mask.{has_bit}
use Rattle.time_interval.specs.Ordered.{AreBehind}
use Rattle.time_interval.specs.Lines.{tuples}
use Rattle.time_interval.proofs.rows.in_order.Given as goal

abbrev pub invariant-loop-item : goal.invariant-loop-item
invariant-loop-item l = record {
  behind : AreBehind l.deps.producers [] (tuples (take l.item-index l.items));
  known : (g : ℕ) → has_bit l.passed g ≡ list_any (nat_eq g) (tuples (take l.item-index l.items));
}
