-- The operands of a block's tuples.
use Rattle.std.specs.Prelude.{◌≡◌, ℕ, ◌<◌, ◌≤◌, true, List, length, Some, slice_get}
use Rattle.bm_base.specs.declared.limits.TheConstants.{MOST_TUPLES}
use Rattle.tuple_ir.specs.declared.tuple.Tuple.{Tuple}
use Rattle.tuple_ir.specs.Conflict.{uses}

-- at most 128 tuples, and each operand is the cell of an earlier one
pub record HasEarlyOperands (ts : List Tuple) : Type 0 where
  pub few : length ts ≤ MOST_TUPLES
  pub early : (i c : ℕ) (t : Tuple) → slice_get ts i ≡ Some t → uses t c ≡ true → c < i
