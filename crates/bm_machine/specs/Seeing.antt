-- Private to the engine: who waits and who can start a tuple, and what stays of the unit that is told.
use Rattle.std.specs.Prelude.{◌≡◌, ℕ, Bool, List}
use Rattle.bm_base.specs.Mask.{has_bit}
use Rattle.unit_law.specs.State.{Code, State, waits}
use Rattle.unit_law.specs.Units.{Choice}
use Rattle.bm_machine.specs.Shown.{starts_next}

-- the unit was told of those that wait, and `able` has those that can start a tuple
pub record Sees (code : Code) (s : State) (waiting told able : ℕ) : Type 0 where
  pub told_is : waiting ≡ told
  pub told_has : (p : ℕ) → has_bit told p ≡ waits code s p
  pub able_has : (p : ℕ) → has_bit able p ≡ starts_next code s p

-- a unit that differs at most in who waits
pub record UnitStays {U : Type 0} (queue : U → List ℕ) (has_fired : U → List Bool) (room : U → ℕ) (chosen : U → Choice)
    (before now : U) : Type 0 where
  pub masks : queue now ≡ queue before
  pub fired : has_fired now ≡ has_fired before
  pub capacity : room now ≡ room before
  pub choice : chosen now ≡ chosen before
