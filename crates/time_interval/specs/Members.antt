-- Of private functions: the members of a mask, one after the other.
use Rattle.std.specs.Prelude.{◌≡◌, ℕ, ◌<◌, ◌≤◌, true, false}
use Rattle.bm_base.specs.Mask.{has_bit}

-- the least member from a place on and below an end, which it is where there is none
pub record IsNextBelow (mask from end next : ℕ) : Type 0 where
  pub low : from ≤ next
  pub high : next ≤ end
  pub skipped : (q : ℕ) → from ≤ q → q < next → has_bit mask q ≡ false
  pub member : next < end → has_bit mask next ≡ true
