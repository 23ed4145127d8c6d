-- What callers see of a dynamic unit, and the counts of its masks.
use Rattle.std.specs.Prelude.{ℕ, zero, suc, ◌+◌, Bool, false, not, ◌&&◌, nat_eq, List, length, map, get_or, Option, Some, None}
use Rattle.std.specs.Prelude.{if◌then◌else◌}
use Rattle.std.specs.List.{range_with_len}
use Rattle.bm_base.specs.declared.limits.TheConstants.{MOST_PROCESSORS}
use Rattle.bm_base.specs.Mask.{has_bit}
use Rattle.unit_law.specs.Units.{first_from}

-- how many masks there is room for, the masks of the block in queue order, which of them have fired, and the mask of the processors
-- that wait
pub record Table : Type 0 where
  pub room : ℕ
  pub masks : List ℕ
  pub fired : List Bool
  pub waiting : ℕ

-- processor p is a member of mask j, and mask j has not fired
abbrev pub awaits : List ℕ → List Bool → ℕ → ℕ → Bool
awaits masks fired p j = not (get_or fired j false) && has_bit (get_or masks j 0) p

-- the first unfired mask of processor p
abbrev pub first_unfired : List ℕ → List Bool → ℕ → Option ℕ
first_unfired masks fired p = first_from (awaits masks fired p) 0 (length masks)

-- the number that there is is j
abbrev pub is_at : ℕ → Option ℕ → Bool
is_at j None = false
is_at j (Some i) = nat_eq i j

-- how many numbers below n pass a test
unfoldable pub how_many : (ℕ → Bool) → ℕ → ℕ
how_many f zero = 0
how_many f (suc n) = (if f n then 1 else 0) + how_many f n

-- the count of mask j: of the 128 processors, how many wait and have it as their first unfired mask
abbrev pub count : List ℕ → List Bool → ℕ → ℕ → ℕ
count masks fired waiting j = how_many (λ p. has_bit waiting p && is_at j (first_unfired masks fired p)) MOST_PROCESSORS

-- the counts of the masks, in queue order
abbrev pub counts : Table → List ℕ
counts u = map (count u.masks u.fired u.waiting) (range_with_len 0 (length u.masks))
