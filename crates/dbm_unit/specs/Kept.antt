-- What the fields of a dynamic unit stand for. Private: callers see the table alone.
use Rattle.std.specs.Prelude.{◌≡◌, ℕ, suc, ◌+◌, ◌-◌, ◌*◌, ◌<◌, ◌≤◌, Bool, true, false, not, ◌&&◌, nat_lt, nat_eq, List, length, take}
use Rattle.std.specs.Prelude.{get_or, Option, None}
use Rattle.bm_base.specs.declared.limits.TheConstants.{MOST_PROCESSORS}
use Rattle.bm_base.specs.Mask.{has_bit}
use Rattle.unit_law.specs.Units.{first_from}
use Rattle.dbm_unit.specs.Table.{first_unfired, how_many, count}

-- a list of numbers below the length of `inside`, linked by index in increasing order: of those that `inside` says are in it, `head`
-- is the least and `next` has for each the least above it
abbrev pub is_in : List Bool → ℕ → Bool
is_in inside j = get_or inside j false

abbrev pub least_in : List Bool → Option ℕ
least_in inside = first_from (is_in inside) 0 (length inside)

abbrev pub next_in : List Bool → ℕ → Option ℕ
next_in inside j = first_from (is_in inside) (suc j) (length inside - suc j)

pub record IsChain (inside : List Bool) (head : Option ℕ) (next : List (Option ℕ)) : Type 0 where
  pub room : length next ≡ length inside
  pub head_is : head ≡ least_in inside
  pub next_is : (j : ℕ) → is_in inside j ≡ true → get_or next j None ≡ next_in inside j

-- processor p is a member of mask j
abbrev pub is_member : List ℕ → ℕ → ℕ → Bool
is_member masks p j = has_bit (get_or masks j 0) p

-- the mask of processor p that follows mask j
abbrev pub mask_behind : List ℕ → ℕ → ℕ → Option ℕ
mask_behind masks p j = first_from (is_member masks p) (suc j) (length masks - suc j)

-- all members of mask j wait and have it as their first unfired mask, by its count and its size
abbrev pub is_full : List ℕ → List Bool → List ℕ → List ℕ → ℕ → Bool
is_full masks fired sizes counts j = nat_lt j (length masks)
    && (not (get_or fired j false) && nat_eq (get_or counts j 0) (get_or sizes j 0))

-- each processor's masks fire in queue order; its list holds those that have not fired, in that order; sizes, counts and the ready
-- masks are right
pub record IsKept (masks : List ℕ) (fired : List Bool) (waiting : ℕ) (first next : List (Option ℕ)) (sizes counts : List ℕ)
    (ready : List Bool) : Type 0 where
  pub members : (j p : ℕ) → is_member masks p j ≡ true → p < MOST_PROCESSORS
  pub in_order : (i j p : ℕ) → i < j → is_member masks p i ≡ true → is_member masks p j ≡ true → get_or fired j false ≡ true
      → get_or fired i false ≡ true
  pub firsts : (p : ℕ) → p < MOST_PROCESSORS → get_or first p None ≡ first_unfired masks fired p
  pub links : (j p : ℕ) → j < length masks → is_member masks p j ≡ true → get_or next (j * MOST_PROCESSORS + p) None ≡ mask_behind masks p j
  pub sized : (j : ℕ) → j < length masks → get_or sizes j 0 ≡ how_many (has_bit (get_or masks j 0)) MOST_PROCESSORS
  pub counted : (j : ℕ) → j < length masks → get_or counts j 0 ≡ count masks fired waiting j
  pub ready_are : (j : ℕ) → is_in ready j ≡ is_full masks fired sizes counts j

-- there is room for so many masks and the nodes of their members, and no more are loaded
pub record HasRoom (room loaded : ℕ) (fired : List Bool) (first next : List (Option ℕ)) (sizes counts : List ℕ)
    (ready : List Bool) : Type 0 where
  pub loads : loaded ≤ room
  pub fired_room : length fired ≡ room
  pub first_room : length first ≡ MOST_PROCESSORS
  pub next_room : length next ≡ room * MOST_PROCESSORS
  pub sizes_room : length sizes ≡ room
  pub counts_room : length counts ≡ room
  pub ready_room : length ready ≡ room

-- what the fields keep: both of these, for the masks that are loaded
pub record IsLinked (slots : List ℕ) (loaded : ℕ) (fired : List Bool) (waiting : ℕ) (first next : List (Option ℕ)) (sizes counts : List ℕ)
    (ready : List Bool) : Type 0 where
  pub room : HasRoom (length slots) loaded fired first next sizes counts ready
  pub kept : IsKept (take loaded slots) (take loaded fired) waiting first next sizes counts ready
