-- Of private functions: what of a line's front is ordered before the next item of a processor, by processor or by barrier.
use Rattle.std.specs.Prelude.{◌≡◌, ℕ, zero, suc, Bool, false, ◌&&◌, ◌||◌, nat_eq, List, [], ◌∷◌, ◌++◌, length, if◌then◌else◌, ◌<◌, ◌⊎◌}
use Rattle.bm_base.specs.Mask.{has_bit}
use Rattle.line_model.specs.declared.line.Item.{Item}
use Rattle.line_model.specs.declared.line.Item.TheVariants.{Run, Bar}
use Rattle.line_model.specs.Streams.{stream, before}
use Rattle.line_model.specs.Order.{StandsAt, HasMember, Chain}

-- tuple g stands in front, on processor p
abbrev pub StandsOn : List Item → ℕ → ℕ → Type 0
StandsOn front p g = (k : ℕ) × StandsAt front g p k

-- a chain of Bars leads from behind g to a Bar of p
pub record IsChained (front : List Item) (p g : ℕ) : Type 0 where
  pub q : ℕ
  pub k : ℕ
  pub a : ℕ
  pub b : ℕ
  pub stands : StandsAt front g q k
  pub first : HasMember front a q
  pub behind : k < before q a front
  pub chain : Chain front a b
  pub last : HasMember front b p

abbrev pub IsSeen : List Item → ℕ → ℕ → Type 0
IsSeen front p g = StandsOn front p g ⊎ IsChained front p g

-- tuple i stands behind the front, on processor p, and nowhere else
pub record StandsBehind (line front : List Item) (p i : ℕ) : Type 0 where
  pub back : List Item
  pub split : line ≡ front ++ Run p i ∷ back
  pub once : (q k : ℕ) → StandsAt line i q k → (q ≡ p) × (k ≡ length (stream p front))

-- the same by recursion along the items: of processor p and tuple g
abbrev pub seen_of_members : ℕ → ℕ → (ℕ → ℕ → Bool) → ℕ → Bool
seen_of_members zero mask seen g = false
seen_of_members (suc p) mask seen g = seen_of_members p mask seen g || (has_bit mask p && seen p g)

abbrev pub past_run_seen : ℕ → ℕ → (ℕ → ℕ → Bool) → ℕ → ℕ → Bool
past_run_seen q t seen p g = if nat_eq q p then nat_eq g t || seen p g else seen p g

abbrev pub past_bar_seen : ℕ → ℕ → (ℕ → ℕ → Bool) → ℕ → ℕ → Bool
past_bar_seen processors mask seen p g = if has_bit mask p then seen_of_members processors mask seen g else seen p g

abbrev pub seen_along : ℕ → (ℕ → ℕ → Bool) → List Item → ℕ → ℕ → Bool
seen_along processors seen [] = seen
seen_along processors seen (Run q t ∷ items) = seen_along processors (past_run_seen q t seen) items
seen_along processors seen (Bar mask ∷ items) = seen_along processors (past_bar_seen processors mask seen) items

-- a Run of the tuple on the processor is one of the items
abbrev pub stands_on : List Item → ℕ → ℕ → Bool
stands_on [] p t = false
stands_on (Run q u ∷ items) p t = (nat_eq q p && nat_eq u t) || stands_on items p t
stands_on (Bar mask ∷ items) p t = stands_on items p t
