-- Of private functions: since which Bars the greatest tick of a processor is known, one item after the other.
use Rattle.std.specs.Prelude.{ℕ, zero, suc, Bool, false, ◌&&◌, ◌||◌, nat_eq, List, [], ◌∷◌, if◌then◌else◌}
use Rattle.bm_base.specs.Mask.{has_bit}
use Rattle.line_model.specs.declared.line.Item.{Item}
use Rattle.line_model.specs.declared.line.Item.TheVariants.{Run, Bar}

-- how many Bars have been passed; since which of them the last firing is known, and of each processor the greatest tick
pub record Knows : Type 0 where
  pub bars : ℕ
  pub fired : ℕ → Bool
  pub up : ℕ → ℕ → Bool

-- all members below n know, and the last firing is known
abbrev pub all_know : ℕ → ℕ → (ℕ → Bool) → (ℕ → ℕ → Bool) → ℕ → Bool
all_know zero mask fired up r = fired r
all_know (suc p) mask fired up r = if has_bit mask p then all_know p mask fired up r && up p r else all_know p mask fired up r

abbrev pub past_bar_knows : ℕ → ℕ → Knows → Knows
past_bar_knows n mask k = record {
  bars = suc k.bars;
  fired = λ r. nat_eq r k.bars || all_know n mask k.fired k.up r;
  up = λ p r. if has_bit mask p then nat_eq r k.bars || all_know n mask k.fired k.up r else k.up p r;
}

abbrev pub knows_along : ℕ → Knows → List Item → Knows
knows_along n k [] = k
knows_along n k (Run q t ∷ items) = knows_along n k items
knows_along n k (Bar mask ∷ items) = knows_along n (past_bar_knows n mask k) items

abbrev pub knows_nothing : Knows
knows_nothing = record { bars = 0; fired = λ r. false; up = λ p r. false }
