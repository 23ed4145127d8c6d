-- Of private functions: the places of an edit, and the line that a change is done in.
use Rattle.std.specs.Prelude.{◌≡◌, ℕ, zero, suc, ◌-◌, List, [], ◌∷◌, length}
use Rattle.line_model.specs.declared.line.Item.{Item}
use Rattle.line_model.specs.declared.line.Item.TheVariants.{Run, Bar}
use Rattle.time_interval.specs.declared.edit.Edit.{Edit}
use Rattle.time_interval.specs.declared.edit.Edit.TheVariants.{Remove, Merge}
use Rattle.time_interval.specs.Lines.{Timed}

-- the first Bar that is edited
abbrev pub bar_of : Edit → ℕ
bar_of (Remove j) = j
bar_of (Merge j) = j

-- the place of Bar j among the items
abbrev pub place_of_bar : ℕ → List Item → ℕ
place_of_bar j [] = 0
place_of_bar j (Run q t ∷ items) = suc (place_of_bar j items)
place_of_bar zero (Bar m ∷ items) = 0
place_of_bar (suc j) (Bar m ∷ items) = suc (place_of_bar j items)

-- the items without the one at a place
abbrev pub without_place : ℕ → List Item → List Item
without_place k [] = []
without_place zero (x ∷ items) = items
without_place (suc k) (x ∷ items) = x ∷ without_place k items

-- the second line is as long as the first with an edit done to it, and takes the same
pub record IsSpare (settled edited : Timed) : Type 0 where
  pub shorter : length edited.line ≡ length settled.line - 1
  pub pace : edited.pace ≡ settled.pace
