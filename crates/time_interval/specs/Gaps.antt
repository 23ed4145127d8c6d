-- Of private functions: where the Bars of a line stand, and a line that lacks one item of another.
use Rattle.std.specs.Prelude.{◌≡◌, ℕ, ◌<◌, List, length, slice_index}
use Rattle.line_model.specs.declared.line.Item.{Item}
use Rattle.line_model.specs.Streams.{masks}
use Rattle.time_interval.specs.declared.places.Places.{Places}
use Rattle.time_interval.specs.Places.{place_of_bar, without_place}

-- these are how many Bars the line has, and their places
pub record AreFirstPlaces (line : List Item) (bars : ℕ) (places : List ℕ) : Type 0 where
  pub bars_are : bars ≡ length (masks line)
  pub at : (j : ℕ) → j < length (masks line) → slice_index places j ≡ place_of_bar j line

abbrev pub ArePlaces : List Item → Places → Type 0
ArePlaces line p = AreFirstPlaces line p.bars p.places

-- the second line lacks the item of the first at the gap, where there is one
abbrev pub IsGapped : ℕ → List Item → List Item → Type 0
IsGapped gap line shorter = gap < length line → shorter ≡ without_place gap line
