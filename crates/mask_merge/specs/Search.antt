-- Definitions of private functions: the search for a turn.
use Rattle.std.specs.Prelude.{◌≡◌, ℕ, ◌<◌, true, List, [], length, slice_index_or, Contains, Bool}
use Rattle.line_model.specs.declared.line.Item.{Item}
use Rattle.time_interval.specs.declared.edit.Edit.{Edit}
use Rattle.time_interval.specs.declared.edit.Edit.TheVariants.{Remove, Merge}
use Rattle.time_interval.specs.Bounds.{Pace}
use Rattle.time_interval.specs.Lines.{tuples}
use Rattle.time_interval.specs.Ordered.{AllOrdered, AreBehind}
use Rattle.mask_merge.specs.declared.turns.Kind.{Kind}
use Rattle.mask_merge.specs.declared.turns.Kind.TheVariants.{Removal, Merging}
use Rattle.mask_merge.specs.Reduced.{IsFirst}

-- the edits of a kind, by their places in the queue
abbrev pub edit_of : Kind → ℕ → Edit
edit_of Removal j = Remove j
edit_of Merging j = Merge j

-- each tuple that has producers stands in the line, and so do they
pub record AllStand (producers : List (List ℕ)) (line : List Item) : Type 0 where
  pub each : (i : ℕ) → i < length producers → Contains (tuples line) i
  pub theirs : (i g : ℕ) → i < length producers → Contains (slice_index_or producers i []) g → Contains (tuples line) g

-- a line of which edits are tried: each conflicting pair is ordered; where the flag is set each tuple stands behind its producers
pub record IsOnTurn (pace : Pace) (producers : List (List ℕ)) (line : List Item) (in_order : Bool) : Type 0 where
  pub stand : AllStand producers line
  pub ordered : AllOrdered pace producers line
  pub behind : in_order ≡ true → AreBehind producers [] (tuples line)

-- the edit is the first admissible one of a kind
abbrev pub IsFirstEdit : Pace → List (List ℕ) → List Item → (ℕ → Edit) → Edit → Type 0
IsFirstEdit pace producers line kind edit = (j : ℕ) × (edit ≡ kind j) × IsFirst pace producers line kind j
