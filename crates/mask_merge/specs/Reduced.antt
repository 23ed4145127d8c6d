-- The reduced line.
use Rattle.std.specs.Prelude.{ℕ, ◌<◌, List}
use Rattle.line_model.specs.declared.line.Item.{Item}
use Rattle.time_interval.specs.declared.edit.Edit.{Edit}
use Rattle.time_interval.specs.declared.edit.Edit.TheVariants.{Remove, Merge}
use Rattle.time_interval.specs.Bounds.{Pace}
use Rattle.time_interval.specs.Edits.{edited, IsEdit}
use Rattle.time_interval.specs.Ordered.{AllOrdered}

-- the edit is one of the line's, and each conflicting pair is ordered in the result
abbrev pub IsAdmissible : Pace → List (List ℕ) → List Item → Edit → Type 0
IsAdmissible pace producers line edit = IsEdit line edit × AllOrdered pace producers (edited edit line)

-- no edit of a kind, at whatever place of the queue, is admissible
abbrev pub NoneAdmissible : Pace → List (List ℕ) → List Item → (ℕ → Edit) → Type 0
NoneAdmissible pace producers line kind = (k : ℕ) → ¬ IsAdmissible pace producers line (kind k)

-- the first admissible edit of a kind, in queue order
pub record IsFirst (pace : Pace) (producers : List (List ℕ)) (line : List Item) (kind : ℕ → Edit) (j : ℕ) : Type 0 where
  pub admissible : IsAdmissible pace producers line (kind j)
  pub earlier : (k : ℕ) → k < j → ¬ IsAdmissible pace producers line (kind k)

-- the edit of one turn: the first admissible removal, or if there is none the first admissible merge
pub data IsTurn (pace : Pace) (producers : List (List ℕ)) (line : List Item) : Edit → Type 0 where
  removal : (j : ℕ) → IsFirst pace producers line Remove j → IsTurn pace producers line (Remove j)
  merge : (j : ℕ) → NoneAdmissible pace producers line Remove → IsFirst pace producers line Merge j → IsTurn pace producers line (Merge j)

-- no edit is admissible
abbrev pub IsIrreducible : Pace → List (List ℕ) → List Item → Type 0
IsIrreducible pace producers line = (edit : Edit) → ¬ IsAdmissible pace producers line edit

-- turns lead from the line to the result, and none is left
pub data IsReduced (pace : Pace) (producers : List (List ℕ)) : List Item → List Item → Type 0 where
  done : {line : List Item} → IsIrreducible pace producers line → IsReduced pace producers line line
  turn :
      {line result : List Item} (edit : Edit)
      → IsTurn pace producers line edit → IsReduced pace producers (edited edit line) result → IsReduced pace producers line result
