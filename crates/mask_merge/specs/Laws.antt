-- What follows of reduced lines.
use Rattle.std.specs.Prelude.{◌≡◌, ℕ, suc, ◌<◌, List, [], ◌∷◌, length, Contains}
use Rattle.line_model.specs.declared.line.Item.{Item}
use Rattle.line_model.specs.declared.line.StreamItem.{StreamItem}
use Rattle.line_model.specs.declared.line.StreamItem.TheVariants.{Do, Wait}
use Rattle.line_model.specs.Streams.{stream, masks}
use Rattle.time_interval.specs.declared.edit.Edit.{Edit}
use Rattle.time_interval.specs.Bounds.{Pace}
use Rattle.time_interval.specs.Edits.{edited}
use Rattle.time_interval.specs.Lines.{IsLine, tuples}
use Rattle.time_interval.specs.Ordered.{AllOrdered}
use Rattle.mask_merge.specs.Reduced.{IsTurn, IsIrreducible, IsReduced}

-- turns lead to one line
abbrev pub TheReducedLineIsOne : Type 0
TheReducedLineIsOne =
    (pace : Pace) (producers : List (List ℕ)) (line result other : List Item)
    → IsReduced pace producers line result → IsReduced pace producers line other → result ≡ other

-- .. and there is one, where bounds can be made of the line and each tuple that has a row of producers stands in it
abbrev pub EachLineHasAReducedLine : Type 0
EachLineHasAReducedLine =
    (pace : Pace) (producers : List (List ℕ)) (line : List Item) (count : ℕ)
    → IsLine count pace.processors line → ((i : ℕ) → i < length producers → Contains (tuples line) i)
    → (result : List Item) × IsReduced pace producers line result

abbrev pub ReducedLinesAreIrreducible : Type 0
ReducedLinesAreIrreducible =
    (pace : Pace) (producers : List (List ℕ)) (line result : List Item)
    → IsReduced pace producers line result → IsIrreducible pace producers result

-- conflicting pairs stay ordered
abbrev pub ReductionKeepsOrder : Type 0
ReductionKeepsOrder =
    (pace : Pace) (producers : List (List ℕ)) (line result : List Item)
    → AllOrdered pace producers line → IsReduced pace producers line result → AllOrdered pace producers result

abbrev pub EachTurnLeavesOneBarFewer : Type 0
EachTurnLeavesOneBarFewer =
    (pace : Pace) (producers : List (List ℕ)) (line : List Item) (edit : Edit)
    → IsTurn pace producers line edit → suc (length (masks (edited edit line))) ≡ length (masks line)

-- the tuples of a stream in order
abbrev pub works : List StreamItem → List ℕ
works [] = []
works (Do t ∷ items) = t ∷ works items
works (Wait ∷ items) = works items

-- each processor keeps its tuples in order, and so does the line
pub record KeepsTuples (line result : List Item) : Type 0 where
  pub whole : tuples result ≡ tuples line
  pub streams : (p : ℕ) → works (stream p result) ≡ works (stream p line)

abbrev pub ReductionKeepsTuples : Type 0
ReductionKeepsTuples =
    (pace : Pace) (producers : List (List ℕ)) (line result : List Item)
    → IsReduced pace producers line result → KeepsTuples line result

-- bounds can be made of the result where they can be made of the line
abbrev pub ReductionKeepsLines : Type 0
ReductionKeepsLines =
    (pace : Pace) (producers : List (List ℕ)) (line result : List Item) (count processors : ℕ)
    → IsLine count processors line → IsReduced pace producers line result → IsLine count processors result
