-- Of private functions: what would be ordered before a tuple that ran next.
use Rattle.std.specs.Prelude.{◌≡◌, ℕ, ◌≤◌, List, Some}
use Rattle.line_model.specs.declared.line.Item.{Item}
use Rattle.time_interval.specs.declared.reference.Reference.{Reference}
use Rattle.time_interval.specs.declared.reference.Point.TheVariants.{FinishOf}
use Rattle.time_interval.specs.Bounds.{Pace, known, up_of}
use Rattle.time_interval.specs.Ordered.{IsReference}

-- since the reference, g has finished when processor p can start its next tuple
pub record IsInTimeNext (pace : Pace) (line : List Item) (g p : ℕ) (r : Reference) : Type 0 where
  pub latest : ℕ
  pub earliest : ℕ
  pub finish : up_of pace line r (FinishOf g) ≡ Some latest
  pub start : (known pace r line).lo p ≡ Some earliest
  pub order : latest ≤ earliest

abbrev pub IsSomeInTimeNext : Pace → List Item → ℕ → ℕ → Type 0
IsSomeInTimeNext pace line g p = (r : Reference) × IsReference line r × IsInTimeNext pace line g p r
