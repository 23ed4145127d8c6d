-- What lines with the same streams and the same queue share.
use Rattle.std.specs.Prelude.{◌≡◌, ℕ, List}
use Rattle.line_model.specs.declared.line.Item.{Item}
use Rattle.line_model.specs.Streams.{stream, masks}
use Rattle.line_model.specs.Order.{StandsAt}
use Rattle.time_interval.specs.declared.reference.Reference.{Reference}
use Rattle.time_interval.specs.declared.reference.Reason.{Reason}
use Rattle.time_interval.specs.declared.reference.Point.{Point}
use Rattle.time_interval.specs.Bounds.{Pace, lo_of, up_of}
use Rattle.time_interval.specs.Lines.{HasPoint}
use Rattle.time_interval.specs.Ordered.{IsReason, IsOrdered}

-- no tuple stands twice
abbrev pub StandOnce : List Item → Type 0
StandOnce line = (t p k q l : ℕ) → StandsAt line t p k → StandsAt line t q l → (p ≡ q) × (k ≡ l)

-- the same streams and the same queue of masks
pub record AreAlike (line other : List Item) : Type 0 where
  pub streams : (p : ℕ) → stream p line ≡ stream p other
  pub masks : masks line ≡ masks other

-- two lines have the same bounds of a point
abbrev pub AreBoundedAlike : Pace → List Item → List Item → Reference → Point → Type 0
AreBoundedAlike pace line other r x = (lo_of pace line r x ≡ lo_of pace other r x) × (up_of pace line r x ≡ up_of pace other r x)

-- lines alike have the same bounds
abbrev pub AlikeLinesHaveTheSameBounds : Type 0
AlikeLinesHaveTheSameBounds =
    (pace : Pace) (line other : List Item) → StandOnce line → AreAlike line other → (r : Reference) (x : Point) → HasPoint line x →
    AreBoundedAlike pace line other r x

-- what is ordered in the one line is so in the other, for the same reason
abbrev pub KeepsOrder : Pace → List Item → List Item → ℕ → ℕ → Type 0
KeepsOrder pace line other g i =
    (IsOrdered pace line g i → IsOrdered pace other g i) ×
    ((reason : Reason) → IsReason pace line g i reason → IsReason pace other g i reason)

-- .. and the same order, for the same reasons
abbrev pub AlikeLinesHaveTheSameOrder : Type 0
AlikeLinesHaveTheSameOrder =
    (pace : Pace) (line other : List Item) → StandOnce line → AreAlike line other → (g i : ℕ) → KeepsOrder pace line other g i

-- there is one reason at most
abbrev pub OrderHasOneReason : Type 0
OrderHasOneReason =
    (pace : Pace) (line : List Item) (g i : ℕ) (one other : Reason) →
    IsReason pace line g i one → IsReason pace line g i other → one ≡ other
