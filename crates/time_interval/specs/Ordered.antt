-- Which of two tuples comes first, and why.
use Rattle.std.specs.Prelude.{◌≡◌, ℕ, ◌<◌, ◌≤◌, ◌⊎◌, ◌++◌, true, nat_eq, List, [], ◌∷◌, All, Contains, Some, length, slice_index_or}
use Rattle.std.specs.List.{list_any}
use Rattle.line_model.specs.declared.line.Item.{Item}
use Rattle.line_model.specs.Streams.{masks}
use Rattle.line_model.specs.Order.{IsOrderedByProcessor, IsOrderedByBarrier, IsOrderedBySync}
use Rattle.time_interval.specs.declared.reference.Reference.{Reference}
use Rattle.time_interval.specs.declared.reference.Reference.TheVariants as since
use Rattle.time_interval.specs.declared.reference.Reason.{Reason}
use Rattle.time_interval.specs.declared.reference.Reason.TheVariants.{SameProcessor, ByBarrier, ByTime}
use Rattle.time_interval.specs.declared.reference.Point.TheVariants.{StartOf, FinishOf}
use Rattle.time_interval.specs.Bounds.{Pace, lo_of, up_of}

-- since the reference, g has finished at the latest when i can start at the earliest
pub record IsInTime (pace : Pace) (line : List Item) (g i : ℕ) (r : Reference) : Type 0 where
  pub latest : ℕ
  pub earliest : ℕ
  pub finish : up_of pace line r (FinishOf g) ≡ Some latest
  pub start : lo_of pace line r (StartOf i) ≡ Some earliest
  pub order : latest ≤ earliest

-- the references of a line
abbrev pub IsReference : List Item → Reference → Type 0
IsReference line since.Start = Unit {0}
IsReference line (since.Bar j) = j < length (masks line)

-- the block's start comes before each Bar, and Bars come in queue order
abbrev pub ComesBefore : Reference → Reference → Type 0
ComesBefore q since.Start = ⊥
ComesBefore since.Start (since.Bar j) = Unit {0}
ComesBefore (since.Bar i) (since.Bar j) = i < j

-- g is ordered before i by time: since some reference of the line
abbrev pub IsOrderedByTime : Pace → List Item → ℕ → ℕ → Type 0
IsOrderedByTime pace line g i = (r : Reference) × IsReference line r × IsInTime pace line g i r

-- g is ordered before i: without regard to times, by processor or by barrier, or by time
abbrev pub IsOrdered : Pace → List Item → ℕ → ℕ → Type 0
IsOrdered pace line g i = IsOrderedBySync line g i ⊎ IsOrderedByTime pace line g i

-- the first reference of the line since which g has finished in time
pub record IsFirstInTime (pace : Pace) (line : List Item) (g i : ℕ) (r : Reference) : Type 0 where
  pub of_line : IsReference line r
  pub in_time : IsInTime pace line g i r
  pub first : (q : Reference) → ComesBefore q r → ¬ IsInTime pace line g i q

-- the reason why g is ordered before i: the first of the three that holds, for time with the first reference
pub data IsReason (pace : Pace) (line : List Item) (g i : ℕ) : Reason → Type 0 where
  processor : IsOrderedByProcessor line g i → IsReason pace line g i SameProcessor
  barrier : ¬ IsOrderedByProcessor line g i → IsOrderedByBarrier line g i → IsReason pace line g i ByBarrier
  time : {r : Reference} → ¬ IsOrderedByProcessor line g i → ¬ IsOrderedByBarrier line g i → IsFirstInTime pace line g i r →
      IsReason pace line g i (ByTime r)

-- each producer of each tuple is ordered before it, where the producers of tuple i are row i
abbrev pub AllOrdered : Pace → List (List ℕ) → List Item → Type 0
AllOrdered pace producers line = (i g : ℕ) → i < length producers → Contains (slice_index_or producers i []) g → IsOrdered pace line g i

-- behind the passed tuples come others, each with a row of producers, all of which stand in front of it
abbrev pub AreBehind : List (List ℕ) → List ℕ → List ℕ → Type 0
AreBehind producers passed [] = Unit {0}
AreBehind producers passed (t ∷ ts) =
    (t < length producers) × All (λ g. list_any (nat_eq g) passed ≡ true) (slice_index_or producers t []) ×
    AreBehind producers (passed ++ t ∷ []) ts
