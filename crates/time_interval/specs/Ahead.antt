-- Of private functions: what a front tells of the items in front of a place, and what is ordered there.
use Rattle.std.specs.Prelude.{◌≡◌, ℕ, ◌+◌, ◌*◌, ◌<◌, ◌≤◌, ◌⊎◌, ◌||◌, Bool, true, false, nat_eq, List, [], All, Option, Some, is_some}
use Rattle.std.specs.Prelude.{length, take, get_or, slice_index_or}
use Rattle.std.specs.List.{list_any}
use Rattle.bm_base.specs.declared.limits.TheConstants.{MOST_TICKS, MOST_DELAY}
use Rattle.bm_base.specs.Mask.{has_bit}
use Rattle.line_model.specs.declared.line.Item.{Item}
use Rattle.line_model.specs.declared.line.Item.TheVariants.{Run, Bar}
use Rattle.time_interval.specs.declared.reference.Reference.TheVariants as since
use Rattle.time_interval.specs.declared.reference.Point.TheVariants.{FinishOf, FireOf}
use Rattle.time_interval.specs.declared.front.Front.{Front}
use Rattle.time_interval.specs.Bounds.{Pace, along, at_start, lo_of, up_of}
use Rattle.line_model.specs.Streams.{masks}
use Rattle.time_interval.specs.Knows.{knows_along, knows_nothing}
use Rattle.time_interval.specs.Lines.{Timed, tuples}
use Rattle.time_interval.specs.Places.{IsSpare}
use Rattle.time_interval.specs.Gaps.{ArePlaces, IsGapped}
use Rattle.time_interval.specs.declared.places.Places.{Places}
use Rattle.time_interval.specs.Next.{IsInTimeNext, IsSomeInTimeNext}
use Rattle.time_interval.specs.Seen.{IsSeen, seen_along}
use Rattle.time_interval.specs.Sets.{seen_of, knows_of, set_at}
use Rattle.time_interval.specs.Steps.{by_processor, IsUpTo}
use Rattle.time_interval.specs.Walks.{known_of}

-- the front is the one behind the items: its sets, what is known since the start, and what is known of the finish of each
-- tuple and of the firing of each Bar
pub record IsAhead (pace : Pace) (items : List Item) (front : Front) : Type 0 where
  pub seen : seen_of front.seen ≡ seen_along pace.processors (λ p g. false) items
  pub knows : knows_of front.knows ≡ knows_along pace.processors knows_nothing items
  pub walk : known_of front.walk ≡ along pace (at_start pace) items
  pub finish : (g : ℕ) → list_any (nat_eq g) (tuples items) ≡ true → by_processor front.finish g ≡ up_of pace items since.Start (FinishOf g)
  pub fires : (j : ℕ) → j < length (masks items) → by_processor front.fires j ≡ up_of pace items since.Start (FireOf j)
  pub lows : (j : ℕ) → j < length (masks items) → by_processor front.lows j ≡ lo_of pace items since.Start (FireOf j)
  pub since : (g r : ℕ) → list_any (nat_eq g) (tuples items) ≡ true →
      has_bit (set_at front.since g) r ≡ is_some (up_of pace items (since.Bar r) (FinishOf g))
  pub small : IsUpTo (MOST_TICKS + (MOST_TICKS + MOST_DELAY) * length items) (known_of front.walk)

-- the item is none of the tuples
abbrev pub IsNew : List Item → Item → Type 0
IsNew items (Run q t) = list_any (nat_eq t) (tuples items) ≡ false
IsNew items (Bar mask) = Unit {0}

-- the one is known to be no more than the other
pub record IsAtMost (a b : Option ℕ) : Type 0 where
  pub latest : ℕ
  pub earliest : ℕ
  pub a_is : a ≡ Some latest
  pub b_is : b ≡ Some earliest
  pub order : latest ≤ earliest

-- g is ordered before what processor p runs next behind the items
abbrev pub IsBefore : Pace → List Item → ℕ → ℕ → Type 0
IsBefore pace items g p = IsSeen items p g ⊎ IsSomeInTimeNext pace items g p

-- .. in time, since one of the first Bars
abbrev pub IsInTimeSince : ℕ → Pace → List Item → ℕ → ℕ → Type 0
IsInTimeSince bars pace items g p = (r : ℕ) × (r < bars) × IsInTimeNext pace items g p (since.Bar r)

-- the producers of a tuple behind the items are ordered before it
abbrev pub StandsOrdered : Pace → List (List ℕ) → List Item → Item → Type 0
StandsOrdered pace producers items (Run p t) = All (λ g. IsBefore pace items g p) (slice_index_or producers t [])
StandsOrdered pace producers items (Bar mask) = Unit {0}

-- from a place on, the producers of each tuple are ordered before it
abbrev pub RestOrdered : Pace → List (List ℕ) → ℕ → List Item → Type 0
RestOrdered pace producers from items =
    (k : ℕ) (x : Item) → from ≤ k → k < length items → get_or items k x ≡ x → StandsOrdered pace producers (take k items) x

-- a tuple has a row of producers, which are all among those in front
abbrev pub ProducersStand : List (List ℕ) → List ℕ → Item → Type 0
ProducersStand producers passed (Run p t) =
    (t < length producers) × All (λ g. list_any (nat_eq g) passed ≡ true) (slice_index_or producers t [])
ProducersStand producers passed (Bar mask) = Unit {0}

-- the same of a set of tuples, and the set with one more
abbrev pub MayStand : List (List ℕ) → ℕ → Item → Type 0
MayStand producers passed (Run p t) = (t < length producers) × All (λ g. has_bit passed g ≡ true) (slice_index_or producers t [])
MayStand producers passed (Bar mask) = Unit {0}

abbrev pub has_passed : Item → (ℕ → Bool) → ℕ → Bool
has_passed (Run p t) passed g = passed g || nat_eq g t
has_passed (Bar mask) passed g = passed g

-- the front of a line that changes stands at a place of the settled line, whose Bars stand at the places; where a change
-- stands both lines share their first items, and where none does the second lacks the item at the gap
pub record IsWalked (settled edited : Timed) (stands : Bool) (front : Front) (place shared gap : ℕ) (places : Places) : Type 0 where
  pub spare : IsSpare settled edited
  pub ahead : IsAhead settled.pace (take place settled.line) front
  pub within : place ≤ length settled.line
  pub same : stands ≡ true → take shared edited.line ≡ take shared settled.line
  pub inside : stands ≡ true → shared ≤ length edited.line
  pub stand_at : ArePlaces settled.line places
  pub gapped : stands ≡ false → IsGapped gap settled.line edited.line
