-- The inserted line.
use Rattle.std.specs.Prelude.{◌≡◌, ℕ, true, ◌⊎◌, List, [], ◌∷◌, ◌++◌, slice_index_or, Contains, length}
use Rattle.bm_base.specs.Mask.{has_bit}
use Rattle.bm_base.specs.Machine.{Machine}
use Rattle.tuple_ir.specs.declared.tuple.Tuple.{Tuple}
use Rattle.line_model.specs.declared.line.Item.{Item}
use Rattle.line_model.specs.declared.line.Item.TheVariants.{Run, Bar}
use Rattle.dependence.specs.Producers.{producers_of}
use Rattle.list_schedule.specs.Greedy.{Plan, start, place}
use Rattle.time_interval.specs.Ordered.{IsOrdered}
use Rattle.time_interval.specs.Bounds.{Pace, pace_on}
use Rattle.barrier_insert.specs.Order.{in_order}

-- what insertion goes by: the pace, and of each tuple the producers and the processor
pub record Assignment : Type 0 where
  pub pace : Pace
  pub producers : List (List ℕ)
  pub place : ℕ → ℕ

abbrev pub assignment : Pace → List (List ℕ) → Plan → Assignment
assignment pace producers plan = record { pace = pace; producers = producers; place = place plan }

abbrev pub producers_for : Assignment → ℕ → List ℕ
producers_for a i = slice_index_or a.producers i []

-- the part of a line with i run next
abbrev pub then_run : Assignment → List Item → ℕ → List Item
then_run a part i = part ++ Run (a.place i) i ∷ []

-- g would be ordered before i if i ran next
abbrev pub IsOrderedNext : Assignment → List Item → ℕ → ℕ → Type 0
IsOrderedNext a part g i = IsOrdered a.pace (then_run a part i) g i

-- .. and each producer would be
abbrev pub AllOrderedNext : Assignment → List Item → ℕ → Type 0
AllOrderedNext a part i = (g : ℕ) → Contains (producers_for a i) g → IsOrderedNext a part g i

-- a producer of i that would not be ordered before it
pub record IsMissing (a : Assignment) (part : List Item) (g i : ℕ) : Type 0 where
  pub producer : Contains (producers_for a i) g
  pub unordered : ¬ IsOrderedNext a part g i

-- some producer of i is missing, and the mask has the processors of i and of its missing producers, and no other
pub record IsBarFor (a : Assignment) (part : List Item) (i mask : ℕ) : Type 0 where
  pub some : (g : ℕ) × IsMissing a part g i
  pub own : has_bit mask (a.place i) ≡ true
  pub theirs : (g : ℕ) → IsMissing a part g i → has_bit mask (a.place g) ≡ true
  pub no_other : (p : ℕ) → has_bit mask p ≡ true → (p ≡ a.place i) ⊎ ((g : ℕ) × IsMissing a part g i × (a.place g ≡ p))

-- i is put behind the part, directly behind a Bar exactly where a producer is missing
pub data IsPut (a : Assignment) (part : List Item) (i : ℕ) : List Item → Type 0 where
  free : AllOrderedNext a part i → IsPut a part i (then_run a part i)
  barred : (mask : ℕ) → IsBarFor a part i mask → IsPut a part i (then_run a (part ++ Bar mask ∷ []) i)

-- the tuples are put one after the other
pub data IsMade (a : Assignment) : List ℕ → List Item → Type 0 where
  nothing : IsMade a [] []
  next : {order : List ℕ} {part line : List Item} (i : ℕ) → IsMade a order part → IsPut a part i line → IsMade a (order ++ i ∷ []) line

-- the inserted line of a block that a plan schedules on a machine
abbrev pub IsInserted : Machine → List Tuple → Plan → List Item → Type 0
IsInserted machine ts plan line = IsMade (assignment (pace_on machine ts) (producers_of ts) plan) (in_order (start plan) (length ts)) line
