-- The bounds of a line: ticks since a reference, known or unknown, by recursion along the line.
use Rattle.std.specs.Prelude.{ℕ, zero, suc, ◌+◌, max, nat_eq, nat_lt, Bool, false, List, [], ◌∷◌, map, Option, Some, None}
use Rattle.std.specs.Prelude.{slice_index_or, if◌then◌else◌}
use Rattle.bm_base.specs.Mask.{has_bit}
use Rattle.bm_base.specs.Machine.{Machine}
use Rattle.bm_base.specs.Spec.{time_of, interval}
use Rattle.bm_base.specs.declared.spec.Interval.{Interval}
use Rattle.tuple_ir.specs.declared.tuple.Tuple.{Tuple}
use Rattle.tuple_ir.specs.Kinds.{class_of}
use Rattle.line_model.specs.declared.line.Item.{Item}
use Rattle.line_model.specs.declared.line.Item.TheVariants.{Run, Bar}
use Rattle.line_model.specs.Reductions.{mask_at}
use Rattle.time_interval.specs.declared.reference.Reference.{Reference}
use Rattle.time_interval.specs.declared.reference.Reference.TheVariants as since
use Rattle.time_interval.specs.declared.reference.Point.{Point}
use Rattle.time_interval.specs.declared.reference.Point.TheVariants.{StartOf, FinishOf, FireOf}

-- how many processors, the delay between the firing of a mask and the resuming of its members, and the
-- least and the greatest time of each tuple
pub record Pace : Type 0 where
  pub processors : ℕ
  pub delay : ℕ
  pub times : List Interval

-- the times of a block's tuples on a machine
abbrev pub times_of : Machine → List Tuple → List Interval
times_of machine tuples = map (λ t. time_of machine (class_of t)) tuples

-- the pace of a block on a machine
abbrev pub pace_on : Machine → List Tuple → Pace
pace_on machine tuples = record { processors = machine.processors; delay = machine.delay; times = times_of machine tuples }

-- the time of tuple t
abbrev pub time : Pace → ℕ → Interval
time pace t = slice_index_or pace.times t (interval 1 1)

-- what is known at a place of a line: the bounds of each processor, and the greatest of the last firing
pub record Known : Type 0 where
  pub lo : ℕ → Option ℕ
  pub up : ℕ → Option ℕ
  pub fired : Option ℕ

-- so many ticks later, where it is known
abbrev pub later : Option ℕ → ℕ → Option ℕ
later None n = None
later (Some x) n = Some (x + n)

-- the greater of what is known of the two
abbrev pub greater_known : Option ℕ → Option ℕ → Option ℕ
greater_known None y = y
greater_known (Some x) None = Some x
greater_known (Some x) (Some y) = Some (max x y)

-- the greater of the two, unknown where one is unknown
abbrev pub greater_of_both : Option ℕ → Option ℕ → Option ℕ
greater_of_both None y = None
greater_of_both (Some x) None = None
greater_of_both (Some x) (Some y) = Some (max x y)

-- of the members below n: the greatest known bound, and the greatest of their bounds and of `fired`
abbrev pub fire_lo : ℕ → ℕ → (ℕ → Option ℕ) → Option ℕ
fire_lo zero mask lo = None
fire_lo (suc p) mask lo = if has_bit mask p then greater_known (fire_lo p mask lo) (lo p) else fire_lo p mask lo

abbrev pub fire_up : ℕ → ℕ → Option ℕ → (ℕ → Option ℕ) → Option ℕ
fire_up zero mask fired up = fired
fire_up (suc p) mask fired up = if has_bit mask p then greater_of_both (fire_up p mask fired up) (up p) else fire_up p mask fired up

-- a tuple: its finish adds the least time to `lo` and the greatest to `up`
abbrev pub past_run : Pace → ℕ → ℕ → Known → Known
past_run pace q t k = record {
  lo = λ p. if nat_eq q p then later (k.lo p) (time pace t).least else k.lo p;
  up = λ p. if nat_eq q p then later (k.up p) (time pace t).most else k.up p;
  fired = k.fired;
}

-- a Bar: `lo` of its firing is the greatest known one of its members, `up` the greatest of its members and of the
-- firing before it, and each member resumes a delay later
abbrev pub past_bar : Pace → ℕ → Known → Known
past_bar pace mask k = record {
  lo = λ p. if has_bit mask p then later (fire_lo pace.processors mask k.lo) pace.delay else k.lo p;
  up = λ p. if has_bit mask p then later (fire_up pace.processors mask k.fired k.up) pace.delay else k.up p;
  fired = fire_up pace.processors mask k.fired k.up;
}

-- along items, from what is known in front of them
abbrev pub along : Pace → Known → List Item → Known
along pace k [] = k
along pace k (Run q t ∷ items) = along pace (past_run pace q t k) items
along pace k (Bar mask ∷ items) = along pace (past_bar pace mask k) items

-- since the block's start all processors are at 0; since a Bar its members are a delay past its firing, which is at 0
abbrev pub at_start : Pace → Known
at_start pace = record {
  lo = λ p. if nat_lt p pace.processors then Some 0 else None;
  up = λ p. if nat_lt p pace.processors then Some 0 else None;
  fired = Some 0;
}

abbrev pub at_bar : Pace → ℕ → Known
at_bar pace mask = record {
  lo = λ p. if has_bit mask p then Some pace.delay else None;
  up = λ p. if has_bit mask p then Some pace.delay else None;
  fired = Some 0;
}

abbrev pub nothing : Known
nothing = record { lo = λ p. None; up = λ p. None; fired = None }

-- what is known behind items since Bar j: nothing where it is none of them
abbrev pub since_bar : Pace → ℕ → List Item → Known
since_bar pace j [] = nothing
since_bar pace j (Run q t ∷ items) = since_bar pace j items
since_bar pace zero (Bar mask ∷ items) = along pace (at_bar pace mask) items
since_bar pace (suc j) (Bar mask ∷ items) = since_bar pace j items

-- what is known behind items since a reference
abbrev pub known : Pace → Reference → List Item → Known
known pace since.Start items = along pace (at_start pace) items
known pace (since.Bar j) items = since_bar pace j items

-- the items in front of tuple t, and its processor
abbrev pub front_of_run : ℕ → List Item → List Item
front_of_run t [] = []
front_of_run t (Run q u ∷ items) = if nat_eq u t then [] else Run q u ∷ front_of_run t items
front_of_run t (Bar mask ∷ items) = Bar mask ∷ front_of_run t items

abbrev pub processor_of : ℕ → List Item → ℕ
processor_of t [] = 0
processor_of t (Run q u ∷ items) = if nat_eq u t then q else processor_of t items
processor_of t (Bar mask ∷ items) = processor_of t items

-- the items in front of Bar j
abbrev pub front_of_bar : ℕ → List Item → List Item
front_of_bar j [] = []
front_of_bar j (Run q t ∷ items) = Run q t ∷ front_of_bar j items
front_of_bar zero (Bar mask ∷ items) = []
front_of_bar (suc j) (Bar mask ∷ items) = Bar mask ∷ front_of_bar j items

-- a tuple starts at its processor's bounds, and finishes its time later
abbrev pub lo_start : Pace → List Item → Reference → ℕ → Option ℕ
lo_start pace line r t = (known pace r (front_of_run t line)).lo (processor_of t line)

abbrev pub up_start : Pace → List Item → Reference → ℕ → Option ℕ
up_start pace line r t = (known pace r (front_of_run t line)).up (processor_of t line)

-- a Bar is the reference
abbrev pub is_bar : Reference → ℕ → Bool
is_bar since.Start j = false
is_bar (since.Bar i) j = nat_eq i j

-- the bounds of a point since a reference
abbrev pub lo_of : Pace → List Item → Reference → Point → Option ℕ
lo_of pace line r (StartOf t) = lo_start pace line r t
lo_of pace line r (FinishOf t) = later (lo_start pace line r t) (time pace t).least
lo_of pace line r (FireOf j) =
    if is_bar r j then Some 0 else fire_lo pace.processors (mask_at line j) (known pace r (front_of_bar j line)).lo

abbrev pub up_of : Pace → List Item → Reference → Point → Option ℕ
up_of pace line r (StartOf t) = up_start pace line r t
up_of pace line r (FinishOf t) = later (up_start pace line r t) (time pace t).most
up_of pace line r (FireOf j) =
    if is_bar r j then Some 0
    else fire_up pace.processors (mask_at line j) (known pace r (front_of_bar j line)).fired (known pace r (front_of_bar j line)).up
