-- Of private functions: bounds in lists by processors, and how large they become.
use Rattle.std.specs.Prelude.{ℕ, ◌≤◌, List, Option, Some, None, slice_index_or}
use Rattle.bm_base.specs.declared.limits.TheConstants.{MOST_PROCESSORS, MOST_TICKS, MOST_DELAY}
use Rattle.time_interval.specs.Bounds.{Pace, Known, time}

abbrev pub by_processor : List (Option ℕ) → ℕ → Option ℕ
by_processor xs p = slice_index_or xs p None

abbrev pub known_by : List (Option ℕ) → List (Option ℕ) → Option ℕ → Known
known_by lo up fired = record { lo = by_processor lo; up = by_processor up; fired = fired }

-- the numbers of a machine
pub record IsPace (pace : Pace) : Type 0 where
  pub few : pace.processors ≤ MOST_PROCESSORS
  pub short : pace.delay ≤ MOST_DELAY
  pub least : (t : ℕ) → (time pace t).least ≤ MOST_TICKS
  pub most : (t : ℕ) → (time pace t).most ≤ MOST_TICKS
  pub some : (t : ℕ) → 1 ≤ (time pace t).most

-- what is known is no more than so many ticks
abbrev pub is_up_to : ℕ → Option ℕ → Type 0
is_up_to n None = Unit {0}
is_up_to n (Some x) = x ≤ n

pub record IsUpTo (n : ℕ) (k : Known) : Type 0 where
  pub lo : (p : ℕ) → is_up_to n (k.lo p)
  pub up : (p : ℕ) → is_up_to n (k.up p)
  pub fired : is_up_to n k.fired
