-- Private: a schedule in the making, where a tuple that has no place yet starts at `never`. No public clause speaks of it.
use Rattle.std.specs.Prelude.{◌≡◌, Bool, true, false, ℕ, ◌+◌, ◌*◌, ◌<◌, ◌≤◌, ◌⊎◌, ◌&&◌, List, [], map, length, nat_eq, nat_lt, slice_get}
use Rattle.std.specs.Prelude.{slice_index, slice_index_or, cond, Option, Some, None}
use Rattle.std.specs.List.{range_with_len}
use Rattle.bm_base.specs.declared.limits.TheConstants.{MOST_TUPLES, MOST_TICKS}
use Rattle.list_schedule.specs.Job.{Job, greatest}
use Rattle.list_schedule.specs.Greedy.{Plan}
use Rattle.list_schedule.specs.declared.job.Draft.{Draft}
use Rattle.list_schedule.specs.declared.steps.Best.{Best}
use Rattle.list_schedule.specs.declared.steps.Best.TheVariants.{Nothing, At}

-- greater than any tick of a schedule
abbrev pub never : ℕ
never = 4294967295

-- the tick of a start, `never` where there is none
abbrev pub tick_of : Option ℕ → ℕ
tick_of (Some s) = s
tick_of None = never

-- the tick that is told is this one; where none is, it is `never`
abbrev pub Tells : Option ℕ → ℕ → Type 0
Tells (Some s) n = (s ≡ n) × (n < never)
Tells None n = n ≡ never

-- when the tuples of a draft start
abbrev pub starts_of : Draft → List ℕ
starts_of draft = map tick_of draft.starts.items

-- each start is a tick
abbrev pub AreTicks : List (Option ℕ) → Type 0
AreTicks starts = (u s : ℕ) → slice_get starts u ≡ Some (Some s) → s < never

-- a tuple's finish, `never` where it has no place
abbrev pub finish_of : List ℕ → List ℕ → ℕ → ℕ
finish_of times starts u = cond (nat_lt (slice_index starts u) never) (slice_index starts u + slice_index times u) never

-- a tuple's finish if it has a place on processor p, else 0
abbrev pub finish_on : List ℕ → List ℕ → List ℕ → ℕ → ℕ → ℕ
finish_on times starts places p u = cond (nat_lt (slice_index starts u) never
    && nat_eq (slice_index places u) p) (slice_index starts u + slice_index times u) 0

-- the tick from which on processor p is idle
abbrev pub last_finish : List ℕ → List ℕ → List ℕ → ℕ → ℕ
last_finish times starts places p = greatest (map (finish_on times starts places p) (range_with_len 0 (length times)))

-- the tick from which on a tuple with these producers is ready, `never` where one of them has no place
abbrev pub ready_from : List ℕ → List ℕ → List ℕ → ℕ
ready_from times starts producers = greatest (map (finish_of times starts) producers)

-- the starts are those of a schedule in the making
pub record AreStarts (times starts : List ℕ) : Type 0 where
  pub many : length starts ≡ length times
  pub few : length times ≤ MOST_TUPLES
  pub short : (u : ℕ) → slice_index times u ≤ MOST_TICKS
  pub early : (u : ℕ) → slice_index starts u < never → slice_index starts u ≤ MOST_TUPLES * MOST_TICKS

-- the tick from which on tuple t may be placed, `never` where it has a place already
abbrev pub open_from : List ℕ → List (List ℕ) → List ℕ → ℕ → ℕ
open_from times deps starts t = cond (nat_lt (slice_index starts t) never) never (ready_from times starts (slice_index_or deps t []))

-- the tables of a draft: from which tick on each tuple may be placed, and from which on each processor is idle
pub record AreTables (processors : ℕ) (times : List ℕ) (deps : List (List ℕ)) (draft : Draft) : Type 0 where
  pub many : length draft.opens.items ≡ length times
  pub opens : (t : ℕ) → t < length times → slice_index draft.opens.items t ≡ open_from times deps (starts_of draft) t
  pub as_many : length draft.idles.items ≡ processors
  pub idles : (p : ℕ) → p < processors → slice_index draft.idles.items p ≡ last_finish times (starts_of draft) draft.places.items p

-- least is the least of `never` and the values of f below n
pub record IsLeast (f : ℕ → ℕ) (n least : ℕ) : Type 0 where
  pub some : (least ≡ never) ⊎ ((k : ℕ) × (k < n) × (f k ≡ least))
  pub all : (k : ℕ) → k < n → least ≤ f k
  pub most : least ≤ never

-- of the numbers k below n with late k up to tick the first with the greatest score
abbrev pub IsBest : (ℕ → ℕ) → (ℕ → ℕ) → ℕ → ℕ → Best → Type 0
IsBest late score tick n Nothing = (k : ℕ) → k < n → tick < late k
IsBest late score tick n (At b s) = (b < n) × (late b ≤ tick) × (score b ≡ s)
    × ((k : ℕ) → k < n → late k ≤ tick → (score k < s) ⊎ ((score k ≡ s) × (b ≤ k)))

-- there is a best one, and which it is
abbrev pub is_found : Best → Bool
is_found Nothing = false
is_found (At b s) = true

abbrev pub index_of : Best → ℕ
index_of Nothing = 0
index_of (At b s) = b

abbrev pub job_with : ℕ → List ℕ → List (List ℕ) → Job
job_with processors times deps = record { processors = processors; times = times; producers = deps }

abbrev pub plan_with : List ℕ → List ℕ → Plan
plan_with starts places = record { starts = starts; places = places }
