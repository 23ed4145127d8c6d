-- What is to be scheduled: processors, and tuples with their times and producers.
use Rattle.std.specs.Prelude.{◌≡◌, ℕ, zero, suc, ◌+◌, ◌<◌, ◌≤◌, ◌⊎◌, max, List, [], map, fold, filter, sum, length, nat_eq, slice_index}
use Rattle.std.specs.Prelude.{slice_index_or, Contains}
use Rattle.std.specs.List.{range_with_len, list_any}
use Rattle.bm_base.specs.declared.limits.TheConstants.{MOST_TICKS}
use Rattle.bm_base.specs.Machine.{Machine}
use Rattle.bm_base.specs.Spec.{time_of}
use Rattle.tuple_ir.specs.declared.tuple.Tuple.{Tuple}
use Rattle.tuple_ir.specs.Kinds.{class_of}
use Rattle.dependence.specs.Producers.{producers_of}

-- how many processors, and by the tuples' numbers their times in ticks and their producers
pub record Job : Type 0 where
  pub processors : ℕ
  pub times : List ℕ
  pub producers : List (List ℕ)

-- the job of a block on a machine; all times are greatest times
abbrev pub job_of : Machine → List Tuple → Job
job_of machine ts = record {
  processors = machine.processors;
  times = map (λ t. (time_of machine (class_of t)).most) ts;
  producers = producers_of ts;
}

-- how many tuples, a tuple's time, and its producers
abbrev pub tuples : Job → ℕ
tuples job = length job.times

abbrev pub time : Job → ℕ → ℕ
time job t = slice_index job.times t

abbrev pub producers : Job → ℕ → List ℕ
producers job t = slice_index_or job.producers t []

-- each time is a tick or more, producers are earlier tuples, and there is a processor
pub record IsJob (job : Job) : Type 0 where
  pub some : 1 ≤ job.processors
  pub times : (t : ℕ) → t < tuples job → 1 ≤ time job t
  pub earlier : (t a : ℕ) → t < tuples job → Contains (producers job t) a → a < t

-- all are times of a machine: a tick at least and 1000 at most
abbrev pub AreTimes : List ℕ → Type 0
AreTimes times = (t : ℕ) → t < length times → (1 ≤ slice_index times t) × (slice_index times t ≤ MOST_TICKS)

-- the tuples that have tuple a as a producer
abbrev pub consumers : Job → ℕ → List ℕ
consumers job a = filter (λ b. list_any (nat_eq a) (producers job b)) (range_with_len 0 (tuples job))

-- the greatest number of a list, 0 where it is empty
abbrev pub greatest : List ℕ → ℕ
greatest xs = fold max 0 xs

-- the greatest sum of times along at most k tuples from t on, each a consumer of the one before
abbrev pub height_within : Job → ℕ → ℕ → ℕ
height_within job zero t = 0
height_within job (suc k) t = time job t + greatest (map (height_within job k) (consumers job t))

-- a tuple's height: its time and the greatest height of its consumers; no chain is longer than all tuples
abbrev pub height : Job → ℕ → ℕ
height job t = height_within job (tuples job) t

-- the sum of the times, and the greatest height
abbrev pub work : Job → ℕ
work job = sum job.times

abbrev pub longest : Job → ℕ
longest job = greatest (map (height job) (range_with_len 0 (tuples job)))

-- tuple t is taken before tuple u: it is higher, or as high with the lower number
abbrev pub ComesBefore : Job → ℕ → ℕ → Type 0
ComesBefore job t u = (height job u < height job t) ⊎ ((height job u ≡ height job t) × (t < u))
