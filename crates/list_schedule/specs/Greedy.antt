-- The greedy schedule: a test of a finished schedule.
use Rattle.std.specs.Prelude.{◌≡◌, ℕ, ◌+◌, ◌<◌, ◌≤◌, ◌⊎◌, List, map, count_by, length, nat_eq, slice_index, Contains}
use Rattle.std.specs.List.{range_with_len}
use Rattle.list_schedule.specs.Job.{Job, tuples, time, producers, greatest, ComesBefore}

-- when each tuple starts, in ticks from 0, and on which processor it runs
pub record Plan : Type 0 where
  pub starts : List ℕ
  pub places : List ℕ

abbrev pub start : Plan → ℕ → ℕ
start plan t = slice_index plan.starts t

abbrev pub place : Plan → ℕ → ℕ
place plan t = slice_index plan.places t

-- the tick at which a tuple has finished, and the last of these
abbrev pub finish : Job → Plan → ℕ → ℕ
finish job plan t = start plan t + time job t

abbrev pub makespan : Job → Plan → ℕ
makespan job plan = greatest (map (finish job plan) (range_with_len 0 (tuples job)))

-- the tuple runs at tick s
pub record Runs (job : Job) (plan : Plan) (t s : ℕ) : Type 0 where
  pub is_tuple : t < tuples job
  pub from : start plan t ≤ s
  pub until : s < finish job plan t

-- each producer of t has finished by tick s
abbrev pub IsReady : Job → Plan → ℕ → ℕ → Type 0
IsReady job plan t s = (a : ℕ) → Contains (producers job t) a → finish job plan a ≤ s

-- at t's start processor p has no running tuple that started earlier or is taken before t
abbrev pub IsFree : Job → Plan → ℕ → ℕ → Type 0
IsFree job plan t p = (u : ℕ) → Runs job plan u (start plan t) → place plan u ≡ p → (start plan u < start plan t) ⊎ ComesBefore job u t → ⊥

-- how many producers of t processor p has
abbrev pub holds : Job → Plan → ℕ → ℕ → ℕ
holds job plan t p = count_by (λ a. nat_eq (place plan a) p) (producers job t)

-- the schedule is greedy
pub record IsGreedy (job : Job) (plan : Plan) : Type 0 where
  -- each tuple has a start and a processor of the machine
  pub starts : length plan.starts ≡ tuples job
  pub places : length plan.places ≡ tuples job
  pub machine : (t : ℕ) → t < tuples job → place plan t < job.processors
  -- two tuples of one processor never run at one tick
  pub alone : (t u s : ℕ) → Runs job plan t s → Runs job plan u s → place plan t ≡ place plan u → t ≡ u
  -- each tuple is ready at its start
  pub ready : (t : ℕ) → t < tuples job → IsReady job plan t (start plan t)
  -- where a tuple is ready and has not started, each processor has a tuple that runs, ..
  pub busy : (t s : ℕ) → t < tuples job → s < start plan t → IsReady job plan t s → (p : ℕ) → p < job.processors → (u : ℕ)
      × Runs job plan u s × (place plan u ≡ p)
  -- .. and each tuple that starts at that tick is taken before it
  pub taken : (t s : ℕ) → t < tuples job → s < start plan t → IsReady job plan t s → (u : ℕ) → u < tuples job → start plan u ≡ s
      → ComesBefore job u t
  -- a tuple's processor is free for it, and of the free ones it has the most producers, the lowest on a tie
  pub free : (t : ℕ) → t < tuples job → IsFree job plan t (place plan t)
  pub best : (t p : ℕ) → t < tuples job → p < job.processors → IsFree job plan t p
      → (holds job plan t p < holds job plan t (place plan t))
      ⊎ ((holds job plan t p ≡ holds job plan t (place plan t)) × (place plan t ≤ p))
