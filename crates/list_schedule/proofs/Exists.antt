-- A job of at most 128 tuples that take at most 1000 ticks each has a greedy schedule.
use Rattle.std.proofs.Common.{◌≡◌, ℕ, zero, suc, ◌+◌, ◌<◌, ◌≤◌, ◌⊎◌, min, max, List, [], length, map, replicate, set, slice_index, slice_index_or, get_or, count_by, nat_eq, refl, ap, subst, ◌∙◌, le_refl, inl, inr, arith}
use Rattle.std.specs.List.{range_with_len}
use Rattle.std.proofs.lemmas.Bool.{cases_lt}
use Rattle.std.proofs.lemmas.List.{length-replicate, get_or_past}
use Rattle.list_schedule.specs.Job.{Job, IsJob, tuples, time, height}
use Rattle.list_schedule.specs.Greedy.{Plan, IsGreedy}
use Rattle.list_schedule.specs.Steps.{never, last_finish, open_from, IsLeast, IsBest, index_of, job_with, plan_with}
use Rattle.list_schedule.specs.declared.steps.Best.{Best}
use Rattle.list_schedule.specs.declared.steps.Best.TheVariants.{Nothing, At}
use Rattle.list_schedule.proofs.StepFacts.{least_none, least_more}
use Rattle.list_schedule.proofs.Whole.{height_at}
use Rattle.list_schedule.proofs.Turn.{Making, made_first, unplaced, greedy, turned}

-- ---- the least and the best
least_of : (ℕ → ℕ) → ℕ → ℕ
least_of f zero = never
least_of f (suc n) = min (least_of f n) (f n)

least_is : (f : ℕ → ℕ) (n : ℕ) → IsLeast f n (least_of f n)
unfolding least_of
least_is f zero = least_none f
least_is f (suc n) =
    let on : n + 1 ≡ suc n = omega arith in
    subst (λ k. IsLeast f k (min (least_of f n) (f n))) on (least_more f n (least_of f n) (f n) (min (least_of f n) (f n)) (least_is f n) refl refl)

last_or : (k n : ℕ) → k < suc n → (k < n) ⊎ (k ≡ n)
last_or k n h = grind arith

less_or_same : (a b : ℕ) → a ≤ b → (a < b) ⊎ (a ≡ b)
less_or_same a b h = grind arith

module _ (late score : ℕ → ℕ) (tick : ℕ) where
  -- number n comes too late
  pass_by : (n : ℕ) (b : Best) → tick < late n → IsBest late score tick n b → IsBest late score tick (suc n) b
  pass_by n Nothing more h = λ k lt. elim (last_or k n lt) [ inl l ↦ h k l | inr e ↦ omega (arith, ap late e) ]
  pass_by n (At b s) more h = (let x = h.0 in omega arith, h.1, h.2, λ k lt le. elim (last_or k n lt) [ inl l ↦ h.3 k l le | inr e ↦ absurd (omega (arith, ap late e)) ])

  -- number n is better than all before it
  take_it : (n : ℕ) → late n ≤ tick → ((k : ℕ) → k < n → late k ≤ tick → score k < score n) → IsBest late score tick (suc n) (At n (score n))
  take_it n le less = (omega arith, le, refl, λ k lt lek. elim (last_or k n lt) [ inl l ↦ inl (less k l lek) | inr e ↦ inr (ap score e, omega arith) ])

  -- number n is no better than the best
  leave_it : (n b s : ℕ) → score n ≤ s → IsBest late score tick n (At b s) → IsBest late score tick (suc n) (At b s)
  leave_it n b s le h =
      let below = h.0 in
      (omega arith, h.1, h.2, λ k lt lek. elim (last_or k n lt) [ inl l ↦ h.3 k l lek | inr e ↦ (elim (less_or_same (score n) s le) [ inl less ↦ inl (omega (arith, ap score e)) | inr same ↦ inr (ap score e ∙ same, omega arith) ]) ])

  best_more : (n : ℕ) (b : Best) → late n ≤ tick → IsBest late score tick n b → (c : Best) × IsBest late score tick (suc n) c
  best_more n Nothing le h = (At n (score n), take_it n le (λ k lt lek. absurd (omega (arith, h k lt))))
  best_more n (At b s) le h = elim (cases_lt s (score n)) [ inl more ↦ (At n (score n), take_it n le (λ k lt lek. elim (h.3 k lt lek) [ inl less ↦ omega arith | inr same ↦ (let x = same.0 in omega arith) ])) | inr less ↦ (At b s, leave_it n b s less h) ]

  best_of : (n : ℕ) → (b : Best) × IsBest late score tick n b
  best_of zero = (Nothing, λ k lt. absurd (omega arith))
  best_of (suc n) = let b = best_of n in elim (cases_lt tick (late n)) [ inl more ↦ (b.0, pass_by n b.0 more b.1) | inr le ↦ best_more n b.0 le b.1 ]

-- ---- turn by turn
module _ (processors : ℕ) (times : List ℕ) (deps : List (List ℕ)) where
  abbrev job : Job
  job = job_with processors times deps

  heights : List ℕ
  heights = map (height job) (range_with_len 0 (length times))

  tall : (u : ℕ) → u < length times → slice_index heights u ≡ height job u
  unfolding heights
  tall = height_at job heights refl

  Next : List ℕ → Type 0
  Next starts = (new places : List ℕ) × (tick : ℕ) × Making processors times deps new places tick × (unplaced new (length times) < unplaced starts (length times))

  one_turn : (starts places : List ℕ) (tick : ℕ) (g : Making processors times deps starts places tick) → least_of (open_from times deps starts) (length times) < never → Next starts
  unfolding Next
  one_turn starts places tick g some =
      let o = least_of (open_from times deps starts) (length times) in
      let d = least_of (last_finish times starts places) processors in
      let z = max tick (max o d) in
      let opens = least_is (open_from times deps starts) (length times) in
      let idles = least_is (last_finish times starts places) processors in
      let first = best_of (open_from times deps starts) (slice_index heights) z (length times) in
      let t = index_of first.0 in
      let row = slice_index_or deps t [] in
      let best = best_of (last_finish times starts places) (λ q. count_by (λ a. nat_eq (slice_index places a) q) row) z processors in
      let p = index_of best.0 in
      let there = turned processors times deps starts places tick g o d z opens some idles refl heights tall first.0 best.0 row t p first.1 refl refl best.1 refl in
      (set starts t z, set places t p, z, there.goes_on, there.fewer_open)

  at_end : (starts places : List ℕ) (tick : ℕ) → Making processors times deps starts places tick → never ≤ least_of (open_from times deps starts) (length times) → (plan : Plan) × IsGreedy job plan
  at_end starts places tick g top = (plan_with starts places, greedy processors times deps starts places tick g (least_of (open_from times deps starts) (length times)) (least_is (open_from times deps starts) (length times)) top)

  run : (k : ℕ) (starts places : List ℕ) (tick : ℕ) → Making processors times deps starts places tick → unplaced starts (length times) ≤ k → (plan : Plan) × IsGreedy job plan
  unfolding Next
  run zero starts places tick g few =
      elim (cases_lt (least_of (open_from times deps starts) (length times)) never) [ inl some ↦ (let n = one_turn starts places tick g some in let lt : unplaced n.0 (length times) < unplaced starts (length times) = n.4 in absurd (omega arith)) | inr top ↦ at_end starts places tick g top ]
  run (suc k) starts places tick g few =
      elim (cases_lt (least_of (open_from times deps starts) (length times)) never) [ inl some ↦ (let n = one_turn starts places tick g some in let lt : unplaced n.0 (length times) < unplaced starts (length times) = n.4 in run k n.0 n.1 n.2 n.3 (omega arith)) | inr top ↦ at_end starts places tick g top ]

get_replicate : (n u v d : ℕ) → u < n → get_or (replicate n v) u d ≡ v
get_replicate zero u v d lt = absurd (omega arith)
get_replicate (suc n) zero v d lt = refl
get_replicate (suc n) (suc u) v d lt = get_replicate n u v d (omega arith)

pub greedy_exists : (job : Job) → IsJob job → tuples job ≤ 128 → ((u : ℕ) → time job u ≤ 1000) → (plan : Plan) × IsGreedy job plan
greedy_exists job sound few short =
    let n = tuples job in
    let starts : List ℕ = replicate n never in
    let places : List ℕ = replicate n 0 in
    let first = made_first job.processors job.times job.producers starts places sound (length-replicate n 0) (length-replicate n never) few short (λ u lt. get_replicate n u never 0 lt) (λ u le. get_or_past starts u 0 (omega (arith, length-replicate n never))) in
    run job.processors job.times job.producers (unplaced starts n) starts places 0 first (le_refl (unplaced starts n))
