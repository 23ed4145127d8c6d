-- Graham's bound.
use Rattle.std.proofs.Common.{◌≡◌, ℕ, zero, suc, ◌+◌, ◌*◌, ◌-◌, ◌<◌, ◌≤◌, min, ◌⊎◌, List, [], ◌∷◌, refl, sym, ap, inl, inr, arith, Contains, subst}
use Rattle.std.proofs.lemmas.List.Elements.{Contains-append_right, Contains-append_cases}
use Rattle.std.proofs.Math.Nat.{mul-le-mul_left}
use Rattle.list_schedule.specs.Job.{Job, IsJob, tuples, time, producers, height, longest, work}
use Rattle.list_schedule.specs.Greedy.{Plan, start, place, finish, makespan, Runs, IsReady, IsGreedy}
use Rattle.list_schedule.proofs.HeightFacts.{height_at_most, producer_height, time_height, value_at_most, value_attained}
use Rattle.list_schedule.proofs.Sums.{sum_to, sum_le, sum_add, sum_const, sum_scale, sum_swap, sum_has, inside, inside_least, sum_stays, sum_steps, sum_is}

-- 1 where t runs at tick s
abbrev pub running : Job → Plan → ℕ → ℕ → ℕ
running job plan s t = inside (start plan t) (time job t) s

-- one of the numbers below m is the place
once : (r a m : ℕ) → r ≤ 1 → sum_to (λ p. min r (inside a 1 p)) m ≤ r
once zero a m le = omega (arith, sum_le (λ p. min 0 (inside a 1 p)) (λ _. 0) m (λ p lt. omega arith), sum_const 0 m)
once (suc r) a m le = omega (arith, sum_le (λ p. min (suc r) (inside a 1 p)) (inside a 1) m (λ p lt. omega arith), inside_least a 1 m)

-- how many tuples run at tick s
pub busy : Job → Plan → ℕ → ℕ
busy job plan s = sum_to (running job plan s) (tuples job)

-- 1 where a processor is idle at tick s
pub idle : Job → Plan → ℕ → ℕ
idle job plan s = 1 - (busy job plan s + 1 - job.processors)

-- where each processor has a tuple that runs, at least as many tuples run
pub full : (job : Job) (plan : Plan) (s : ℕ) → ((p : ℕ) → p < job.processors → (u : ℕ) × Runs job plan u s × (place plan u ≡ p)) → job.processors ≤ busy job plan s
unfolding busy
full job plan s all =
    let n : ℕ = tuples job in
    let m : ℕ = job.processors in
    let both : ℕ → ℕ → ℕ = λ p t. min (running job plan s t) (inside (place plan t) 1 p) in
    let each : m * 1 ≤ sum_to (λ p. sum_to (λ t. both p t) n) m = omega (arith, sum_const 1 m, sum_le (λ _. 1) (λ p. sum_to (λ t. both p t) n) m (λ p lt. let u = all p lt in let r = u.1 in let here : 1 ≤ both p u.0 = omega (arith, r.from, r.until, u.2) in omega (arith, here, sum_has (λ t. both p t) u.0 n r.is_tuple))) in
    let swapped = sum_swap both m n in
    let few : sum_to (λ t. sum_to (λ p. both p t) m) n ≤ sum_to (running job plan s) n = sum_le (λ t. sum_to (λ p. both p t) m) (running job plan s) n (λ t lt. once (running job plan s t) (place plan t) m (omega arith)) in
    omega (arith, each, swapped, few)

-- no tuple runs longer than its time
pub all_work : (job : Job) (plan : Plan) (e : ℕ) → sum_to (busy job plan) e ≤ work job
unfolding busy
all_work job plan e =
    let swapped = sum_swap (running job plan) e (tuples job) in
    let few : sum_to (λ t. sum_to (λ s. running job plan s t) e) (tuples job) ≤ sum_to (time job) (tuples job) = sum_le (λ t. sum_to (λ s. running job plan s t) e) (time job) (tuples job) (λ t lt. omega (arith, inside_least (start plan t) (time job t) e)) in
    omega (arith, swapped, few, sum_is job.times)

-- the element of a list with the greatest value
pub record Latest (f : ℕ → ℕ) (xs : List ℕ) : Type 0 where
  pub at : ℕ
  pub has : Contains xs at
  pub most : (b : ℕ) → Contains xs b → f b ≤ f at

alone_is : (x b : ℕ) → Contains (x ∷ []) b → x ≡ b
alone_is x b (zero, lt, e) = e
alone_is x b (suc k, lt, e) = absurd (omega arith)

order : (a b : ℕ) → (a ≤ b) ⊎ (b ≤ a)
order a b = grind arith

with_head : (f : ℕ → ℕ) (x : ℕ) (xs : List ℕ) → Latest f xs → Latest f (x ∷ xs)
with_head f x xs l =
    elim (order (f x) (f l.at)) [ inl le ↦ record { at = l.at; has = Contains-append_right (x ∷ []) xs l.at l.has; most = λ b h. elim (Contains-append_cases (x ∷ []) xs b h) [ inl here ↦ omega (arith, ap f (alone_is x b here)) | inr there ↦ l.most b there ] } | inr le ↦ record { at = x; has = (zero, omega arith, refl); most = λ b h. elim (Contains-append_cases (x ∷ []) xs b h) [ inl here ↦ omega (arith, ap f (alone_is x b here)) | inr there ↦ omega (arith, l.most b there) ] } ]

latest : (f : ℕ → ℕ) (xs : List ℕ) → ((b : ℕ) → Contains xs b → ⊥) ⊎ Latest f xs
latest f [] = inl (λ b h. absurd (omega (arith, h.1)))
latest f (x ∷ xs) =
    elim (latest f xs) [ inl none ↦ inr (record { at = x; has = (zero, omega arith, refl); most = λ b h. elim (Contains-append_cases (x ∷ []) xs b h) [ inl here ↦ omega (arith, ap f (alone_is x b here)) | inr there ↦ absurd (none b there) ] }) | inr l ↦ inr (with_head f x xs l) ]

-- where t is ready and has not started, all processors run tuples
no_idle : (job : Job) (plan : Plan) (t s : ℕ) → IsGreedy job plan → t < tuples job → s < start plan t → IsReady job plan t s → job.processors ≤ busy job plan s
no_idle job plan t s g lt early ready = full job plan s (g.busy t s lt early ready)

not_idle : (job : Job) (plan : Plan) (s : ℕ) → job.processors ≤ busy job plan s → idle job plan s ≡ 0
unfolding idle
not_idle job plan s h = omega arith

idle_least : (job : Job) (plan : Plan) (s : ℕ) → idle job plan s ≤ 1
unfolding idle
idle_least job plan s = omega arith

-- the idle ticks before t's start are those of a chain that ends at t
chain : (job : Job) (plan : Plan) → IsJob job → IsGreedy job plan → (k t : ℕ) → t < tuples job → t < k → sum_to (idle job plan) (start plan t) + height job t ≤ longest job
chain job plan sound g zero t lt h = absurd (omega arith)
chain job plan sound g (suc k) t lt h =
    elim (latest (finish job plan) (producers job t)) [ inl none ↦ (let stays = sum_stays (idle job plan) 0 (start plan t) (λ s a b. not_idle job plan s (no_idle job plan t s g lt b (λ a has. absurd (none a has)))) in omega (arith, stays, height_at_most job t lt)) | inr l ↦ (let stays = sum_stays (idle job plan) (finish job plan l.at) (start plan t) (λ s a b. not_idle job plan s (no_idle job plan t s g lt b (λ p has. omega (arith, l.most p has)))) in let early : l.at < t = sound.earlier t l.at lt l.has in let before = chain job plan sound g k l.at (omega arith) (omega arith) in let steps = sum_steps (idle job plan) (start plan l.at) (time job l.at) (idle_least job plan) in omega (arith, stays, before, steps, producer_height job sound t l.at lt l.has)) ]

below_or_not : (a b : ℕ) → (a < b) ⊎ (b ≤ a)
below_or_not a b = grind arith

runs_busy : (job : Job) (plan : Plan) (t s : ℕ) → t < tuples job → start plan t ≤ s → s < finish job plan t → 1 ≤ busy job plan s
unfolding busy
runs_busy job plan t s lt from before = omega (arith, sum_has (running job plan s) t (tuples job) lt)

-- at each tick before a finish some tuple runs
somebody : (job : Job) (plan : Plan) → IsJob job → IsGreedy job plan → (k t s : ℕ) → t < tuples job → t < k → s < finish job plan t → 1 ≤ busy job plan s
somebody job plan sound g zero t s lt h before = absurd (omega arith)
somebody job plan sound g (suc k) t s lt h before =
    elim (below_or_not s (start plan t)) [ inr from ↦ runs_busy job plan t s lt from before | inl early ↦ (elim (latest (finish job plan) (producers job t)) [ inl none ↦ (let f = no_idle job plan t s g lt early (λ a has. absurd (none a has)) in omega (arith, f, sound.some)) | inr l ↦ (elim (below_or_not s (finish job plan l.at)) [ inl sooner ↦ (let less : l.at < t = sound.earlier t l.at lt l.has in somebody job plan sound g k l.at s (omega arith) (omega arith) sooner) | inr later ↦ (let f = no_idle job plan t s g lt early (λ p has. omega (arith, l.most p has)) in omega (arith, f, sound.some)) ]) ]) ]

lacks : (m b : ℕ) → 1 ≤ m → 1 ≤ b → m ≤ b + (m - 1) * (1 - (b + 1 - m))
lacks m b some one =
    elim (below_or_not b m) [ inl less ↦ (let e : 1 - (b + 1 - m) ≡ 1 = omega arith in let P : ℕ → Type 0 = λ x. m ≤ b + (m - 1) * x in subst P (sym e) (omega arith)) | inr full ↦ omega arith ]

nothing : (m x b : ℕ) → x ≡ 0 → m * x ≤ b
nothing m x b e = let P : ℕ → Type 0 = λ y. m * y ≤ b in subst P (sym e) (omega arith)

-- a tick with an idle processor lacks at most all but one
tick : (job : Job) (plan : Plan) (s : ℕ) → 1 ≤ job.processors → 1 ≤ busy job plan s → job.processors ≤ busy job plan s + (job.processors - 1) * idle job plan s
unfolding idle
tick job plan s some one = lacks job.processors (busy job plan s) some one

bound : (job : Job) (plan : Plan) (t : ℕ) → IsJob job → IsGreedy job plan → t < tuples job → ((u : ℕ) → u < tuples job → finish job plan u ≤ finish job plan t) → job.processors * finish job plan t ≤ work job + (job.processors - 1) * longest job
bound job plan t sound g lt last =
    let m : ℕ = job.processors in
    let e : ℕ = finish job plan t in
    let i : ℕ → ℕ = idle job plan in
    let ticks : sum_to (λ _. m) e ≤ sum_to (λ s. busy job plan s + (m - 1) * i s) e = sum_le (λ _. m) (λ s. busy job plan s + (m - 1) * i s) e (λ s before. tick job plan s sound.some (somebody job plan sound g (suc t) t s lt (omega arith) before)) in
    let parts = sum_add (busy job plan) (λ s. (m - 1) * i s) e in
    let scaled = sum_scale (m - 1) i e in
    let few : sum_to i e ≤ longest job = omega (arith, chain job plan sound g (suc t) t lt (omega arith), sum_steps i (start plan t) (time job t) (idle_least job plan), time_height job t lt) in
    let product : (m - 1) * sum_to i e ≤ (m - 1) * longest job = mul-le-mul_left (m - 1) few in
    omega (arith, sum_const m e, ticks, parts, scaled, product, all_work job plan e)

pub grahams_bound : (job : Job) (plan : Plan) → IsJob job → IsGreedy job plan → job.processors * makespan job plan ≤ work job + (job.processors - 1) * longest job
grahams_bound job plan sound g =
    elim (value_attained (finish job plan) (tuples job)) [ inl none ↦ nothing job.processors (makespan job plan) _ none | inr h ↦ (let P : ℕ → Type 0 = λ x. job.processors * x ≤ work job + (job.processors - 1) * longest job in subst P (sym h.2) (bound job plan h.0 sound g h.1 (λ u lt. omega (arith, h.2, value_at_most (finish job plan) (tuples job) u lt)))) ]
