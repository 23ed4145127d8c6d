-- Greedy schedules that are not finished: the start of a tuple that has no place yet is `never`.
use Rattle.std.proofs.Common.{◌≡◌, ℕ, ◌<◌, ◌≤◌, ◌⊎◌, length, inl, inr, arith}
use Rattle.list_schedule.specs.Job.{Job, IsJob, tuples, ComesBefore}
use Rattle.list_schedule.specs.Greedy.{Plan, start, place, finish, Runs, IsReady, IsFree, holds, IsGreedy}

-- greedy as far as tick s: all that has a place has a start up to s
pub record Partial (job : Job) (plan : Plan) (never s : ℕ) : Type 0 where
  pub starts : length plan.starts ≡ tuples job
  pub places : length plan.places ≡ tuples job
  pub tick : s < never
  pub known : (t : ℕ) → t < tuples job → (start plan t ≤ s) ⊎ (start plan t ≡ never)
  pub machine : (t : ℕ) → t < tuples job → start plan t ≤ s → place plan t < job.processors
  pub alone : (t u r : ℕ) → start plan t ≤ s → start plan u ≤ s → Runs job plan t r → Runs job plan u r → place plan t ≡ place plan u → t ≡ u
  pub ready : (t : ℕ) → t < tuples job → start plan t ≤ s → IsReady job plan t (start plan t)
  pub busy : (t r : ℕ) → t < tuples job → r < s → r < start plan t → IsReady job plan t r → (p : ℕ) → p < job.processors → (u : ℕ) × Runs job plan u r × (place plan u ≡ p)
  pub taken : (t r : ℕ) → t < tuples job → r ≤ s → r < start plan t → IsReady job plan t r → (u : ℕ) → u < tuples job → start plan u ≡ r → ComesBefore job u t
  pub free : (t : ℕ) → t < tuples job → start plan t ≤ s → IsFree job plan t (place plan t)
  pub best : (t p : ℕ) → t < tuples job → start plan t ≤ s → p < job.processors → IsFree job plan t p → (holds job plan t p < holds job plan t (place plan t)) ⊎ ((holds job plan t p ≡ holds job plan t (place plan t)) × (place plan t ≤ p))

-- with all placed it is greedy
pub finished : (job : Job) (plan : Plan) (never s : ℕ) → Partial job plan never s → ((t : ℕ) → t < tuples job → start plan t ≤ s) → IsGreedy job plan
finished job plan never s g all = record {
  starts = g.starts;
  places = g.places;
  machine = λ t lt. g.machine t lt (all t lt);
  alone = λ t u r a b e. g.alone t u r (all t a.is_tuple) (all u b.is_tuple) a b e;
  ready = λ t lt. g.ready t lt (all t lt);
  busy = λ t r lt early ready. g.busy t r lt (omega (arith, all t lt)) early ready;
  taken = λ t r lt early ready. g.taken t r lt (omega (arith, all t lt)) early ready;
  free = λ t lt. g.free t lt (all t lt);
  best = λ t p lt. g.best t p lt (all t lt);
}

-- nothing is placed at first
pub begun : (job : Job) (plan : Plan) (never : ℕ) → length plan.starts ≡ tuples job → length plan.places ≡ tuples job → 0 < never → ((t : ℕ) → t < tuples job → start plan t ≡ never) → Partial job plan never 0
begun job plan never starts places some none = record {
  starts = starts;
  places = places;
  tick = some;
  known = λ t lt. inr (none t lt);
  machine = λ t lt le. absurd (omega (arith, none t lt));
  alone = λ t u r a b x y e. absurd (omega (arith, none t x.is_tuple));
  ready = λ t lt le. absurd (omega (arith, none t lt));
  busy = λ t r lt early. absurd (omega arith);
  taken = λ t r lt le early ready u ltu at. absurd (omega (arith, none u ltu));
  free = λ t lt le. absurd (omega (arith, none t lt));
  best = λ t p lt le. absurd (omega (arith, none t lt));
}

placed : (job : Job) (plan : Plan) (never s z t : ℕ) → Partial job plan never s → z < never → t < tuples job → start plan t ≤ z → start plan t ≤ s
placed job plan never s z t g lt is le = elim (g.known t is) [ inl h ↦ h | inr e ↦ absurd (omega arith) ]

low_or_high : (r s : ℕ) → (r < s) ⊎ (s ≤ r)
low_or_high r s = grind arith

low_or_above : (r s : ℕ) → (r ≤ s) ⊎ (s < r)
low_or_above r s = grind arith

-- the clock goes on to z where until then all processors run tuples for whatever is ready
pub advanced : (job : Job) (plan : Plan) (never s z : ℕ) → Partial job plan never s → s ≤ z → z < never → ((t r : ℕ) → t < tuples job → s ≤ r → r < z → r < start plan t → IsReady job plan t r → (p : ℕ) → p < job.processors → (u : ℕ) × Runs job plan u r × (place plan u ≡ p)) → Partial job plan never z
advanced job plan never s z g on lt waits =
    let back : (t : ℕ) → t < tuples job → start plan t ≤ z → start plan t ≤ s = λ t is le. placed job plan never s z t g lt is le in
    record {
      starts = g.starts;
      places = g.places;
      tick = lt;
      known = λ t is. elim (g.known t is) [ inl h ↦ inl (omega arith) | inr e ↦ inr e ];
      machine = λ t is le. g.machine t is (back t is le);
      alone = λ t u r a b x y e. g.alone t u r (back t x.is_tuple a) (back u y.is_tuple b) x y e;
      ready = λ t is le. g.ready t is (back t is le);
      busy = λ t r is early before ready. elim (low_or_high r s) [ inl l ↦ g.busy t r is l before ready | inr h ↦ waits t r is h early before ready ];
      taken = λ t r is le before ready u isu at. elim (low_or_above r s) [ inl l ↦ g.taken t r is l before ready u isu at | inr h ↦ absurd (let k = back u isu (omega arith) in omega arith) ];
      free = λ t is le. g.free t is (back t is le);
      best = λ t p is le. g.best t p is (back t is le);
    }

-- no tuple finishes between s and z
pub record Steady (job : Job) (plan : Plan) (s z : ℕ) : Type 0 where
  pub none : (u : ℕ) → u < tuples job → start plan u ≤ s → (finish job plan u ≤ s) ⊎ (z ≤ finish job plan u)

-- .. and all processors run tuples at s
pub advanced_full : (job : Job) (plan : Plan) (never s z : ℕ) → Partial job plan never s → s ≤ z → z < never → Steady job plan s z → ((p : ℕ) → p < job.processors → (u : ℕ) × Runs job plan u s × (place plan u ≡ p)) → Partial job plan never z
advanced_full job plan never s z g on lt steady full =
    advanced job plan never s z g on lt (λ t r is from until before ready p ltp. let u = full p ltp in let runs = u.1 in let later : s < finish job plan u.0 = runs.until in let long : z ≤ finish job plan u.0 = elim (steady.none u.0 runs.is_tuple runs.from) [ inl h ↦ absurd (omega arith) | inr h ↦ h ] in (u.0, record { is_tuple = runs.is_tuple; from = omega (arith, runs.from); until = omega arith }, u.2))

-- .. or none is ready at s
pub advanced_empty : (job : Job) (plan : Plan) (never s z : ℕ) → IsJob job → Partial job plan never s → s ≤ z → z < never → Steady job plan s z → ((t : ℕ) → t < tuples job → s < start plan t → IsReady job plan t s → ⊥) → Partial job plan never z
advanced_empty job plan never s z sound g on lt steady none =
    advanced job plan never s z g on lt (λ t r is from until before ready p ltp. absurd (none t is (omega arith) (λ a has. let early : a < t = sound.earlier t a is has in let isa : a < tuples job = omega arith in let done : finish job plan a ≤ r = ready a has in let here : start plan a ≤ s = placed job plan never s z a g lt isa (omega arith) in elim (steady.none a isa here) [ inl h ↦ h | inr h ↦ absurd (omega arith) ])))
