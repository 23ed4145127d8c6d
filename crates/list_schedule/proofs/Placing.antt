-- One tuple more is placed.
use Rattle.std.proofs.Common.{◌≡◌, ◌≢◌, ℕ, ◌<◌, ◌≤◌, ◌⊎◌, length, refl, sym, ap, subst, ◌∙◌, inl, inr, arith, nat_eq}
use Rattle.list_schedule.specs.Job.{Job, IsJob, tuples, time, producers, ComesBefore}
use Rattle.list_schedule.specs.Greedy.{Plan, start, place, finish, Runs, IsReady, IsFree, holds}
use Rattle.list_schedule.proofs.One.{count_same, runs_at_start, below_or_at, not_before_itself}
use Rattle.list_schedule.proofs.Partial.{Partial}

-- processor q runs nothing at tick s
pub record IsIdle (job : Job) (plan : Plan) (s q : ℕ) : Type 0 where
  pub none : (u : ℕ) → Runs job plan u s → place plan u ≡ q → ⊥

-- tuple t may start at tick s on processor p: it is the first of the ready ones, and p the best of the idle ones
pub record Chosen (job : Job) (plan : Plan) (never s t p : ℕ) : Type 0 where
  pub is_tuple : t < tuples job
  pub unplaced : start plan t ≡ never
  pub ready : IsReady job plan t s
  pub first : (u : ℕ) → u < tuples job → u ≢ t → start plan u ≡ never → IsReady job plan u s → ComesBefore job t u
  pub of_machine : p < job.processors
  pub idle : IsIdle job plan s p
  pub best : (q : ℕ) → q < job.processors → IsIdle job plan s q → (holds job plan t q < holds job plan t p) ⊎ ((holds job plan t q ≡ holds job plan t p) × (p ≤ q))

-- next is plan with t placed
pub record Places (job : Job) (plan next : Plan) (s t p : ℕ) : Type 0 where
  pub starts : length next.starts ≡ tuples job
  pub places : length next.places ≡ tuples job
  pub at : start next t ≡ s
  pub on : place next t ≡ p
  pub starts_kept : (u : ℕ) → u ≢ t → start next u ≡ start plan u
  pub places_kept : (u : ℕ) → u ≢ t → place next u ≡ place plan u

-- what is known where t is placed
record Turn (job : Job) (plan next : Plan) (never s t p : ℕ) : Type 0 where
  sound : IsJob job
  before : Partial job plan never s
  chosen : Chosen job plan never s t p
  change : Places job plan next s t p

same_or : (u t : ℕ) → (u ≡ t) ⊎ (u ≢ t)
same_or u t = grind arith

module _ (job : Job) (plan next : Plan) (never s t p : ℕ) (g : Turn job plan next never s t p) where
  early_is_other : (u : ℕ) → start plan u ≤ s → u ≢ t
  early_is_other u le e = omega (arith, ap (start plan) e, g.chosen.unplaced, g.before.tick)

  runs_on : (u r : ℕ) → u ≢ t → Runs job plan u r → Runs job next u r
  runs_on u r ne x = record { is_tuple = x.is_tuple; from = omega (arith, x.from, g.change.starts_kept u ne); until = omega (arith, x.until, g.change.starts_kept u ne) }

  runs_back : (u r : ℕ) → u ≢ t → Runs job next u r → Runs job plan u r
  runs_back u r ne x = record { is_tuple = x.is_tuple; from = omega (arith, x.from, g.change.starts_kept u ne); until = omega (arith, x.until, g.change.starts_kept u ne) }

  ready_on : (x r : ℕ) → r ≤ s → IsReady job plan x r → IsReady job next x r
  ready_on x r le ready a has =
      let done : finish job plan a ≤ r = ready a has in
      omega (arith, done, g.change.starts_kept a (early_is_other a (omega arith)))

  ready_back : (x r : ℕ) → x < tuples job → r ≤ s → IsReady job next x r → IsReady job plan x r
  ready_back x r is le ready a has =
      let done : finish job next a ≤ r = ready a has in
      elim (same_or a t) [ inl e ↦ absurd (let long : 1 ≤ time job a = g.sound.times a (omega (arith, g.sound.earlier x a is has)) in omega (arith, done, ap (start next) e, g.change.at)) | inr ne ↦ omega (arith, done, g.change.starts_kept a ne) ]

  -- the producers of what is ready up to now are others
  holds_kept : (x r q : ℕ) → r ≤ s → IsReady job plan x r → holds job next x q ≡ holds job plan x q
  holds_kept x r q le ready =
      count_same (λ a. nat_eq (place next a) q) (λ a. nat_eq (place plan a) q) (producers job x) (λ a has. let done : finish job plan a ≤ r = ready a has in ap (λ y. nat_eq y q) (g.change.places_kept a (early_is_other a (omega arith))))

  known : (x : ℕ) → x < tuples job → (start next x ≤ s) ⊎ (start next x ≡ never)
  known x is = elim (same_or x t) [ inl e ↦ inl (omega (arith, ap (start next) e, g.change.at)) | inr ne ↦ (elim (g.before.known x is) [ inl h ↦ inl (omega (arith, g.change.starts_kept x ne)) | inr h ↦ inr (g.change.starts_kept x ne ∙ h) ]) ]

  machine : (x : ℕ) → x < tuples job → start next x ≤ s → place next x < job.processors
  machine x is le = elim (same_or x t) [ inl e ↦ omega (arith, ap (place next) e, g.change.on, g.chosen.of_machine) | inr ne ↦ omega (arith, g.change.places_kept x ne, g.before.machine x is (omega (arith, g.change.starts_kept x ne))) ]

  -- nothing else runs on t's processor from now on
  clash : (u r : ℕ) → u ≢ t → start next u ≤ s → s ≤ r → Runs job next u r → place next u ≡ p → ⊥
  clash u r ne le from x e =
      let back = runs_back u r ne x in
      g.chosen.idle.none u (record { is_tuple = x.is_tuple; from = omega (arith, g.change.starts_kept u ne); until = omega (arith, back.until) }) (sym (g.change.places_kept u ne) ∙ e)

  place_of_t : (u : ℕ) → u ≡ t → place next u ≡ p
  place_of_t u e = ap (place next) e ∙ g.change.on

  start_of_t : (u : ℕ) → u ≡ t → start next u ≡ s
  start_of_t u e = ap (start next) e ∙ g.change.at

  alone : (x u r : ℕ) → start next x ≤ s → start next u ≤ s → Runs job next x r → Runs job next u r → place next x ≡ place next u → x ≡ u
  alone x u r lx lu rx ru e =
      elim (same_or x t) [ inl ex ↦ (elim (same_or u t) [ inl eu ↦ ex ∙ sym eu | inr nu ↦ absurd (clash u r nu lu (omega (arith, start_of_t x ex, rx.from)) ru (sym e ∙ place_of_t x ex)) ]) | inr nx ↦ (elim (same_or u t) [ inl eu ↦ absurd (clash x r nx lx (omega (arith, start_of_t u eu, ru.from)) rx (e ∙ place_of_t u eu)) | inr nu ↦ g.before.alone x u r (omega (arith, g.change.starts_kept x nx)) (omega (arith, g.change.starts_kept u nu)) (runs_back x r nx rx) (runs_back u r nu ru) (sym (g.change.places_kept x nx) ∙ e ∙ g.change.places_kept u nu) ]) ]

  ready : (x : ℕ) → x < tuples job → start next x ≤ s → IsReady job next x (start next x)
  ready x is le =
      let P : ℕ → Type 0 = λ r. IsReady job next x r in
      elim (same_or x t) [ inl e ↦ (let Q : ℕ → Type 0 = λ y. IsReady job next y s in subst P (sym (start_of_t x e)) (subst Q (sym e) (ready_on t s (omega arith) g.chosen.ready))) | inr ne ↦ (let kept = g.change.starts_kept x ne in subst P (sym kept) (ready_on x (start plan x) (omega (arith, kept)) (g.before.ready x is (omega (arith, kept))))) ]

  later : (x r : ℕ) → r ≤ s → r < start next x → r < start plan x
  later x r le lt = elim (same_or x t) [ inl e ↦ omega (arith, ap (start plan) e, g.chosen.unplaced, g.before.tick) | inr ne ↦ omega (arith, g.change.starts_kept x ne) ]

  busy : (x r : ℕ) → x < tuples job → r < s → r < start next x → IsReady job next x r → (q : ℕ) → q < job.processors → (u : ℕ) × Runs job next u r × (place next u ≡ q)
  busy x r is lt early ready q ltq =
      let u = g.before.busy x r is lt (later x r (omega arith) early) (ready_back x r is (omega arith) ready) q ltq in
      let run : Runs job plan u.0 r = u.1 in
      let ne = early_is_other u.0 (omega (arith, run.from)) in
      (u.0, runs_on u.0 r ne run, g.change.places_kept u.0 ne ∙ u.2)

  taken : (x r : ℕ) → x < tuples job → r ≤ s → r < start next x → IsReady job next x r → (u : ℕ) → u < tuples job → start next u ≡ r → ComesBefore job u x
  taken x r is le early ready u isu at =
      let was = ready_back x r is le ready in
      let P : ℕ → Type 0 = λ y. ComesBefore job y x in
      let Q : ℕ → Type 0 = λ y. IsReady job plan x y in
      elim (same_or u t) [ inl e ↦ (let now : r ≡ s = sym at ∙ start_of_t u e in let nx : x ≢ t = λ ex. omega (arith, start_of_t x ex, early, now) in let out : start plan x ≡ never = elim (g.before.known x is) [ inl h ↦ absurd (omega (arith, g.change.starts_kept x nx, early, now)) | inr h ↦ h ] in subst P (sym e) (g.chosen.first x is nx out (subst Q now was))) | inr ne ↦ g.before.taken x r is le (later x r le early) was u isu (sym (g.change.starts_kept u ne) ∙ at) ]

  itself : (x u : ℕ) → x ≡ u → (start next u < start next x) ⊎ ComesBefore job u x → ⊥
  itself x u e (inl h) = omega (arith, ap (start next) e)
  itself x u e (inr h) = let P : ℕ → Type 0 = λ y. ComesBefore job y x in not_before_itself job x (subst P (sym e) h)

  old_free : (x u : ℕ) → x < tuples job → start next x ≤ s → x ≢ t → u ≢ t → Runs job next u (start next x) → place next u ≡ place next x → (start next u < start next x) ⊎ ComesBefore job u x → ⊥
  old_free x u is le nx nu run e why =
      let kept = g.change.starts_kept x nx in
      let P : ℕ → Type 0 = λ r. Runs job plan u r in
      g.before.free x is (omega (arith, kept)) u (subst P kept (runs_back u (start next x) nu run)) (sym (g.change.places_kept u nu) ∙ e ∙ g.change.places_kept x nx) (elim why [ inl h ↦ inl (omega (arith, kept, g.change.starts_kept u nu)) | inr h ↦ inr h ])

  free : (x : ℕ) → x < tuples job → start next x ≤ s → IsFree job next x (place next x)
  free x is le u run e why =
      elim (same_or x t) [ inl ex ↦ (elim (same_or u t) [ inl eu ↦ itself x u (ex ∙ sym eu) why | inr nu ↦ clash u (start next x) nu (omega (arith, run.from)) (omega (arith, start_of_t x ex)) run (e ∙ place_of_t x ex) ]) | inr nx ↦ (elim (same_or u t) [ inl eu ↦ clash x (start next x) nx le (omega (arith, run.from, start_of_t u eu)) (runs_at_start job next (start next x) x g.sound is refl) (sym e ∙ place_of_t u eu) | inr nu ↦ old_free x u is le nx nu run e why ]) ]

  fact : (a b v w c d q : ℕ) → a ≡ v → b ≡ w → c ≡ d → (v < w) ⊎ ((v ≡ w) × (d ≤ q)) → (a < b) ⊎ ((a ≡ b) × (c ≤ q))
  fact a b v w c d q x y z (inl h) = inl (omega arith)
  fact a b v w c d q x y z (inr h) = inr (omega arith, omega arith)

  idle_too : (q : ℕ) → IsFree job next t q → IsIdle job plan s q
  idle_too q free = record {
    none = λ u run e.
        let ne = early_is_other u run.from in
        let P : ℕ → Type 0 = λ r. Runs job next u r in
        let why : (start next u < start next t) ⊎ ComesBefore job u t = elim (below_or_at (start plan u) s run.from) [ inl early ↦ inl (omega (arith, g.change.starts_kept u ne, g.change.at)) | inr at ↦ inr (g.before.taken t s g.chosen.is_tuple (omega arith) (omega (arith, g.chosen.unplaced, g.before.tick)) g.chosen.ready u run.is_tuple at) ] in
        free u (subst P (sym g.change.at) (runs_on u s ne run)) (g.change.places_kept u ne ∙ e) why;
  }

  best_of_t : (q : ℕ) → q < job.processors → IsFree job next t q → (holds job next t q < holds job next t (place next t)) ⊎ ((holds job next t q ≡ holds job next t (place next t)) × (place next t ≤ q))
  best_of_t q ltq free =
      fact _ _ _ _ _ _ q (holds_kept t s q (omega arith) g.chosen.ready) (holds_kept t s (place next t) (omega arith) g.chosen.ready ∙ ap (holds job plan t) g.change.on) g.change.on (g.chosen.best q ltq (idle_too q free))

  free_before : (x q : ℕ) → x ≢ t → start plan x ≤ s → IsFree job next x q → IsFree job plan x q
  free_before x q nx le free u run e why =
      let ne = early_is_other u (omega (arith, run.from)) in
      let kept = g.change.starts_kept x nx in
      let P : ℕ → Type 0 = λ r. Runs job next u r in
      free u (subst P (sym kept) (runs_on u (start plan x) ne run)) (g.change.places_kept u ne ∙ e) (elim why [ inl h ↦ inl (omega (arith, kept, g.change.starts_kept u ne)) | inr h ↦ inr h ])

  best : (x q : ℕ) → x < tuples job → start next x ≤ s → q < job.processors → IsFree job next x q → (holds job next x q < holds job next x (place next x)) ⊎ ((holds job next x q ≡ holds job next x (place next x)) × (place next x ≤ q))
  best x q is le ltq free =
      let P : ℕ → Type 0 = λ y. (holds job next y q < holds job next y (place next y)) ⊎ ((holds job next y q ≡ holds job next y (place next y)) × (place next y ≤ q)) in
      let Q : ℕ → Type 0 = λ y. IsFree job next y q in
      elim (same_or x t) [ inl e ↦ subst P (sym e) (best_of_t q ltq (subst Q e free)) | inr nx ↦ (let here : start plan x ≤ s = omega (arith, g.change.starts_kept x nx) in let was = g.before.ready x is here in fact _ _ _ _ _ _ q (holds_kept x (start plan x) q here was) (holds_kept x (start plan x) (place next x) here was ∙ ap (holds job plan x) (g.change.places_kept x nx)) (g.change.places_kept x nx) (g.before.best x q is here ltq (free_before x q nx here free))) ]

pub placing : (job : Job) (plan next : Plan) (never s t p : ℕ) → IsJob job → Partial job plan never s → Chosen job plan never s t p → Places job plan next s t p → Partial job next never s
placing job plan next never s t p sound before chosen change =
    let g : Turn job plan next never s t p = record { sound = sound; before = before; chosen = chosen; change = change } in
    record {
      starts = change.starts;
      places = change.places;
      tick = before.tick;
      known = known job plan next never s t p g;
      machine = machine job plan next never s t p g;
      alone = alone job plan next never s t p g;
      ready = ready job plan next never s t p g;
      busy = busy job plan next never s t p g;
      taken = taken job plan next never s t p g;
      free = free job plan next never s t p g;
      best = best job plan next never s t p g;
    }
