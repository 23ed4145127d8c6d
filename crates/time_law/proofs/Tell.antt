-- What the ticks of every run's execution tell.
use Rattle.std.proofs.Common.{◌≡◌, ℕ, suc, pred, ◌+◌, ◌<◌, ◌≤◌, Bool, true, false, length, List, get_or, Option, Some, None, is_some, slice_get, ℤ, nat_lt, refl, sym, ap, ◌∙◌, arith, ◌⊎◌, inl, inr, if◌then◌else◌}
use Rattle.std.proofs.lemmas.Bool.{cases_Bool, cases_lt, cond-true, cond-false, ltb-true, lt-ltb, le-ltb}
use Rattle.std.proofs.lemmas.Option.{slice_get-get_or, slice_get_past}
use Rattle.bm_base.specs.Mask.{has_bit}
use Rattle.line_model.specs.Streams.{before}
use Rattle.line_model.specs.Order.{HasMember, StandsAt}
use Rattle.unit_law.specs.State.{Program, Work, Idle, Busy, Held, State, code_at, processor, is_free}
use Rattle.unit_law.specs.Units.{is_behind}
use Rattle.unit_law.specs.Steps.{IsMaskUrgent, IsNext, IsDuration, tuple_at}
use Rattle.unit_law.specs.Fit.{AllFit, NoneEmpty}
use Rattle.unit_law.proofs.Agree.{at_wait}
use Rattle.unit_law.specs.Inside.{completed, completed_at}
use Rattle.unit_law.proofs.Inside.{free_completed, waits_parts, is_ready}
use Rattle.time_interval.specs.declared.reference.Point.{Point}
use Rattle.time_interval.specs.declared.reference.Point.TheVariants.{StartOf, FinishOf, FireOf}
use Rattle.time_interval.specs.Bounds.{later}
use Rattle.time_law.specs.Ticks.{behind_at, PointsTold, StateTold, TellsTicks}
use Rattle.time_law.proofs.Timed.{Clocked}
use Rattle.time_law.proofs.TimedLaws.{not_passed, long_le}
use Rattle.time_law.proofs.Points.{Tells}
use Rattle.time_law.proofs.Sound.{known_if, place_le}
use Rattle.time_law.proofs.Runs.{run_clocked, run_tells}

some_at : (cs : List ℕ) (k : ℕ) → k < length cs → slice_get cs k ≡ Some (get_or cs k 0)
some_at cs k lt = slice_get-get_or cs k 0 lt

behind_is : (w : Work) (place : ℕ) → completed_at w place ≡ behind_at w place
behind_is Idle place = refl
behind_is (Busy until t operands) place = refl
behind_is (Held until) place = refl

known_is : (v : Bool) (a : ℕ) → is_some (if v then Some a else None) ≡ v
known_is true a = refl
known_is false a = refl

module _ {m : Program} {b : ℕ} {done : ℕ → Type 0} {s : State} {entry : ℕ} {came : ℕ → List ℕ} {fire : ℕ → ℕ} (clocked : Clocked m b done s entry came fire) {h : Point → Option ℕ} {took : ℕ → ℕ} (tells : Tells m (code_at m b) s came fire h took) where
  long : (p : ℕ) → length (came p) ≡ suc (completed (processor s p))
  long p = (clocked.timed.each p).long

  started : (t p k start : ℕ) → StandsAt (code_at m b).line t p k → h (StartOf t) ≡ Some start → (k < (processor s p).place) × (get_or (came p) k 0 ≡ start)
  started t p k start at e = let (v, w) = known_if _ _ start (sym (tells.starts p t k at) ∙ e) in (ltb-true k (processor s p).place v, w)

  finished : (t p k finish : ℕ) → StandsAt (code_at m b).line t p k → h (FinishOf t) ≡ Some finish → (k < completed (processor s p)) × (get_or (came p) (suc k) 0 ≡ finish)
  finished t p k finish at e = let (v, w) = known_if _ _ finish (sym (tells.ends p t k at) ∙ e) in (ltb-true k (completed (processor s p)) v, w)

  fired : (j f : ℕ) → h (FireOf j) ≡ Some f → (get_or s.fired j false ≡ true) × (fire j ≡ f)
  fired j f e = known_if _ _ f (sym (tells.fires j) ∙ e)

  starts : (t p k : ℕ) → StandsAt (code_at m b).line t p k → h (StartOf t) ≡ (if nat_lt k (processor s p).place then slice_get (came p) k else None)
  starts t p k at = tells.starts p t k at ∙ go (cases_lt k (processor s p).place)
    where
      go : (k < (processor s p).place) ⊎ ((processor s p).place ≤ k) → (if nat_lt k (processor s p).place then Some (get_or (came p) k 0) else None) ≡ (if nat_lt k (processor s p).place then slice_get (came p) k else None)
      go (inl lt) = ap (λ o. if nat_lt k (processor s p).place then o else None) (sym (some_at (came p) k (let x = place_le (processor s p).work (processor s p).place in omega (arith, long p))))
      go (inr le) = cond-false _ _ _ (le-ltb k (processor s p).place le) ∙ sym (cond-false _ _ _ (le-ltb k (processor s p).place le))

  finishes : (t p k : ℕ) → StandsAt (code_at m b).line t p k → h (FinishOf t) ≡ slice_get (came p) (suc k)
  finishes t p k at = tells.ends p t k at ∙ go (cases_lt k (completed (processor s p)))
    where
      go : (k < completed (processor s p)) ⊎ (completed (processor s p) ≤ k) → (if nat_lt k (completed (processor s p)) then Some (get_or (came p) (suc k) 0) else None) ≡ slice_get (came p) (suc k)
      go (inl lt) = cond-true _ _ _ (lt-ltb k (completed (processor s p)) lt) ∙ sym (some_at (came p) (suc k) (omega (arith, long p)))
      go (inr le) = cond-false _ _ _ (le-ltb k (completed (processor s p)) le) ∙ sym (slice_get_past (came p) (suc k) (omega (arith, long p)))

  goes_on : (j p : ℕ) → HasMember (code_at m b).line j p → slice_get (came p) (suc (before p j (code_at m b).line)) ≡ later (h (FireOf j)) m.machine.delay
  goes_on j p g = go (cases_Bool (get_or s.fired j false))
    where
      go : (get_or s.fired j false ≡ true) ⊎ (get_or s.fired j false ≡ false) → slice_get (came p) (suc (before p j (code_at m b).line)) ≡ later (h (FireOf j)) m.machine.delay
      go (inl f) = let a = clocked.timed.at_fire j p g f in some_at (came p) (suc (before p j (code_at m b).line)) a.within ∙ ap Some a.left ∙ sym (ap (λ o. later o m.machine.delay) (tells.fires j ∙ cond-true _ _ _ f))
      go (inr f) = slice_get_past (came p) (suc (before p j (code_at m b).line)) (let x = not_passed clocked j p g f in let y = long_le clocked p in omega arith) ∙ sym (ap (λ o. later o m.machine.delay) (tells.fires j ∙ cond-false _ _ _ f))

  arrived : (j p f : ℕ) → HasMember (code_at m b).line j p → h (FireOf j) ≡ Some f → (x : ℕ) × (slice_get (came p) (before p j (code_at m b).line) ≡ Some x) × (x ≤ f)
  arrived j p f g e =
      let (v, w) = fired j f e in
      let a = clocked.timed.at_fire j p g v in
      let l = a.within in
      let x = a.arrived in (get_or (came p) (before p j (code_at m b).line) 0, some_at (came p) (before p j (code_at m b).line) (omega arith), omega arith)

  cause : (j f : ℕ) → h (FireOf j) ≡ Some f → ((p : ℕ) × HasMember (code_at m b).line j p × (slice_get (came p) (before p j (code_at m b).line) ≡ Some f)) ⊎ ((i : ℕ) × (j ≡ suc i) × ((g : ℕ) → h (FireOf i) ≡ Some g → f ≤ g))
  cause j f e = go (fired j f e)
    where
      go : (get_or s.fired j false ≡ true) × (fire j ≡ f) → ((p : ℕ) × HasMember (code_at m b).line j p × (slice_get (came p) (before p j (code_at m b).line) ≡ Some f)) ⊎ ((i : ℕ) × (j ≡ suc i) × ((g : ℕ) → h (FireOf i) ≡ Some g → f ≤ g))
      go (v, w) = by (clocked.timed.fire_cause j v)
        where
          by : ((p : ℕ) × HasMember (code_at m b).line j p × (fire j ≤ get_or (came p) (before p j (code_at m b).line) 0)) ⊎ ((i : ℕ) × (j ≡ suc i) × (get_or s.fired i false ≡ true → fire j ≤ fire i)) → ((p : ℕ) × HasMember (code_at m b).line j p × (slice_get (came p) (before p j (code_at m b).line) ≡ Some f)) ⊎ ((i : ℕ) × (j ≡ suc i) × ((g : ℕ) → h (FireOf i) ≡ Some g → f ≤ g))
          by (inl (p, g, le)) =
              let a = clocked.timed.at_fire j p g v in
              let l = a.within in
              let x = a.arrived in
              let y : get_or (came p) (before p j (code_at m b).line) 0 ≡ f = omega arith in
              inl (p, g, some_at (came p) (before p j (code_at m b).line) (omega arith) ∙ ap Some y)
          by (inr (i, q, le)) = inr (i, q, λ g k. let (x, y) = fired i g k in let z = le x in omega arith)

  pub points_told : PointsTold m (code_at m b) s entry (record { came = came; at = h; took = took })
  points_told = record {
    first = λ p. some_at (came p) 0 (omega (arith, long p)) ∙ ap Some (clocked.timed.each p).first;
    long = λ p. long p ∙ ap suc (behind_is (processor s p).work (processor s p).place);
    starts = starts;
    finishes = finishes;
    fires = λ j. ap is_some (tells.fires j) ∙ known_is (get_or s.fired j false) (fire j);
    lasts = λ t p k start finish at e f. let (x, y) = started t p k start at e in let (z, w) = finished t p k finish at f in let v = tells.ran p t k at z in omega arith;
    times = λ t p k start at e. tells.times p t k at (started t p k start at e).0;
    goes_on = goes_on;
    arrived = arrived;
    cause = cause;
  }

  -- ---- the state
  -- a free processor came to its next item
  at_item : (p : ℕ) → is_free s.clock (processor s p).work ≡ true → (slice_get (came p) (processor s p).place ≡ Some (get_or (came p) (completed (processor s p)) 0)) × (get_or (came p) (completed (processor s p)) 0 ≡ get_or (came p) (processor s p).place 0)
  at_item p f =
      let d = free_completed s.clock (processor s p).work (processor s p).place f in
      let e = ap (λ k. get_or (came p) k 0) d in (some_at (came p) (processor s p).place (omega (arith, long p, d)) ∙ ap Some (sym e), e)

  free : (p t : ℕ) → IsNext m (code_at m b) s p t → slice_get (came p) (processor s p).place ≡ Some s.clock
  free p t n =
      let x = (clocked.timed.each p).now t n.idle n.item in
      let y = (clocked.timed.each p).past n.idle in
      let (z, w) = at_item p n.idle in
      let v : get_or (came p) (completed (processor s p)) 0 ≡ s.clock = omega arith in z ∙ ap Some v

  busy : (p until t : ℕ) (operands : List ℤ) → (processor s p).work ≡ Busy until t operands → (s.clock ≤ until) × ((start : ℕ) × (h (StartOf t) ≡ Some start) × (until ≡ start + took t) × IsDuration m (tuple_at (code_at m b) t) (took t))
  busy p until t operands e =
      let (k, ep, item) = clocked.inside.work p until t operands e in
      let c : completed (processor s p) ≡ k = ap (λ w. completed_at w (processor s p).place) e ∙ ap pred ep in
      let x = tells.lasts p until t operands e in
      let y = ap (λ n. get_or (came p) n 0) c in
      let lt : k < (processor s p).place = omega arith in
      (clocked.inside.ticks p until t operands e, (get_or (came p) k 0, tells.starts p t k (record { item = item }) ∙ cond-true _ _ _ (lt-ltb k (processor s p).place lt), omega arith, tells.times p t k (record { item = item }) lt))

  held : (p until : ℕ) → (processor s p).work ≡ Held until → (j at : ℕ) × HasMember (code_at m b).line j p × ((processor s p).place ≡ suc (before p j (code_at m b).line)) × (h (FireOf j) ≡ Some at) × (until ≡ at + m.machine.delay)
  held p until e = let (j, mem, last, f, u) = tells.holds p until e in (j, fire j, mem, last, tells.fires j ∙ cond-true _ _ _ f, u)

  urgent : (j : ℕ) → IsMaskUrgent (code_at m b) s j → ((p : ℕ) × HasMember (code_at m b).line j p × (slice_get (came p) (processor s p).place ≡ Some s.clock)) ⊎ ((k : ℕ) × (j ≡ suc k) × (h (FireOf k) ≡ Some s.clock))
  urgent j u = go (clocked.timed.ready_cause j u.ready)
    where
      member : (p : ℕ) → HasMember (code_at m b).line j p → has_bit u.ready.mask p ≡ true
      member p g = let x : Some g.mask ≡ Some u.ready.mask = sym g.at ∙ u.ready.at in let y : g.mask ≡ u.ready.mask = cc in ap (λ n. has_bit n p) (sym y) ∙ g.has

      arrives : (p : ℕ) → HasMember (code_at m b).line j p → s.clock ≤ get_or (came p) (before p j (code_at m b).line) 0 → slice_get (came p) (processor s p).place ≡ Some s.clock
      arrives p g le =
          let f = (waits_parts (code_at m b) s p (u.ready.all_wait p (member p g))).0 in
          let x : before p j (code_at m b).line ≡ (processor s p).place = at_wait (code_at m b).line _ _ clocked.inside.agrees j u.ready.mask (is_ready m b clocked.fit done s clocked.inside j u.ready) p (member p g) in
          let y = ap (λ k. get_or (came p) k 0) x in
          let (z, e) = at_item p f in
          let w = (clocked.timed.each p).past f in
          let v : get_or (came p) (completed (processor s p)) 0 ≡ s.clock = omega arith in z ∙ ap Some v

      go : ((p : ℕ) × HasMember (code_at m b).line j p × (s.clock ≤ get_or (came p) (before p j (code_at m b).line) 0)) ⊎ ((k : ℕ) × (j ≡ suc k) × (get_or s.fired k false ≡ true → s.clock ≤ fire k)) → ((p : ℕ) × HasMember (code_at m b).line j p × (slice_get (came p) (processor s p).place ≡ Some s.clock)) ⊎ ((k : ℕ) × (j ≡ suc k) × (h (FireOf k) ≡ Some s.clock))
      go (inl (p, g, le)) = inl (p, g, arrives p g le)
      go (inr (k, e, g)) =
          let f : get_or s.fired k false ≡ true = ap (is_behind s.fired) (sym e) ∙ u.behind in
          let x = g f in
          let y = clocked.timed.fire_past k f in
          let z : fire k ≡ s.clock = omega arith in inr (k, e, tells.fires k ∙ cond-true _ _ _ f ∙ ap Some z)

  pub state_told : StateTold m (code_at m b) s (record { came = came; at = h; took = took })
  state_told = record {
    by_now = λ p f. (get_or (came p) (completed (processor s p)) 0, (at_item p f).0, (clocked.timed.each p).past f);
    free = free;
    busy = busy;
    held = held;
    urgent = urgent;
  }

-- ---- every run
pub are_told : (m : Program) → AllFit m → NoneEmpty m → TellsTicks m
are_told m fit full memory past b run mode = (points_told (run_clocked m fit full memory past b run mode) (run_tells m fit full memory past b run mode), state_told (run_clocked m fit full memory past b run mode) (run_tells m fit full memory past b run mode))
