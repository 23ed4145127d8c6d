-- The bounds hold at each state within a block of every run.
use Rattle.std.proofs.Common.{◌≡◌, ℕ, suc, pred, ◌+◌, ◌<◌, ◌≤◌, Bool, true, false, List, length, get_or, Option, Some, None, slice_get, refl, sym, ap, ◌∙◌, arith, ◌⊎◌, inl, inr, if◌then◌else◌}
use Rattle.std.proofs.lemmas.Bool.{cases_Bool, cases_lt, ltb-true, ltb-false}
use Rattle.std.proofs.lemmas.Option.{slice_get_within, slice_get-get_or, get_or_from_slice_get}
use Rattle.line_model.specs.Streams.{stream}
use Rattle.line_model.specs.Order.{StandsAt}
use Rattle.unit_law.specs.State.{Program, Work, Idle, Busy, Held, State, code_at, processor, is_free}
use Rattle.unit_law.specs.Fit.{AllFit, NoneEmpty}
use Rattle.unit_law.specs.Inside.{completed, completed_at}
use Rattle.time_interval.specs.declared.reference.Reference.{Reference}
use Rattle.time_interval.specs.declared.reference.Reference.TheVariants as since
use Rattle.time_interval.specs.declared.reference.Point.{Point}
use Rattle.time_interval.specs.declared.reference.Point.TheVariants.{StartOf, FinishOf, FireOf}
use Rattle.time_interval.specs.Bounds.{lo_of, up_of}
use Rattle.time_interval.specs.Lines.{HasPoint}
use Rattle.time_law.specs.Conflicts.{pace_of}
use Rattle.time_law.specs.Happened.{reference_at}
use Rattle.time_law.specs.Bounded.{BoundsHold, KeepsBounds, EndsHold, KeepsEnds}
use Rattle.time_law.proofs.Lookups.{tick_of, come_of}
use Rattle.time_law.proofs.Timed.{most_of, Clocked}
use Rattle.time_law.proofs.TimedLaws.{came_at, has_come, fire_at, is_fired, laws, fired_tick, unfired_tick, come_tick, late_tick, completed_le, held_on}
use Rattle.time_law.proofs.ByTime.{says, line_up, line_lo}
use Rattle.time_law.proofs.Points.{Tells}
use Rattle.time_law.proofs.Runs.{run_clocked, run_tells}

pub known_if : (v : Bool) (a t : ℕ) → (if v then Some a else None) ≡ Some t → (v ≡ true) × (a ≡ t)
known_if true a t e = (refl, cc)
known_if false a t e = absurd (cc)

none_if : (v : Bool) (a : ℕ) → (if v then Some a else None) ≡ None → v ≡ false
none_if true a e = absurd (cc)
none_if false a e = refl

absent : (cs : List ℕ) (k : ℕ) → slice_get cs k ≡ None → length cs ≤ k
absent cs k e = go (cases_lt k (length cs))
  where
    go : (k < length cs) ⊎ (length cs ≤ k) → length cs ≤ k
    go (inl lt) = let x : Some (get_or cs k 0) ≡ None = sym (slice_get-get_or cs k 0 lt) ∙ e in absurd (cc)
    go (inr le) = le

pub place_le : (w : Work) (place : ℕ) → place ≤ suc (completed_at w place)
place_le Idle place = omega arith
place_le (Busy until t operands) place = let x : place ≤ suc (pred place) = omega arith in x
place_le (Held until) place = omega arith

module _ {m : Program} {b : ℕ} {done : ℕ → Type 0} {s : State} {entry : ℕ} {came : ℕ → List ℕ} {fire : ℕ → ℕ} (clocked : Clocked m b done s entry came fire) {h : Point → Option ℕ} {took : ℕ → ℕ} (tells : Tells m (code_at m b) s came fire h took) where
  has_of : (p k : ℕ) → k < length (came p) → has_come clocked p k
  unfolding has_come
  has_of p k lt = lt

  fired_of : (j : ℕ) → get_or s.fired j false ≡ true → is_fired clocked j
  unfolding is_fired
  fired_of j f = f

  long : (p : ℕ) → length (came p) ≡ suc (completed (processor s p))
  long p = (clocked.timed.each p).long

  ref_tick : Reference → ℕ
  ref_tick r = tick_of (fire_at clocked) entry r

  ref_come : Reference → Type 0
  ref_come r = come_of (is_fired clocked) r

  ref_is : (r : Reference) (f : ℕ) → reference_at entry h r ≡ Some f → ref_tick r ≡ f
  unfolding ref_tick
  ref_is since.Start f e = cc
  ref_is (since.Bar k) f e = let (v, w) = known_if (get_or s.fired k false) (fire k) f (sym (tells.fires k) ∙ e) in fired_tick clocked k v ∙ w

  -- a tuple that has not started starts no earlier than now
  not_started : (p k t : ℕ) → StandsAt (code_at m b).line t p k → (processor s p).place ≤ k → s.clock ≤ came_at clocked p k
  not_started p k t at le = go (cases_lt k (length (came p)))
    where
      go : (k < length (came p)) ⊎ (length (came p) ≤ k) → s.clock ≤ came_at clocked p k
      go (inr ge) = let x = late_tick clocked p k ge in omega arith
      go (inl lt) = by (processor s p).work refl (cases_Bool (is_free s.clock (processor s p).work))
        where
          here : (completed (processor s p) ≡ k) × ((processor s p).place ≡ k)
          here = let x = long p in let y = completed_le clocked (processor s p).work (processor s p).place in (omega arith, omega arith)

          tick : came_at clocked p k ≡ get_or (came p) (processor s p).place 0
          tick = come_tick clocked p k lt ∙ ap (λ n. get_or (came p) n 0) (sym here.1)

          free_at : is_free s.clock (processor s p).work ≡ true → s.clock ≤ came_at clocked p k
          free_at f = let x = (clocked.timed.each p).now t f (ap (slice_get (stream p (code_at m b).line)) here.1 ∙ at.item) in let y = tick in omega arith

          by : (w : Work) → (processor s p).work ≡ w → (is_free s.clock (processor s p).work ≡ true) ⊎ (is_free s.clock (processor s p).work ≡ false) → s.clock ≤ came_at clocked p k
          by w e (inl f) = free_at f
          by Idle e (inr f) = free_at (ap (is_free s.clock) e)
          by (Held until) e (inr f) = let x = (held_on clocked p until e f).1 in let y = tick in omega arith
          by (Busy until u operands) e (inr f) =
              let (n, ep, item) = clocked.inside.work p until u operands e in
              let x : completed (processor s p) ≡ n = ap (λ w. completed_at w (processor s p).place) e ∙ ap pred ep in
              let y = here in absurd (omega (arith, y.0, y.1))

  low : (r : Reference) (x : Point) (f t l : ℕ) → HasPoint (code_at m b).line x → reference_at entry h r ≡ Some f → h x ≡ Some t → lo_of (pace_of m (code_at m b)) (code_at m b).line r x ≡ Some l → f + l ≤ t
  unfolding ref_tick ref_come
  low r (StartOf u) f t l hp e g k = go ((says clocked r (StartOf u) hp).1 l k)
    where
      go : (p n : ℕ) × StandsAt (code_at m b).line u p n × (has_come clocked p n → ref_come r × (ref_tick r + l ≤ came_at clocked p n)) → f + l ≤ t
      go (p, n, at, q) =
          let (v, w) = known_if _ _ t (sym (tells.starts p u n at) ∙ g) in
          let lt = ltb-true n (processor s p).place v in
          let z = place_le (processor s p).work (processor s p).place in
          let here : n < length (came p) = omega (arith, long p) in
          let x = (q (has_of p n here)).1 in
          let y = come_tick clocked p n here in let a = ref_is r f e in omega arith
  low r (FinishOf u) f t l hp e g k = go ((says clocked r (FinishOf u) hp).1 l k)
    where
      go : (p n : ℕ) × StandsAt (code_at m b).line u p n × (has_come clocked p (suc n) → ref_come r × (ref_tick r + l ≤ came_at clocked p (suc n))) → f + l ≤ t
      go (p, n, at, q) =
          let (v, w) = known_if _ _ t (sym (tells.ends p u n at) ∙ g) in
          let lt = ltb-true n (completed (processor s p)) v in
          let here : suc n < length (came p) = omega (arith, long p) in
          let x = (q (has_of p (suc n) here)).1 in
          let y = come_tick clocked p (suc n) here in let a = ref_is r f e in omega arith
  low r (FireOf j) f t l hp e g k =
      let (v, w) = known_if _ _ t (sym (tells.fires j) ∙ g) in
      let x = ((says clocked r (FireOf j) hp).1 l k (fired_of j v)).1 in
      let y = fired_tick clocked j v in let a = ref_is r f e in omega arith

  high : (r : Reference) (x : Point) (f t u : ℕ) → HasPoint (code_at m b).line x → reference_at entry h r ≡ Some f → h x ≡ Some t → up_of (pace_of m (code_at m b)) (code_at m b).line r x ≡ Some u → t ≤ f + u
  unfolding ref_tick
  high r (StartOf c) f t u hp e g k = go ((says clocked r (StartOf c) hp).0 u k)
    where
      go : (p n : ℕ) × StandsAt (code_at m b).line c p n × (came_at clocked p n ≤ ref_tick r + u) → t ≤ f + u
      go (p, n, at, x) =
          let (v, w) = known_if _ _ t (sym (tells.starts p c n at) ∙ g) in
          let lt = ltb-true n (processor s p).place v in
          let z = place_le (processor s p).work (processor s p).place in
          let y = come_tick clocked p n (omega (arith, long p)) in let a = ref_is r f e in omega arith
  high r (FinishOf c) f t u hp e g k = go ((says clocked r (FinishOf c) hp).0 u k)
    where
      go : (p n : ℕ) × StandsAt (code_at m b).line c p n × (came_at clocked p n + most_of m (code_at m b) c ≤ ref_tick r + u) → t ≤ f + u
      go (p, n, at, x) =
          let (v, w) = known_if _ _ t (sym (tells.ends p c n at) ∙ g) in
          let lt = ltb-true n (completed (processor s p)) v in
          let y = come_tick clocked p (suc n) (omega (arith, long p)) in
          let z = (laws clocked).run_up p n c at.item in let a = ref_is r f e in omega arith
  high r (FireOf j) f t u hp e g k =
      let (v, w) = known_if _ _ t (sym (tells.fires j) ∙ g) in
      let x = (says clocked r (FireOf j) hp).0 u k in
      let y = fired_tick clocked j v in let a = ref_is r f e in omega arith

  not_yet : (r : Reference) (x : Point) (f u : ℕ) → HasPoint (code_at m b).line x → reference_at entry h r ≡ Some f → h x ≡ None → up_of (pace_of m (code_at m b)) (code_at m b).line r x ≡ Some u → s.clock ≤ f + u
  unfolding ref_tick
  not_yet r (StartOf c) f u hp e g k = go ((says clocked r (StartOf c) hp).0 u k)
    where
      go : (p n : ℕ) × StandsAt (code_at m b).line c p n × (came_at clocked p n ≤ ref_tick r + u) → s.clock ≤ f + u
      go (p, n, at, x) =
          let v = none_if _ _ (sym (tells.starts p c n at) ∙ g) in
          let y = not_started p n c at (ltb-false n (processor s p).place v) in let a = ref_is r f e in omega arith
  not_yet r (FinishOf c) f u hp e g k = go ((says clocked r (FinishOf c) hp).0 u k)
    where
      go : (p n : ℕ) × StandsAt (code_at m b).line c p n × (came_at clocked p n + most_of m (code_at m b) c ≤ ref_tick r + u) → s.clock ≤ f + u
      go (p, n, at, x) =
          let v = none_if _ _ (sym (tells.ends p c n at) ∙ g) in
          let le = ltb-false n (completed (processor s p)) v in
          let y = late_tick clocked p (suc n) (omega (arith, long p)) in
          let z = (laws clocked).run_up p n c at.item in let a = ref_is r f e in omega arith
  not_yet r (FireOf j) f u hp e g k =
      let v = none_if _ _ (sym (tells.fires j) ∙ g) in
      let x = (says clocked r (FireOf j) hp).0 u k in
      let y = unfired_tick clocked j v in let a = ref_is r f e in omega arith

  -- behind the whole line
  came_is : (p t : ℕ) → slice_get (came p) (length (stream p (code_at m b).line)) ≡ Some t → (length (stream p (code_at m b).line) < length (came p)) × (came_at clocked p (length (stream p (code_at m b).line)) ≡ t)
  came_is p t e =
      let lt = slice_get_within (came p) (length (stream p (code_at m b).line)) t e in
      (lt, come_tick clocked p (length (stream p (code_at m b).line)) lt ∙ get_or_from_slice_get (came p) (length (stream p (code_at m b).line)) t 0 e)

  pub ends_hold : EndsHold (pace_of m (code_at m b)) (code_at m b).line s.clock entry (record { came = came; at = h; took = took })
  unfolding ref_tick
  ends_hold = record {
    low = λ r p f t l e g k. let (lt, x) = came_is p t g in let y = line_lo clocked r p l k (has_of p (length (stream p (code_at m b).line)) lt) in let z = ref_is r f e in omega arith;
    high = λ r p f t u e g k. let (lt, x) = came_is p t g in let y = line_up clocked r p u k in let z = ref_is r f e in omega arith;
    not_yet = λ r p f u e g k.
        let x = late_tick clocked p (length (stream p (code_at m b).line)) (absent (came p) (length (stream p (code_at m b).line)) g) in
        let y = line_up clocked r p u k in let z = ref_is r f e in omega arith;
  }

  pub bounds_hold : BoundsHold (pace_of m (code_at m b)) (code_at m b).line s.clock entry h
  bounds_hold = record { low = low; high = high; not_yet = not_yet }

-- ---- every run
pub ends_are_sound : (m : Program) → AllFit m → NoneEmpty m → KeepsEnds m
ends_are_sound m fit full memory past b run mode = ends_hold (run_clocked m fit full memory past b run mode) (run_tells m fit full memory past b run mode)

pub are_sound : (m : Program) → AllFit m → NoneEmpty m → KeepsBounds m
are_sound m fit full memory past b run mode = bounds_hold (run_clocked m fit full memory past b run mode) (run_tells m fit full memory past b run mode)
