-- The ticks of a state within a block keep the local laws on which the bounds along a line stand.
use Rattle.std.proofs.Common.{◌≡◌, ℕ, suc, pred, ◌+◌, ◌<◌, ◌≤◌, Bool, true, false, not, ◌&&◌, List, length, get_or, Some, slice_get, nat_eq, refl, sym, ap, ◌∙◌, subst, le_trans, le_refl, arith, ◌⊎◌, inl, inr, if◌then◌else◌}
use Rattle.std.proofs.lemmas.Bool.{cases_Bool, cases_eq, cases_lt, both_ways, and_parts, and_from, and_cases, cond-true, cond-false, eqb-true, eqb-false, eq-eqb, not-true, not-false, lt-ltb, leb-false}
use Rattle.std.proofs.lemmas.List.{get_or_past, get_or_default}
use Rattle.std.proofs.lemmas.Option.{slice_get-get_or}
use Rattle.line_model.specs.declared.line.StreamItem.TheVariants.{Do}
use Rattle.bm_base.specs.Mask.{has_bit}
use Rattle.line_model.specs.Streams.{stream, masks, before}
use Rattle.line_model.specs.Order.{HasMember}
use Rattle.unit_law.specs.State.{Program, Work, Idle, Busy, Held, State, code_at, processor, is_free, is_wait, waits}
use Rattle.unit_law.specs.Units.{IsReady}
use Rattle.unit_law.proofs.Agree.{grows, member_wait}
use Rattle.unit_law.specs.Inside.{completed, completed_at}
use Rattle.unit_law.proofs.Search.{First, search_below}
use Rattle.time_law.proofs.Timed.{least_of, most_of, Cause, Clocked}
use Rattle.time_law.specs.Conflicts.{pace_of}
use Rattle.time_law.proofs.Fold.{Laws}

-- the tick at a place, or the clock where there is none yet
pub tick_le : (cs : List ℕ) (k clock : ℕ) → get_or cs k 0 ≤ get_or cs k clock
tick_le cs k clock = go (cases_lt k (length cs))
  where
    go : (k < length cs) ⊎ (length cs ≤ k) → get_or cs k 0 ≤ get_or cs k clock
    go (inl h) = let e = get_or_default cs k 0 clock h in omega arith
    go (inr h) = let e = get_or_past cs k 0 h in omega arith

module _ {m : Program} {b : ℕ} {done : ℕ → Type 0} {s : State} {entry : ℕ} {came : ℕ → List ℕ} {fire : ℕ → ℕ} (clocked : Clocked m b done s entry came fire) where
  unfoldable pub came_at : ℕ → ℕ → ℕ
  came_at p k = get_or (came p) k s.clock

  unfoldable pub has_come : ℕ → ℕ → Type 0
  has_come p k = k < length (came p)

  unfoldable pub fire_at : ℕ → ℕ
  fire_at j = if get_or s.fired j false then fire j else s.clock

  unfoldable pub is_fired : ℕ → Type 0
  is_fired j = get_or s.fired j false ≡ true

  pub fired_tick : (j : ℕ) → get_or s.fired j false ≡ true → fire_at j ≡ fire j
  unfolding fire_at
  fired_tick j f = cond-true _ _ _ f

  pub unfired_tick : (j : ℕ) → get_or s.fired j false ≡ false → fire_at j ≡ s.clock
  unfolding fire_at
  unfired_tick j f = cond-false _ _ _ f

  pub come_tick : (p k : ℕ) → k < length (came p) → came_at p k ≡ get_or (came p) k 0
  unfolding came_at
  come_tick p k lt = get_or_default (came p) k s.clock 0 lt

  pub late_tick : (p k : ℕ) → length (came p) ≤ k → came_at p k ≡ s.clock
  unfolding came_at
  late_tick p k le = get_or_past (came p) k s.clock le

  pub completed_le : (w : Work) (place : ℕ) → completed_at w place ≤ place
  completed_le Idle place = le_refl _
  completed_le (Busy until t operands) place = let x : pred place ≤ place = omega arith in x
  completed_le (Held until) place = le_refl _

  pub long_le : (p : ℕ) → length (came p) ≤ suc (processor s p).place
  long_le p = let x = (clocked.timed.each p).long in let y = completed_le (processor s p).work (processor s p).place in omega arith

  pub not_passed : (j p : ℕ) → HasMember (code_at m b).line j p → get_or s.fired j false ≡ false → (processor s p).place ≤ before p j (code_at m b).line
  not_passed j p h f = go (cases_lt _ _)
    where
      go : (before p j (code_at m b).line < (processor s p).place) ⊎ ((processor s p).place ≤ before p j (code_at m b).line) → (processor s p).place ≤ before p j (code_at m b).line
      go (inl x) = absurd (both_ways _ f (clocked.inside.agrees.fired_if j p h x))
      go (inr x) = x

  -- a processor that is held past the clock goes on later
  pub held_on : (p until : ℕ) → (processor s p).work ≡ Held until → is_free s.clock (processor s p).work ≡ false → (completed (processor s p) ≡ (processor s p).place) × (s.clock < get_or (came p) (processor s p).place 0)
  held_on p until e f =
      let later : s.clock < until = leb-false until s.clock (sym (ap (is_free s.clock) e) ∙ f) in
      let d : completed (processor s p) ≡ (processor s p).place = ap (λ w. completed_at w (processor s p).place) e in
      let x = (clocked.timed.each p).held until e in
      let y = ap (λ k. get_or (came p) k 0) d in (d, omega arith)

  -- the item that a processor works on, or stands at, ends no earlier than now
  pub last_run : (p : ℕ) → (w : Work) → (processor s p).work ≡ w → (k t : ℕ) → slice_get (stream p (code_at m b).line) k ≡ Some (Do t) → completed (processor s p) ≡ k → s.clock ≤ get_or (came p) k 0 + most_of m (code_at m b) t
  last_run p Idle e k t item c = stands_run p k t item c (ap (is_free s.clock) e) (sym (ap (λ w. completed_at w (processor s p).place) e) ∙ c)
    where
      stands_run : (p k t : ℕ) → slice_get (stream p (code_at m b).line) k ≡ Some (Do t) → completed (processor s p) ≡ k → is_free s.clock (processor s p).work ≡ true → (processor s p).place ≡ k → s.clock ≤ get_or (came p) k 0 + most_of m (code_at m b) t
      stands_run p k t item c free place =
          let now = (clocked.timed.each p).now t free (ap (slice_get (stream p (code_at m b).line)) place ∙ item) in
          let x = ap (λ n. get_or (came p) n 0) place in omega arith
  last_run p (Held until) e k t item c = go (cases_Bool (is_free s.clock (processor s p).work))
    where
      place : (processor s p).place ≡ k
      place = sym (ap (λ w. completed_at w (processor s p).place) e) ∙ c

      go : (is_free s.clock (processor s p).work ≡ true) ⊎ (is_free s.clock (processor s p).work ≡ false) → s.clock ≤ get_or (came p) k 0 + most_of m (code_at m b) t
      go (inl free) =
          let now = (clocked.timed.each p).now t free (ap (slice_get (stream p (code_at m b).line)) place ∙ item) in
          let x = ap (λ n. get_or (came p) n 0) place in omega arith
      go (inr f) = let (d, later) = held_on p until e f in let x = ap (λ n. get_or (came p) n 0) place in omega arith
  last_run p (Busy until u operands) e k t item c =
      let (k', ep, at) = clocked.inside.work p until u operands e in
      let b0 = clocked.inside.ticks p until u operands e in
      let (b1, b2) = (clocked.timed.each p).busy until u operands e in
      let ck : completed (processor s p) ≡ k' = ap (λ w. completed_at w (processor s p).place) e ∙ ap pred ep in
      let same : Some (Do u) ≡ Some (Do t) = sym at ∙ ap (slice_get (stream p (code_at m b).line)) (sym ck ∙ c) ∙ item in
      let ut : u ≡ t = cc in
      let x = ap (λ n. get_or (came p) n 0) c in let y = ap (most_of m (code_at m b)) ut in
      omega arith

  run_up : (p k t : ℕ) → slice_get (stream p (code_at m b).line) k ≡ Some (Do t) → came_at p (suc k) ≤ came_at p k + most_of m (code_at m b) t
  run_up p k t item = go (cases_lt (suc k) (length (came p))) (cases_lt k (length (came p)))
    where
      go : (suc k < length (came p)) ⊎ (length (came p) ≤ suc k) → (k < length (came p)) ⊎ (length (came p) ≤ k) → came_at p (suc k) ≤ came_at p k + most_of m (code_at m b) t
      go (inl h) g = let x = ((clocked.timed.each p).ran k t item h).1 in omega (arith, come_tick p (suc k) h, come_tick p k (omega arith))
      go (inr h) (inl g) = let l = (clocked.timed.each p).long in let x = last_run p (processor s p).work refl k t item (omega arith) in omega (arith, late_tick p (suc k) h, come_tick p k g)
      go (inr h) (inr g) = omega (arith, late_tick p (suc k) h, late_tick p k g)

  run_lo : (p k t : ℕ) → slice_get (stream p (code_at m b).line) k ≡ Some (Do t) → has_come p (suc k) → has_come p k × (came_at p k + least_of m (code_at m b) t ≤ came_at p (suc k))
  unfolding has_come
  run_lo p k t item h = let x = ((clocked.timed.each p).ran k t item h).0 in (omega arith, omega (arith, come_tick p (suc k) h, come_tick p k (omega arith)))

  cause_up : (j x : ℕ) → x ≤ s.clock → Cause (code_at m b).line came (λ n. get_or s.fired n false) fire j x → ((p : ℕ) × HasMember (code_at m b).line j p × (x ≤ came_at p (before p j (code_at m b).line))) ⊎ ((n : ℕ) × (j ≡ suc n) × (x ≤ fire_at n))
  unfolding came_at
  cause_up j x le (inl (p, h, l)) = inl (p, h, le_trans l (tick_le (came p) (before p j (code_at m b).line) s.clock))
  cause_up j x le (inr (n, e, f)) = inr (n, e, go (cases_Bool (get_or s.fired n false)))
    where
      go : (get_or s.fired n false ≡ true) ⊎ (get_or s.fired n false ≡ false) → x ≤ fire_at n
      go (inl g) = let y = f g in let z = fired_tick n g in omega arith
      go (inr g) = let z = unfired_tick n g in omega arith

  bar_up : (j : ℕ) → j < length (masks (code_at m b).line) → ((p : ℕ) × HasMember (code_at m b).line j p × (fire_at j ≤ came_at p (before p j (code_at m b).line))) ⊎ ((n : ℕ) × (j ≡ suc n) × (fire_at j ≤ fire_at n))
  bar_up j within = go (cases_Bool (get_or s.fired j false))
    where
      Up : ℕ → Type 0
      Up x = ((p : ℕ) × HasMember (code_at m b).line j p × (x ≤ came_at p (before p j (code_at m b).line))) ⊎ ((n : ℕ) × (j ≡ suc n) × (x ≤ fire_at n))

      mask : ℕ
      mask = get_or (masks (code_at m b).line) j 0

      at : slice_get (masks (code_at m b).line) j ≡ Some mask
      at = slice_get-get_or (masks (code_at m b).line) j 0 within

      arrived : ℕ → Bool
      arrived p = is_free s.clock (processor s p).work && nat_eq (processor s p).place (before p j (code_at m b).line)

      mem : (p : ℕ) → has_bit mask p ≡ true → HasMember (code_at m b).line j p
      mem p h = record { mask = mask; at = at; has = h }

      -- a member that has not arrived, or is held, can go on now at the earliest
      late : (p : ℕ) → has_bit mask p ≡ true → get_or s.fired j false ≡ false → arrived p ≡ false → s.clock ≤ came_at p (before p j (code_at m b).line)
      late p h f a = pick (processor s p).work refl (cases_eq (processor s p).place (before p j (code_at m b).line)) (and_cases _ _ a)
        where
          behind : (processor s p).place ≤ before p j (code_at m b).line
          behind = not_passed j p (mem p h) f

          not_there : length (came p) ≤ before p j (code_at m b).line → s.clock ≤ came_at p (before p j (code_at m b).line)
          not_there le = let e = late_tick p (before p j (code_at m b).line) le in omega arith

          pick : (w : Work) → (processor s p).work ≡ w → ((processor s p).place ≡ before p j (code_at m b).line) ⊎ ((processor s p).place ≡ before p j (code_at m b).line → ⊥) → (is_free s.clock (processor s p).work ≡ false) ⊎ (nat_eq (processor s p).place (before p j (code_at m b).line) ≡ false) → s.clock ≤ came_at p (before p j (code_at m b).line)
          pick (Busy until t operands) e q c = not_there (let (k, ep, item) = clocked.inside.work p until t operands e in let l = (clocked.timed.each p).long in let x : completed (processor s p) ≡ k = ap (λ w. completed_at w (processor s p).place) e ∙ ap pred ep in let y = behind in omega arith)
          pick Idle e q (inl c) = absurd (both_ways _ c (ap (is_free s.clock) e))
          pick Idle e q (inr c) = not_there (let ne = eqb-false _ _ c in let l = (clocked.timed.each p).long in let x : completed (processor s p) ≡ (processor s p).place = ap (λ w. completed_at w (processor s p).place) e in let y = behind in omega arith)
          pick (Held until) e (inr ne) c = not_there (let l = (clocked.timed.each p).long in let x : completed (processor s p) ≡ (processor s p).place = ap (λ w. completed_at w (processor s p).place) e in let y = behind in omega arith)
          pick (Held until) e (inl q) (inr c) = absurd (both_ways _ c (eq-eqb _ _ q))
          pick (Held until) e (inl q) (inl c) =
              let (d, later) = held_on p until e c in
              let l = (clocked.timed.each p).long in
              let x = come_tick p (before p j (code_at m b).line) (omega arith) in
              let y = ap (λ n. get_or (came p) n 0) q in omega arith

      ready : get_or s.fired j false ≡ false → ((p : ℕ) → has_bit mask p ≡ true → arrived p ≡ true) → IsReady (masks (code_at m b).line) s.fired (waits (code_at m b) s) j
      ready f all = record { mask = mask; at = at; unfired = f; all_wait = λ p h. waiting p h (both p (all p h)); first = λ k o p lt e g h. first k o p lt e g h (eqb-true (processor s p).place (before p j (code_at m b).line) (both p (all p h)).1) }
        where
          both : (p : ℕ) → arrived p ≡ true → (is_free s.clock (processor s p).work ≡ true) × (nat_eq (processor s p).place (before p j (code_at m b).line) ≡ true)
          both p e = and_parts (is_free s.clock (processor s p).work) (nat_eq (processor s p).place (before p j (code_at m b).line)) e

          waiting : (p : ℕ) → has_bit mask p ≡ true → (is_free s.clock (processor s p).work ≡ true) × (nat_eq (processor s p).place (before p j (code_at m b).line) ≡ true) → waits (code_at m b) s p ≡ true
          waiting p h (x, y) = and_from _ _ (lt-ltb p (length s.processors) (let z = clocked.fit.members j p (mem p h) in omega (arith, clocked.inside.processors))) (and_from _ _ x (ap is_wait (ap (slice_get (stream p (code_at m b).line)) (eqb-true _ _ y) ∙ member_wait (code_at m b).line j p (mem p h))))

          first : (k o p : ℕ) → k < j → slice_get (masks (code_at m b).line) k ≡ Some o → has_bit o p ≡ true → has_bit mask p ≡ true → (processor s p).place ≡ before p j (code_at m b).line → get_or s.fired k false ≡ true
          first k o p lt e g h pl = let hk : HasMember (code_at m b).line k p = record { mask = o; at = e; has = g } in let x = grows (code_at m b).line k j p hk (mem p h) lt in clocked.inside.agrees.fired_if k p hk (omega arith)

      go : (get_or s.fired j false ≡ true) ⊎ (get_or s.fired j false ≡ false) → Up (fire_at j)
      go (inl f) = subst Up (sym (fired_tick j f)) (cause_up j (fire j) (clocked.timed.fire_past j f) (clocked.timed.fire_cause j f))
      go (inr f) = subst Up (sym (unfired_tick j f)) (unfired (search_below (λ p. has_bit mask p && not (arrived p)) m.machine.processors))
        where
          unfired : First (λ p. has_bit mask p && not (arrived p)) m.machine.processors ⊎ ((p : ℕ) → p < m.machine.processors → (has_bit mask p && not (arrived p)) ≡ false) → Up s.clock
          unfired (inl x) = let (h, a) = and_parts _ _ x.is in inl (x.at, mem x.at h, late x.at h f (not-true _ a))
          unfired (inr none) = cause_up j s.clock (le_refl _) (clocked.timed.ready_cause j (ready f all))
            where
              all : (p : ℕ) → has_bit mask p ≡ true → arrived p ≡ true
              all p h = pick (and_cases _ _ (none p (clocked.fit.members j p (mem p h))))
                where
                  pick : (has_bit mask p ≡ false) ⊎ (not (arrived p) ≡ false) → arrived p ≡ true
                  pick (inl x) = absurd (both_ways _ x h)
                  pick (inr x) = not-false _ x

  on_up : (j p : ℕ) → HasMember (code_at m b).line j p → came_at p (suc (before p j (code_at m b).line)) ≤ fire_at j + m.machine.delay
  on_up j p h = go (cases_Bool (get_or s.fired j false))
    where
      go : (get_or s.fired j false ≡ true) ⊎ (get_or s.fired j false ≡ false) → came_at p (suc (before p j (code_at m b).line)) ≤ fire_at j + m.machine.delay
      go (inl f) = let a = clocked.timed.at_fire j p h f in let x = come_tick p _ a.within in let y = a.left in let z = fired_tick j f in omega arith
      go (inr f) = let x = not_passed j p h f in let y = long_le p in let z = late_tick p (suc (before p j (code_at m b).line)) (omega arith) in let w = unfired_tick j f in omega arith

  on_lo : (j p : ℕ) → HasMember (code_at m b).line j p → has_come p (suc (before p j (code_at m b).line)) → is_fired j × (fire_at j + m.machine.delay ≤ came_at p (suc (before p j (code_at m b).line)))
  unfolding has_come is_fired
  on_lo j p h l =
      let y = long_le p in
      let f = clocked.inside.agrees.fired_if j p h (omega arith) in
      let a = clocked.timed.at_fire j p h f in let x = come_tick p (suc (before p j (code_at m b).line)) l in let z = a.left in let w = fired_tick j f in (f, omega arith)

  bar_lo : (j p : ℕ) → HasMember (code_at m b).line j p → is_fired j → has_come p (before p j (code_at m b).line) × (came_at p (before p j (code_at m b).line) ≤ fire_at j)
  unfolding has_come is_fired
  bar_lo j p h f = let a = clocked.timed.at_fire j p h f in let w = a.within in let l = a.arrived in (omega arith, omega (arith, come_tick p (before p j (code_at m b).line) (omega arith), fired_tick j f))

  pub laws : Laws (pace_of m (code_at m b)) (code_at m b).line came_at has_come fire_at is_fired
  laws = record { run_up = run_up; run_lo = run_lo; bar_up = bar_up; bar_lo = bar_lo; on_up = on_up; on_lo = on_lo }
