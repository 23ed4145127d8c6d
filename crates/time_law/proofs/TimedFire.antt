-- A Fire keeps the laws on ticks, and a block's entry begins them.
use Rattle.std.proofs.Common.{◌≡◌, ℕ, suc, ◌+◌, ◌<◌, ◌≤◌, true, false, ◌&&◌, List, [], ◌∷◌, ◌++◌, length, get_or, set, Some, slice_get, refl, sym, ap, ◌∙◌, subst, le_refl, arith, ◌⊎◌, inl, inr, get_or-set_same, get_or-set_other}
use Rattle.std.proofs.lemmas.Bool.{cases_Bool, cases_eq, both_ways, and_parts, and_cases}
use Rattle.std.proofs.lemmas.List.{length_push}
use Rattle.std.proofs.lemmas.Option.{slice_get_within}
use Rattle.bm_base.specs.Mask.{has_bit}
use Rattle.line_model.specs.Streams.{masks, before}
use Rattle.line_model.specs.Order.{HasMember}
use Rattle.tuple_ir.specs.World.{World}
use Rattle.unit_law.specs.State.{Program, State, at_start, code_at, entered, processor, is_free, waits}
use Rattle.unit_law.specs.Units.{IsReady}
use Rattle.unit_law.specs.Steps.{resumed, passed}
use Rattle.unit_law.specs.Fit.{IsFit}
use Rattle.unit_law.proofs.Agree.{at_wait}
use Rattle.unit_law.specs.Inside.{Inside, completed}
use Rattle.unit_law.proofs.Inside.{free_completed, waits_parts, passed_has, passed_not, fired_all, is_ready, wait_at, bound}
use Rattle.unit_law.proofs.Kept.{length-passed}
use Rattle.unit_law.proofs.Fronts.{none_fired}
use Rattle.unit_law.proofs.Ordered.{entered_at}
use Rattle.unit_law.proofs.Search.{First, search_below}
use Rattle.time_law.proofs.Timed.{TimedAt, Cause, AtFire, Timed, Clocked, push_at, push_last, push_le, resumed_at}
use Rattle.time_law.proofs.TimedSteps.{waits_same, cause_keeps, at_fire_keeps}

module _ {m : Program} {b : ℕ} {done : ℕ → Type 0} {s : State} {entry : ℕ} {came : ℕ → List ℕ} {fire : ℕ → ℕ} (clocked : Clocked m b done s entry came fire) (j : ℕ) (r : IsReady (masks (code_at m b).line) s.fired (waits (code_at m b) s) j) (came' : ℕ → List ℕ) (fire' : ℕ → ℕ) (member : (q : ℕ) → has_bit r.mask q ≡ true → came' q ≡ came q ++ (s.clock + m.machine.delay) ∷ []) (other : (q : ℕ) → has_bit r.mask q ≡ false → came' q ≡ came q) (now : fire' j ≡ s.clock) (same : (k : ℕ) → (k ≡ j → ⊥) → fire' k ≡ fire k) where
  unfoldable pub fired_state : State
  fired_state = record s { processors = passed (s.clock + m.machine.delay) r.mask 0 s.processors; fired = set s.fired j true }

  within : j < length s.fired
  within = let x = slice_get_within (masks (code_at m b).line) j r.mask r.at in omega (arith, clocked.inside.masks_are)

  fired_now : get_or (set s.fired j true) j false ≡ true
  fired_now = get_or-set_same s.fired j true false within

  fired_same : (k : ℕ) → (k ≡ j → ⊥) → get_or (set s.fired j true) k false ≡ get_or s.fired k false
  fired_same k ne = get_or-set_other s.fired j k true false ne

  mem : (q : ℕ) → has_bit r.mask q ≡ true → HasMember (code_at m b).line j q
  mem q h = record { mask = r.mask; at = r.at; has = h }

  place_is : (q : ℕ) → has_bit r.mask q ≡ true → before q j (code_at m b).line ≡ (processor s q).place
  place_is q h = at_wait (code_at m b).line _ _ clocked.inside.agrees j r.mask (is_ready m b clocked.fit done s clocked.inside j r) q h

  free : (q : ℕ) → has_bit r.mask q ≡ true → is_free s.clock (processor s q).work ≡ true
  free q h = (waits_parts (code_at m b) s q (r.all_wait q h)).0

  done_is : (q : ℕ) → has_bit r.mask q ≡ true → completed (processor s q) ≡ (processor s q).place
  done_is q h = free_completed s.clock (processor s q).work (processor s q).place (free q h)

  long : (q : ℕ) → has_bit r.mask q ≡ true → length (came q) ≡ suc (processor s q).place
  long q h = (clocked.timed.each q).long ∙ ap suc (done_is q h)

  fire_up : (q k : ℕ) → get_or (came q) k 0 ≤ get_or (came' q) k 0
  fire_up q k = go (cases_Bool (has_bit r.mask q))
    where
      go : (has_bit r.mask q ≡ true) ⊎ (has_bit r.mask q ≡ false) → get_or (came q) k 0 ≤ get_or (came' q) k 0
      go (inl h) = let x = ap (λ cs. get_or cs k 0) (member q h) in let z = push_le (came q) (s.clock + m.machine.delay) k in omega arith
      go (inr h) = let x = ap (λ cs. get_or cs k 0) (other q h) in omega arith

  fire_later : (x : ℕ) → x ≤ s.clock → (k : ℕ) → get_or (set s.fired j true) k false ≡ true → (get_or s.fired k false ≡ true → x ≤ fire k) → x ≤ fire' k
  fire_later x le k f g = go (cases_eq k j)
    where
      go : (k ≡ j) ⊎ (k ≡ j → ⊥) → x ≤ fire' k
      go (inl e) = let y : fire' k ≡ s.clock = ap fire' e ∙ now in omega arith
      go (inr ne) = let y = same k ne in let z = g (sym (fired_same k ne) ∙ f) in omega arith

  carried : (k x : ℕ) → x ≤ s.clock → Cause (code_at m b).line came (λ n. get_or s.fired n false) fire k x → Cause (code_at m b).line came' (λ n. get_or (set s.fired j true) n false) fire' k x
  carried k x le c = cause_keeps (code_at m b).line came came' _ _ fire fire' k x fire_up (fire_later x le) c

  each : (q : ℕ) → TimedAt m (code_at m b) entry s.clock q (processor fired_state q) (came' q)
  unfolding fired_state
  each = fired_all (λ q x. TimedAt m (code_at m b) entry s.clock q x (came' q)) (s.clock + m.machine.delay) r.mask s.processors (bound m b clocked.fit done s clocked.inside j r) yes_ no_
    where
      yes_ : (q : ℕ) → has_bit r.mask q ≡ true → TimedAt m (code_at m b) entry s.clock q (resumed (s.clock + m.machine.delay) (processor s q)) (came' q)
      yes_ q h = subst (TimedAt m (code_at m b) entry s.clock q (resumed (s.clock + m.machine.delay) (processor s q))) (sym (member q h)) (resumed_at m (code_at m b) entry s.clock q m.machine.delay (processor s q) (came q) (free q h) (wait_at m b clocked.fit done s clocked.inside j r q h) (clocked.timed.each q))

      no_ : (q : ℕ) → has_bit r.mask q ≡ false → TimedAt m (code_at m b) entry s.clock q (processor s q) (came' q)
      no_ q h = subst (TimedAt m (code_at m b) entry s.clock q (processor s q)) (sym (other q h)) (clocked.timed.each q)

  mask_same : (q : ℕ) (h : HasMember (code_at m b).line j q) → has_bit r.mask q ≡ true
  mask_same q h = let e : Some h.mask ≡ Some r.mask = sym h.at ∙ r.at in let g : h.mask ≡ r.mask = cc in ap (λ x. has_bit x q) (sym g) ∙ h.has

  at_fire : (k q : ℕ) → HasMember (code_at m b).line k q → get_or (set s.fired j true) k false ≡ true → AtFire (code_at m b).line m.machine.delay (came' q) (fire' k) k q
  at_fire k q h f = go (cases_eq k j) (cases_Bool (has_bit r.mask q))
    where
      go : (k ≡ j) ⊎ (k ≡ j → ⊥) → (has_bit r.mask q ≡ true) ⊎ (has_bit r.mask q ≡ false) → AtFire (code_at m b).line m.machine.delay (came' q) (fire' k) k q
      go (inl e) g = subst (λ n. AtFire (code_at m b).line m.machine.delay (came' q) (fire' n) n q) (sym e) (here (mask_same q (record { mask = h.mask; at = ap (slice_get (masks (code_at m b).line)) (sym e) ∙ h.at; has = h.has })))
        where
          here : has_bit r.mask q ≡ true → AtFire (code_at m b).line m.machine.delay (came' q) (fire' j) j q
          here g = subst (λ cs. AtFire (code_at m b).line m.machine.delay cs (fire' j) j q) (sym (member q g)) (record {
            within = omega (arith, length_push (came q) (s.clock + m.machine.delay), long q g, place_is q g);
            left = push_last (came q) (s.clock + m.machine.delay) (suc (before q j (code_at m b).line)) (long q g ∙ ap suc (sym (place_is q g))) ∙ ap (λ x. x + m.machine.delay) (sym now);
            arrived = let x = (clocked.timed.each q).past (free q g) in let z = ap (λ k. get_or (came q) k 0) (place_is q g ∙ sym (done_is q g)) in let y = push_at (came q) (s.clock + m.machine.delay) (before q j (code_at m b).line) (omega (arith, long q g, place_is q g)) in omega (arith, now);
          })
      go (inr ne) (inl g) = subst (λ x. AtFire (code_at m b).line m.machine.delay (came' q) x k q) (sym (same k ne)) (subst (λ cs. AtFire (code_at m b).line m.machine.delay cs (fire k) k q) (sym (member q g)) (at_fire_keeps (code_at m b).line m.machine.delay (came q) (s.clock + m.machine.delay) (fire k) k q (clocked.timed.at_fire k q h (sym (fired_same k ne) ∙ f))))
      go (inr ne) (inr g) = subst (λ x. AtFire (code_at m b).line m.machine.delay (came' q) x k q) (sym (same k ne)) (subst (λ cs. AtFire (code_at m b).line m.machine.delay cs (fire k) k q) (sym (other q g)) (clocked.timed.at_fire k q h (sym (fired_same k ne) ∙ f)))

  fire_past : (k : ℕ) → get_or (set s.fired j true) k false ≡ true → fire' k ≤ s.clock
  fire_past k f = go (cases_eq k j)
    where
      go : (k ≡ j) ⊎ (k ≡ j → ⊥) → fire' k ≤ s.clock
      go (inl e) = let y : fire' k ≡ s.clock = ap fire' e ∙ now in omega arith
      go (inr ne) = let y = same k ne in let z = clocked.timed.fire_past k (sym (fired_same k ne) ∙ f) in omega arith

  fire_cause : (k : ℕ) → get_or (set s.fired j true) k false ≡ true → Cause (code_at m b).line came' (λ n. get_or (set s.fired j true) n false) fire' k (fire' k)
  fire_cause k f = go (cases_eq k j)
    where
      go : (k ≡ j) ⊎ (k ≡ j → ⊥) → Cause (code_at m b).line came' (λ n. get_or (set s.fired j true) n false) fire' k (fire' k)
      go (inl e) = subst (λ n. Cause (code_at m b).line came' (λ n. get_or (set s.fired j true) n false) fire' n (fire' n)) (sym e) (subst (Cause (code_at m b).line came' (λ n. get_or (set s.fired j true) n false) fire' j) (sym now) (carried j s.clock (le_refl _) (clocked.timed.ready_cause j r)))
      go (inr ne) = let f' = sym (fired_same k ne) ∙ f in subst (Cause (code_at m b).line came' (λ n. get_or (set s.fired j true) n false) fire' k) (sym (same k ne)) (carried k (fire k) (clocked.timed.fire_past k f') (clocked.timed.fire_cause k f'))

  -- a mask that is ready after the Fire shares a member with it, or was ready before
  was_ready : (k : ℕ) (q : IsReady (masks (code_at m b).line) (set s.fired j true) (waits (code_at m b) fired_state) k) → ((p : ℕ) → has_bit q.mask p ≡ true → has_bit r.mask p ≡ false) → IsReady (masks (code_at m b).line) s.fired (waits (code_at m b) s) k
  unfolding fired_state
  was_ready k q apart = record { mask = q.mask; at = q.at; unfired = sym (fired_same k not_j) ∙ q.unfired; all_wait = λ p h. waits_same (code_at m b) s fired_state p refl (length-passed (s.clock + m.machine.delay) r.mask 0 s.processors) (passed_not (s.clock + m.machine.delay) r.mask s.processors p (apart p h)) (q.all_wait p h); first = λ n o p lt e g h. first n o p e g h (q.first n o p lt e g h) }
    where
      not_j : k ≡ j → ⊥
      not_j e = both_ways _ q.unfired (ap (λ n. get_or (set s.fired j true) n false) e ∙ fired_now)

      first : (n o p : ℕ) → slice_get (masks (code_at m b).line) n ≡ Some o → has_bit o p ≡ true → has_bit q.mask p ≡ true → get_or (set s.fired j true) n false ≡ true → get_or s.fired n false ≡ true
      first n o p e g h f = sym (fired_same n (λ x. both_ways _ (apart p h) (mask_same p (record { mask = o; at = ap (slice_get (masks (code_at m b).line)) (sym x) ∙ e; has = g })))) ∙ f

  ready_cause : Inside m (code_at m b) done fired_state → (k : ℕ) → IsReady (masks (code_at m b).line) (set s.fired j true) (waits (code_at m b) fired_state) k → Cause (code_at m b).line came' (λ n. get_or (set s.fired j true) n false) fire' k s.clock
  unfolding fired_state
  ready_cause inside k q = go (search_below (λ p. has_bit q.mask p && has_bit r.mask p) m.machine.processors)
    where
      go : First (λ p. has_bit q.mask p && has_bit r.mask p) m.machine.processors ⊎ ((p : ℕ) → p < m.machine.processors → (has_bit q.mask p && has_bit r.mask p) ≡ false) → Cause (code_at m b).line came' (λ n. get_or (set s.fired j true) n false) fire' k s.clock
      go (inl f) = let (a, c) = and_parts _ _ f.is in shared f.at a c
        where
          shared : (p : ℕ) → has_bit q.mask p ≡ true → has_bit r.mask p ≡ true → Cause (code_at m b).line came' (λ n. get_or (set s.fired j true) n false) fire' k s.clock
          shared p a c = inl (p, record { mask = q.mask; at = q.at; has = a }, arrived)
            where
              place' : before p k (code_at m b).line ≡ suc (processor s p).place
              place' = at_wait (code_at m b).line _ _ inside.agrees k q.mask (is_ready m b clocked.fit done fired_state inside k q) p a ∙ ap (λ x. x.place) (passed_has (s.clock + m.machine.delay) r.mask s.processors p (bound m b clocked.fit done s clocked.inside j r p c) c)

              arrived : s.clock ≤ get_or (came' p) (before p k (code_at m b).line) 0
              arrived = let e = ap (λ cs. get_or cs (before p k (code_at m b).line) 0) (member p c) in let f = push_last (came p) (s.clock + m.machine.delay) (before p k (code_at m b).line) (long p c ∙ sym place') in omega arith
      go (inr none) = carried k s.clock (le_refl _) (clocked.timed.ready_cause k (was_ready k q apart))
        where
          apart : (p : ℕ) → has_bit q.mask p ≡ true → has_bit r.mask p ≡ false
          apart p h = pick (and_cases _ _ (none p (clocked.fit.members k p (record { mask = q.mask; at = q.at; has = h }))))
            where
              pick : (has_bit q.mask p ≡ false) ⊎ (has_bit r.mask p ≡ false) → has_bit r.mask p ≡ false
              pick (inl x) = absurd (both_ways _ x h)
              pick (inr x) = x

  pub fire_timed : Inside m (code_at m b) done fired_state → Timed m (code_at m b) entry fired_state came' fire'
  unfolding fired_state
  fire_timed inside = record { each = each; at_fire = at_fire; fire_past = fire_past; fire_cause = fire_cause; ready_cause = ready_cause inside }

-- a block's entry
pub entered_timed : (m : Program) (b clock : ℕ) (w : World) (came : ℕ → List ℕ) (fire : ℕ → ℕ) → ((p : ℕ) → came p ≡ clock ∷ []) → ((j mask : ℕ) → slice_get (masks (code_at m b).line) j ≡ Some mask → (p : ℕ) × (has_bit mask p ≡ true)) → Inside m (code_at m b) (λ t. ⊥) (entered m b clock w) → IsFit m (code_at m b) → Timed m (code_at m b) clock (entered m b clock w) came fire
entered_timed m b clock w came fire begins nonempty inside fit = record {
  each = λ p. subst (λ q. TimedAt m (code_at m b) clock clock p q (came p)) (sym (entered_at m.machine.processors p)) (subst (TimedAt m (code_at m b) clock clock p at_start) (sym (begins p)) (one p));
  at_fire = λ j p h f. absurd (both_ways _ (none_fired (masks (code_at m b).line) j) f);
  fire_past = λ j f. absurd (both_ways _ (none_fired (masks (code_at m b).line) j) f);
  fire_cause = λ j f. absurd (both_ways _ (none_fired (masks (code_at m b).line) j) f);
  ready_cause = λ j r. let (p, h) = nonempty j r.mask r.at in inl (p, record { mask = r.mask; at = r.at; has = h }, arrived j r p h);
}
  where
    one : (p : ℕ) → TimedAt m (code_at m b) clock clock p at_start (clock ∷ [])
    one p = record {
      first = refl;
      long = refl;
      past = λ f. le_refl _;
      held = λ until e. absurd (cc);
      busy = λ until t operands e. absurd (cc);
      now = λ t f g. le_refl _;
      ran = λ k t g lt. absurd (omega arith);
    }

    arrived : (j : ℕ) (r : IsReady (masks (code_at m b).line) (entered m b clock w).fired (waits (code_at m b) (entered m b clock w)) j) (p : ℕ) → has_bit r.mask p ≡ true → clock ≤ get_or (came p) (before p j (code_at m b).line) 0
    arrived j r p h =
        let e : before p j (code_at m b).line ≡ 0 = at_wait (code_at m b).line _ _ inside.agrees j r.mask (is_ready m b fit (λ t. ⊥) (entered m b clock w) inside j r) p h ∙ ap (λ x. x.place) (entered_at m.machine.processors p) in
        let g : get_or (came p) (before p j (code_at m b).line) 0 ≡ clock = ap (λ cs. get_or cs (before p j (code_at m b).line) 0) (begins p) ∙ ap (λ k. get_or (clock ∷ []) k 0) e in omega arith
