-- Every action in a block keeps the laws on ticks.
use Rattle.std.proofs.Common.{◌≡◌, ℕ, zero, suc, ◌+◌, ◌<◌, ◌≤◌, Bool, true, false, not, ◌&&◌, List, [], ◌∷◌, ◌++◌, length, get_or, Some, slice_get, refl, sym, ap, ◌∙◌, subst, le_trans, arith, ◌⊎◌, inl, inr, get_or-set_same, get_or-set_other, length-set, nat_lt}
use Rattle.std.proofs.lemmas.Bool.{cases_Bool, cases_eq, both_ways, and_parts, and_from, and_cases, eqb-true, leb-false, not-true, not-false}
use Rattle.std.proofs.lemmas.List.{length_push}
use Rattle.line_model.specs.declared.line.Item.{Item}
use Rattle.line_model.specs.declared.line.StreamItem.TheVariants.{Do}
use Rattle.bm_base.specs.Mask.{has_bit}
use Rattle.line_model.specs.Streams.{stream, masks, before}
use Rattle.line_model.specs.Order.{HasMember}
use Rattle.tuple_ir.specs.World.{World}
use Rattle.unit_law.specs.State.{Code, Program, Work, Idle, Busy, Held, Processor, State, at_start, code_at, processor, is_free, is_due, is_wait, waits}
use Rattle.unit_law.specs.Units.{IsReady, is_behind}
use Rattle.unit_law.specs.Steps.{IsNext, IsDuration, IsMaskUrgent, tuple_at, read_of, freed, begun, with_processor, least_tick}
use Rattle.unit_law.proofs.Agree.{Ready, at_wait}
use Rattle.unit_law.specs.Inside.{Inside, IsWorkAt, completed}
use Rattle.unit_law.proofs.Inside.{free_completed, due_within, set_all, waits_parts, wait_item, is_ready, advance_rise}
use Rattle.unit_law.proofs.Least.{least_is, held_ticks}
use Rattle.unit_law.proofs.Search.{First, search_below}
use Rattle.time_law.proofs.Timed.{TimedAt, Cause, AtFire, Timed, Clocked, push_at, push_last, push_le, begun_at, freed_at, advanced_at}

-- a cause stays, where no tick of an arrival falls
pub cause_keeps : (line : List Item) (came came' : ℕ → List ℕ) (fired fired' : ℕ → Bool) (fire fire' : ℕ → ℕ) (j x : ℕ) → ((p k : ℕ) → get_or (came p) k 0 ≤ get_or (came' p) k 0) → ((i : ℕ) → fired' i ≡ true → (fired i ≡ true → x ≤ fire i) → x ≤ fire' i) → Cause line came fired fire j x → Cause line came' fired' fire' j x
cause_keeps line came came' fired fired' fire fire' j x up later (inl (p, h, le)) = inl (p, h, le_trans le (up p (before p j line)))
cause_keeps line came came' fired fired' fire fire' j x up later (inr (i, e, f)) = inr (i, e, λ g. later i g f)

pub at_fire_keeps : (line : List Item) (delay : ℕ) (cs : List ℕ) (c x j p : ℕ) → AtFire line delay cs x j p → AtFire line delay (cs ++ c ∷ []) x j p
at_fire_keeps line delay cs c x j p a = record {
  within = let l = length_push cs c in let w = a.within in omega arith;
  left = push_at cs c (suc (before p j line)) a.within ∙ a.left;
  arrived = let e = push_at cs c (before p j line) (let w = a.within in omega arith) in let w = a.arrived in omega arith;
}

-- a processor that is as it was waits as it did
pub waits_same : (code : Code) (s t : State) (q : ℕ) → t.clock ≡ s.clock → length t.processors ≡ length s.processors → processor t q ≡ processor s q → waits code t q ≡ true → waits code s q ≡ true
waits_same code s t q k l e w = sym (ap (λ n. nat_lt q n && (is_free t.clock (processor t q).work && is_wait (slice_get (stream q code.line) (processor t q).place))) l ∙ ap (λ x. nat_lt q (length s.processors) && (is_free t.clock x.work && is_wait (slice_get (stream q code.line) x.place))) e ∙ ap (λ c. nat_lt q (length s.processors) && (is_free c (processor s q).work && is_wait (slice_get (stream q code.line) (processor s q).place))) k) ∙ w

module _ {m : Program} {b : ℕ} {done : ℕ → Type 0} {s : State} {entry : ℕ} {came : ℕ → List ℕ} {fire : ℕ → ℕ} (clocked : Clocked m b done s entry came fire) where
  -- ---- Start
  module _ (p d t : ℕ) (n : IsNext m (code_at m b) s p t) (time : IsDuration m (tuple_at (code_at m b) t) d) where
    unfoldable pub next_one : Processor
    next_one = begun (processor s p) (s.clock + d) t (read_of (tuple_at (code_at m b) t) s.world)

    lt : p < length s.processors
    lt = let x = n.is_one in omega (arith, clocked.inside.processors)

    start_ready : (j : ℕ) → IsReady (masks (code_at m b).line) s.fired (waits (code_at m b) (with_processor s p next_one)) j → IsReady (masks (code_at m b).line) s.fired (waits (code_at m b) s) j
    unfolding next_one
    start_ready j r = record { mask = r.mask; at = r.at; unfired = r.unfired; all_wait = λ q h. back q (cases_eq q p) (r.all_wait q h); first = r.first }
      where
        back : (q : ℕ) → (q ≡ p) ⊎ (q ≡ p → ⊥) → waits (code_at m b) (with_processor s p next_one) q ≡ true → waits (code_at m b) s q ≡ true
        back q (inl e) w =
            let x = (waits_parts (code_at m b) (with_processor s p next_one) q w).0 in
            let y : is_free s.clock (processor (with_processor s p next_one) q).work ≡ false = ap (λ r. is_free s.clock (processor (with_processor s p next_one) r).work) e ∙ ap (λ r. is_free s.clock r.work) (get_or-set_same s.processors p next_one at_start lt) in
            absurd (both_ways _ y x)
        back q (inr ne) w = waits_same (code_at m b) s (with_processor s p next_one) q refl (length-set s.processors p next_one) (get_or-set_other s.processors p q next_one at_start ne) w

    pub start_with : Timed m (code_at m b) entry (with_processor s p next_one) came fire
    unfolding next_one
    start_with = record {
      each = set_all (λ q x. TimedAt m (code_at m b) entry s.clock q x (came q)) s.processors p next_one lt (begun_at m (code_at m b) entry s.clock p d t _ (processor s p) (came p) n.idle n.item time (clocked.timed.each p)) (λ q ne. clocked.timed.each q);
      at_fire = clocked.timed.at_fire;
      fire_past = clocked.timed.fire_past;
      fire_cause = clocked.timed.fire_cause;
      ready_cause = λ j r. clocked.timed.ready_cause j (start_ready j r);
    }

  -- ---- Advance
  module _ (t : ℕ) (least : least_tick s.clock s.processors ≡ Some t) (none_next : (p u : ℕ) → IsNext m (code_at m b) s p u → ⊥) (none_urgent : (j : ℕ) → IsMaskUrgent (code_at m b) s j → ⊥) where
    rise : s.clock ≤ t
    rise = advance_rise m b clocked.fit done s clocked.inside t least

    advanced : State
    advanced = record s { clock = t }

    -- no processor is free at a tuple
    none_free : (p u : ℕ) → is_free s.clock (processor s p).work ≡ true → slice_get (stream p (code_at m b).line) (processor s p).place ≡ Some (Do u) → ⊥
    none_free p u free item = none_next p u (record { is_one = (clocked.fit.stands u p (processor s p).place (record { item = item })).0; idle = free; item = item })

    not_urgent : (j : ℕ) → IsReady (masks (code_at m b).line) s.fired (waits (code_at m b) s) j → (v : Bool) → is_behind s.fired j ≡ v → Cause (code_at m b).line came (λ i. get_or s.fired i false) fire j t
    not_urgent j r true e = absurd (none_urgent j (record { ready = r; behind = e }))
    not_urgent zero r false e = absurd (both_ways true e refl)
    not_urgent (suc j) r false e = inr (j, refl, λ f. absurd (both_ways _ e f))

    -- a mask that is ready at the new clock has a member that was held until then, or was ready before, and not urgent
    advance_cause : (j : ℕ) → IsReady (masks (code_at m b).line) s.fired (waits (code_at m b) advanced) j → Cause (code_at m b).line came (λ i. get_or s.fired i false) fire j t
    unfolding advanced
    advance_cause j r = go (search_below (λ p. has_bit r.mask p && not (is_free s.clock (processor s p).work)) m.machine.processors)
      where
        now : Ready (code_at m b).line (λ p. (processor s p).place) (λ i. get_or s.fired i false) j r.mask
        now = record { at = r.at; unfired = r.unfired; all_wait = λ p h. wait_item _ (waits_parts (code_at m b) advanced p (r.all_wait p h)).1; first = λ k p lt h g. r.first k h.mask p lt h.at h.has g }

        on : (p : ℕ) → has_bit r.mask p ≡ true → HasMember (code_at m b).line j p
        on p h = record { mask = r.mask; at = r.at; has = h }

        came_now : (p : ℕ) → has_bit r.mask p ≡ true → is_free s.clock (processor s p).work ≡ false → t ≤ get_or (came p) (before p j (code_at m b).line) 0
        came_now p h f = by (processor s p).work refl
          where
            free : is_free t (processor s p).work ≡ true
            free = (waits_parts (code_at m b) advanced p (r.all_wait p h)).0

            by : (w : Work) → (processor s p).work ≡ w → t ≤ get_or (came p) (before p j (code_at m b).line) 0
            by Idle e = absurd (both_ways _ f (ap (is_free s.clock) e))
            by (Busy until u operands) e = absurd (both_ways _ (ap (is_free t) e) free)
            by (Held until) e =
                let later : s.clock < until = leb-false until s.clock (sym (ap (is_free s.clock) e) ∙ f) in
                let x = (least_is s.clock s.processors t least).least p until (held_ticks s.clock until _ e later) in
                let y = (clocked.timed.each p).held until e in
                let z : before p j (code_at m b).line ≡ (processor s p).place = at_wait (code_at m b).line _ _ clocked.inside.agrees j r.mask now p h in
                let d : completed (processor s p) ≡ (processor s p).place = free_completed t (processor s p).work (processor s p).place free in
                let w = ap (λ k. get_or (came p) k 0) (z ∙ sym d) in omega arith

        go : First (λ p. has_bit r.mask p && not (is_free s.clock (processor s p).work)) m.machine.processors ⊎ ((p : ℕ) → p < m.machine.processors → (has_bit r.mask p && not (is_free s.clock (processor s p).work)) ≡ false) → Cause (code_at m b).line came (λ i. get_or s.fired i false) fire j t
        go (inl x) = let (h, f) = and_parts _ _ x.is in inl (x.at, on x.at h, came_now x.at h (not-true _ f))
        go (inr none) = not_urgent j (record { mask = r.mask; at = r.at; unfired = r.unfired; all_wait = all_wait; first = r.first }) (is_behind s.fired j) refl
          where
            all_wait : (p : ℕ) → has_bit r.mask p ≡ true → waits (code_at m b) s p ≡ true
            all_wait p h = and_from _ _ (and_parts _ _ (r.all_wait p h)).0 (and_from _ _ (pick (and_cases _ _ (none p (clocked.fit.members j p (on p h))))) (waits_parts (code_at m b) advanced p (r.all_wait p h)).1)
              where
                pick : (has_bit r.mask p ≡ false) ⊎ (not (is_free s.clock (processor s p).work) ≡ false) → is_free s.clock (processor s p).work ≡ true
                pick (inl x) = absurd (both_ways _ x h)
                pick (inr x) = not-false _ x

    pub advance_timed : Timed m (code_at m b) entry (record s { clock = t }) came fire
    unfolding advanced
    advance_timed = record {
      each = λ p. advanced_at m (code_at m b) entry s.clock t p (processor s p) (came p) rise (λ u e. (least_is s.clock s.processors t least).least p u e) (λ u free item. none_free p u free item) (clocked.timed.each p);
      at_fire = clocked.timed.at_fire;
      fire_past = λ j f. le_trans (clocked.timed.fire_past j f) rise;
      fire_cause = clocked.timed.fire_cause;
      ready_cause = advance_cause;
    }

  -- ---- Finish
  module _ (p : ℕ) (due : is_due s.clock (processor s p).work ≡ true) (came' : ℕ → List ℕ) (here : came' p ≡ came p ++ s.clock ∷ []) (there : (q : ℕ) → (q ≡ p → ⊥) → came' q ≡ came q) (w : World) where
    finish_up : (q k : ℕ) → get_or (came q) k 0 ≤ get_or (came' q) k 0
    finish_up q k = go (cases_eq q p)
      where
        go : (q ≡ p) ⊎ (q ≡ p → ⊥) → get_or (came q) k 0 ≤ get_or (came' q) k 0
        go (inl e) = let x : get_or (came' q) k 0 ≡ get_or (came p ++ s.clock ∷ []) k 0 = ap (λ r. get_or (came' r) k 0) e ∙ ap (λ cs. get_or cs k 0) here in
            let y : get_or (came q) k 0 ≡ get_or (came p) k 0 = ap (λ r. get_or (came r) k 0) e in let z = push_le (came p) s.clock k in omega arith
        go (inr ne) = let x = ap (λ cs. get_or cs k 0) (there q ne) in omega arith

    finish_one : TimedAt m (code_at m b) entry s.clock p (freed (processor s p)) (came p ++ s.clock ∷ [])
    finish_one = go (processor s p).work refl due
      where
        go : (v : Work) → (processor s p).work ≡ v → is_due s.clock v ≡ true → TimedAt m (code_at m b) entry s.clock p (freed (processor s p)) (came p ++ s.clock ∷ [])
        go Idle e d = absurd (both_ways true (sym d) refl)
        go (Held until) e d = absurd (both_ways true (sym d) refl)
        go (Busy until t operands) e d =
            let q : processor s p ≡ record { place = (processor s p).place; work = Busy until t operands } = ap (λ v. record { place = (processor s p).place; work = v }) e in
            freed_at m (code_at m b) entry s.clock p (processor s p).place until t operands (came p) (eqb-true _ _ d) (subst (IsWorkAt (code_at m b) p) q (clocked.inside.work p)) (subst (λ x. TimedAt m (code_at m b) entry s.clock p x (came p)) q (clocked.timed.each p))

    unfoldable pub finished_state : State
    finished_state = record (with_processor s p (freed (processor s p))) { world = w }

    -- a mask that is ready after the Finish was ready before it, unless p is a member
    finish_ready : (j : ℕ) (r : IsReady (masks (code_at m b).line) s.fired (waits (code_at m b) finished_state) j) → has_bit r.mask p ≡ false → IsReady (masks (code_at m b).line) s.fired (waits (code_at m b) s) j
    unfolding finished_state
    finish_ready j r no_bit = record { mask = r.mask; at = r.at; unfired = r.unfired; all_wait = λ q h. back q h (r.all_wait q h); first = r.first }
      where
        back : (q : ℕ) → has_bit r.mask q ≡ true → waits (code_at m b) finished_state q ≡ true → waits (code_at m b) s q ≡ true
        back q h x = waits_same (code_at m b) s (with_processor s p (freed (processor s p))) q refl (length-set s.processors p (freed (processor s p))) (get_or-set_other s.processors p q (freed (processor s p)) at_start (λ e. both_ways _ no_bit (ap (has_bit r.mask) (sym e) ∙ h))) x

    pub finish_timed : Inside m (code_at m b) (λ t. Unit {0}) finished_state → Timed m (code_at m b) entry finished_state came' fire
    unfolding finished_state
    finish_timed inside = record {
      each = set_all (λ q x. TimedAt m (code_at m b) entry s.clock q x (came' q)) s.processors p (freed (processor s p)) (due_within s p due) (subst (TimedAt m (code_at m b) entry s.clock p (freed (processor s p))) (sym here) finish_one) (λ q ne. subst (TimedAt m (code_at m b) entry s.clock q (processor s q)) (sym (there q ne)) (clocked.timed.each q));
      at_fire = λ j q h f. at_fire j q (clocked.timed.at_fire j q h f) (cases_eq q p);
      fire_past = clocked.timed.fire_past;
      fire_cause = λ j f. cause_keeps _ came came' _ _ fire fire j (fire j) finish_up (λ k g h. h g) (clocked.timed.fire_cause j f);
      ready_cause = λ j r. cause j r (cases_Bool (has_bit r.mask p));
    }
      where
        at_fire : (j q : ℕ) → AtFire (code_at m b).line m.machine.delay (came q) (fire j) j q → (q ≡ p) ⊎ (q ≡ p → ⊥) → AtFire (code_at m b).line m.machine.delay (came' q) (fire j) j q
        at_fire j q a (inl e) = subst (λ r. AtFire (code_at m b).line m.machine.delay (came' r) (fire j) j r) (sym e) (subst (λ cs. AtFire (code_at m b).line m.machine.delay cs (fire j) j p) (sym here) (at_fire_keeps (code_at m b).line m.machine.delay (came p) s.clock (fire j) j p (subst (λ r. AtFire (code_at m b).line m.machine.delay (came r) (fire j) j r) e a)))
        at_fire j q a (inr ne) = subst (λ cs. AtFire (code_at m b).line m.machine.delay cs (fire j) j q) (sym (there q ne)) a

        cause : (j : ℕ) (r : IsReady (masks (code_at m b).line) s.fired (waits (code_at m b) finished_state) j) → (has_bit r.mask p ≡ true) ⊎ (has_bit r.mask p ≡ false) → Cause (code_at m b).line came' (λ k. get_or s.fired k false) fire j s.clock
        cause j r (inr h) = cause_keeps _ came came' _ _ fire fire j s.clock finish_up (λ k g x. x g) (clocked.timed.ready_cause j (finish_ready j r h))
        cause j r (inl h) = inl (p, record { mask = r.mask; at = r.at; has = h }, arrived)
          where
            place_is : before p j (code_at m b).line ≡ (processor s p).place
            place_is = at_wait (code_at m b).line _ _ inside.agrees j r.mask (is_ready m b clocked.fit (λ t. Unit {0}) finished_state inside j r) p h ∙ ap (λ x. x.place) (get_or-set_same s.processors p (freed (processor s p)) at_start (due_within s p due))

            arrived : s.clock ≤ get_or (came' p) (before p j (code_at m b).line) 0
            arrived = let l = finish_one.long in
                let e : get_or (came' p) (before p j (code_at m b).line) 0 ≡ get_or (came p ++ s.clock ∷ []) (processor s p).place 0 = ap (λ cs. get_or cs (before p j (code_at m b).line) 0) here ∙ ap (λ k. get_or (came p ++ s.clock ∷ []) k 0) place_is in
                let f = push_last (came p) s.clock (processor s p).place (omega (arith, l, length_push (came p) s.clock)) in omega (arith, e, f)
