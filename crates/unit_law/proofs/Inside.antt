-- Each action keeps what holds of every state within a block.
use Rattle.std.proofs.Common.{◌≡◌, ℕ, suc, pred, ◌+◌, ◌<◌, ◌≤◌, Bool, true, false, List, length, get_or, set, Option, Some, None, slice_get, ℤ, refl, sym, ap, ◌∙◌, subst, arith, ◌⊎◌, inl, inr, if◌then◌else◌, nat_lt, get_or-set_same, get_or-set_other, length-set}
use Rattle.std.proofs.lemmas.Bool.{cases_Bool, cases_eq, cases_lt, both_ways, cond-true, cond-false, and_parts}
use Rattle.std.proofs.lemmas.List.{get_or_past}
use Rattle.std.proofs.lemmas.Option.{slice_get_within, get_or_from_slice_get}
use Rattle.line_model.specs.declared.line.Item.{Item}
use Rattle.line_model.specs.declared.line.StreamItem.{StreamItem}
use Rattle.line_model.specs.declared.line.StreamItem.TheVariants.{Do, Wait}
use Rattle.bm_base.specs.Mask.{has_bit}
use Rattle.line_model.specs.Streams.{stream, masks}
use Rattle.unit_law.specs.State.{Code, Program, Work, Idle, Busy, Held, Processor, State, at_start, code_at, processor, is_free, is_due, next_item, is_wait, waits}
use Rattle.unit_law.specs.Units.{IsReady}
use Rattle.unit_law.specs.Steps.{Finish, Fire, Start, Advance, IsNext, passed, resumed, freed, begun, read_of, tuple_at, started, after_in, least_tick, or_clock}
use Rattle.unit_law.specs.Fit.{IsFit}
use Rattle.unit_law.specs.Execution.{WorksOn}
use Rattle.unit_law.proofs.Finishes.{finished_by}
use Rattle.unit_law.proofs.Least.{Goes, busy_until, held_until, least_is, goes_of, busy_ticks}
use Rattle.unit_law.specs.Inside.{completed_at, completed, IsWorkAt, IsDoneAt, IsNotPast, Inside, Agrees}
use Rattle.unit_law.proofs.Agree.{Ready, fire_keeps, start_keeps}
use Rattle.unit_law.proofs.Kept.{length-passed, get_or-passed}

-- a free processor has all items in front of its place behind it
pub free_completed : (clock : ℕ) (w : Work) (place : ℕ) → is_free clock w ≡ true → completed_at w place ≡ place
free_completed clock Idle place e = refl
free_completed clock (Busy until t operands) place e = absurd (both_ways true (sym e) refl)
free_completed clock (Held until) place e = refl

-- a processor whose Finish is due is one of the machine's
pub due_within : (s : State) (p : ℕ) → is_due s.clock (processor s p).work ≡ true → p < length s.processors
due_within s p e = go (cases_lt p (length s.processors))
  where
    go : (p < length s.processors) ⊎ (length s.processors ≤ p) → p < length s.processors
    go (inl h) = h
    go (inr h) = let x : processor s p ≡ at_start = get_or_past s.processors p at_start h in
        let y : is_due s.clock (processor s p).work ≡ false = ap (λ q. is_due s.clock q.work) x in absurd (both_ways (is_due s.clock (processor s p).work) y e)

-- one processor is replaced
pub set_all : (P : ℕ → Processor → Type 0) (qs : List Processor) (p : ℕ) (x : Processor) → p < length qs → P p x → ((q : ℕ) → (q ≡ p → ⊥) → P q (get_or qs q at_start)) → (q : ℕ) → P q (get_or (set qs p x) q at_start)
set_all P qs p x lt here there q = go (cases_eq q p)
  where
    go : (q ≡ p) ⊎ (q ≡ p → ⊥) → P q (get_or (set qs p x) q at_start)
    go (inl e) = subst (λ i. P i (get_or (set qs p x) i at_start)) (sym e) (subst (P p) (sym (get_or-set_same qs p x at_start lt)) here)
    go (inr n) = subst (P q) (sym (get_or-set_other qs p q x at_start n)) (there q n)

pub agrees_at : (line : List Item) (place place' : ℕ → ℕ) (fired : ℕ → Bool) → Agrees line place fired → ((p : ℕ) → place' p ≡ place p) → Agrees line place' fired
agrees_at line place place' fired a e = record { passed_if = λ j p h f. let g = a.passed_if j p h f in omega (arith, e p); fired_if = λ j p h l. a.fired_if j p h (omega (arith, e p)) }

pub work_due : (clock : ℕ) (w : Work) → is_due clock w ≡ true → (until t : ℕ) × (operands : List ℤ) × (w ≡ Busy until t operands)
work_due clock Idle e = absurd (both_ways true (sym e) refl)
work_due clock (Busy until t operands) e = (until, t, operands, refl)
work_due clock (Held until) e = absurd (both_ways true (sym e) refl)

pub now_done : (code : Code) (done : ℕ → Type 0) (clock : ℕ) (p place : ℕ) (w : Work) → is_due clock w ≡ true → IsWorkAt code p (record { place = place; work = w }) → IsDoneAt code done p (record { place = place; work = w }) → (k t : ℕ) → slice_get (stream p code.line) k ≡ Some (Do t) → k < place → WorksOn w t ⊎ done t
now_done code done clock p place Idle due wk dn k t item l = absurd (both_ways true (sym due) refl)
now_done code done clock p place (Held until) due wk dn k t item l = absurd (both_ways true (sym due) refl)
now_done code done clock p place (Busy until u operands) due wk dn k t item l =
    let (k', e, at) = wk until u operands refl in go k' e at (cases_lt k k')
  where
    go : (k' : ℕ) → place ≡ suc k' → slice_get (stream p code.line) k' ≡ Some (Do u) → (k < k') ⊎ (k' ≤ k) → (u ≡ t) ⊎ done t
    go k' e at (inl h) = inr (dn k t item (let x : pred place ≡ k' = ap pred e in omega arith))
    go k' e at (inr h) = let x : k' ≡ k = omega arith in
        let y : Some (Do u) ≡ Some (Do t) = sym at ∙ ap (slice_get (stream p code.line)) x ∙ item in inl (cc)

-- a started tuple leaves what was done
start_done : (code : Code) (done : ℕ → Type 0) (p clock until t : ℕ) (operands : List ℤ) (q : Processor) → is_free clock q.work ≡ true → IsDoneAt code done p q → IsDoneAt code done p (begun q until t operands)
start_done code done p clock until t operands q free dn k u item l = dn k u item (let e = free_completed clock q.work q.place free in let x : k < q.place = l in omega arith)

pub waits_parts : (code : Code) (s : State) (p : ℕ) → waits code s p ≡ true → (is_free s.clock (processor s p).work ≡ true) × (is_wait (next_item code s p) ≡ true)
waits_parts code s p e = and_parts (is_free s.clock (processor s p).work) (is_wait (next_item code s p)) (and_parts (nat_lt p (length s.processors)) _ e).1

pub wait_item : (o : Option StreamItem) → is_wait o ≡ true → o ≡ Some Wait
wait_item None e = absurd (both_ways true (sym e) refl)
wait_item (Some (Do t)) e = absurd (both_ways true (sym e) refl)
wait_item (Some Wait) e = refl

pub passed_has : (until mask : ℕ) (qs : List Processor) (p : ℕ) → p < length qs → has_bit mask p ≡ true → get_or (passed until mask 0 qs) p at_start ≡ resumed until (get_or qs p at_start)
passed_has until mask qs p lt h = let e : 0 + p ≡ p = omega arith in
    get_or-passed until mask 0 qs p at_start lt ∙ ap (λ k. if has_bit mask k then resumed until (get_or qs p at_start) else get_or qs p at_start) e ∙ cond-true _ _ _ h

pub passed_not : (until mask : ℕ) (qs : List Processor) (p : ℕ) → has_bit mask p ≡ false → get_or (passed until mask 0 qs) p at_start ≡ get_or qs p at_start
passed_not until mask qs p h = go (cases_lt p (length qs))
  where
    go : (p < length qs) ⊎ (length qs ≤ p) → get_or (passed until mask 0 qs) p at_start ≡ get_or qs p at_start
    go (inl lt) = let e : 0 + p ≡ p = omega arith in
        get_or-passed until mask 0 qs p at_start lt ∙ ap (λ k. if has_bit mask k then resumed until (get_or qs p at_start) else get_or qs p at_start) e ∙ cond-false _ _ _ h
    go (inr le) = get_or_past (passed until mask 0 qs) p at_start (omega (arith, length-passed until mask 0 qs)) ∙ sym (get_or_past qs p at_start le)

-- each processor after a Fire
pub fired_all : (P : ℕ → Processor → Type 0) (until mask : ℕ) (qs : List Processor) → ((p : ℕ) → has_bit mask p ≡ true → p < length qs) → ((p : ℕ) → has_bit mask p ≡ true → P p (resumed until (get_or qs p at_start))) → ((p : ℕ) → has_bit mask p ≡ false → P p (get_or qs p at_start)) → (p : ℕ) → P p (get_or (passed until mask 0 qs) p at_start)
fired_all P until mask qs bound member other p = go (cases_Bool (has_bit mask p))
  where
    go : (has_bit mask p ≡ true) ⊎ (has_bit mask p ≡ false) → P p (get_or (passed until mask 0 qs) p at_start)
    go (inl h) = subst (P p) (sym (passed_has until mask qs p (bound p h) h)) (member p h)
    go (inr h) = subst (P p) (sym (passed_not until mask qs p h)) (other p h)

-- a processor that waits has only done tuples behind it, and a wait in front
resumed_done : (code : Code) (done : ℕ → Type 0) (p clock until : ℕ) (q : Processor) → is_free clock q.work ≡ true → IsDoneAt code done p q → slice_get (stream p code.line) q.place ≡ Some Wait → IsDoneAt code done p (resumed until q)
resumed_done code done p clock until q free dn w k t item l = go (cases_lt k q.place)
  where
    go : (k < q.place) ⊎ (q.place ≤ k) → done t
    go (inl h) = dn k t item (let e = free_completed clock q.work q.place free in omega arith)
    go (inr h) = let m : k < suc q.place = l in let e : k ≡ q.place = omega arith in let x : Some (Do t) ≡ Some Wait = sym item ∙ ap (slice_get (stream p code.line)) e ∙ w in absurd (cc)

module _ (m : Program) (b : ℕ) (fit : IsFit m (code_at m b)) (done : ℕ → Type 0) (s : State) (i : Inside m (code_at m b) done s) where
  pub finish_inside : (p : ℕ) → is_due s.clock (processor s p).work ≡ true → Inside m (code_at m b) (λ t. finished_by s (Finish p) t (done t)) (after_in m b s (Finish p))
  finish_inside p due = record {
    processors = length-set s.processors p q ∙ i.processors;
    masks_are = i.masks_are;
    agrees = agrees_at (code_at m b).line (λ p. (processor s p).place) _ (λ j. get_or s.fired j false) i.agrees (set_all (λ r x. x.place ≡ (processor s r).place) s.processors p q lt refl (λ r n. refl));
    work = set_all (IsWorkAt (code_at m b)) s.processors p q lt (λ until t operands e. absurd (cc)) (λ r n. i.work r);
    finished = set_all (IsDoneAt (code_at m b) (λ t. finished_by s (Finish p) t (done t))) s.processors p q lt now (λ r n k t item l. inr (i.finished r k t item l));
    ticks = set_all (λ r. IsNotPast s.clock) s.processors p q lt (λ until t operands e. absurd (cc)) (λ r n. i.ticks r);
  }
    where
      lt : p < length s.processors
      lt = due_within s p due

      q : Processor
      q = freed (processor s p)

      now : IsDoneAt (code_at m b) (λ t. finished_by s (Finish p) t (done t)) p q
      now k t item l = now_done (code_at m b) done s.clock p (processor s p).place (processor s p).work due (i.work p) (i.finished p) k t item l

  -- the clock goes on
  pub advance_rise : (t : ℕ) → least_tick s.clock s.processors ≡ Some t → s.clock ≤ t
  advance_rise t least = let l = least_is s.clock s.processors t least in go l.p (goes_of s.clock t (processor s l.p).work l.is)
    where
      go : (p : ℕ) → Goes s.clock t (processor s p).work → s.clock ≤ t
      go p (busy_until u operands e) = i.ticks p t u operands e
      go p (held_until e lt) = omega arith

  pub advance_inside : (t : ℕ) → least_tick s.clock s.processors ≡ Some t → Inside m (code_at m b) done (after_in m b s Advance)
  advance_inside t least = record {
    processors = i.processors;
    masks_are = i.masks_are;
    agrees = i.agrees;
    work = i.work;
    finished = i.finished;
    ticks = λ p until u operands e. let x = (least_is s.clock s.processors t least).least p until (busy_ticks s.clock until u operands _ e) in let y = ap (λ o. or_clock o s.clock) least in omega arith;
  }

  started_inside : (p d t : ℕ) (o : Option StreamItem) → next_item (code_at m b) s p ≡ o → IsNext m (code_at m b) s p t → Inside m (code_at m b) done (started (code_at m b) s p d o)
  started_inside p d t None e n = let x : None ≡ Some (Do t) = sym e ∙ n.item in absurd (cc)
  started_inside p d t (Some Wait) e n = let x : Some Wait ≡ Some (Do t) = sym e ∙ n.item in absurd (cc)
  started_inside p d t (Some (Do u)) e n = record {
    processors = length-set s.processors p q ∙ i.processors;
    masks_are = i.masks_are;
    agrees = start_keeps (code_at m b).line (λ r. (processor s r).place) (λ r. (get_or (set s.processors p q) r at_start).place) (λ j. get_or s.fired j false) i.agrees p u e (ap (λ x. x.place) (get_or-set_same s.processors p q at_start lt)) (λ r ne. ap (λ x. x.place) (get_or-set_other s.processors p r q at_start ne));
    work = set_all (IsWorkAt (code_at m b)) s.processors p q lt here (λ r ne. i.work r);
    finished = set_all (IsDoneAt (code_at m b) done) s.processors p q lt (start_done (code_at m b) done p s.clock (s.clock + d) u (read_of (tuple_at (code_at m b) u) s.world) (processor s p) n.idle (i.finished p)) (λ r ne. i.finished r);
    ticks = set_all (λ r. IsNotPast s.clock) s.processors p q lt in_time (λ r ne. i.ticks r);
  }
    where
      lt : p < length s.processors
      lt = let x = n.is_one in omega (arith, i.processors)

      q : Processor
      q = begun (processor s p) (s.clock + d) u (read_of (tuple_at (code_at m b) u) s.world)

      in_time : IsNotPast s.clock q
      in_time until v operands w = let x : s.clock + d ≡ until = cc in omega arith

      here : IsWorkAt (code_at m b) p q
      here until v operands w = ((processor s p).place, refl, let x : u ≡ v = cc in e ∙ ap (λ k. Some (Do k)) x)

  pub start_inside : (p d t : ℕ) → IsNext m (code_at m b) s p t → Inside m (code_at m b) done (after_in m b s (Start p d))
  start_inside p d t n = started_inside p d t _ refl n

  module _ (j : ℕ) (r : IsReady (masks (code_at m b).line) s.fired (waits (code_at m b) s) j) where
    pub mask_is : get_or (masks (code_at m b).line) j 0 ≡ r.mask
    mask_is = get_or_from_slice_get (masks (code_at m b).line) j r.mask 0 r.at

    pub wait_at : (p : ℕ) → has_bit r.mask p ≡ true → slice_get (stream p (code_at m b).line) (processor s p).place ≡ Some Wait
    wait_at p h = wait_item _ (waits_parts (code_at m b) s p (r.all_wait p h)).1

    pub is_ready : Ready (code_at m b).line (λ p. (processor s p).place) (λ i. get_or s.fired i false) j r.mask
    is_ready = record { at = r.at; unfired = r.unfired; all_wait = wait_at; first = λ k p lt h g. r.first k h.mask p lt h.at h.has g }

    pub bound : (p : ℕ) → has_bit r.mask p ≡ true → p < length s.processors
    bound p h = let x = fit.members j p (record { mask = r.mask; at = r.at; has = h }) in omega (arith, i.processors)

    behind : (p : ℕ) → has_bit r.mask p ≡ true → IsDoneAt (code_at m b) done p (resumed (s.clock + m.machine.delay) (processor s p))
    behind p h = resumed_done (code_at m b) done p s.clock (s.clock + m.machine.delay) (processor s p) (waits_parts (code_at m b) s p (r.all_wait p h)).0 (i.finished p) (wait_at p h)

    -- the state after the Fire, at this mask
    fired_with : ℕ → Type 0
    fired_with mask = Inside m (code_at m b) done (record s { processors = passed (s.clock + m.machine.delay) mask 0 s.processors; fired = set s.fired j true })

    fire_with : fired_with r.mask
    unfolding fired_with
    fire_with = record {
      processors = length-passed (s.clock + m.machine.delay) r.mask 0 s.processors ∙ i.processors;
      masks_are = length-set s.fired j true ∙ i.masks_are;
      agrees = fire_keeps (code_at m b).line (λ p. (processor s p).place) (λ p. (get_or (passed (s.clock + m.machine.delay) r.mask 0 s.processors) p at_start).place) (λ i. get_or s.fired i false) (λ i. get_or (set s.fired j true) i false) i.agrees j r.mask is_ready (λ p h. ap (λ x. x.place) (passed_has (s.clock + m.machine.delay) r.mask s.processors p (bound p h) h)) (λ p h. ap (λ x. x.place) (passed_not (s.clock + m.machine.delay) r.mask s.processors p h)) (get_or-set_same s.fired j true false (let x = slice_get_within (masks (code_at m b).line) j r.mask r.at in omega (arith, i.masks_are))) (λ k ne. get_or-set_other s.fired j k true false ne);
      work = fired_all (IsWorkAt (code_at m b)) (s.clock + m.machine.delay) r.mask s.processors bound (λ p h until t operands e. absurd (cc)) (λ p h. i.work p);
      finished = fired_all (IsDoneAt (code_at m b) done) (s.clock + m.machine.delay) r.mask s.processors bound behind (λ p h. i.finished p);
      ticks = fired_all (λ r. IsNotPast s.clock) (s.clock + m.machine.delay) r.mask s.processors bound (λ p h until t operands e. absurd (cc)) (λ p h. i.ticks p);
    }

    pub fire_inside : Inside m (code_at m b) done (after_in m b s (Fire j))
    unfolding fired_with
    fire_inside = subst fired_with (sym mask_is) fire_with
