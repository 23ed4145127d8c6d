-- Within a block, each place holds what the serial meaning gives it once exactly the first of its writers have finished.
use Rattle.std.proofs.Common.{◌≡◌, ℕ, suc, pred, ◌+◌, ◌-◌, ◌<◌, ◌≤◌, true, false, List, length, get_or, set, Option, Some, None, slice_get, ℤ, refl, sym, ap, ◌∙◌, subst, le_refl, arith, ◌⊎◌, inl, inr}
use Rattle.std.proofs.lemmas.Bool.{cases_Bool, cases_eq, cases_lt, both_ways}
use Rattle.std.proofs.Common.{get_or-set_same}
use Rattle.std.proofs.lemmas.List.{get_or_past}
use Rattle.tuple_ir.specs.declared.tuple.Tuple.{Tuple}
use Rattle.line_model.specs.declared.line.StreamItem.TheVariants.{Do, Wait}
use Rattle.bm_base.specs.Mask.{has_bit}
use Rattle.line_model.specs.Streams.{stream, masks}
use Rattle.line_model.specs.Order.{StandsAt}
use Rattle.tuple_ir.specs.Conflict.{Conflict}
use Rattle.tuple_ir.specs.Operands.{HasEarlyOperands}
use Rattle.tuple_ir.specs.World.{World, write, serial, do_tuple}
use Rattle.tuple_ir.proofs.WorldFacts.{Place, look, shape, writes, write_shape, write_other, write_same}
use Rattle.tuple_ir.proofs.Serial.{IsRead, reads_same, Writes, writes_some, serial_shape, serial_same, writes_conflict, read_conflict, write_conflict}
use Rattle.unit_law.specs.State.{Code, Program, Work, Idle, Busy, Held, Processor, State, at_start, code_at, processor, waits}
use Rattle.unit_law.specs.Units.{IsReady}
use Rattle.unit_law.specs.Steps.{IsNext, tuple_at, read_of, written, freed, begun, resumed, passed, with_processor}
use Rattle.unit_law.specs.Fit.{IsFit}
use Rattle.unit_law.specs.Inside.{Inside, completed, completed_at}
use Rattle.unit_law.proofs.Inside.{free_completed, set_all, waits_parts, fired_all, bound, wait_at}

-- the tuple has started, and it has finished, in this execution of the block
pub record IsBegun (code : Code) (s : State) (t : ℕ) : Type 0 where
  pub p : ℕ
  pub k : ℕ
  pub at : StandsAt code.line t p k
  pub lt : k < (processor s p).place

pub record IsBehind (code : Code) (s : State) (t : ℕ) : Type 0 where
  pub p : ℕ
  pub k : ℕ
  pub at : StandsAt code.line t p k
  pub lt : k < completed (processor s p)

pub record Values (code : Code) (w : World) (s : State) : Type 0 where
  pub one_shape : shape s.world ≡ shape w
  pub read : (p until t : ℕ) (operands : List ℤ) → (processor s p).work ≡ Busy until t operands → operands ≡ read_of (tuple_at code t) (serial code.tuples w t)
  pub order : (a b : ℕ) → Conflict code.tuples a b → IsBegun code s b → IsBehind code s a
  pub value : (l : Place) (n : ℕ) → ((i : ℕ) → i < n → Writes code.tuples w i l → IsBehind code s i) → ((i : ℕ) → n ≤ i → Writes code.tuples w i l → IsBehind code s i → ⊥) → look s.world l ≡ look (serial code.tuples w n) l

completed_le : (w : Work) (place : ℕ) → completed_at w place ≤ place
completed_le Idle place = le_refl _
completed_le (Busy until t operands) place = let x : pred place ≤ place = omega arith in x
completed_le (Held until) place = le_refl _

pub begun_of : (code : Code) (s : State) (t : ℕ) → IsBehind code s t → IsBegun code s t
begun_of code s t h = record { p = h.p; k = h.k; at = h.at; lt = let x = completed_le (processor s h.p).work (processor s h.p).place in let y = h.lt in omega arith }

-- at a block's entry
pub entry_values : (code : Code) (w : World) (s : State) → s.world ≡ w → ((p : ℕ) → processor s p ≡ at_start) → Values code w s
entry_values code w s e starts = record {
  one_shape = ap shape e;
  read = λ p until t operands h. absurd (let x : Idle ≡ Busy until t operands = sym (ap (λ q. q.work) (starts p)) ∙ h in cc);
  order = λ a b c h. absurd (let x = ap (λ q. q.place) (starts h.p) in let y = h.lt in omega arith);
  value = λ l n before_ behind_. ap (λ v. look v l) e ∙ sym (serial_same code.tuples w l 0 n (λ i lo hi h. none i (before_ i (omega arith) h))) ∙ (let z : 0 + n ≡ n = omega arith in ap (λ k. look (serial code.tuples w k) l) z);
}
  where
    none : (i : ℕ) → IsBehind code s i → ⊥
    none i h = let x = ap completed (starts h.p) in let y = h.lt in omega arith

-- a step that writes nothing, finishes nothing, and starts at most tuple t
stays : (code : Code) (w : World) (s s' : State) → Values code w s → s'.world ≡ s.world → ((i : ℕ) → IsBehind code s i → IsBehind code s' i) → ((i : ℕ) → IsBehind code s' i → IsBehind code s i) → ((p until t : ℕ) (operands : List ℤ) → (processor s' p).work ≡ Busy until t operands → operands ≡ read_of (tuple_at code t) (serial code.tuples w t)) → ((a b : ℕ) → Conflict code.tuples a b → IsBegun code s' b → IsBehind code s a) → Values code w s'
stays code w s s' v e up back read order = record {
  one_shape = ap shape e ∙ v.one_shape;
  read = read;
  order = λ a b c h. up a (order a b c h);
  value = λ l n f g. ap (λ u. look u l) e ∙ v.value l n (λ i lt h. back i (f i lt h)) (λ i le h x. g i le h (up i x));
}

module _ (m : Program) (b : ℕ) (fit : IsFit m (code_at m b)) (done : ℕ → Type 0) (s : State) (i : Inside m (code_at m b) done s) (w : World) (good : HasEarlyOperands (code_at m b).tuples) (room : length w.cells ≡ 128) (v : Values (code_at m b) w s) where
  -- ---- Advance, and any step that leaves processors and world
  pub advance_values : (s' : State) → s'.processors ≡ s.processors → s'.world ≡ s.world → Values (code_at m b) w s'
  advance_values s' ep ew = stays (code_at m b) w s s' v ew (λ n h. record { p = h.p; k = h.k; at = h.at; lt = subst (λ qs. h.k < completed (get_or qs h.p at_start)) (sym ep) h.lt }) (λ n h. record { p = h.p; k = h.k; at = h.at; lt = subst (λ qs. h.k < completed (get_or qs h.p at_start)) ep h.lt }) (λ p until t operands h. v.read p until t operands (ap (λ qs. (get_or qs p at_start).work) (sym ep) ∙ h)) (λ a c x h. v.order a c x (record { p = h.p; k = h.k; at = h.at; lt = subst (λ qs. h.k < (get_or qs h.p at_start).place) ep h.lt }))

  pub advance_behind : (s' : State) → s'.processors ≡ s.processors → (a : ℕ) → IsBehind (code_at m b) s a → IsBehind (code_at m b) s' a
  advance_behind s' ep a h = record { p = h.p; k = h.k; at = h.at; lt = subst (λ qs. h.k < completed (get_or qs h.p at_start)) (sym ep) h.lt }

  -- ---- Start
  module _ (p d t : ℕ) (n : IsNext m (code_at m b) s p t) (producers : (a : ℕ) → Conflict (code_at m b).tuples a t → IsBehind (code_at m b) s a) where
    here : StandsAt (code_at m b).line t p (processor s p).place
    here = record { item = n.item }

    idle_done : completed (processor s p) ≡ (processor s p).place
    idle_done = free_completed s.clock (processor s p).work (processor s p).place n.idle

    not_begun : IsBegun (code_at m b) s t → ⊥
    not_begun h = let (e, f) = fit.once t h.p h.k p (processor s p).place h.at here in let g = ap (λ q. (processor s q).place) e in let l = h.lt in omega arith

    tuple_reads : (o : Option Tuple) → tuple_at (code_at m b) t ≡ o → read_of o s.world ≡ read_of o (serial (code_at m b).tuples w t)
    tuple_reads None e = refl
    tuple_reads (Some x) e = reads_same x s.world (serial (code_at m b).tuples w t) (λ l r. v.value l t (λ a lt h. producers a (read_conflict (code_at m b).tuples good w room a t x l lt h e r)) (λ a le h bh. late a l le h bh r (cases_eq t a)))
      where
        late : (a : ℕ) (l : Place) → t ≤ a → Writes (code_at m b).tuples w a l → IsBehind (code_at m b) s a → IsRead x (serial (code_at m b).tuples w t) l → (t ≡ a) ⊎ (t ≡ a → ⊥) → ⊥
        late a l le h bh r (inl q) = not_begun (begun_of (code_at m b) s t (subst (IsBehind (code_at m b) s) (sym q) bh))
        late a l le h bh r (inr ne) = not_begun (begun_of (code_at m b) s t (v.order t a (write_conflict (code_at m b).tuples good w room t a x l (omega arith) e r h) (begun_of (code_at m b) s a bh)))

    next_one : Processor
    next_one = begun (processor s p) (s.clock + d) t (read_of (tuple_at (code_at m b) t) s.world)

    lt : p < length s.processors
    lt = let x = n.is_one in omega (arith, i.processors)

    same_completed : (q : ℕ) → completed (get_or (set s.processors p next_one) q at_start) ≡ completed (processor s q)
    unfolding next_one
    same_completed = set_all (λ q x. completed x ≡ completed (processor s q)) s.processors p next_one lt (sym idle_done) (λ q ne. refl)

    pub start_behind : (a : ℕ) → IsBehind (code_at m b) s a → IsBehind (code_at m b) (with_processor s p (begun (processor s p) (s.clock + d) t (read_of (tuple_at (code_at m b) t) s.world))) a
    unfolding next_one
    start_behind a h = record { p = h.p; k = h.k; at = h.at; lt = let x = same_completed h.p in let y = h.lt in omega arith }

    pub start_values : Values (code_at m b) w (with_processor s p (begun (processor s p) (s.clock + d) t (read_of (tuple_at (code_at m b) t) s.world)))
    unfolding next_one
    start_values = stays (code_at m b) w s (with_processor s p next_one) v refl (λ a h. record { p = h.p; k = h.k; at = h.at; lt = let x = same_completed h.p in let y = h.lt in omega arith }) (λ a h. record { p = h.p; k = h.k; at = h.at; lt = let x = same_completed h.p in let y = h.lt in omega arith }) (set_all (λ q x. (until u : ℕ) (operands : List ℤ) → x.work ≡ Busy until u operands → operands ≡ read_of (tuple_at (code_at m b) u) (serial (code_at m b).tuples w u)) s.processors p next_one lt new_read (λ q ne. v.read q)) order
      where
        new_read : (until u : ℕ) (operands : List ℤ) → Busy (s.clock + d) t (read_of (tuple_at (code_at m b) t) s.world) ≡ Busy until u operands → operands ≡ read_of (tuple_at (code_at m b) u) (serial (code_at m b).tuples w u)
        new_read until u operands e =
            let x : t ≡ u = cc in let y : read_of (tuple_at (code_at m b) t) s.world ≡ operands = cc in
            sym y ∙ tuple_reads (tuple_at (code_at m b) t) refl ∙ ap (λ z. read_of (tuple_at (code_at m b) z) (serial (code_at m b).tuples w z)) x

        order : (a c : ℕ) → Conflict (code_at m b).tuples a c → IsBegun (code_at m b) (with_processor s p next_one) c → IsBehind (code_at m b) s a
        order a c x h = go (set_all (λ q y. h.k < y.place → (h.k < (processor s q).place) ⊎ ((q ≡ p) × (h.k ≡ (processor s p).place))) s.processors p next_one lt (λ l. at_new l (cases_lt h.k (processor s p).place)) (λ q ne l. inl l) h.p h.lt)
          where
            at_new : h.k < suc (processor s p).place → (h.k < (processor s p).place) ⊎ ((processor s p).place ≤ h.k) → (h.k < (processor s p).place) ⊎ ((p ≡ p) × (h.k ≡ (processor s p).place))
            at_new l (inl z) = inl z
            at_new l (inr z) = inr (refl, omega arith)

            go : (h.k < (processor s h.p).place) ⊎ ((h.p ≡ p) × (h.k ≡ (processor s p).place)) → IsBehind (code_at m b) s a
            go (inl l) = v.order a c x (record { p = h.p; k = h.k; at = h.at; lt = l })
            go (inr (e, k)) =
                let f : Some (Do c) ≡ Some (Do t) = sym h.at.item ∙ ap (λ q. slice_get (stream q (code_at m b).line) h.k) e ∙ ap (slice_get (stream p (code_at m b).line)) k ∙ n.item in
                let g : c ≡ t = cc in producers a (subst (Conflict (code_at m b).tuples a) g x)

  -- ---- Fire
  module _ (j : ℕ) (r : IsReady (masks (code_at m b).line) s.fired (waits (code_at m b) s) j) (s' : State) (ep : s'.processors ≡ passed (s.clock + m.machine.delay) r.mask 0 s.processors) (ew : s'.world ≡ s.world) where
    -- what a member of the mask has behind it is one wait more
    fire_each : (q : ℕ) → ((k t : ℕ) → slice_get (stream q (code_at m b).line) k ≡ Some (Do t) → ((k < completed (processor s' q) → k < completed (processor s q)) × (k < completed (processor s q) → k < completed (processor s' q)) × (k < (processor s' q).place → k < (processor s q).place)))
    fire_each q = subst (λ qs. (k t : ℕ) → slice_get (stream q (code_at m b).line) k ≡ Some (Do t) → ((k < completed (get_or qs q at_start) → k < completed (processor s q)) × (k < completed (processor s q) → k < completed (get_or qs q at_start)) × (k < (get_or qs q at_start).place → k < (processor s q).place))) (sym ep) (fired_all (λ q x. (k t : ℕ) → slice_get (stream q (code_at m b).line) k ≡ Some (Do t) → ((k < completed x → k < completed (processor s q)) × (k < completed (processor s q) → k < completed x) × (k < x.place → k < (processor s q).place))) (s.clock + m.machine.delay) r.mask s.processors (bound m b fit done s i j r) member (λ q h k t e. (λ l. l, λ l. l, λ l. l)) q)
      where
        member : (q : ℕ) → has_bit r.mask q ≡ true → (k t : ℕ) → slice_get (stream q (code_at m b).line) k ≡ Some (Do t) → ((k < completed (resumed (s.clock + m.machine.delay) (processor s q)) → k < completed (processor s q)) × (k < completed (processor s q) → k < completed (resumed (s.clock + m.machine.delay) (processor s q))) × (k < suc (processor s q).place → k < (processor s q).place))
        member q h k t e =
            let idle : completed (processor s q) ≡ (processor s q).place = free_completed s.clock (processor s q).work (processor s q).place (waits_parts (code_at m b) s q (r.all_wait q h)).0 in
            let ne : k ≡ (processor s q).place → ⊥ = λ z. let x : Some (Do t) ≡ Some Wait = sym e ∙ ap (slice_get (stream q (code_at m b).line)) z ∙ wait_at m b fit done s i j r q h in cc in
            (λ l. let x : k < suc (processor s q).place = l in omega arith, λ l. let x : k < suc (processor s q).place = omega arith in x, λ l. omega arith)

    pub fire_behind : (a : ℕ) → IsBehind (code_at m b) s a → IsBehind (code_at m b) s' a
    fire_behind a h = record { p = h.p; k = h.k; at = h.at; lt = (fire_each h.p h.k a h.at.item).1 h.lt }

    fire_read : (q until t : ℕ) (operands : List ℤ) → (processor s' q).work ≡ Busy until t operands → operands ≡ read_of (tuple_at (code_at m b) t) (serial (code_at m b).tuples w t)
    fire_read q = subst (λ qs. (until t : ℕ) (operands : List ℤ) → (get_or qs q at_start).work ≡ Busy until t operands → operands ≡ read_of (tuple_at (code_at m b) t) (serial (code_at m b).tuples w t)) (sym ep) (fired_all (λ q x. (until t : ℕ) (operands : List ℤ) → x.work ≡ Busy until t operands → operands ≡ read_of (tuple_at (code_at m b) t) (serial (code_at m b).tuples w t)) (s.clock + m.machine.delay) r.mask s.processors (bound m b fit done s i j r) (λ q h until t operands e. absurd (cc)) (λ q h. v.read q) q)

    pub fire_values : Values (code_at m b) w s'
    fire_values = stays (code_at m b) w s s' v ew (λ a h. record { p = h.p; k = h.k; at = h.at; lt = (fire_each h.p h.k a h.at.item).1 h.lt }) (λ a h. record { p = h.p; k = h.k; at = h.at; lt = (fire_each h.p h.k a h.at.item).0 h.lt }) fire_read (λ a c x h. v.order a c x (record { p = h.p; k = h.k; at = h.at; lt = (fire_each h.p h.k c h.at.item).2 h.lt }))

  -- ---- Finish
  module _ (p until t : ℕ) (operands : List ℤ) (is : (processor s p).work ≡ Busy until t operands) where
    unfoldable pub after_finish : State
    after_finish = record (with_processor s p (freed (processor s p))) { world = written (tuple_at (code_at m b) t) t operands s.world }

    within : p < length s.processors
    within = go (cases_lt p (length s.processors))
      where
        go : (p < length s.processors) ⊎ (length s.processors ≤ p) → p < length s.processors
        go (inl h) = h
        go (inr h) = absurd (let x : Idle ≡ Busy until t operands = sym (ap (λ q. q.work) (get_or_past s.processors p at_start h)) ∙ is in cc)

    pub record Stood : Type 0 where
      pub k : ℕ
      pub place : (processor s p).place ≡ suc k
      pub item : slice_get (stream p (code_at m b).line) k ≡ Some (Do t)
      pub had : completed (processor s p) ≡ k

    stood : Stood
    stood = let (k, e, item) = i.work p until t operands is in record { k = k; place = e; item = item; had = ap (λ w. completed_at w (processor s p).place) is ∙ ap pred e }

    split_one : (q : ℕ) → (k a : ℕ) → slice_get (stream q (code_at m b).line) k ≡ Some (Do a) → k < completed (get_or (set s.processors p (freed (processor s p))) q at_start) → (k < completed (processor s q)) ⊎ (a ≡ t)
    split_one = set_all (λ q x. (k a : ℕ) → slice_get (stream q (code_at m b).line) k ≡ Some (Do a) → k < completed x → (k < completed (processor s q)) ⊎ (a ≡ t)) s.processors p (freed (processor s p)) within (λ k a e l. go k a e l (cases_lt k stood.k)) (λ q ne k a e l. inl l)
      where
        go : (k a : ℕ) → slice_get (stream p (code_at m b).line) k ≡ Some (Do a) → k < (processor s p).place → (k < stood.k) ⊎ (stood.k ≤ k) → (k < completed (processor s p)) ⊎ (a ≡ t)
        go k a e l (inl h) = inl (let x = stood.had in omega arith)
        go k a e l (inr h) =
            let y = stood.place in let z : k ≡ stood.k = omega arith in
            let f : Some (Do a) ≡ Some (Do t) = sym e ∙ ap (slice_get (stream p (code_at m b).line)) z ∙ stood.item in inr (cc)

    split : (a : ℕ) → IsBehind (code_at m b) after_finish a → IsBehind (code_at m b) s a ⊎ (a ≡ t)
    unfolding after_finish
    split a h = go (split_one h.p h.k a h.at.item h.lt)
      where
        go : (h.k < completed (processor s h.p)) ⊎ (a ≡ t) → IsBehind (code_at m b) s a ⊎ (a ≡ t)
        go (inl l) = inl (record { p = h.p; k = h.k; at = h.at; lt = l })
        go (inr e) = inr e

    up_one : (q k : ℕ) → k < completed (processor s q) → k < completed (get_or (set s.processors p (freed (processor s p))) q at_start)
    up_one = set_all (λ q x. (k : ℕ) → k < completed (processor s q) → k < completed x) s.processors p (freed (processor s p)) within (λ k l. let x = stood.had in let y = stood.place in let z : k < (processor s p).place = omega arith in z) (λ q ne k l. l)

    pub up : (a : ℕ) → IsBehind (code_at m b) s a → IsBehind (code_at m b) after_finish a
    unfolding after_finish
    up a h = record { p = h.p; k = h.k; at = h.at; lt = up_one h.p h.k h.lt }

    pub now_behind : IsBehind (code_at m b) after_finish t
    unfolding after_finish
    now_behind = record { p = p; k = stood.k; at = record { item = stood.item }; lt = let x = ap completed (get_or-set_same s.processors p (freed (processor s p)) at_start within) in let y = stood.place in let z : stood.k < completed (freed (processor s p)) = (let u : stood.k < (processor s p).place = omega arith in u) in omega arith }

    not_behind : IsBehind (code_at m b) s t → ⊥
    not_behind h = let (e, f) = fit.once t h.p h.k p stood.k h.at (record { item = stood.item }) in let g = ap (λ q. completed (processor s q)) e in let l = h.lt in let x = stood.had in omega arith

    place_one : (q k : ℕ) → k < (get_or (set s.processors p (freed (processor s p))) q at_start).place → k < (processor s q).place
    place_one = set_all (λ q x. (k : ℕ) → k < x.place → k < (processor s q).place) s.processors p (freed (processor s p)) within (λ k l. l) (λ q ne k l. l)

    rs_is : operands ≡ read_of (tuple_at (code_at m b) t) (serial (code_at m b).tuples w t)
    rs_is = v.read p until t operands is

    -- a later writer of what t writes has not finished
    no_later : (l : Place) (a : ℕ) → Writes (code_at m b).tuples w t l → t < a → Writes (code_at m b).tuples w a l → IsBehind (code_at m b) s a → ⊥
    no_later l a wt lt wa h = not_behind (v.order t a (writes_conflict (code_at m b).tuples good w room t a l lt wt wa) (begun_of (code_at m b) s a h))

    left : (o : Option Tuple) → tuple_at (code_at m b) t ≡ o → (l : Place) → writes_some t o (serial (code_at m b).tuples w t) l ≡ false → look (written o t operands s.world) l ≡ look s.world l
    left None e l f = refl
    left (Some x) e l f = write_other t x operands s.world l (ap (λ z. writes t x z l) (rs_is ∙ ap (λ o. read_of o (serial (code_at m b).tuples w t)) e) ∙ f)

    made : (o : Option Tuple) → tuple_at (code_at m b) t ≡ o → (l : Place) → look s.world l ≡ look (serial (code_at m b).tuples w t) l → look (written o t operands s.world) l ≡ look (do_tuple t o (serial (code_at m b).tuples w t)) l
    made None e l f = f
    made (Some x) e l f =
        write_same t x operands s.world (serial (code_at m b).tuples w t) l (v.one_shape ∙ sym (serial_shape (code_at m b).tuples w t)) f
        ∙ ap (λ z. look (write t x z (serial (code_at m b).tuples w t)) l) (rs_is ∙ ap (λ o. read_of o (serial (code_at m b).tuples w t)) e)

    kept_shape : (o : Option Tuple) → shape (written o t operands s.world) ≡ shape s.world
    kept_shape None = refl
    kept_shape (Some x) = write_shape t x operands s.world

    value : (l : Place) (n : ℕ) → ((a : ℕ) → a < n → Writes (code_at m b).tuples w a l → IsBehind (code_at m b) after_finish a) → ((a : ℕ) → n ≤ a → Writes (code_at m b).tuples w a l → IsBehind (code_at m b) after_finish a → ⊥) → look (written (tuple_at (code_at m b) t) t operands s.world) l ≡ look (serial (code_at m b).tuples w n) l
    value l n f g = go (cases_Bool (writes_some t (tuple_at (code_at m b) t) (serial (code_at m b).tuples w t) l)) (cases_lt t n)
      where
        go : (writes_some t (tuple_at (code_at m b) t) (serial (code_at m b).tuples w t) l ≡ true) ⊎ (writes_some t (tuple_at (code_at m b) t) (serial (code_at m b).tuples w t) l ≡ false) → (t < n) ⊎ (n ≤ t) → look (written (tuple_at (code_at m b) t) t operands s.world) l ≡ look (serial (code_at m b).tuples w n) l
        go (inr no_write) c = left (tuple_at (code_at m b) t) refl l no_write ∙ v.value l n (λ a lt h. pick a h (split a (f a lt h))) (λ a le h x. g a le h (up a x))
          where
            pick : (a : ℕ) → Writes (code_at m b).tuples w a l → IsBehind (code_at m b) s a ⊎ (a ≡ t) → IsBehind (code_at m b) s a
            pick a h (inl x) = x
            pick a h (inr e) = absurd (both_ways _ no_write (subst (λ z. Writes (code_at m b).tuples w z l) e h))
        go (inl wt) (inr le) = absurd (g t le wt now_behind)
        go (inl wt) (inl lt) =
            made (tuple_at (code_at m b) t) refl l (v.value l t (λ a la h. early a la (split a (f a (omega arith) h))) (λ a le h x. later a le h x (cases_eq a t)))
            ∙ sym (serial_same (code_at m b).tuples w l (suc t) (n - suc t) (λ a lo hi h. between a lo h (split a (f a (omega arith) h))))
            ∙ ap (λ z. look (serial (code_at m b).tuples w z) l) (let z : suc t + (n - suc t) ≡ n = omega arith in z)
          where
            early : (a : ℕ) → a < t → IsBehind (code_at m b) s a ⊎ (a ≡ t) → IsBehind (code_at m b) s a
            early a la (inl x) = x
            early a la (inr e) = absurd (omega arith)

            later : (a : ℕ) → t ≤ a → Writes (code_at m b).tuples w a l → IsBehind (code_at m b) s a → (a ≡ t) ⊎ (a ≡ t → ⊥) → ⊥
            later a le h x (inl e) = not_behind (subst (IsBehind (code_at m b) s) e x)
            later a le h x (inr ne) = no_later l a wt (omega arith) h x

            between : (a : ℕ) → suc t ≤ a → Writes (code_at m b).tuples w a l → IsBehind (code_at m b) s a ⊎ (a ≡ t) → ⊥
            between a lo h (inl x) = no_later l a wt (omega arith) h x
            between a lo h (inr e) = absurd (omega arith)

    pub finish_values : Values (code_at m b) w after_finish
    unfolding after_finish
    finish_values = record {
      one_shape = kept_shape (tuple_at (code_at m b) t) ∙ v.one_shape;
      read = set_all (λ q x. (until u : ℕ) (operands : List ℤ) → x.work ≡ Busy until u operands → operands ≡ read_of (tuple_at (code_at m b) u) (serial (code_at m b).tuples w u)) s.processors p (freed (processor s p)) within (λ until u operands e. absurd (cc)) (λ q ne. v.read q);
      order = λ a c x h. up a (v.order a c x (record { p = h.p; k = h.k; at = h.at; lt = place_one h.p h.k h.lt }));
      value = value;
    }
