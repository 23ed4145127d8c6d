-- What the tuples of a block still count in all, by the place where each stands, and that no step within the block raises it.
use Rattle.std.proofs.Common.{◌≡◌, ℕ, suc, ◌+◌, ◌*◌, ◌<◌, ◌≤◌, Bool, true, false, nat_eq, if◌then◌else◌, List, length, get_or, set, Option, Some, None, slice_get, ℤ, refl, sym, ap, ◌∙◌, subst, le_refl, arith, ◌⊎◌, inl, inr, get_or-set_same, get_or-set_other}
use Rattle.std.proofs.lemmas.Bool.{cases_eq, cases_lt, both_ways, cond-true, cond-false, eq-eqb, ne_eqb}
use Rattle.std.proofs.lemmas.Option.{slice_get_within}
use Rattle.tuple_ir.specs.World.{World}
use Rattle.line_model.specs.declared.line.StreamItem.{StreamItem}
use Rattle.line_model.specs.declared.line.StreamItem.TheVariants.{Do, Wait}
use Rattle.line_model.specs.Streams.{stream, masks}
use Rattle.line_model.specs.Order.{StandsAt}
use Rattle.unit_law.specs.State.{Code, Program, Work, Busy, Held, Processor, State, at_start, code_at, entered, processor, is_due, next_item, waits}
use Rattle.unit_law.specs.Units.{IsReady}
use Rattle.unit_law.specs.Steps.{Action, Finish, Fire, Start, Branch, Advance, Enter, NoneDue, IsNext, IsDuration, least_tick, tuple_at, read_of, freed, begun, passed, started, after_in}
use Rattle.unit_law.specs.Fit.{IsFit, AllStand}
use Rattle.unit_law.specs.Determinate.{sum_below}
use Rattle.unit_law.proofs.Least.{Goes, busy_until, held_until, least_is, goes_of}
use Rattle.unit_law.specs.Inside.{Inside}
use Rattle.unit_law.proofs.Inside.{advance_rise, set_all, due_within, work_due, waits_parts, fired_all, bound, wait_at, mask_is}
use Rattle.unit_law.proofs.Kept.{started_fired}
use Rattle.unit_law.proofs.Fronts.{none_fired}
use Rattle.unit_law.proofs.Ordered.{entered_at}
use Rattle.unit_law.proofs.Meets.{started_clock}
use Rattle.unit_law.proofs.Sums.{sum_le, sum_falls, sum_const}
use Rattle.unit_law.proofs.Parts.{part, part_ahead, begun_part, begun_here, freed_part, freed_here, worked_part, resumed_part, advanced_part}

-- a way to count in block b: what a tuple counts before it starts, and while a processor works on it, by the clock; what a mask counts
-- before it fires, and until its hold is over; what a Start, a Finish and a Fire take from that, and what an Advance takes
pub record Count (m : Program) (b : ℕ) : Type 0 where
  pub ahead : ℕ → ℕ
  pub rest : ℕ → Work → ℕ
  pub each : ℕ
  pub fall : ℕ → ℕ → ℕ
  pub wait : ℕ
  pub hold : ℕ → ℕ → ℕ
  pub starts : (clock t d : ℕ) (operands : List ℤ) → IsDuration m (tuple_at (code_at m b) t) d → rest clock (Busy (clock + d) t operands) + each ≤ ahead t
  pub finishes : (clock : ℕ) (w : Work) → is_due clock w ≡ true → each ≤ rest clock w
  pub stays : (clock later : ℕ) (w : Work) → clock ≤ later → is_due clock w ≡ false → rest later w ≤ rest clock w
  pub advances : (clock later t : ℕ) (operands : List ℤ) → clock ≤ later → is_due clock (Busy later t operands) ≡ false → rest later (Busy later t operands) + fall clock later ≤ rest clock (Busy later t operands)
  pub fires : (clock : ℕ) → hold clock (clock + m.machine.delay) + each ≤ wait
  pub hold_stays : (clock later until : ℕ) → clock ≤ later → hold later until ≤ hold clock until
  pub hold_advances : (clock later : ℕ) → clock < later → hold later later + fall clock later ≤ hold clock later

-- the tick until which the members of each fired mask are held
abbrev pub HoldsAre : Code → State → (ℕ → ℕ) → Type 0
HoldsAre code s until = (p t : ℕ) → (processor s p).work ≡ Held t → s.clock < t → (j : ℕ) × (j < length (masks code.line)) × (get_or s.fired j false ≡ true) × (until j ≡ t)

-- an action sets it where a mask fires
abbrev pub holds_by : Program → State → Action → (ℕ → ℕ) → ℕ → ℕ
holds_by m s (Fire j) until = λ i. if nat_eq i j then s.clock + m.machine.delay else until i
holds_by m s (Finish p) until = until
holds_by m s (Start p d) until = until
holds_by m s Branch until = until
holds_by m s Advance until = until
holds_by m s Enter until = until

module _ (m : Program) (stand : AllStand m) (b : ℕ) (fit : IsFit m (code_at m b)) where
  -- where a tuple stands
  place_of : (t : ℕ) → (t < length (code_at m b).tuples) ⊎ (length (code_at m b).tuples ≤ t) → ℕ × ℕ
  place_of t (inl lt) = ((stand b t lt).0, (stand b t lt).1)
  place_of t (inr le) = (0, 0)

  where_is : ℕ → ℕ × ℕ
  where_is t = place_of t (cases_lt t (length (code_at m b).tuples))

  stands_there : (t : ℕ) → t < length (code_at m b).tuples → StandsAt (code_at m b).line t (where_is t).0 (where_is t).1
  unfolding where_is place_of
  stands_there t lt = go (cases_lt t (length (code_at m b).tuples))
    where
      go : (c : (t < length (code_at m b).tuples) ⊎ (length (code_at m b).tuples ≤ t)) → StandsAt (code_at m b).line t (place_of t c).0 (place_of t c).1
      go (inl l) = (stand b t l).2
      go (inr le) = absurd (omega arith)

  -- the sum over the block's tuples, each by its place
  unfoldable over : (ℕ → ℕ → ℕ → ℕ) → ℕ
  over f = sum_below (λ t. f t (where_is t).0 (where_is t).1) (length (code_at m b).tuples)

  over_le : (f g : ℕ → ℕ → ℕ → ℕ) → ((t p k : ℕ) → slice_get (stream p (code_at m b).line) k ≡ Some (Do t) → g t p k ≤ f t p k) → over g ≤ over f
  unfolding over
  over_le f g h = sum_le (λ t. f t (where_is t).0 (where_is t).1) (λ t. g t (where_is t).0 (where_is t).1) (length (code_at m b).tuples) (λ t lt. h t (where_is t).0 (where_is t).1 (stands_there t lt).item)

  over_falls : (f g : ℕ → ℕ → ℕ → ℕ) → ((t p k : ℕ) → slice_get (stream p (code_at m b).line) k ≡ Some (Do t) → g t p k ≤ f t p k) → (t p k d : ℕ) → slice_get (stream p (code_at m b).line) k ≡ Some (Do t) → g t p k + d ≤ f t p k → over g + d ≤ over f
  unfolding over
  over_falls f g h t p k d item e =
      let lt : t < length (code_at m b).tuples = (fit.stands t p k (record { item = item })).1 in
      let (q1, q2) = fit.once t (where_is t).0 (where_is t).1 p k (stands_there t lt) (record { item = item }) in
      let P : ℕ → ℕ → Type 0 = λ q l. g t q l + d ≤ f t q l in
      let here : P (where_is t).0 (where_is t).1 = subst (λ q. P q (where_is t).1) (sym q1) (subst (P p) (sym q2) e) in
      sum_falls (λ t. f t (where_is t).0 (where_is t).1) (λ t. g t (where_is t).0 (where_is t).1) (length (code_at m b).tuples) (λ u l. h u (where_is u).0 (where_is u).1 (stands_there u l).item) t d lt here

  module _ (c : Count m b) where
    abbrev one : State → ℕ → ℕ → ℕ → ℕ
    one s t p k = part (c.rest s.clock) (c.ahead t) k (processor s p)

    abbrev mask_one : (ℕ → ℕ) → State → ℕ → ℕ
    mask_one until s j = if get_or s.fired j false then c.hold s.clock (until j) else c.wait

    held_sum : (ℕ → ℕ) → State → ℕ
    held_sum until s = sum_below (mask_one until s) (length (masks (code_at m b).line))

    pub total : (ℕ → ℕ) → State → ℕ
    total until s = over (one s) + held_sum until s

    -- no mask has fired yet
    entered_held : (clock : ℕ) (until : ℕ → ℕ) (w : World) → held_sum until (entered m b clock w) ≤ c.wait * length (masks (code_at m b).line)
    unfolding held_sum
    entered_held clock until w =
        let x = sum_le (λ j. c.wait) (mask_one until (entered m b clock w)) (length (masks (code_at m b).line)) (λ j lt. let y : mask_one until (entered m b clock w) j ≡ c.wait = cond-false _ _ _ (none_fired (masks (code_at m b).line) j) in omega arith) in
        let y = sum_const c.wait (length (masks (code_at m b).line)) in omega arith

    entered_over : (clock : ℕ) (w : World) → over (one (entered m b clock w)) ≤ sum_below c.ahead (length (code_at m b).tuples)
    unfolding over
    entered_over clock w = sum_le c.ahead (λ t. one (entered m b clock w) t (where_is t).0 (where_is t).1) (length (code_at m b).tuples) (λ t lt. subst (λ q. part (c.rest clock) (c.ahead t) (where_is t).1 q ≤ c.ahead t) (sym (entered_at m.machine.processors (where_is t).0)) (whole t (where_is t).1))
      where
        whole : (t k : ℕ) → part (c.rest clock) (c.ahead t) k at_start ≤ c.ahead t
        whole t k = let x = part_ahead (c.rest clock) (c.ahead t) k at_start (omega arith) (omega arith) in omega arith

    pub entered_total : (clock : ℕ) (until : ℕ → ℕ) (w : World) → total until (entered m b clock w) ≤ sum_below c.ahead (length (code_at m b).tuples) + c.wait * length (masks (code_at m b).line)
    unfolding total
    entered_total clock until w = let x = entered_over clock w in let y = entered_held clock until w in omega arith

    -- no mask fires, and the clock stays
    held_same : (until : ℕ → ℕ) (s t : State) → t.fired ≡ s.fired → t.clock ≡ s.clock → held_sum until t ≡ held_sum until s
    unfolding held_sum
    held_same until s t f k = ap (λ x. sum_below (λ j. if get_or x j false then c.hold t.clock (until j) else c.wait) (length (masks (code_at m b).line))) f ∙ ap (λ x. sum_below (λ j. if get_or s.fired j false then c.hold x (until j) else c.wait) (length (masks (code_at m b).line))) k

    module _ (done : ℕ → Type 0) (s : State) (i : Inside m (code_at m b) done s) (until : ℕ → ℕ) where
      finish_over : (p : ℕ) → is_due s.clock (processor s p).work ≡ true → over (one (after_in m b s (Finish p))) + c.each ≤ over (one s)
      finish_over p due = go (work_due s.clock (processor s p).work due)
        where
          lt : p < length s.processors
          lt = due_within s p due

          less : (t r k : ℕ) → part (c.rest s.clock) (c.ahead t) k (get_or (set s.processors p (freed (processor s p))) r at_start) ≤ part (c.rest s.clock) (c.ahead t) k (processor s r)
          less t r k = set_all (λ r x. part (c.rest s.clock) (c.ahead t) k x ≤ part (c.rest s.clock) (c.ahead t) k (processor s r)) s.processors p (freed (processor s p)) lt (freed_part (c.rest s.clock) (c.ahead t) k (processor s p)) (λ r ne. le_refl _) r

          at : (until t : ℕ) (operands : List ℤ) → (processor s p).work ≡ Busy until t operands → (k : ℕ) × ((processor s p).place ≡ suc k) × (slice_get (stream p (code_at m b).line) k ≡ Some (Do t)) → over (one (after_in m b s (Finish p))) + c.each ≤ over (one s)
          at until t operands is (k, e, item) =
              let x = ap (λ q. part (c.rest s.clock) (c.ahead t) k q) (get_or-set_same s.processors p (freed (processor s p)) at_start lt) ∙ freed_here (c.rest s.clock) (c.ahead t) k (processor s p) e in
              let y = worked_part (c.rest s.clock) (c.ahead t) k until t operands (processor s p) is e in
              let z = c.finishes s.clock (processor s p).work due in
              let w = ap (c.rest s.clock) is in
              over_falls (one s) (one (after_in m b s (Finish p))) (λ t r k h. less t r k) t p k c.each item (omega arith)

          go : (until t : ℕ) × (operands : List ℤ) × ((processor s p).work ≡ Busy until t operands) → over (one (after_in m b s (Finish p))) + c.each ≤ over (one s)
          go (until, t, operands, is) = at until t operands is (i.work p until t operands is)

      pub finish_total : (p : ℕ) → is_due s.clock (processor s p).work ≡ true → total until (after_in m b s (Finish p)) + c.each ≤ total until s
      unfolding total
      finish_total p due = let x = finish_over p due in let y = held_same until s (after_in m b s (Finish p)) refl refl in omega arith

      fire_over : (j : ℕ) (r : IsReady (masks (code_at m b).line) s.fired (waits (code_at m b) s) j) → over (one (after_in m b s (Fire j))) ≤ over (one s)
      fire_over j r = over_le (one s) (one (after_in m b s (Fire j))) (λ t q k e. subst (λ mask. part (c.rest s.clock) (c.ahead t) k (get_or (passed (s.clock + m.machine.delay) mask 0 s.processors) q at_start) ≤ part (c.rest s.clock) (c.ahead t) k (processor s q)) (sym (mask_is m b fit done s i j r)) (fired_all (λ q x. (k t : ℕ) → slice_get (stream q (code_at m b).line) k ≡ Some (Do t) → part (c.rest s.clock) (c.ahead t) k x ≤ part (c.rest s.clock) (c.ahead t) k (processor s q)) (s.clock + m.machine.delay) r.mask s.processors (bound m b fit done s i j r) (λ q h k t e. resumed_part (c.rest s.clock) (c.ahead t) k s.clock (s.clock + m.machine.delay) (processor s q) (waits_parts (code_at m b) s q (r.all_wait q h)).0 (λ z. let x : Some (Do t) ≡ Some Wait = sym e ∙ ap (slice_get (stream q (code_at m b).line)) z ∙ wait_at m b fit done s i j r q h in cc)) (λ q h k t e. le_refl _) q k t e))

      fire_held : (j : ℕ) (r : IsReady (masks (code_at m b).line) s.fired (waits (code_at m b) s) j) → held_sum (holds_by m s (Fire j) until) (after_in m b s (Fire j)) + c.each ≤ held_sum until s
      unfolding held_sum
      fire_held j r = sum_falls (mask_one until s) (mask_one (holds_by m s (Fire j) until) (after_in m b s (Fire j))) (length (masks (code_at m b).line)) (λ k lt. less k (cases_eq k j)) j c.each (slice_get_within (masks (code_at m b).line) j r.mask r.at) falls
        where
          now : mask_one (holds_by m s (Fire j) until) (after_in m b s (Fire j)) j ≡ c.hold s.clock (s.clock + m.machine.delay)
          now = cond-true _ _ _ (get_or-set_same s.fired j true false (let x = slice_get_within (masks (code_at m b).line) j r.mask r.at in omega (arith, i.masks_are))) ∙ ap (c.hold s.clock) (cond-true _ _ _ (eq-eqb j j refl))

          falls : mask_one (holds_by m s (Fire j) until) (after_in m b s (Fire j)) j + c.each ≤ mask_one until s j
          falls = let x = now in let y : mask_one until s j ≡ c.wait = cond-false _ _ _ r.unfired in let z = c.fires s.clock in omega arith

          less : (k : ℕ) → (k ≡ j) ⊎ (k ≡ j → ⊥) → mask_one (holds_by m s (Fire j) until) (after_in m b s (Fire j)) k ≤ mask_one until s k
          less k (inl e) = subst (λ n. mask_one (holds_by m s (Fire j) until) (after_in m b s (Fire j)) n ≤ mask_one until s n) (sym e) (let x = falls in omega arith)
          less k (inr ne) =
              let x : mask_one (holds_by m s (Fire j) until) (after_in m b s (Fire j)) k ≡ mask_one until s k = ap (λ v. if v then c.hold s.clock (holds_by m s (Fire j) until k) else c.wait) (get_or-set_other s.fired j k true false ne) ∙ ap (λ u. if get_or s.fired k false then c.hold s.clock u else c.wait) (cond-false _ _ _ (ne_eqb k j ne)) in omega arith

      pub fire_total : (j : ℕ) (r : IsReady (masks (code_at m b).line) s.fired (waits (code_at m b) s) j) → total (holds_by m s (Fire j) until) (after_in m b s (Fire j)) + c.each ≤ total until s
      unfolding total
      fire_total j r = let x = fire_over j r in let y = fire_held j r in omega arith

      started_over : (p d t : ℕ) (n : IsNext m (code_at m b) s p t) → IsDuration m (tuple_at (code_at m b) t) d → (o : Option StreamItem) → next_item (code_at m b) s p ≡ o → over (one (started (code_at m b) s p d o)) + c.each ≤ over (one s)
      started_over p d t n time None e = absurd (let y : None ≡ Some (Do t) = sym e ∙ n.item in cc)
      started_over p d t n time (Some Wait) e = absurd (let y : Some Wait ≡ Some (Do t) = sym e ∙ n.item in cc)
      started_over p d t n time (Some (Do u)) e = over_falls (one s) (one (started (code_at m b) s p d (Some (Do u)))) (λ v r k h. less v r k h) u p (processor s p).place c.each e (let x = ap (λ q. part (c.rest s.clock) (c.ahead u) (processor s p).place q) (get_or-set_same s.processors p new at_start lt) in let (y, z) = begun_here (c.rest s.clock) (c.ahead u) s.clock (s.clock + d) u operands (processor s p) n.idle in let w = fits in omega arith)
        where
          operands : List ℤ
          operands = read_of (tuple_at (code_at m b) u) s.world

          new : Processor
          new = begun (processor s p) (s.clock + d) u operands

          lt : p < length s.processors
          lt = let x = n.is_one in omega (arith, i.processors)

          same : t ≡ u
          same = let y : Some (Do t) ≡ Some (Do u) = sym n.item ∙ e in cc

          fits : c.rest s.clock (Busy (s.clock + d) u operands) + c.each ≤ c.ahead u
          fits = c.starts s.clock u d operands (subst (λ w. IsDuration m (tuple_at (code_at m b) w) d) same time)

          here : (v k : ℕ) → slice_get (stream p (code_at m b).line) k ≡ Some (Do v) → k ≡ (processor s p).place → c.rest s.clock (Busy (s.clock + d) u operands) ≤ c.ahead v
          here v k h q =
              let y : Some (Do v) ≡ Some (Do u) = sym h ∙ ap (slice_get (stream p (code_at m b).line)) q ∙ e in
              let z : v ≡ u = cc in let w = ap c.ahead z in let x = fits in omega arith

          less : (v r k : ℕ) → slice_get (stream r (code_at m b).line) k ≡ Some (Do v) → part (c.rest s.clock) (c.ahead v) k (get_or (set s.processors p new) r at_start) ≤ part (c.rest s.clock) (c.ahead v) k (processor s r)
          less v r k h = set_all (λ r x. (k : ℕ) → slice_get (stream r (code_at m b).line) k ≡ Some (Do v) → part (c.rest s.clock) (c.ahead v) k x ≤ part (c.rest s.clock) (c.ahead v) k (processor s r)) s.processors p new lt (λ k h. begun_part (c.rest s.clock) (c.ahead v) k s.clock (s.clock + d) u operands (processor s p) n.idle (here v k h)) (λ r ne k h. le_refl _) r k h

      pub start_total : (p d t : ℕ) (n : IsNext m (code_at m b) s p t) → IsDuration m (tuple_at (code_at m b) t) d → total until (after_in m b s (Start p d)) + c.each ≤ total until s
      unfolding total
      start_total p d t n time = let x = started_over p d t n time (next_item (code_at m b) s p) refl in let y = held_same until s (after_in m b s (Start p d)) (started_fired (code_at m b) s p d (next_item (code_at m b) s p)) (started_clock (code_at m b) s p d (next_item (code_at m b) s p)) in omega arith

      module _ (none : NoneDue s) (t : ℕ) (least : least_tick s.clock s.processors ≡ Some t) (holds : HoldsAre (code_at m b) s until) where
        rise : s.clock ≤ t
        rise = advance_rise m b fit done s i t least

        advance_over : over (one (record s { clock = t })) ≤ over (one s)
        advance_over = over_le (one s) (one (record s { clock = t })) (λ v r k h. advanced_part (c.rest s.clock) (c.rest t) (c.ahead v) k (processor s r) (c.stays s.clock t (processor s r).work rise (none r)))

        advance_held : held_sum until (record s { clock = t }) ≤ held_sum until s
        unfolding held_sum
        advance_held = sum_le (mask_one until s) (mask_one until (record s { clock = t })) (length (masks (code_at m b).line)) (λ j lt. less (get_or s.fired j false) j)
          where
            less : (v : Bool) (j : ℕ) → (if v then c.hold t (until j) else c.wait) ≤ (if v then c.hold s.clock (until j) else c.wait)
            less true j = c.hold_stays s.clock t (until j) rise
            less false j = le_refl _

        advance_works : (p u : ℕ) (operands : List ℤ) → (processor s p).work ≡ Busy t u operands → over (one (record s { clock = t })) + c.fall s.clock t ≤ over (one s)
        advance_works p u operands is = go (i.work p t u operands is)
          where
            go : (k : ℕ) × ((processor s p).place ≡ suc k) × (slice_get (stream p (code_at m b).line) k ≡ Some (Do u)) → over (one (record s { clock = t })) + c.fall s.clock t ≤ over (one s)
            go (k, e, item) =
                let x = worked_part (c.rest s.clock) (c.ahead u) k t u operands (processor s p) is e in
                let y = worked_part (c.rest t) (c.ahead u) k t u operands (processor s p) is e in
                let z = c.advances s.clock t u operands rise (ap (is_due s.clock) (sym is) ∙ none p) in
                over_falls (one s) (one (record s { clock = t })) (λ v r k h. advanced_part (c.rest s.clock) (c.rest t) (c.ahead v) k (processor s r) (c.stays s.clock t (processor s r).work rise (none r))) u p k (c.fall s.clock t) item (omega arith)

        advance_resumes : (p : ℕ) → (processor s p).work ≡ Held t → s.clock < t → held_sum until (record s { clock = t }) + c.fall s.clock t ≤ held_sum until s
        unfolding held_sum
        advance_resumes p is later = go (holds p t is later)
          where
            less : (v : Bool) (j : ℕ) → (if v then c.hold t (until j) else c.wait) ≤ (if v then c.hold s.clock (until j) else c.wait)
            less true j = c.hold_stays s.clock t (until j) rise
            less false j = le_refl _

            go : (j : ℕ) × (j < length (masks (code_at m b).line)) × (get_or s.fired j false ≡ true) × (until j ≡ t) → sum_below (mask_one until (record s { clock = t })) (length (masks (code_at m b).line)) + c.fall s.clock t ≤ sum_below (mask_one until s) (length (masks (code_at m b).line))
            go (j, lt, f, e) =
                let x : mask_one until (record s { clock = t }) j ≡ c.hold t t = cond-true _ _ _ f ∙ ap (c.hold t) e in
                let y : mask_one until s j ≡ c.hold s.clock t = cond-true _ _ _ f ∙ ap (c.hold s.clock) e in
                let z = c.hold_advances s.clock t later in
                sum_falls (mask_one until s) (mask_one until (record s { clock = t })) (length (masks (code_at m b).line)) (λ j lt. less (get_or s.fired j false) j) j (c.fall s.clock t) lt (omega arith)

        pub advance_total : total until (record s { clock = t }) + c.fall s.clock t ≤ total until s
        unfolding total
        advance_total = let l = least_is s.clock s.processors t least in go l.p (goes_of s.clock t (processor s l.p).work l.is)
          where
            go : (p : ℕ) → Goes s.clock t (processor s p).work → over (one (record s { clock = t })) + held_sum until (record s { clock = t }) + c.fall s.clock t ≤ over (one s) + held_sum until s
            go p (busy_until u operands is) = let x = advance_works p u operands is in let y = advance_held in omega arith
            go p (held_until is later) = let x = advance_over in let y = advance_resumes p is later in omega arith

-- the ticks stay right
module _ (m : Program) (b : ℕ) (fit : IsFit m (code_at m b)) (done : ℕ → Type 0) (s : State) (i : Inside m (code_at m b) done s) (until : ℕ → ℕ) (holds : HoldsAre (code_at m b) s until) where
  pub finish_holds : (p : ℕ) → is_due s.clock (processor s p).work ≡ true → HoldsAre (code_at m b) (after_in m b s (Finish p)) until
  finish_holds p due = set_all (λ q x. (t : ℕ) → x.work ≡ Held t → s.clock < t → (j : ℕ) × (j < length (masks (code_at m b).line)) × (get_or s.fired j false ≡ true) × (until j ≡ t)) s.processors p (freed (processor s p)) (due_within s p due) (λ t e. absurd (cc)) (λ q ne. holds q)

  started_holds : (p d t : ℕ) (n : IsNext m (code_at m b) s p t) (o : Option StreamItem) → HoldsAre (code_at m b) (started (code_at m b) s p d o) until
  started_holds p d t n None = holds
  started_holds p d t n (Some Wait) = holds
  started_holds p d t n (Some (Do u)) = set_all (λ q x. (t : ℕ) → x.work ≡ Held t → s.clock < t → (j : ℕ) × (j < length (masks (code_at m b).line)) × (get_or s.fired j false ≡ true) × (until j ≡ t)) s.processors p (begun (processor s p) (s.clock + d) u (read_of (tuple_at (code_at m b) u) s.world)) (let x = n.is_one in omega (arith, i.processors)) (λ t e. absurd (cc)) (λ q ne. holds q)

  pub start_holds : (p d t : ℕ) (n : IsNext m (code_at m b) s p t) → HoldsAre (code_at m b) (after_in m b s (Start p d)) until
  start_holds p d t n = started_holds p d t n (next_item (code_at m b) s p)

  pub advance_holds : (t : ℕ) → s.clock ≤ t → HoldsAre (code_at m b) (record s { clock = t }) until
  advance_holds t le p u e lt = holds p u e (omega arith)

  pub fire_holds : (j : ℕ) (r : IsReady (masks (code_at m b).line) s.fired (waits (code_at m b) s) j) → HoldsAre (code_at m b) (after_in m b s (Fire j)) (holds_by m s (Fire j) until)
  fire_holds j r = subst (λ mask. (q t : ℕ) → (get_or (passed (s.clock + m.machine.delay) mask 0 s.processors) q at_start).work ≡ Held t → s.clock < t → Is t) (sym (mask_is m b fit done s i j r)) (fired_all (λ q x. (t : ℕ) → x.work ≡ Held t → s.clock < t → Is t) (s.clock + m.machine.delay) r.mask s.processors (bound m b fit done s i j r) (λ q h t e lt. now t (let x : s.clock + m.machine.delay ≡ t = cc in x)) (λ q h t e lt. before t (holds q t e lt)))
    where
      Is : ℕ → Type 0
      Is t = (k : ℕ) × (k < length (masks (code_at m b).line)) × (get_or (set s.fired j true) k false ≡ true) × (holds_by m s (Fire j) until k ≡ t)

      within : j < length (masks (code_at m b).line)
      within = slice_get_within (masks (code_at m b).line) j r.mask r.at

      now : (t : ℕ) → s.clock + m.machine.delay ≡ t → Is t
      now t e = (j, within, get_or-set_same s.fired j true false (omega (arith, i.masks_are, within)), cond-true _ _ _ (eq-eqb j j refl) ∙ e)

      before : (t : ℕ) → (k : ℕ) × (k < length (masks (code_at m b).line)) × (get_or s.fired k false ≡ true) × (until k ≡ t) → Is t
      before t (k, lt, f, e) = (k, lt, get_or-set_other s.fired j k true false ne ∙ f, cond-false _ _ _ (ne_eqb k j ne) ∙ e)
        where
          ne : k ≡ j → ⊥
          ne q = both_ways _ r.unfired (ap (λ n. get_or s.fired n false) (sym q) ∙ f)

pub entered_holds : (m : Program) (b clock : ℕ) (w : World) (until : ℕ → ℕ) → HoldsAre (code_at m b) (entered m b clock w) until
entered_holds m b clock w until p = subst (λ q. (t : ℕ) → q.work ≡ Held t → clock < t → (j : ℕ) × (j < length (masks (code_at m b).line)) × (get_or (entered m b clock w).fired j false ≡ true) × (until j ≡ t)) (sym (entered_at m.machine.processors p)) (λ t e. absurd (cc))
