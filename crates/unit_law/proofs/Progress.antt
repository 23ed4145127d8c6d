-- A state within a block can step.
use Rattle.std.proofs.Common.{◌≡◌, ℕ, zero, suc, ◌<◌, ◌≤◌, Bool, true, false, not, ◌&&◌, List, [], ◌∷◌, length, get_or, min, Option, Some, None, slice_get, le_refl, refl, sym, ap, ◌∙◌, subst, arith, ◌⊎◌, inl, inr}
use Rattle.std.proofs.lemmas.Bool.{cases_lt, both_ways, and_parts, and_from, and_cases, not-true, not-false, cond-true, lt-ltb, leb-false}
use Rattle.std.proofs.lemmas.Option.{slice_get_within, slice_get-get_or}
use Rattle.tuple_ir.specs.declared.tuple.Tuple.{Tuple}
use Rattle.line_model.specs.declared.line.StreamItem.{StreamItem}
use Rattle.line_model.specs.declared.line.StreamItem.TheVariants.{Do, Wait}
use Rattle.bm_base.specs.Mask.{has_bit}
use Rattle.line_model.specs.Streams.{stream, masks, before}
use Rattle.line_model.specs.Order.{HasMember}
use Rattle.line_model.proofs.LineFacts.{bar_of_wait}
use Rattle.unit_law.specs.State.{Program, Mode, In, Entering, Ended, Work, Idle, Busy, Held, Processor, State, at_start, code_at, interval_of, processor, is_free, next_item, is_wait, waits}
use Rattle.unit_law.specs.Units.{IsUrgent, IsLawful, is_behind}
use Rattle.unit_law.specs.Steps.{Action, Finish, Fire, Start, Branch, Advance, Enter, NoneDue, MayIn, may_to, IsNext, IsAtEnd, IsDuration, least_tick, lesser, tick, state_after}
use Rattle.unit_law.specs.Fit.{IsFit, AllFit, HasTimes}
use Rattle.unit_law.specs.Execution.{HasFinished}
use Rattle.unit_law.specs.Determinate.{Follows, goes_on, NeverStuck}
use Rattle.unit_law.proofs.Agree.{member_wait}
use Rattle.unit_law.specs.Inside.{Inside}
use Rattle.unit_law.proofs.Inside.{wait_item}
use Rattle.unit_law.proofs.Ordered.{Holds, run_holds}
use Rattle.unit_law.proofs.Search.{First, search_below}

is_do : Option StreamItem → Bool
is_do (Some (Do t)) = true
is_do (Some Wait) = false
is_do None = false

do_item : (o : Option StreamItem) → is_do o ≡ true → (t : ℕ) × (o ≡ Some (Do t))
unfolding is_do
do_item None e = absurd (both_ways true (sym e) refl)
do_item (Some Wait) e = absurd (both_ways true (sym e) refl)
do_item (Some (Do t)) e = (t, refl)

not_do : (o : Option StreamItem) (t : ℕ) → is_do o ≡ false → o ≡ Some (Do t) → ⊥
unfolding is_do
not_do None t e f = cc
not_do (Some Wait) t e f = cc
not_do (Some (Do u)) t e f = both_ways true e refl

-- an item that is no tuple is a wait
wait_or : (o : Option StreamItem) → is_do o ≡ false → (is_wait o ≡ true) ⊎ (o ≡ None)
unfolding is_do
wait_or None e = inr refl
wait_or (Some Wait) e = inl refl
wait_or (Some (Do u)) e = absurd (both_ways true e refl)

lesser_left : (a : ℕ) (o : Option ℕ) → (t : ℕ) × (lesser (Some a) o ≡ Some t)
lesser_left a None = (a, refl)
lesser_left a (Some b) = (min a b, refl)

lesser_right : (o : Option ℕ) (a : ℕ) → (t : ℕ) × (lesser o (Some a) ≡ Some t)
lesser_right None a = (a, refl)
lesser_right (Some b) a = (min b a, refl)

-- a processor that is not free gives a least tick
busy_tick : (clock : ℕ) (qs : List Processor) (p : ℕ) → is_free clock (get_or qs p at_start).work ≡ false → (t : ℕ) × (least_tick clock qs ≡ Some t)
busy_tick clock [] p e = absurd (both_ways true e refl)
busy_tick clock (q ∷ qs) zero e = go q.work e
  where
    go : (w : Work) → is_free clock w ≡ false → (t : ℕ) × (lesser (tick clock w) (least_tick clock qs) ≡ Some t)
    go Idle e = absurd (both_ways true e refl)
    go (Busy until t operands) e = lesser_left until (least_tick clock qs)
    go (Held until) e = let (t, h) = lesser_left until (least_tick clock qs) in (t, ap (λ o. lesser o (least_tick clock qs)) (cond-true _ _ _ (lt-ltb clock until (leb-false until clock e))) ∙ h)
busy_tick clock (q ∷ qs) (suc p) e = let (t, h) = busy_tick clock qs p e in let (u, g) = lesser_right (tick clock q.work) t in (u, ap (lesser (tick clock q.work)) h ∙ g)

module _ (m : Program) (b : ℕ) (fit : IsFit m (code_at m b)) (times : HasTimes m) (done : ℕ → Type 0) (s : State) (i : Inside m (code_at m b) done s) (none : NoneDue s) where
  starts : ℕ → Bool
  starts p = is_free s.clock (processor s p).work && is_do (next_item (code_at m b) s p)

  -- a Start, where some processor is idle at a tuple
  start_step : (p : ℕ) → p < m.machine.processors → starts p ≡ true → (a : Action) × MayIn m b s a × Follows None a
  unfolding starts
  start_step p lt e =
      let (idle, d) = and_parts _ _ e in
      let (t, item) = do_item (next_item (code_at m b) s p) d in
      let within : t < length (code_at m b).tuples = (fit.stands t p (processor s p).place (record { item = item })).1 in
      go p lt idle t item (slice_get (code_at m b).tuples t) refl within
    where
      go : (p : ℕ) → p < m.machine.processors → is_free s.clock (processor s p).work ≡ true → (t : ℕ) → next_item (code_at m b) s p ≡ Some (Do t) → (o : Option Tuple) → slice_get (code_at m b).tuples t ≡ o → t < length (code_at m b).tuples → (a : Action) × MayIn m b s a × Follows None a
      go p lt idle t item None e within = absurd (let x = slice_get_in (code_at m b).tuples t within in let y : None ≡ Some x.0 = sym e ∙ x.1 in cc)
        where
          slice_get_in : (ts : List Tuple) (t : ℕ) → t < length ts → (x : Tuple) × (slice_get ts t ≡ Some x)
          slice_get_in [] t h = absurd (omega arith)
          slice_get_in (x ∷ ts) zero h = (x, refl)
          slice_get_in (x ∷ ts) (suc t) h = slice_get_in ts t (omega arith)
      go p lt idle t item (Some x) e within = (Start p ((interval_of m x).least), (none, (t, record { is_one = lt; idle = idle; item = item }, subst (λ o. IsDuration m o ((interval_of m x).least)) (sym e) (record { low = le_refl _; high = (times x).1 }))), tt)

  no_start : ((p : ℕ) → p < m.machine.processors → starts p ≡ false) → (p t : ℕ) → IsNext m (code_at m b) s p t → ⊥
  unfolding starts is_do
  no_start h p t n = both_ways (starts p) (h p n.is_one) (and_from _ _ n.idle (ap is_do n.item))

  -- where nothing starts and all are idle, the first unfired mask is urgent
  urgent : ((p : ℕ) → p < m.machine.processors → starts p ≡ false) → ((p : ℕ) → p < m.machine.processors → is_free s.clock (processor s p).work ≡ true) → First (λ j. not (get_or s.fired j false)) (length (masks (code_at m b).line)) → (j : ℕ) × IsUrgent (masks (code_at m b).line) s.fired (waits (code_at m b) s) j
  unfolding starts
  urgent h idle f = (f.at, record { ready = record { mask = get_or (masks (code_at m b).line) f.at 0; at = at; unfired = unfired; all_wait = all_wait; first = λ k other p lt e g g2. not-false _ (f.earlier k lt) }; behind = behind f.at refl })
    where
      at : slice_get (masks (code_at m b).line) f.at ≡ Some (get_or (masks (code_at m b).line) f.at 0)
      at = slice_get-get_or (masks (code_at m b).line) f.at 0 f.below

      unfired : get_or s.fired f.at false ≡ false
      unfired = not-true _ f.is

      behind : (j : ℕ) → j ≡ f.at → is_behind s.fired j ≡ true
      behind zero e = refl
      behind (suc j) e = not-false _ (f.earlier j (omega arith))

      all_wait : (p : ℕ) → has_bit (get_or (masks (code_at m b).line) f.at 0) p ≡ true → waits (code_at m b) s p ≡ true
      all_wait p g = and_from _ _ (lt-ltb p (length s.processors) (omega (arith, i.processors, lt))) (and_from _ _ (idle p lt) (item (wait_or (next_item (code_at m b) s p) no_do)))
        where
          mem : HasMember (code_at m b).line f.at p
          mem = record { mask = get_or (masks (code_at m b).line) f.at 0; at = at; has = g }

          lt : p < m.machine.processors
          lt = fit.members f.at p mem

          no_do : is_do (next_item (code_at m b) s p) ≡ false
          no_do = second (and_cases _ _ (h p lt))
            where
              second : (is_free s.clock (processor s p).work ≡ false) ⊎ (is_do (next_item (code_at m b) s p) ≡ false) → is_do (next_item (code_at m b) s p) ≡ false
              second (inl x) = absurd (both_ways _ x (idle p lt))
              second (inr x) = x

          not_passed : (before p f.at (code_at m b).line < (processor s p).place) ⊎ ((processor s p).place ≤ before p f.at (code_at m b).line) → (processor s p).place ≤ before p f.at (code_at m b).line
          not_passed (inl x) = absurd (both_ways _ unfired (i.agrees.fired_if f.at p mem x))
          not_passed (inr x) = x

          item : (is_wait (next_item (code_at m b) s p) ≡ true) ⊎ (next_item (code_at m b) s p ≡ None) → is_wait (next_item (code_at m b) s p) ≡ true
          item (inl x) = x
          item (inr x) =
              let le = not_passed (cases_lt _ _) in
              let long = slice_get_within (stream p (code_at m b).line) (before p f.at (code_at m b).line) Wait (member_wait (code_at m b).line f.at p mem) in
              let some = slice_get-get_or (stream p (code_at m b).line) (processor s p).place Wait (omega arith) in
              let bad : None ≡ Some (get_or (stream p (code_at m b).line) (processor s p).place Wait) = sym x ∙ some in absurd (cc)

  -- where moreover all masks have fired, all streams have ended
  ended : ((p : ℕ) → p < m.machine.processors → starts p ≡ false) → ((p : ℕ) → p < m.machine.processors → is_free s.clock (processor s p).work ≡ true) → ((j : ℕ) → j < length (masks (code_at m b).line) → get_or s.fired j false ≡ true) → (p : ℕ) → p < m.machine.processors → IsAtEnd (code_at m b) s p
  unfolding starts
  ended h idle all p lt = record { idle = idle p lt; nothing = go (wait_or (next_item (code_at m b) s p) (second (and_cases _ _ (h p lt)))) }
    where
      second : (is_free s.clock (processor s p).work ≡ false) ⊎ (is_do (next_item (code_at m b) s p) ≡ false) → is_do (next_item (code_at m b) s p) ≡ false
      second (inl x) = absurd (both_ways _ x (idle p lt))
      second (inr x) = x

      go : (is_wait (next_item (code_at m b) s p) ≡ true) ⊎ (next_item (code_at m b) s p ≡ None) → next_item (code_at m b) s p ≡ None
      go (inr x) = x
      go (inl x) =
          let w = bar_of_wait p (code_at m b).line (processor s p).place (wait_item _ x) in
          let f = i.agrees.passed_if w.bar p w.member (all w.bar (slice_get_within _ w.bar w.member.mask w.member.at)) in
          absurd (omega (arith, w.at))

  pub can_step : (answer : Option ℕ) → IsLawful (masks (code_at m b).line) s.fired (waits (code_at m b) s) answer → (a : Action) × MayIn m b s a × Follows answer a
  can_step (Some j) lawful = (Fire j, (none, lawful), refl)
  can_step None lawful = at_starts (search_below starts m.machine.processors)
    where
      at_masks : ((p : ℕ) → p < m.machine.processors → starts p ≡ false) → ((p : ℕ) → p < m.machine.processors → is_free s.clock (processor s p).work ≡ true) → First (λ j. not (get_or s.fired j false)) (length (masks (code_at m b).line)) ⊎ ((j : ℕ) → j < length (masks (code_at m b).line) → not (get_or s.fired j false) ≡ false) → (a : Action) × MayIn m b s a × Follows None a
      at_masks h idle (inl f) = let (j, u) = urgent h idle f in absurd (lawful j u)
      at_masks h idle (inr all) = (Branch, (none, ended h idle (λ j lt. not-false _ (all j lt))), tt)

      at_busy : ((p : ℕ) → p < m.machine.processors → starts p ≡ false) → First (λ p. not (is_free s.clock (processor s p).work)) m.machine.processors ⊎ ((p : ℕ) → p < m.machine.processors → not (is_free s.clock (processor s p).work) ≡ false) → (a : Action) × MayIn m b s a × Follows None a
      at_busy h (inl f) = (Advance, (none, no_start h, lawful, busy_tick s.clock s.processors f.at (not-true _ f.is)), tt)
      at_busy h (inr idle) = at_masks h (λ p lt. not-false _ (idle p lt)) (search_below (λ j. not (get_or s.fired j false)) (length (masks (code_at m b).line)))

      at_starts : First starts m.machine.processors ⊎ ((p : ℕ) → p < m.machine.processors → starts p ≡ false) → (a : Action) × MayIn m b s a × Follows None a
      at_starts (inl f) = start_step f.at f.below f.is
      at_starts (inr h) = at_busy h (search_below (λ p. not (is_free s.clock (processor s p).work)) m.machine.processors)

goes : (m : Program) → AllFit m → HasTimes m → (done : ℕ → Type 0) (s : State) (mode : Mode) → s.mode ≡ mode → Holds m done mode s → goes_on m s mode
unfolding Holds
goes m fit times done s (In b) e i = (
  λ p due. subst (λ o. may_to m o s (Finish p)) (sym e) due,
  λ answer none lawful.
      let (a, may, follows) = can_step m b (fit b) times done s i none answer lawful in
      record { action = a; may = subst (λ o. may_to m o s a) (sym e) may; follows = follows },
)
goes m fit times done s (Entering b) e i = subst (λ o. may_to m o s Enter) (sym e) tt
goes m fit times done s Ended e i = tt

pub never_stuck : (m : Program) → AllFit m → HasTimes m → NeverStuck m
never_stuck m fit times memory past kinds run = goes m fit times (HasFinished m memory past) (state_after m memory past) (state_after m memory past).mode refl (run_holds m fit memory past run)
