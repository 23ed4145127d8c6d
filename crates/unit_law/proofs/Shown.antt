-- Each action of a run but the silent ones shows an event.
use Rattle.std.proofs.Common.{◌≡◌, ℕ, zero, suc, ◌+◌, ◌<◌, Bool, true, false, List, [], ◌∷◌, length, get_or, Option, Some, None, refl, sym, ap, ◌∙◌, subst, arith, ◌⊎◌, inl, inr, if◌then◌else◌, ℤ, pos}
use Rattle.std.specs.Prelude.{◌↔◌}
use Rattle.std.specs.Ordering.{int_eq}
use Rattle.std.proofs.lemmas.Bool.{cases_Bool, both_ways, cond-true, cond-false}
use Rattle.bm_base.specs.Mask.{has_bit}
use Rattle.bm_base.specs.Memory.{Content}
use Rattle.tuple_ir.specs.declared.event.Event.{Event}
use Rattle.tuple_ir.specs.declared.event.Event.TheVariants as event
use Rattle.tuple_ir.specs.declared.tuple.Tuple.{Tuple}
use Rattle.tuple_ir.specs.declared.tuple.Tuple.TheVariants.{Const, Load, Store, LoadEl, StoreEl, One, Two, Print}
use Rattle.tuple_ir.specs.declared.block.Next.{Next}
use Rattle.tuple_ir.specs.declared.block.Next.TheVariants.{Halt, Goto, If}
use Rattle.tuple_ir.specs.World.{World, reads, cell, value_of}
use Rattle.line_model.specs.declared.line.StreamItem.{StreamItem}
use Rattle.line_model.specs.declared.line.StreamItem.TheVariants.{Do, Wait}
use Rattle.unit_law.specs.State.{Code, Program, Mode, In, Entering, Ended, Busy, Processor, State, at_start, code_at, processor, next_item}
use Rattle.unit_law.specs.Steps.{Action, Finish, Fire, Start, Branch, Advance, Enter, may_to, after_in, after_to, freed, resumed, passed, begun, started, read_of, target, tuple_at, state_after, IsRun}
use Rattle.unit_law.specs.Execution.{HasFinished}
use Rattle.unit_law.specs.Events.{value_event, tuple_event, finish_event, start_event, fire_event, branch_event, event_to, event_of, leads_on, is_silent}
use Rattle.unit_law.specs.Fit.{IsFit, AllFit}
use Rattle.unit_law.proofs.CanonicalRuns.{is_there}
use Rattle.unit_law.specs.Inside.{Inside}
use Rattle.unit_law.proofs.Inside.{set_all, work_due, due_within}
use Rattle.unit_law.proofs.Ordered.{Holds, entered_at, run_holds, started_mode}

-- a busy processor has read what its tuple reads of some world
abbrev pub HasRead : Code → Processor → Type 0
HasRead code q = (until t : ℕ) (operands : List ℤ) → q.work ≡ Busy until t operands → (w : World) × (operands ≡ read_of (tuple_at code t) w)

unfoldable pub AllRead : Program → Mode → State → Type 0
AllRead m (In b) s = (p : ℕ) → HasRead (code_at m b) (processor s p)
AllRead m (Entering b) s = Unit {0}
AllRead m Ended s = Unit {0}

passed_read : (code : Code) (until mask k : ℕ) (qs : List Processor) → ((p : ℕ) → HasRead code (get_or qs p at_start)) → (p : ℕ) → HasRead code (get_or (passed until mask k qs) p at_start)
passed_read code until mask k [] h p = h p
passed_read code until mask k (q ∷ qs) h zero = go (cases_Bool (has_bit mask k))
  where
    go : (has_bit mask k ≡ true) ⊎ (has_bit mask k ≡ false) → HasRead code (if has_bit mask k then resumed until q else q)
    go (inl e) = subst (HasRead code) (sym (cond-true (has_bit mask k) (resumed until q) q e)) (λ u t operands x. absurd (cc))
    go (inr e) = subst (HasRead code) (sym (cond-false (has_bit mask k) (resumed until q) q e)) (h 0)
passed_read code until mask k (q ∷ qs) h (suc p) = passed_read code until mask (suc k) qs (λ i. h (suc i)) p

started_read : (m : Program) (b : ℕ) (s : State) (p d : ℕ) → p < length s.processors → ((q : ℕ) → HasRead (code_at m b) (processor s q)) → (o : Option StreamItem) → (q : ℕ) → HasRead (code_at m b) (processor (started (code_at m b) s p d o) q)
started_read m b s p d lt h None = h
started_read m b s p d lt h (Some Wait) = h
started_read m b s p d lt h (Some (Do t)) = set_all (λ q x. HasRead (code_at m b) x) s.processors p (begun (processor s p) (s.clock + d) t (read_of (tuple_at (code_at m b) t) s.world)) lt (λ until u operands e. one until u operands e) (λ q ne. h q)
  where
    one : (until u : ℕ) (operands : List ℤ) → Busy (s.clock + d) t (read_of (tuple_at (code_at m b) t) s.world) ≡ Busy until u operands → (w : World) × (operands ≡ read_of (tuple_at (code_at m b) u) w)
    one until u operands e =
        let same : t ≡ u = cc in
        let read : read_of (tuple_at (code_at m b) t) s.world ≡ operands = cc in
        (s.world, sym read ∙ ap (λ v. read_of (tuple_at (code_at m b) v) s.world) same)

left_read : (m : Program) (s : State) (next : Next) (w : World) → AllRead m (target next w) s
unfolding AllRead
left_read m s Halt w = tt
left_read m s (Goto b) w = tt
left_read m s (If c one other) w = go (int_eq (cell w c) (pos 0))
  where
    go : (v : Bool) → AllRead m (if v then Entering other else Entering one) s
    go true = tt
    go false = tt

keeps_read : (m : Program) (done : ℕ → Type 0) (s : State) (mode : Mode) → s.mode ≡ mode → Holds m done mode s → AllRead m mode s → (a : Action) → may_to m mode s a → AllRead m (after_to m mode s a).mode (after_to m mode s a)
unfolding AllRead Holds
keeps_read m done s (In b) e i h (Finish p) may = subst (λ o. AllRead m o (after_in m b s (Finish p))) (sym e) (set_all (λ q x. HasRead (code_at m b) x) s.processors p (freed (processor s p)) (due_within s p may) (λ until t operands x. absurd (cc)) (λ q ne. h q))
keeps_read m done s (In b) e i h (Fire j) may = subst (λ o. AllRead m o (after_in m b s (Fire j))) (sym e) (passed_read (code_at m b) _ _ 0 s.processors h)
keeps_read m done s (In b) e i h (Start p d) may = subst (λ o. AllRead m o (after_in m b s (Start p d))) (sym (started_mode (code_at m b) s p d _ ∙ e)) (started_read m b s p d (let x = may.1.1.is_one in omega (arith, i.processors)) h (next_item (code_at m b) s p))
keeps_read m done s (In b) e i h Branch may = left_read m (after_in m b s Branch) (code_at m b).next s.world
keeps_read m done s (In b) e i h Advance may = subst (λ o. AllRead m o (after_in m b s Advance)) (sym e) h
keeps_read m done s (In b) e i h Enter may = absurd may
keeps_read m done s (Entering b) e i h Enter may = λ p. subst (HasRead (code_at m b)) (sym (entered_at m.machine.processors p)) (λ until t operands x. absurd (cc))
keeps_read m done s (Entering b) e i h (Finish p) may = absurd may
keeps_read m done s (Entering b) e i h (Fire j) may = absurd may
keeps_read m done s (Entering b) e i h (Start p d) may = absurd may
keeps_read m done s (Entering b) e i h Branch may = absurd may
keeps_read m done s (Entering b) e i h Advance may = absurd may
keeps_read m done s Ended e i h a may = absurd may

run_read : (m : Program) → AllFit m → (memory : List Content) (past : List Action) → IsRun m memory past → AllRead m (state_after m memory past).mode (state_after m memory past)
unfolding AllRead
run_read m fit memory [] r = λ p. subst (HasRead (code_at m 0)) (sym (entered_at m.machine.processors p)) (λ until t operands x. absurd (cc))
run_read m fit memory (a ∷ past) r = keeps_read m (HasFinished m memory past) (state_after m memory past) (state_after m memory past).mode refl (run_holds m fit memory past r.0) (run_read m fit memory past r.0) a r.1

-- what a tuple has read gives its value
reads_give : (t : Tuple) (w : World) → (v : ℤ) × (value_of t (reads t w) ≡ Some v)
reads_give (Const v) w = (_, refl)
reads_give (Load x) w = (_, refl)
reads_give (Store x v) w = (_, refl)
reads_give (LoadEl x i) w = (_, refl)
reads_give (StoreEl x i v) w = (_, refl)
reads_give (One op a) w = (_, refl)
reads_give (Two op a b) w = (_, refl)
reads_give (Print v) w = (_, refl)

value_shows : (clock p t : ℕ) (tuple : Tuple) (v : ℤ) → (e : Event) × (value_event clock p t tuple (Some v) ≡ Some e)
value_shows clock p t (Const x) v = (_, refl)
value_shows clock p t (Load x) v = (_, refl)
value_shows clock p t (Store x y) v = (_, refl)
value_shows clock p t (LoadEl x i) v = (_, refl)
value_shows clock p t (StoreEl x i y) v = (_, refl)
value_shows clock p t (One op a) v = (_, refl)
value_shows clock p t (Two op a b) v = (_, refl)
value_shows clock p t (Print x) v = (_, refl)

shown : (o : Option Event) → (e : Event) × (o ≡ Some e) → (o ≡ None) ↔ (false ≡ true)
shown o (e, s) = (λ n. let x : Some e ≡ None = sym s ∙ n in cc, λ f. absurd (both_ways true (sym f) refl))

quiet : (o : Option Event) → o ≡ None → (o ≡ None) ↔ (true ≡ true)
quiet o e = (λ x. refl, λ x. e)

module _ (m : Program) (b : ℕ) (fit : IsFit m (code_at m b)) (done : ℕ → Type 0) (s : State) (i : Inside m (code_at m b) done s) (read : (p : ℕ) → HasRead (code_at m b) (processor s p)) where
  finish_shows : (p until t : ℕ) (operands : List ℤ) → (processor s p).work ≡ Busy until t operands → (e : Event) × (finish_event (code_at m b) s.clock p (processor s p).work ≡ Some e)
  finish_shows p until t operands is =
      let (k, place, at) = i.work p until t operands is in
      let (tuple, there) = is_there (code_at m b).tuples t (fit.stands t p k (record { item = at })).1 in
      let (w, were) = read p until t operands is in
      let (v, gives) = reads_give tuple w in
      let (e, shows) = value_shows s.clock p t tuple v in
      let value : value_of tuple operands ≡ Some v = ap (value_of tuple) (were ∙ ap (λ o. read_of o w) there) ∙ gives in
      (e, ap (finish_event (code_at m b) s.clock p) is ∙ ap (λ o. tuple_event s.clock p t o operands) there ∙ ap (value_event s.clock p t tuple) value ∙ shows)

right_in : (m : Program) → AllFit m → (done : ℕ → Type 0) (s : State) (mode : Mode) → Holds m done mode s → AllRead m mode s → (a : Action) → may_to m mode s a → (event_to m mode s a ≡ None) ↔ (is_silent m mode a ≡ true)
unfolding Holds AllRead
right_in m fit done s (In b) i read (Finish p) may = let (until, t, operands, is) = work_due s.clock (processor s p).work may in shown _ (finish_shows m b (fit b) done s i read p until t operands is)
right_in m fit done s (In b) i read (Fire j) may = shown _ (event.Fired s.clock j may.1.mask, ap (fire_event s.clock j) may.1.at)
right_in m fit done s (In b) i read (Start p d) may = shown _ (event.Started s.clock p may.1.0 d, ap (start_event s.clock p d) may.1.1.item)
right_in m fit done s (In b) i read Branch may = go (code_at m b).next
  where
    go : (next : Next) → (branch_event s.clock next ≡ None) ↔ (leads_on next ≡ true)
    go Halt = shown _ (event.Ended s.clock, refl)
    go (Goto c) = quiet _ refl
    go (If c one other) = quiet _ refl
right_in m fit done s (In b) i read Advance may = quiet _ refl
right_in m fit done s (In b) i read Enter may = absurd may
right_in m fit done s (Entering b) i read Enter may = shown _ (event.Entered (s.clock + 1) b, refl)
right_in m fit done s (Entering b) i read (Finish p) may = absurd may
right_in m fit done s (Entering b) i read (Fire j) may = absurd may
right_in m fit done s (Entering b) i read (Start p d) may = absurd may
right_in m fit done s (Entering b) i read Branch may = absurd may
right_in m fit done s (Entering b) i read Advance may = absurd may
right_in m fit done s Ended i read a may = absurd may

pub shows_exactly : (m : Program) → AllFit m → (memory : List Content) (past : List Action) (a : Action) → IsRun m memory (a ∷ past) → (event_of m (state_after m memory past) a ≡ None) ↔ (is_silent m (state_after m memory past).mode a ≡ true)
shows_exactly m fit memory past a run = right_in m fit (HasFinished m memory past) (state_after m memory past) (state_after m memory past).mode (run_holds m fit memory past run.0) (run_read m fit memory past run.0) a run.1
