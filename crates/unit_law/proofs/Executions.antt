-- The steps of an execution are those of its block, and who has finished in it has a tick there.
use Rattle.std.proofs.Common.{◌≡◌, ℕ, true, false, List, [], ◌∷◌, Some, refl, sym, ◌∙◌, ◌⊎◌, inl, inr}
use Rattle.std.specs.Prelude.{◌↔◌}
use Rattle.std.proofs.lemmas.Bool.{cases_Bool, both_ways, eq-eqb, eqb-true, cond-true, cond-false}
use Rattle.bm_base.specs.Memory.{Content}
use Rattle.unit_law.specs.State.{Program, Mode, In, Entering, Ended, Work, Idle, Busy, Held, State, code_at, processor, next_item}
use Rattle.unit_law.specs.Steps.{Action, Finish, Fire, Start, Branch, Advance, Enter, May, may_to, after_to, state_after, IsRun}
use Rattle.unit_law.specs.Execution.{since_entry, execution, WorksOn, FinishedIn, HasFinished, tick_of, is_work_on, finishes_tuple, finish_tick, AllWithin}
use Rattle.unit_law.proofs.Ordered.{started_mode}

within_step : (m : Program) (b : ℕ) (s : State) (mode : Mode) → s.mode ≡ mode → (steps : List (State × Action)) → ((c : ℕ) → mode ≡ In c → AllWithin m c steps) → (a : Action) → may_to m mode s a → May m s a → (after_to m mode s a).mode ≡ In b → AllWithin m b (since_entry s a steps)
within_step m b s (In c) e steps ih (Finish p) may x h = (h, x, ih b (sym e ∙ h))
within_step m b s (In c) e steps ih (Fire j) may x h = (h, x, ih b (sym e ∙ h))
within_step m b s (In c) e steps ih (Start p d) may x h = let k = sym (started_mode (code_at m c) s p d (next_item (code_at m c) s p)) ∙ h in (k, x, ih b (sym e ∙ k))
within_step m b s (In c) e steps ih Branch may x h = tt
within_step m b s (In c) e steps ih Advance may x h = (h, x, ih b (sym e ∙ h))
within_step m b s (In c) e steps ih Enter may x h = tt
within_step m b s (Entering c) e steps ih Enter may x h = tt
within_step m b s (Entering c) e steps ih (Finish p) may x h = absurd may
within_step m b s (Entering c) e steps ih (Fire j) may x h = absurd may
within_step m b s (Entering c) e steps ih (Start p d) may x h = absurd may
within_step m b s (Entering c) e steps ih Branch may x h = absurd may
within_step m b s (Entering c) e steps ih Advance may x h = absurd may
within_step m b s Ended e steps ih a may x h = absurd may

pub all_within : (m : Program) (memory : List Content) (past : List Action) → IsRun m memory past → (b : ℕ) → (state_after m memory past).mode ≡ In b → AllWithin m b (execution m memory past)
all_within m memory [] run b e = tt
all_within m memory (a ∷ past) run b e = within_step m b (state_after m memory past) (state_after m memory past).mode refl (execution m memory past) (all_within m memory past run.0) a run.1 run.1 e

works : (work : Work) (t : ℕ) → WorksOn work t → is_work_on work t ≡ true
works Idle t w = absurd w
works (Busy until u operands) t w = eq-eqb u t w
works (Held until) t w = absurd w

works_of : (work : Work) (t : ℕ) → is_work_on work t ≡ true → WorksOn work t
works_of Idle t e = absurd (both_ways true (sym e) refl)
works_of (Busy until u operands) t e = eqb-true u t e
works_of (Held until) t e = absurd (both_ways true (sym e) refl)

tick_at : (steps : List (State × Action)) (t : ℕ) → FinishedIn steps t → (tick : ℕ) × (tick_of (finishes_tuple t) steps ≡ Some tick)
tick_at [] t f = absurd f
tick_at ((s, Finish p) ∷ steps) t f = go (cases_Bool (is_work_on (processor s p).work t)) f (tick_at steps t)
  where
    go : (is_work_on (processor s p).work t ≡ true) ⊎ (is_work_on (processor s p).work t ≡ false) → WorksOn (processor s p).work t ⊎ FinishedIn steps t → (FinishedIn steps t → (tick : ℕ) × (tick_of (finishes_tuple t) steps ≡ Some tick)) → (tick : ℕ) × (tick_of (finishes_tuple t) ((s, Finish p) ∷ steps) ≡ Some tick)
    go (inl e) g ih = (s.clock, cond-true _ _ _ e)
    go (inr e) (inl w) ih = absurd (both_ways _ e (works (processor s p).work t w))
    go (inr e) (inr g) ih = let (tick, x) = ih g in (tick, cond-false _ _ _ e ∙ x)
tick_at ((s, Fire j) ∷ steps) t f = tick_at steps t f
tick_at ((s, Start p d) ∷ steps) t f = tick_at steps t f
tick_at ((s, Branch) ∷ steps) t f = tick_at steps t f
tick_at ((s, Advance) ∷ steps) t f = tick_at steps t f
tick_at ((s, Enter) ∷ steps) t f = tick_at steps t f

at_tick : (steps : List (State × Action)) (t : ℕ) → (tick : ℕ) × (tick_of (finishes_tuple t) steps ≡ Some tick) → FinishedIn steps t
at_tick [] t (tick, e) = absurd (cc)
at_tick ((s, Finish p) ∷ steps) t (tick, e) = go (cases_Bool (is_work_on (processor s p).work t)) (at_tick steps t)
  where
    go : (is_work_on (processor s p).work t ≡ true) ⊎ (is_work_on (processor s p).work t ≡ false) → ((tick : ℕ) × (tick_of (finishes_tuple t) steps ≡ Some tick) → FinishedIn steps t) → WorksOn (processor s p).work t ⊎ FinishedIn steps t
    go (inl w) ih = inl (works_of (processor s p).work t w)
    go (inr w) ih = inr (ih (tick, sym (cond-false _ _ _ w) ∙ e))
at_tick ((s, Fire j) ∷ steps) t x = at_tick steps t x
at_tick ((s, Start p d) ∷ steps) t x = at_tick steps t x
at_tick ((s, Branch) ∷ steps) t x = at_tick steps t x
at_tick ((s, Advance) ∷ steps) t x = at_tick steps t x
at_tick ((s, Enter) ∷ steps) t x = at_tick steps t x

pub finished_exactly : (m : Program) (memory : List Content) (past : List Action) (t : ℕ) → HasFinished m memory past t ↔ ((tick : ℕ) × (finish_tick m memory past t ≡ Some tick))
finished_exactly m memory past t = (tick_at (execution m memory past) t, at_tick (execution m memory past) t)
