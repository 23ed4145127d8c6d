-- In every run the clock only rises, places stay within the streams, and the steps of an execution of a block are bounded.
use Rattle.std.proofs.Common.{◌≡◌, ℕ, suc, ◌+◌, ◌<◌, ◌≤◌, Bool, true, false, List, [], ◌∷◌, ◌++◌, length, get_or, Option, Some, None, slice_get, pos, refl, sym, ap, ◌∙◌, subst, le_refl, le_trans, arith, if◌then◌else◌, replicate}
use Rattle.std.specs.Ordering.{int_eq}
use Rattle.std.proofs.lemmas.Option.{slice_get_within}
use Rattle.bm_base.specs.Mask.{has_bit}
use Rattle.bm_base.specs.Memory.{Content}
use Rattle.tuple_ir.specs.declared.block.Next.{Next}
use Rattle.tuple_ir.specs.declared.block.Next.TheVariants.{Halt, Goto, If}
use Rattle.tuple_ir.specs.World.{World, cell}
use Rattle.line_model.specs.declared.line.StreamItem.{StreamItem}
use Rattle.line_model.specs.declared.line.StreamItem.TheVariants.{Do, Wait}
use Rattle.line_model.specs.Streams.{stream, masks}
use Rattle.unit_law.specs.State.{Code, Program, Mode, In, Entering, Ended, State, Processor, at_start, code_at, processor, next_item}
use Rattle.unit_law.specs.Steps.{Action, Finish, Fire, Start, Branch, Advance, Enter, MayIn, IsNext, may_to, or_clock, target, freed, begun, resumed, passed, read_of, tuple_at, started, after_in, after_to, state_after, IsRun}
use Rattle.unit_law.specs.Fit.{AllFit, AllStand}
use Rattle.unit_law.specs.Execution.{since_entry, execution, HasFinished}
use Rattle.unit_law.specs.Determinate.{block_steps}
use Rattle.unit_law.specs.Inside.{Inside}
use Rattle.unit_law.proofs.Inside.{set_all, fired_all, due_within, advance_rise, mask_is, wait_at, bound}
use Rattle.unit_law.proofs.Ordered.{Holds, run_holds, started_mode, entered_at}
use Rattle.unit_law.proofs.Meets.{started_clock}
use Rattle.unit_law.proofs.Totals.{holds_by}
use Rattle.unit_law.proofs.Budgets.{steps_left, steps_inside, steps_entered, one_left, holds_after, HoldsRight, run_right}

-- ---- the clock
rises : (m : Program) → AllFit m → (done : ℕ → Type 0) (s : State) (mode : Mode) → Holds m done mode s → (a : Action) → may_to m mode s a → s.clock ≤ (after_to m mode s a).clock
unfolding Holds
rises m fit done s (In b) i (Finish p) may = le_refl _
rises m fit done s (In b) i (Fire j) may = le_refl _
rises m fit done s (In b) i (Start p d) may = let e = started_clock (code_at m b) s p d (next_item (code_at m b) s p) in omega arith
rises m fit done s (In b) i Branch may = le_refl _
rises m fit done s (In b) i Advance may = subst (λ o. s.clock ≤ or_clock o s.clock) (sym may.3.1) (advance_rise m b (fit b) done s i may.3.0 may.3.1)
rises m fit done s (In b) i Enter may = absurd may
rises m fit done s (Entering b) i Enter may = let x : s.clock ≤ s.clock + 1 = omega arith in x
rises m fit done s (Entering b) i (Finish p) may = absurd may
rises m fit done s (Entering b) i (Fire j) may = absurd may
rises m fit done s (Entering b) i (Start p d) may = absurd may
rises m fit done s (Entering b) i Branch may = absurd may
rises m fit done s (Entering b) i Advance may = absurd may
rises m fit done s Ended i a may = absurd may

pub clock_rises : (m : Program) → AllFit m → (memory : List Content) (later past : List Action) → IsRun m memory (later ++ past) → (state_after m memory past).clock ≤ (state_after m memory (later ++ past)).clock
clock_rises m fit memory [] past r = le_refl _
clock_rises m fit memory (a ∷ later) past r = le_trans (clock_rises m fit memory later past r.0) (rises m fit (HasFinished m memory (later ++ past)) (state_after m memory (later ++ past)) (state_after m memory (later ++ past)).mode (run_holds m fit memory (later ++ past) r.0) a r.1)

-- ---- places
abbrev Within : Code → ℕ → Processor → Type 0
Within code p q = q.place ≤ length (stream p code.line)

unfoldable InStreams : Program → Mode → State → Type 0
InStreams m (In b) s = (p : ℕ) → Within (code_at m b) p (processor s p)
InStreams m (Entering b) s = Unit {0}
InStreams m Ended s = Unit {0}

target_in : (m : Program) (s : State) (next : Next) (w : World) → InStreams m (target next w) s
unfolding InStreams
target_in m s Halt w = tt
target_in m s (Goto b) w = tt
target_in m s (If c one other) w = go (int_eq (cell w c) (pos 0))
  where
    go : (v : Bool) → InStreams m (if v then Entering other else Entering one) s
    go true = tt
    go false = tt

entered_in : (m : Program) (b p : ℕ) → Within (code_at m b) p (get_or (replicate m.machine.processors at_start) p at_start)
entered_in m b p = let e = ap (λ (q : Processor). q.place) (entered_at m.machine.processors p) in omega arith

module _ (m : Program) (b : ℕ) (fit : AllFit m) (done : ℕ → Type 0) (s : State) (i : Inside m (code_at m b) done s) (h : (p : ℕ) → Within (code_at m b) p (processor s p)) where
  started_in : (p d t : ℕ) → IsNext m (code_at m b) s p t → (o : Option StreamItem) → next_item (code_at m b) s p ≡ o → (q : ℕ) → Within (code_at m b) q (processor (started (code_at m b) s p d o) q)
  started_in p d t n None e = h
  started_in p d t n (Some Wait) e = h
  started_in p d t n (Some (Do u)) e = set_all (Within (code_at m b)) s.processors p (begun (processor s p) (s.clock + d) u (read_of (tuple_at (code_at m b) u) s.world)) (let x = n.is_one in omega (arith, i.processors)) (let x : (processor s p).place < length (stream p (code_at m b).line) = slice_get_within (stream p (code_at m b).line) (processor s p).place (Do u) e in let y : suc (processor s p).place ≤ length (stream p (code_at m b).line) = omega arith in y) (λ q ne. h q)

  fired_in : (j : ℕ) (may : MayIn m b s (Fire j)) → (q : ℕ) → Within (code_at m b) q (processor (after_in m b s (Fire j)) q)
  fired_in j may = subst (λ k. (q : ℕ) → Within (code_at m b) q (get_or (passed (s.clock + m.machine.delay) k 0 s.processors) q at_start)) (sym (mask_is m b (fit b) done s i j may.1))
      (fired_all (Within (code_at m b)) (s.clock + m.machine.delay) may.1.mask s.processors (bound m b (fit b) done s i j may.1) member (λ q g. h q))
    where
      member : (q : ℕ) → has_bit may.1.mask q ≡ true → Within (code_at m b) q (resumed (s.clock + m.machine.delay) (processor s q))
      member q g = let x : (processor s q).place < length (stream q (code_at m b).line) = slice_get_within (stream q (code_at m b).line) (processor s q).place Wait (wait_at m b (fit b) done s i j may.1 q g) in let y : suc (processor s q).place ≤ length (stream q (code_at m b).line) = omega arith in y

keeps_in : (m : Program) → AllFit m → (done : ℕ → Type 0) (s : State) (mode : Mode) → s.mode ≡ mode → Holds m done mode s → InStreams m mode s → (a : Action) → may_to m mode s a → InStreams m (after_to m mode s a).mode (after_to m mode s a)
unfolding Holds InStreams
keeps_in m fit done s (In b) e i h (Finish p) may = subst (λ o. InStreams m o (after_in m b s (Finish p))) (sym e) (set_all (Within (code_at m b)) s.processors p (freed (processor s p)) (due_within s p may) (h p) (λ q ne. h q))
keeps_in m fit done s (In b) e i h (Fire j) may = subst (λ o. InStreams m o (after_in m b s (Fire j))) (sym e) (fired_in m b fit done s i h j may)
keeps_in m fit done s (In b) e i h (Start p d) may = subst (λ o. InStreams m o (after_in m b s (Start p d))) (sym (started_mode (code_at m b) s p d _ ∙ e)) (started_in m b fit done s i h p d may.1.0 may.1.1 _ refl)
keeps_in m fit done s (In b) e i h Branch may = target_in m (after_in m b s Branch) (code_at m b).next s.world
keeps_in m fit done s (In b) e i h Advance may = subst (λ o. InStreams m o (after_in m b s Advance)) (sym e) h
keeps_in m fit done s (In b) e i h Enter may = absurd may
keeps_in m fit done s (Entering b) e i h Enter may = entered_in m b
keeps_in m fit done s (Entering b) e i h (Finish p) may = absurd may
keeps_in m fit done s (Entering b) e i h (Fire j) may = absurd may
keeps_in m fit done s (Entering b) e i h (Start p d) may = absurd may
keeps_in m fit done s (Entering b) e i h Branch may = absurd may
keeps_in m fit done s (Entering b) e i h Advance may = absurd may
keeps_in m fit done s Ended e i h a may = absurd may

run_in : (m : Program) → AllFit m → (memory : List Content) (past : List Action) → IsRun m memory past → InStreams m (state_after m memory past).mode (state_after m memory past)
unfolding InStreams
run_in m fit memory [] r = entered_in m 0
run_in m fit memory (a ∷ past) r = keeps_in m fit (HasFinished m memory past) (state_after m memory past) (state_after m memory past).mode refl (run_holds m fit memory past r.0) (run_in m fit memory past r.0) a r.1

pub places_within : (m : Program) → AllFit m → (memory : List Content) (past : List Action) → IsRun m memory past → (b : ℕ) → (state_after m memory past).mode ≡ In b → (p : ℕ) → (processor (state_after m memory past) p).place ≤ length (stream p (code_at m b).line)
unfolding InStreams
places_within m fit memory past r b e = subst (λ o. InStreams m o (state_after m memory past)) e (run_in m fit memory past r)

-- ---- steps
module _ (m : Program) (fit : AllFit m) (stand : AllStand m) where
  unfoldable Few : Mode → (ℕ → ℕ) → State → List (State × Action) → Type 0
  Few (In b) until s steps = length steps + steps_left m fit stand b until s + 1 ≤ block_steps m b
  Few (Entering b) until s steps = Unit {0}
  Few Ended until s steps = Unit {0}

  target_few : (until : ℕ → ℕ) (s : State) (steps : List (State × Action)) (next : Next) (w : World) → Few (target next w) until s steps
  unfolding Few
  target_few until s steps Halt w = tt
  target_few until s steps (Goto b) w = tt
  target_few until s steps (If c one other) w = go (int_eq (cell w c) (pos 0))
    where
      go : (v : Bool) → Few (if v then Entering other else Entering one) until s steps
      go true = tt
      go false = tt

  any_done : (b : ℕ) (done : ℕ → Type 0) (s : State) → Inside m (code_at m b) done s → Inside m (code_at m b) (λ t. Unit {0}) s
  any_done b done s i = record { processors = i.processors; masks_are = i.masks_are; agrees = i.agrees; work = i.work; finished = λ p k t e l. tt; ticks = i.ticks }

  keeps_few : (done : ℕ → Type 0) (s : State) (mode : Mode) → s.mode ≡ mode → Holds m done mode s → (until : ℕ → ℕ) → HoldsRight m until mode s → (steps : List (State × Action)) → Few mode until s steps → (a : Action) → may_to m mode s a → Few (after_to m mode s a).mode (holds_by m s a until) (after_to m mode s a) (since_entry s a steps)
  unfolding Holds HoldsRight Few
  keeps_few done s (In b) e i until h steps le (Finish p) may = subst (λ o. Few o until (after_in m b s (Finish p)) ((s, Finish p) ∷ steps)) (sym e) (let x = steps_inside m fit stand b s until (any_done b done s i) h (Finish p) may (λ q. cc) in omega arith)
  keeps_few done s (In b) e i until h steps le (Fire j) may = subst (λ o. Few o (holds_by m s (Fire j) until) (after_in m b s (Fire j)) ((s, Fire j) ∷ steps)) (sym e) (let x = steps_inside m fit stand b s until (any_done b done s i) h (Fire j) may (λ q. cc) in omega arith)
  keeps_few done s (In b) e i until h steps le (Start p d) may = subst (λ o. Few o until (after_in m b s (Start p d)) ((s, Start p d) ∷ steps)) (sym (started_mode (code_at m b) s p d _ ∙ e)) (let x = steps_inside m fit stand b s until (any_done b done s i) h (Start p d) may (λ q. cc) in omega arith)
  keeps_few done s (In b) e i until h steps le Branch may = target_few until (after_in m b s Branch) [] (code_at m b).next s.world
  keeps_few done s (In b) e i until h steps le Advance may = subst (λ o. Few o until (after_in m b s Advance) ((s, Advance) ∷ steps)) (sym e) (let x = steps_inside m fit stand b s until (any_done b done s i) h Advance may (λ q. cc) in omega arith)
  keeps_few done s (In b) e i until h steps le Enter may = absurd may
  keeps_few done s (Entering b) e i until h steps le Enter may = let x = steps_entered m fit stand b (s.clock + 1) until s.world in omega arith
  keeps_few done s (Entering b) e i until h steps le (Finish p) may = absurd may
  keeps_few done s (Entering b) e i until h steps le (Fire j) may = absurd may
  keeps_few done s (Entering b) e i until h steps le (Start p d) may = absurd may
  keeps_few done s (Entering b) e i until h steps le Branch may = absurd may
  keeps_few done s (Entering b) e i until h steps le Advance may = absurd may
  keeps_few done s Ended e i until h steps le a may = absurd may

  run_few : (memory : List Content) (past : List Action) → IsRun m memory past → Few (state_after m memory past).mode (holds_after m memory past) (state_after m memory past) (execution m memory past)
  unfolding Few holds_after
  run_few memory [] r = let x = steps_entered m fit stand 0 0 (λ j. 0) (state_after m memory []).world in omega arith
  run_few memory (a ∷ past) r = keeps_few (HasFinished m memory past) (state_after m memory past) (state_after m memory past).mode refl (run_holds m fit memory past r.0) (holds_after m memory past) (run_right m fit memory past r.0) (execution m memory past) (run_few memory past r.0) a r.1

  pub steps_bounded : (memory : List Content) (past : List Action) → IsRun m memory past → (b : ℕ) → (state_after m memory past).mode ≡ In b → length (execution m memory past) + 2 ≤ block_steps m b
  unfolding Few
  steps_bounded memory past r b e =
      let x = subst (λ o. Few o (holds_after m memory past) (state_after m memory past) (execution m memory past)) e (run_few memory past r) in
      let y = one_left m fit stand b 0 (state_after m memory past) (holds_after m memory past) in omega arith
