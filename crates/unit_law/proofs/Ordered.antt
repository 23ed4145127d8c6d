-- Every run keeps what holds within a block, and so each producer finishes before its consumer starts.
use Rattle.std.proofs.Common.{◌≡◌, ℕ, zero, suc, ◌+◌, ◌<◌, ◌≤◌, Bool, true, false, List, [], ◌∷◌, get_or, replicate, Option, Some, None, pos, refl, sym, ap, ◌∙◌, subst, arith, ◌⊎◌, inl, inr, if◌then◌else◌}
use Rattle.std.specs.Ordering.{int_eq}
use Rattle.std.proofs.lemmas.Bool.{cases_lt, both_ways}
use Rattle.std.proofs.lemmas.List.{get_or-replicate, length-replicate, length-map, get_or_past}
use Rattle.tuple_ir.specs.declared.block.Next.{Next}
use Rattle.tuple_ir.specs.declared.block.Next.TheVariants.{Halt, Goto, If}
use Rattle.line_model.specs.declared.line.Item.{Item}
use Rattle.line_model.specs.declared.line.StreamItem.{StreamItem}
use Rattle.line_model.specs.declared.line.StreamItem.TheVariants.{Do, Wait}
use Rattle.line_model.specs.Streams.{masks, before}
use Rattle.line_model.specs.Order.{StandsAt, IsOrderedBySync}
use Rattle.bm_base.specs.Memory.{Content}
use Rattle.tuple_ir.specs.World.{World, cell}
use Rattle.unit_law.specs.State.{Code, Program, Mode, In, Entering, Ended, Work, Idle, Busy, Held, State, at_start, code_at, entered, processor}
use Rattle.unit_law.specs.Steps.{Action, Finish, Fire, Start, Branch, Advance, Enter, may_to, IsNext, after_in, after_to, after, target, started, state_after, IsRun}
use Rattle.unit_law.specs.Fit.{IsFit, AllFit, IsSynced}
use Rattle.unit_law.specs.Execution.{HasFinished, execution}
use Rattle.unit_law.specs.Determinate.{RespectsConflicts}
use Rattle.unit_law.proofs.Finishes.{finished_by, finished_as}
use Rattle.unit_law.proofs.Agree.{chain_passed}
use Rattle.unit_law.proofs.Fronts.{none_fired}
use Rattle.unit_law.specs.Inside.{Inside, IsWorkAt, IsDoneAt, IsNotPast, completed, completed_at}
use Rattle.unit_law.proofs.Inside.{free_completed, finish_inside, advance_inside, start_inside, fire_inside}

pub entered_at : (n p : ℕ) → get_or (replicate n at_start) p at_start ≡ at_start
entered_at n p = go (cases_lt p n)
  where
    go : (p < n) ⊎ (n ≤ p) → get_or (replicate n at_start) p at_start ≡ at_start
    go (inl h) = get_or-replicate n p at_start at_start h
    go (inr h) = get_or_past (replicate n at_start) p at_start (omega (arith, length-replicate n at_start))

-- a block's state at its entry
pub entered_inside : (m : Program) (b clock : ℕ) (w : World) (done : ℕ → Type 0) → Inside m (code_at m b) done (entered m b clock w)
entered_inside m b clock w done = record {
  processors = length-replicate m.machine.processors at_start;
  masks_are = length-map (masks (code_at m b).line) (λ _. false);
  agrees = record { passed_if = λ j p h f. absurd (both_ways _ (none_fired (masks (code_at m b).line) j) f); fired_if = λ j p h l. let e = ap (λ q. q.place) (entered_at m.machine.processors p) in absurd (omega arith) };
  work = λ p. subst (IsWorkAt (code_at m b) p) (sym (entered_at m.machine.processors p)) (λ until t operands e. absurd (cc));
  finished = λ p. subst (IsDoneAt (code_at m b) done p) (sym (entered_at m.machine.processors p)) (λ k t item l. absurd (omega arith));
  ticks = λ p. subst (IsNotPast clock) (sym (entered_at m.machine.processors p)) (λ until t operands e. absurd (cc));
}

-- what holds of a state, by its mode
unfoldable pub Holds : Program → (ℕ → Type 0) → Mode → State → Type 0
Holds m done (In b) s = Inside m (code_at m b) done s
Holds m done (Entering b) s = Unit {0}
Holds m done Ended s = Unit {0}

target_holds : (m : Program) (done : ℕ → Type 0) (s : State) (next : Next) (w : World) → Holds m done (target next w) s
unfolding Holds
target_holds m done s Halt w = tt
target_holds m done s (Goto b) w = tt
target_holds m done s (If c one other) w = go (int_eq (cell w c) (pos 0))
  where
    go : (b : Bool) → Holds m done (if b then Entering other else Entering one) s
    go true = tt
    go false = tt

pub started_mode : (code : Code) (s : State) (p d : ℕ) (o : Option StreamItem) → (started code s p d o).mode ≡ s.mode
started_mode code s p d None = refl
started_mode code s p d (Some Wait) = refl
started_mode code s p d (Some (Do t)) = refl

-- an action keeps it
pub keeps : (m : Program) → AllFit m → (done : ℕ → Type 0) (s : State) (mode : Mode) → s.mode ≡ mode → Holds m done mode s → (a : Action) → may_to m mode s a → Holds m (λ t. finished_by s a t (done t)) (after_to m mode s a).mode (after_to m mode s a)
unfolding Holds
keeps m fit done s (In b) e i (Finish p) y = subst (λ o. Holds m (λ t. finished_by s (Finish p) t (done t)) o (after_in m b s (Finish p))) (sym e) (finish_inside m b (fit b) done s i p y)
keeps m fit done s (In b) e i (Fire j) y = subst (λ o. Holds m done o (after_in m b s (Fire j))) (sym e) (fire_inside m b (fit b) done s i j y.1)
keeps m fit done s (In b) e i (Start p d) y = subst (λ o. Holds m done o (after_in m b s (Start p d))) (sym (started_mode (code_at m b) s p d _ ∙ e)) (start_inside m b (fit b) done s i p d y.1.0 y.1.1)
keeps m fit done s (In b) e i Branch y = target_holds m (λ t. ⊥) (after_in m b s Branch) (code_at m b).next s.world
keeps m fit done s (In b) e i Advance y = subst (λ o. Holds m done o (after_in m b s Advance)) (sym e) (advance_inside m b (fit b) done s i y.3.0 y.3.1)
keeps m fit done s (In b) e i Enter y = absurd y
keeps m fit done s (Entering b) e i Enter y = entered_inside m b (s.clock + 1) s.world (λ t. ⊥)
keeps m fit done s (Entering b) e i (Finish p) y = absurd y
keeps m fit done s (Entering b) e i (Fire j) y = absurd y
keeps m fit done s (Entering b) e i (Start p d) y = absurd y
keeps m fit done s (Entering b) e i Branch y = absurd y
keeps m fit done s (Entering b) e i Advance y = absurd y
keeps m fit done s Ended e i a y = absurd y

pub run_holds : (m : Program) → AllFit m → (memory : List Content) (past : List Action) → IsRun m memory past → Holds m (HasFinished m memory past) (state_after m memory past).mode (state_after m memory past)
unfolding Holds
run_holds m fit memory [] r = entered_inside m 0 0 _ _
run_holds m fit memory (a ∷ past) r = finished_as (λ done. Holds m done (after m (state_after m memory past) a).mode (after m (state_after m memory past) a)) (execution m memory past) (state_after m memory past) a (keeps m fit (HasFinished m memory past) (state_after m memory past) (state_after m memory past).mode refl (run_holds m fit memory past r.0) a r.1)

-- .. so it is at each state within a block
pub run_inside : (m : Program) → AllFit m → (memory : List Content) (past : List Action) → IsRun m memory past → (b : ℕ) → (state_after m memory past).mode ≡ In b → Inside m (code_at m b) (HasFinished m memory past) (state_after m memory past)
unfolding Holds
run_inside m fit memory past r b e = subst (λ o. Holds m (HasFinished m memory past) o (state_after m memory past)) e (run_holds m fit memory past r)

-- a tuple that is ordered before an idle processor's next tuple is done
pub ordered_done : (m : Program) (code : Code) → IsFit m code → (done : ℕ → Type 0) (s : State) → Inside m code done s → (p a b : ℕ) → IsNext m code s p b → IsOrderedBySync code.line a b → done a
ordered_done m code fit done s i p a b n o = go o
  where
    line : List Item
    line = code.line

    idle_done : (k : ℕ) → StandsAt code.line a p k → k < (processor s p).place → done a
    idle_done k at lt = i.finished p k a at.item (let e : completed (processor s p) ≡ (processor s p).place = free_completed s.clock (processor s p).work (processor s p).place n.idle in omega arith)

    far_done : (q k : ℕ) → StandsAt code.line a q k → suc k < (processor s q).place → done a
    far_done q k at lt = i.finished q k a at.item (far_completed (processor s q).work (processor s q).place k lt)
      where
        far_completed : (w : Work) (place k : ℕ) → suc k < place → k < completed_at w place
        far_completed Idle place k lt = omega arith
        far_completed (Busy until t operands) zero k lt = absurd (omega arith)
        far_completed (Busy until t operands) (suc place) k lt = omega arith
        far_completed (Held until) place k lt = let x : suc k < place = lt in let y : k < place = omega arith in y

    here : (q l : ℕ) → StandsAt code.line b q l → (q ≡ p) × (l ≡ (processor s p).place)
    here q l at = fit.once b q l p (processor s p).place at (record { item = n.item })

    go : IsOrderedBySync code.line a b → done a
    go (inl o) = let h = here o.p o.ki o.i_at in idle_done o.kg (subst (λ q. StandsAt code.line a q o.kg) h.0 o.g_at) (let f = o.first in omega (arith, h.1))
    go (inr o) =
        let h = here o.q o.ki o.i_at in
        let l : before o.q o.b code.line < (processor s o.q).place = let e = ap (λ q. (processor s q).place) h.0 in let f = o.before_i in omega (arith, h.1) in
        let g : before o.p o.a code.line < (processor s o.p).place = chain_passed code.line (λ p. (processor s p).place) (λ j. get_or s.fired j false) i.agrees o.chain o.p o.q o.first o.last l in
        far_done o.p o.kg o.g_at (let f = o.after_g in omega arith)

pub respects_conflicts : (m : Program) → AllFit m → IsSynced m → RespectsConflicts m
unfolding Holds
respects_conflicts m fit synced memory past p d block a b kinds run mode may next c =
    let i : Inside m (code_at m block) (HasFinished m memory past) (state_after m memory past) = subst (λ o. Holds m (HasFinished m memory past) o (state_after m memory past)) mode (run_holds m fit memory past run) in
    ordered_done m (code_at m block) (fit block) (HasFinished m memory past) (state_after m memory past) i p a b next (synced block a b c)
