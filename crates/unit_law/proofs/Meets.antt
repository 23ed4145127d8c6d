-- A run that keeps the order of conflicting tuples meets the serial meaning of the blocks that it has run.
use Rattle.std.proofs.Common.{◌≡◌, ℕ, suc, ◌+◌, ◌<◌, ◌≤◌, Bool, true, false, List, [], ◌∷◌, length, get_or, Option, Some, None, ℤ, pos, refl, sym, ap, ◌∙◌, subst, arith, ◌⊎◌, inl, inr, if◌then◌else◌}
use Rattle.std.specs.Ordering.{int_eq}
use Rattle.std.proofs.lemmas.Bool.{cases_lt}
use Rattle.std.proofs.lemmas.Option.{slice_get_within, slice_get-get_or}
use Rattle.bm_base.specs.Memory.{Content}
use Rattle.tuple_ir.specs.declared.block.Next.{Next}
use Rattle.tuple_ir.specs.declared.block.Next.TheVariants.{Halt, Goto, If}
use Rattle.tuple_ir.specs.Conflict.{Conflict}
use Rattle.tuple_ir.specs.Operands.{HasEarlyOperands}
use Rattle.tuple_ir.specs.World.{World, cell, serial}
use Rattle.tuple_ir.specs.Serial.{follows, one_block, outcome}
use Rattle.tuple_ir.proofs.WorldFacts.{world_ext}
use Rattle.tuple_ir.proofs.Serial.{serial_shape}
use Rattle.tuple_ir.proofs.Growth.{no_writer, outcome_room}
use Rattle.line_model.specs.declared.line.StreamItem.{StreamItem}
use Rattle.line_model.specs.declared.line.StreamItem.TheVariants.{Do, Wait}
use Rattle.line_model.specs.Streams.{stream, masks}
use Rattle.line_model.specs.Order.{StandsAt}
use Rattle.unit_law.specs.State.{Code, Program, Mode, In, Entering, Ended, Busy, State, code_at, entered, start, processor, next_item}
use Rattle.unit_law.specs.Steps.{Action, Finish, Fire, Start, Branch, Advance, Enter, may_to, IsNext, IsAtEnd, AllAtEnd, finished, started, passed, freed, with_processor, or_clock, target, after_in, after_to, after, state_after, IsRun}
use Rattle.unit_law.specs.Fit.{IsFit, AllFit, AllStand, AllEarly}
use Rattle.unit_law.specs.Execution.{WorksOn, HasFinished, execution}
use Rattle.unit_law.proofs.Finishes.{finished_by, finished_as}
use Rattle.unit_law.specs.InOrder.{KeepsOrder}
use Rattle.unit_law.specs.Inside.{Inside, completed}
use Rattle.unit_law.proofs.Inside.{advance_rise, free_completed, work_due, mask_is}
use Rattle.unit_law.proofs.Ordered.{Holds, run_holds, entered_at, started_mode}
use Rattle.unit_law.proofs.Values.{IsBehind, Values, entry_values, advance_values, advance_behind, start_values, start_behind, fire_values, fire_behind, finish_values, after_finish, up, now_behind}

-- ---- the end of a block
pub end_world : (code : Code) (w : World) (s : State) → Values code w s → ((t : ℕ) → t < length code.tuples → IsBehind code s t) → s.world ≡ serial code.tuples w (length code.tuples)
end_world code w s v all = world_ext s.world (serial code.tuples w (length code.tuples)) (v.one_shape ∙ sym (serial_shape code.tuples w (length code.tuples))) (λ l. v.value l (length code.tuples) (λ i lt h. all i lt) (λ i le h x. no_writer code.tuples w l i le h))

-- at a Branch every tuple has finished
all_behind : (m : Program) (b : ℕ) → AllStand m → IsFit m (code_at m b) → (s : State) → AllAtEnd m (code_at m b) s → (t : ℕ) → t < length (code_at m b).tuples → IsBehind (code_at m b) s t
all_behind m b stand fit s ends t lt =
    let (p, k, at) = stand b t lt in
    let e = ends p (fit.stands t p k at).0 in
    record { p = p; k = k; at = at; lt = past p k at e (cases_lt k (processor s p).place) }
  where
    past : (p k : ℕ) → StandsAt (code_at m b).line t p k → IsAtEnd (code_at m b) s p → (k < (processor s p).place) ⊎ ((processor s p).place ≤ k) → k < completed (processor s p)
    past p k at e (inl l) = let x : completed (processor s p) ≡ (processor s p).place = free_completed s.clock (processor s p).work (processor s p).place e.idle in omega arith
    past p k at e (inr l) =
        let h = slice_get_within (stream p (code_at m b).line) k (Do t) at.item in
        let some = slice_get-get_or (stream p (code_at m b).line) (processor s p).place Wait (omega arith) in
        absurd (let y : None ≡ Some (get_or (stream p (code_at m b).line) (processor s p).place Wait) = sym e.nothing ∙ some in cc)

-- ---- the run
abbrev pub more_blocks : Action → ℕ → ℕ
more_blocks Branch n = suc n
more_blocks (Finish p) n = n
more_blocks (Fire j) n = n
more_blocks (Start p d) n = n
more_blocks Advance n = n
more_blocks Enter n = n

-- how many blocks a run has left
abbrev pub blocks_run : List Action → ℕ
blocks_run [] = 0
blocks_run (a ∷ past) = more_blocks a (blocks_run past)

-- what n blocks, run one after another, are to a state: in a block the next one is this, each place has what the tuples that have
-- finished give it, and what is done stands behind a processor's place; between blocks the worlds are the same
unfoldable pub Meets : Program → List Content → ℕ → (ℕ → Type 0) → Mode → State → Type 0
Meets m memory n done (In b) s = ((outcome m.blocks memory n).next ≡ Some b) × Values (code_at m b) (outcome m.blocks memory n).world s × ((t : ℕ) → done t → IsBehind (code_at m b) s t) × (n ≤ s.clock)
Meets m memory n done (Entering b) s = ((outcome m.blocks memory n).next ≡ Some b) × ((outcome m.blocks memory n).world ≡ s.world) × (n ≤ s.clock + 1)
Meets m memory n done Ended s = ((outcome m.blocks memory n).next ≡ None) × ((outcome m.blocks memory n).world ≡ s.world) × (n ≤ s.clock + 1)

target_meets : (m : Program) (memory : List Content) (n : ℕ) (done : ℕ → Type 0) (s : State) (next : Next) (w : World) → (outcome m.blocks memory n).next ≡ follows next w → (outcome m.blocks memory n).world ≡ s.world → n ≤ s.clock + 1 → Meets m memory n done (target next w) s
unfolding Meets
target_meets m memory n done s Halt w e f le = (e, f, le)
target_meets m memory n done s (Goto b) w e f le = (e, f, le)
target_meets m memory n done s (If c one other) w e f le = go (int_eq (cell w c) (pos 0)) e
  where
    go : (v : Bool) → (outcome m.blocks memory n).next ≡ (if v then Some other else Some one) → Meets m memory n done (if v then Entering other else Entering one) s
    go true e = (e, f, le)
    go false e = (e, f, le)

pub started_clock : (code : Code) (s : State) (p d : ℕ) (o : Option StreamItem) → (started code s p d o).clock ≡ s.clock
started_clock code s p d None = refl
started_clock code s p d (Some Wait) = refl
started_clock code s p d (Some (Do t)) = refl

module _ (m : Program) (b : ℕ) (fit : IsFit m (code_at m b)) (done : ℕ → Type 0) (s : State) (i : Inside m (code_at m b) done s) (w : World) (good : HasEarlyOperands (code_at m b).tuples) (room : length w.cells ≡ 128) (v : Values (code_at m b) w s) where
  started_values : (p d t : ℕ) (n : IsNext m (code_at m b) s p t) → ((a : ℕ) → Conflict (code_at m b).tuples a t → IsBehind (code_at m b) s a) → (o : Option StreamItem) → next_item (code_at m b) s p ≡ o → Values (code_at m b) w (started (code_at m b) s p d o) × ((a : ℕ) → IsBehind (code_at m b) s a → IsBehind (code_at m b) (started (code_at m b) s p d o) a)
  started_values p d t n producers None e = absurd (let y : None ≡ Some (Do t) = sym e ∙ n.item in cc)
  started_values p d t n producers (Some Wait) e = absurd (let y : Some Wait ≡ Some (Do t) = sym e ∙ n.item in cc)
  started_values p d t n producers (Some (Do u)) e =
      let y : Some (Do t) ≡ Some (Do u) = sym n.item ∙ e in let z : t ≡ u = cc in
      subst (λ x. Values (code_at m b) w (started (code_at m b) s p d (Some (Do x))) × ((a : ℕ) → IsBehind (code_at m b) s a → IsBehind (code_at m b) (started (code_at m b) s p d (Some (Do x))) a)) z (start_values m b fit done s i w good room v p d t n producers, start_behind m b fit done s i w good room v p d t n producers)

  -- a Finish, by what the processor does
  finished_values : (p until t : ℕ) (operands : List ℤ) → (processor s p).work ≡ Busy until t operands → ((u : ℕ) → done u → IsBehind (code_at m b) s u) → Values (code_at m b) w (after_in m b s (Finish p)) × ((u : ℕ) → finished_by s (Finish p) u (done u) → IsBehind (code_at m b) (after_in m b s (Finish p)) u)
  unfolding after_finish
  finished_values p until t operands is behind = (at Values-of (finish_values m b fit done s i w good room v p until t operands is), λ u h. at (λ x. IsBehind (code_at m b) x u) (one u h))
    where
      Values-of : State → Type 0
      Values-of x = Values (code_at m b) w x

      at : (P : State → Type 0) → P (after_finish m b fit done s i w good room v p until t operands is) → P (after_in m b s (Finish p))
      at P h = subst (λ x. P (record (with_processor s p (freed (processor s p))) { world = finished (code_at m b) x s.world })) (sym is) h

      one : (u : ℕ) → WorksOn (processor s p).work u ⊎ done u → IsBehind (code_at m b) (after_finish m b fit done s i w good room v p until t operands is) u
      one u (inl h) = let x : t ≡ u = subst (λ k. WorksOn k u) is h in subst (IsBehind (code_at m b) (after_finish m b fit done s i w good room v p until t operands is)) x (now_behind m b fit done s i w good room v p until t operands is)
      one u (inr h) = up m b fit done s i w good room v p until t operands is u (behind u h)

module _ (m : Program) (fit : AllFit m) (good : AllEarly m) (stand : AllStand m) where
  keeps_meets : (memory : List Content) (n : ℕ) (done : ℕ → Type 0) (s : State) (mode : Mode) → s.mode ≡ mode → Holds m done mode s → Meets m memory n done mode s → (a : Action) → may_to m mode s a → ((p d b x t : ℕ) → a ≡ Start p d → mode ≡ In b → IsNext m (code_at m b) s p t → Conflict (code_at m b).tuples x t → done x) → Meets m memory (more_blocks a n) (λ t. finished_by s a t (done t)) (after_to m mode s a).mode (after_to m mode s a)
  unfolding Holds Meets
  keeps_meets memory n done s (In b) e i (nx, v, hb, le) (Finish p) may order =
      let (until, t, operands, is) = work_due s.clock (processor s p).work may in
      let (x, y) = finished_values m b (fit b) done s i (outcome m.blocks memory n).world (good b) (outcome_room m.blocks memory n) v p until t operands is hb in
      subst (λ o. Meets m memory n (λ t. finished_by s (Finish p) t (done t)) o (after_in m b s (Finish p))) (sym e) (nx, x, y, le)
  keeps_meets memory n done s (In b) e i (nx, v, hb, le) (Fire j) may order =
      let mask : passed (s.clock + m.machine.delay) (get_or (masks (code_at m b).line) j 0) 0 s.processors ≡ passed (s.clock + m.machine.delay) may.1.mask 0 s.processors = ap (λ k. passed (s.clock + m.machine.delay) k 0 s.processors) (mask_is m b (fit b) done s i j may.1) in
      subst (λ o. Meets m memory n done o (after_in m b s (Fire j))) (sym e) (nx, fire_values m b (fit b) done s i (outcome m.blocks memory n).world (good b) (outcome_room m.blocks memory n) v j may.1 (after_in m b s (Fire j)) mask refl, (λ t h. fire_behind m b (fit b) done s i (outcome m.blocks memory n).world (good b) (outcome_room m.blocks memory n) v j may.1 (after_in m b s (Fire j)) mask refl t (hb t h)), le)
  keeps_meets memory n done s (In b) e i (nx, v, hb, le) (Start p d) may order =
      let (x, y) = started_values m b (fit b) done s i (outcome m.blocks memory n).world (good b) (outcome_room m.blocks memory n) v p d may.1.0 may.1.1 (λ a c. hb a (order p d b a may.1.0 refl refl may.1.1 c)) (next_item (code_at m b) s p) refl in
      subst (λ o. Meets m memory n done o (after_in m b s (Start p d))) (sym (started_mode (code_at m b) s p d _ ∙ e)) (nx, x, (λ t h. y t (hb t h)), (let z = started_clock (code_at m b) s p d (next_item (code_at m b) s p) in omega arith))
  keeps_meets memory n done s (In b) e i (nx, v, hb, le) Branch may order =
      let w = end_world (code_at m b) (outcome m.blocks memory n).world s v (all_behind m b stand (fit b) s may.1) in
      target_meets m memory (suc n) (λ t. ⊥) (after_in m b s Branch) (code_at m b).next s.world (ap (λ o. (one_block m.blocks o (outcome m.blocks memory n).world (outcome m.blocks memory n).trail).next) nx ∙ ap (λ u. follows (code_at m b).next u) (sym w)) (ap (λ o. (one_block m.blocks o (outcome m.blocks memory n).world (outcome m.blocks memory n).trail).world) nx ∙ sym w) (omega arith)
  keeps_meets memory n done s (In b) e i (nx, v, hb, le) Advance may order =
      let rise : s.clock ≤ may.3.0 = advance_rise m b (fit b) done s i may.3.0 may.3.1 in
      subst (λ o. Meets m memory n done o (after_in m b s Advance)) (sym e) (nx, advance_values m b (fit b) done s i (outcome m.blocks memory n).world (good b) (outcome_room m.blocks memory n) v (after_in m b s Advance) refl refl, (λ t h. advance_behind m b (fit b) done s i (outcome m.blocks memory n).world (good b) (outcome_room m.blocks memory n) v (after_in m b s Advance) refl t (hb t h)), (let z = ap (λ o. or_clock o s.clock) may.3.1 in omega arith))
  keeps_meets memory n done s (In b) e i me Enter may order = absurd may
  keeps_meets memory n done s (Entering b) e i (nx, w, le) Enter may order = (nx, entry_values (code_at m b) (outcome m.blocks memory n).world (entered m b (s.clock + 1) s.world) (sym w) (entered_at m.machine.processors), (λ t h. absurd h), le)
  keeps_meets memory n done s (Entering b) e i me (Finish p) may order = absurd may
  keeps_meets memory n done s (Entering b) e i me (Fire j) may order = absurd may
  keeps_meets memory n done s (Entering b) e i me (Start p d) may order = absurd may
  keeps_meets memory n done s (Entering b) e i me Branch may order = absurd may
  keeps_meets memory n done s (Entering b) e i me Advance may order = absurd may
  keeps_meets memory n done s Ended e i me a may order = absurd may

  pub run_meets : (memory : List Content) (past : List Action) → IsRun m memory past → KeepsOrder m memory past → Meets m memory (blocks_run past) (HasFinished m memory past) (state_after m memory past).mode (state_after m memory past)
  unfolding Meets
  run_meets memory [] r order = (refl, entry_values (code_at m 0) (outcome m.blocks memory 0).world (start m memory) refl (entered_at m.machine.processors), (λ t h. absurd h), omega arith)
  run_meets memory (a ∷ past) r order = finished_as (λ done. Meets m memory (more_blocks a (blocks_run past)) done (after m (state_after m memory past) a).mode (after m (state_after m memory past) a)) (execution m memory past) (state_after m memory past) a (keeps_meets memory (blocks_run past) (HasFinished m memory past) (state_after m memory past) (state_after m memory past).mode refl (run_holds m fit memory past r.0) (run_meets memory past r.0 order.0) a r.1 (λ p d b x t. order.1 p d b x t))
