-- What a run spends, of time and of steps, against the blocks that it has run.
use Rattle.std.proofs.Common.{◌≡◌, ℕ, suc, ◌+◌, ◌≤◌, Bool, true, false, List, [], ◌∷◌, length, Some, pos, refl, sym, ap, ◌∙◌, subst, arith, if◌then◌else◌}
use Rattle.std.specs.Ordering.{int_eq}
use Rattle.bm_base.specs.Memory.{Content}
use Rattle.tuple_ir.specs.declared.block.Next.{Next}
use Rattle.tuple_ir.specs.declared.block.Next.TheVariants.{Halt, Goto, If}
use Rattle.tuple_ir.specs.World.{World, cell}
use Rattle.tuple_ir.specs.Serial.{outcome}
use Rattle.tuple_ir.proofs.Trails.{trail_next}
use Rattle.unit_law.specs.State.{Program, Mode, In, Entering, Ended, State, code_at, entered, start, next_item}
use Rattle.unit_law.specs.Steps.{Action, Finish, Fire, Start, Branch, Advance, Enter, MayIn, may_to, or_clock, target, after_in, after_to, state_after, IsRun}
use Rattle.unit_law.specs.Fit.{AllFit, AllStand, AllEarly}
use Rattle.unit_law.specs.Execution.{HasFinished}
use Rattle.unit_law.specs.Determinate.{block_time, block_steps}
use Rattle.unit_law.specs.InOrder.{KeepsOrder}
use Rattle.unit_law.specs.Inside.{Inside}
use Rattle.unit_law.proofs.Inside.{advance_rise}
use Rattle.unit_law.proofs.Ordered.{Holds, run_holds, started_mode}
use Rattle.unit_law.proofs.Meets.{Meets, more_blocks, blocks_run, run_meets, started_clock}
use Rattle.unit_law.proofs.Sums.{weigh, weigh-append, sum_const}
use Rattle.unit_law.proofs.Totals.{HoldsAre, holds_by, total, entered_total, finish_total, fire_total, start_total, advance_total, finish_holds, start_holds, advance_holds, fire_holds, entered_holds}
use Rattle.unit_law.proofs.Counts.{time_count, step_count}

-- something that a run spends: how much it has spent, by the number of its steps and its state, what it may still spend in block b,
-- by the ticks until which fired masks hold, and what block b has for it
pub record Budget (m : Program) : Type 0 where
  pub spent : ℕ → State → ℕ
  pub left : ℕ → (ℕ → ℕ) → State → ℕ
  pub weight : ℕ → ℕ
  pub begins : (memory : List Content) (until : ℕ → ℕ) → spent 0 (start m memory) + left 0 until (start m memory) + 1 ≤ weight 0
  pub enters : (b steps : ℕ) (s : State) (until : ℕ → ℕ) → spent (suc steps) (entered m b (s.clock + 1) s.world) + left b until (entered m b (s.clock + 1) s.world) ≤ spent steps s + weight b
  pub inside : (b steps : ℕ) (s : State) (until : ℕ → ℕ) → Inside m (code_at m b) (λ t. Unit {0}) s → HoldsAre (code_at m b) s until → (a : Action) → MayIn m b s a → (a ≡ Branch → ⊥) → spent (suc steps) (after_in m b s a) + left b (holds_by m s a until) (after_in m b s a) ≤ spent steps s + left b until s
  pub leaves : (b steps : ℕ) (s : State) (until : ℕ → ℕ) → spent (suc steps) (after_in m b s Branch) ≤ spent steps s + left b until s

-- ---- time
module _ (m : Program) (fit : AllFit m) (stand : AllStand m) where
  pub time_left : ℕ → (ℕ → ℕ) → State → ℕ
  time_left b until s = total m stand b (fit b) (time_count m b) until s

  pub time_inside : (b : ℕ) (s : State) (until : ℕ → ℕ) → Inside m (code_at m b) (λ t. Unit {0}) s → HoldsAre (code_at m b) s until → (a : Action) → MayIn m b s a → (a ≡ Branch → ⊥) → (after_in m b s a).clock + time_left b (holds_by m s a until) (after_in m b s a) ≤ s.clock + time_left b until s
  unfolding time_left
  time_inside b s until i h (Finish p) may ne = let x = finish_total m stand b (fit b) (time_count m b) (λ t. Unit {0}) s i until p may in omega arith
  time_inside b s until i h (Fire j) may ne = let x = fire_total m stand b (fit b) (time_count m b) (λ t. Unit {0}) s i until j may.1 in omega arith
  time_inside b s until i h (Start p d) may ne =
      let x = start_total m stand b (fit b) (time_count m b) (λ t. Unit {0}) s i until p d may.1.0 may.1.1 may.1.2 in
      let y = started_clock (code_at m b) s p d (next_item (code_at m b) s p) in omega arith
  time_inside b s until i h Branch may ne = absurd (ne refl)
  time_inside b s until i h Advance may ne =
      let x = advance_total m stand b (fit b) (time_count m b) (λ t. Unit {0}) s i until may.0 may.3.0 may.3.1 h in
      let y = advance_rise m b (fit b) (λ t. Unit {0}) s i may.3.0 may.3.1 in
      subst (λ o. or_clock o s.clock + total m stand b (fit b) (time_count m b) until (record s { clock = or_clock o s.clock }) ≤ s.clock + total m stand b (fit b) (time_count m b) until s) (sym may.3.1) (omega arith)
  time_inside b s until i h Enter may ne = absurd may

  pub time_entered : (b clock : ℕ) (until : ℕ → ℕ) (w : World) → time_left b until (entered m b clock w) + 1 ≤ block_time m b
  unfolding time_left
  time_entered b clock until w = let x = entered_total m stand b (fit b) (time_count m b) clock until w in omega arith

  unfoldable pub time_budget : Budget m
  time_budget = record {
    spent = λ steps s. s.clock;
    left = time_left;
    weight = block_time m;
    begins = λ memory until. let x = time_entered 0 0 until (start m memory).world in omega arith;
    enters = λ b steps s until. let x = time_entered b (s.clock + 1) until s.world in omega arith;
    inside = λ b steps s until i h a may ne. time_inside b s until i h a may ne;
    leaves = λ b steps s until. omega arith;
  }

  -- ---- steps
  pub steps_left : ℕ → (ℕ → ℕ) → State → ℕ
  steps_left b until s = total m stand b (fit b) (step_count m b) until s + 1

  pub steps_inside : (b : ℕ) (s : State) (until : ℕ → ℕ) → Inside m (code_at m b) (λ t. Unit {0}) s → HoldsAre (code_at m b) s until → (a : Action) → MayIn m b s a → (a ≡ Branch → ⊥) → suc (steps_left b (holds_by m s a until) (after_in m b s a)) ≤ steps_left b until s
  unfolding steps_left
  steps_inside b s until i h (Finish p) may ne = let x = finish_total m stand b (fit b) (step_count m b) (λ t. Unit {0}) s i until p may in omega arith
  steps_inside b s until i h (Fire j) may ne = let x = fire_total m stand b (fit b) (step_count m b) (λ t. Unit {0}) s i until j may.1 in omega arith
  steps_inside b s until i h (Start p d) may ne = let x = start_total m stand b (fit b) (step_count m b) (λ t. Unit {0}) s i until p d may.1.0 may.1.1 may.1.2 in omega arith
  steps_inside b s until i h Branch may ne = absurd (ne refl)
  steps_inside b s until i h Advance may ne =
      let x = advance_total m stand b (fit b) (step_count m b) (λ t. Unit {0}) s i until may.0 may.3.0 may.3.1 h in
      subst (λ o. suc (total m stand b (fit b) (step_count m b) until (record s { clock = or_clock o s.clock }) + 1) ≤ total m stand b (fit b) (step_count m b) until s + 1) (sym may.3.1) (omega arith)
  steps_inside b s until i h Enter may ne = absurd may

  pub steps_entered : (b clock : ℕ) (until : ℕ → ℕ) (w : World) → steps_left b until (entered m b clock w) + 1 ≤ block_steps m b
  unfolding steps_left
  steps_entered b clock until w =
      let x = entered_total m stand b (fit b) (step_count m b) clock until w in
      let y = sum_const 3 (length (code_at m b).tuples) in omega arith

  pub one_left : (b steps : ℕ) (s : State) (until : ℕ → ℕ) → suc steps ≤ steps + steps_left b until s
  unfolding steps_left
  one_left b steps s until = omega arith

  unfoldable pub step_budget : Budget m
  step_budget = record {
    spent = λ steps s. steps;
    left = steps_left;
    weight = block_steps m;
    begins = λ memory until. let x = steps_entered 0 0 until (start m memory).world in omega arith;
    enters = λ b steps s until. let x = steps_entered b (s.clock + 1) until s.world in omega arith;
    inside = λ b steps s until i h a may ne. let x = steps_inside b s until i h a may ne in omega arith;
    leaves = λ b steps s until. one_left b steps s until;
  }

-- ---- the ticks until which fired masks hold, in every run
unfoldable pub holds_after : Program → List Content → List Action → ℕ → ℕ
holds_after m memory [] = λ j. 0
holds_after m memory (a ∷ past) = holds_by m (state_after m memory past) a (holds_after m memory past)

unfoldable pub HoldsRight : Program → (ℕ → ℕ) → Mode → State → Type 0
HoldsRight m until (In b) s = HoldsAre (code_at m b) s until
HoldsRight m until (Entering b) s = Unit {0}
HoldsRight m until Ended s = Unit {0}

target_right : (m : Program) (until : ℕ → ℕ) (s : State) (next : Next) (w : World) → HoldsRight m until (target next w) s
unfolding HoldsRight
target_right m until s Halt w = tt
target_right m until s (Goto b) w = tt
target_right m until s (If c one other) w = go (int_eq (cell w c) (pos 0))
  where
    go : (v : Bool) → HoldsRight m until (if v then Entering other else Entering one) s
    go true = tt
    go false = tt

keeps_right : (m : Program) → AllFit m → (done : ℕ → Type 0) (s : State) (mode : Mode) → s.mode ≡ mode → Holds m done mode s → (until : ℕ → ℕ) → HoldsRight m until mode s → (a : Action) → may_to m mode s a → HoldsRight m (holds_by m s a until) (after_to m mode s a).mode (after_to m mode s a)
unfolding Holds HoldsRight
keeps_right m fit done s (In b) e i until h (Finish p) may = subst (λ o. HoldsRight m until o (after_in m b s (Finish p))) (sym e) (finish_holds m b (fit b) done s i until h p may)
keeps_right m fit done s (In b) e i until h (Fire j) may = subst (λ o. HoldsRight m (holds_by m s (Fire j) until) o (after_in m b s (Fire j))) (sym e) (fire_holds m b (fit b) done s i until h j may.1)
keeps_right m fit done s (In b) e i until h (Start p d) may = subst (λ o. HoldsRight m until o (after_in m b s (Start p d))) (sym (started_mode (code_at m b) s p d _ ∙ e)) (start_holds m b (fit b) done s i until h p d may.1.0 may.1.1)
keeps_right m fit done s (In b) e i until h Branch may = target_right m until (after_in m b s Branch) (code_at m b).next s.world
keeps_right m fit done s (In b) e i until h Advance may = subst (λ o. HoldsRight m until o (after_in m b s Advance)) (sym e) (subst (λ o. HoldsAre (code_at m b) (record s { clock = or_clock o s.clock }) until) (sym may.3.1) (advance_holds m b (fit b) done s i until h may.3.0 (advance_rise m b (fit b) done s i may.3.0 may.3.1)))
keeps_right m fit done s (In b) e i until h Enter may = absurd may
keeps_right m fit done s (Entering b) e i until h Enter may = entered_holds m b (s.clock + 1) s.world until
keeps_right m fit done s (Entering b) e i until h (Finish p) may = absurd may
keeps_right m fit done s (Entering b) e i until h (Fire j) may = absurd may
keeps_right m fit done s (Entering b) e i until h (Start p d) may = absurd may
keeps_right m fit done s (Entering b) e i until h Branch may = absurd may
keeps_right m fit done s (Entering b) e i until h Advance may = absurd may
keeps_right m fit done s Ended e i until h a may = absurd may

pub run_right : (m : Program) → AllFit m → (memory : List Content) (past : List Action) → IsRun m memory past → HoldsRight m (holds_after m memory past) (state_after m memory past).mode (state_after m memory past)
unfolding HoldsRight holds_after
run_right m fit memory [] r = entered_holds m 0 0 (start m memory).world (λ j. 0)
run_right m fit memory (a ∷ past) r = keeps_right m fit (HasFinished m memory past) (state_after m memory past) (state_after m memory past).mode refl (run_holds m fit memory past r.0) (holds_after m memory past) (run_right m fit memory past r.0) a r.1

-- ---- a run keeps its budget
module _ (m : Program) (u : Budget m) where
  unfoldable pub Bounded : List Content → ℕ → ℕ → (ℕ → ℕ) → Mode → State → Type 0
  Bounded memory n steps until (In b) s = u.spent steps s + u.left b until s + 1 ≤ weigh u.weight (outcome m.blocks memory n).trail + u.weight b
  Bounded memory n steps until (Entering b) s = u.spent steps s + 1 ≤ weigh u.weight (outcome m.blocks memory n).trail
  Bounded memory n steps until Ended s = u.spent steps s + 1 ≤ weigh u.weight (outcome m.blocks memory n).trail

  target_bounded : (memory : List Content) (n steps : ℕ) (until : ℕ → ℕ) (s : State) (next : Next) (w : World) → u.spent steps s + 1 ≤ weigh u.weight (outcome m.blocks memory n).trail → Bounded memory n steps until (target next w) s
  unfolding Bounded
  target_bounded memory n steps until s Halt w le = le
  target_bounded memory n steps until s (Goto b) w le = le
  target_bounded memory n steps until s (If c one other) w le = go (int_eq (cell w c) (pos 0))
    where
      go : (v : Bool) → Bounded memory n steps until (if v then Entering other else Entering one) s
      go true = le
      go false = le

  plain : (b : ℕ) (done : ℕ → Type 0) (s : State) → Inside m (code_at m b) done s → Inside m (code_at m b) (λ t. Unit {0}) s
  plain b done s i = record { processors = i.processors; masks_are = i.masks_are; agrees = i.agrees; work = i.work; finished = λ p k t e l. tt; ticks = i.ticks }

  trail_weight : (memory : List Content) (n b : ℕ) → (outcome m.blocks memory n).next ≡ Some b → weigh u.weight (outcome m.blocks memory (suc n)).trail ≡ weigh u.weight (outcome m.blocks memory n).trail + u.weight b
  trail_weight memory n b e = ap (weigh u.weight) (trail_next m.blocks memory n b e) ∙ weigh-append u.weight (outcome m.blocks memory n).trail b

  keeps_bounded : (memory : List Content) (n steps : ℕ) (until : ℕ → ℕ) (done : ℕ → Type 0) (s : State) (mode : Mode) → s.mode ≡ mode → Holds m done mode s → Meets m memory n done mode s → HoldsRight m until mode s → Bounded memory n steps until mode s → (a : Action) → may_to m mode s a → Bounded memory (more_blocks a n) (suc steps) (holds_by m s a until) (after_to m mode s a).mode (after_to m mode s a)
  unfolding Holds Meets Bounded HoldsRight
  keeps_bounded memory n steps until done s (In b) e i me h le (Finish p) may = subst (λ o. Bounded memory n (suc steps) (holds_by m s (Finish p) until) o (after_in m b s (Finish p))) (sym e) (let x = u.inside b steps s until (plain b done s i) h (Finish p) may (λ q. cc) in omega arith)
  keeps_bounded memory n steps until done s (In b) e i me h le (Fire j) may = subst (λ o. Bounded memory n (suc steps) (holds_by m s (Fire j) until) o (after_in m b s (Fire j))) (sym e) (let x = u.inside b steps s until (plain b done s i) h (Fire j) may (λ q. cc) in omega arith)
  keeps_bounded memory n steps until done s (In b) e i me h le (Start p d) may = subst (λ o. Bounded memory n (suc steps) (holds_by m s (Start p d) until) o (after_in m b s (Start p d))) (sym (started_mode (code_at m b) s p d _ ∙ e)) (let x = u.inside b steps s until (plain b done s i) h (Start p d) may (λ q. cc) in omega arith)
  keeps_bounded memory n steps until done s (In b) e i me h le Branch may = target_bounded memory (suc n) (suc steps) until (after_in m b s Branch) (code_at m b).next s.world (let x = trail_weight memory n b me.0 in let y = u.leaves b steps s until in omega arith)
  keeps_bounded memory n steps until done s (In b) e i me h le Advance may = subst (λ o. Bounded memory n (suc steps) until o (after_in m b s Advance)) (sym e) (let x = u.inside b steps s until (plain b done s i) h Advance may (λ q. cc) in omega arith)
  keeps_bounded memory n steps until done s (In b) e i me h le Enter may = absurd may
  keeps_bounded memory n steps until done s (Entering b) e i me h le Enter may = let x = u.enters b steps s until in omega arith
  keeps_bounded memory n steps until done s (Entering b) e i me h le (Finish p) may = absurd may
  keeps_bounded memory n steps until done s (Entering b) e i me h le (Fire j) may = absurd may
  keeps_bounded memory n steps until done s (Entering b) e i me h le (Start p d) may = absurd may
  keeps_bounded memory n steps until done s (Entering b) e i me h le Branch may = absurd may
  keeps_bounded memory n steps until done s (Entering b) e i me h le Advance may = absurd may
  keeps_bounded memory n steps until done s Ended e i me h le a may = absurd may

  run_bounded : (fit : AllFit m) (good : AllEarly m) (stand : AllStand m) (memory : List Content) (past : List Action) → IsRun m memory past → KeepsOrder m memory past → Bounded memory (blocks_run past) (length past) (holds_after m memory past) (state_after m memory past).mode (state_after m memory past)
  unfolding Bounded holds_after
  run_bounded fit good stand memory [] r order = let x = u.begins memory (λ j. 0) in omega arith
  run_bounded fit good stand memory (a ∷ past) r order = keeps_bounded memory (blocks_run past) (length past) (holds_after m memory past) (HasFinished m memory past) (state_after m memory past) (state_after m memory past).mode refl (run_holds m fit memory past r.0) (run_meets m fit good stand memory past r.0 order.0) (run_right m fit memory past r.0) (run_bounded fit good stand memory past r.0 order.0) a r.1

-- the blocks that have begun, where n have been left
abbrev pub reach : Mode → ℕ → ℕ
reach (In b) n = suc n
reach (Entering b) n = n
reach Ended n = n

reached : (m : Program) (u : Budget m) (memory : List Content) (n steps : ℕ) (until : ℕ → ℕ) (done : ℕ → Type 0) (s : State) (mode : Mode) → Meets m memory n done mode s → Bounded m u memory n steps until mode s → u.spent steps s + 1 ≤ weigh u.weight (outcome m.blocks memory (reach mode n)).trail
unfolding Meets Bounded
reached m u memory n steps until done s (In b) me le = let x = trail_weight m u memory n b me.0 in omega arith
reached m u memory n steps until done s (Entering b) me le = le
reached m u memory n steps until done s Ended me le = le

-- a run has spent less than what the blocks that it has begun have for it
pub run_reached : (m : Program) (u : Budget m) (fit : AllFit m) (good : AllEarly m) (stand : AllStand m) (memory : List Content) (past : List Action) → IsRun m memory past → KeepsOrder m memory past → u.spent (length past) (state_after m memory past) + 1 ≤ weigh u.weight (outcome m.blocks memory (reach (state_after m memory past).mode (blocks_run past))).trail
run_reached m u fit good stand memory past r order = reached m u memory (blocks_run past) (length past) (holds_after m memory past) (HasFinished m memory past) (state_after m memory past) (state_after m memory past).mode (run_meets m fit good stand memory past r order) (run_bounded m u fit good stand memory past r order)
