-- Every run keeps the laws on the ticks of the execution that it is in, and tells by them when each point happened.
use Rattle.std.proofs.Common.{◌≡◌, ℕ, ◌+◌, Bool, true, false, List, [], ◌∷◌, ◌++◌, get_or, set, unwrap_or, Some, None, Option, pos, refl, sym, ap, ◌∙◌, subst, if◌then◌else◌, eqb-true}
use Rattle.std.specs.Ordering.{int_eq}
use Rattle.std.specs.Prelude.{ℤ}
use Rattle.std.proofs.lemmas.Bool.{cond-true, cond-false, eq-eqb, ne_eqb}
use Rattle.bm_base.specs.Mask.{has_bit}
use Rattle.bm_base.specs.Memory.{Content}
use Rattle.line_model.specs.declared.line.StreamItem.{StreamItem}
use Rattle.line_model.specs.declared.line.StreamItem.TheVariants.{Do, Wait}
use Rattle.line_model.specs.Streams.{masks}
use Rattle.tuple_ir.specs.declared.block.Next.{Next}
use Rattle.tuple_ir.specs.declared.block.Next.TheVariants.{Halt, Goto, If}
use Rattle.tuple_ir.specs.World.{World, cell}
use Rattle.unit_law.specs.State.{Code, Program, Mode, In, Entering, Ended, Busy, State, code_at, processor, is_due, next_item}
use Rattle.unit_law.specs.Steps.{Action, Finish, Fire, Start, Branch, Advance, Enter, may_to, IsNext, IsDuration, tuple_at, passed, started, finished, target, or_clock, after_in, after_to, state_after, IsRun}
use Rattle.unit_law.specs.Fit.{AllFit, NoneEmpty}
use Rattle.unit_law.specs.Inside.{Inside}
use Rattle.unit_law.proofs.Inside.{due_within, work_due, mask_is}
use Rattle.unit_law.proofs.Ordered.{Holds, run_holds, keeps, entered_inside, started_mode}
use Rattle.time_interval.specs.declared.reference.Point.{Point}
use Rattle.time_interval.specs.declared.reference.Point.TheVariants.{StartOf, FinishOf, FireOf}
use Rattle.unit_law.specs.Execution.{since_entry, execution, first_clock, entry_tick, is_tuple, is_work_on, HasFinished}
use Rattle.unit_law.proofs.Finishes.{finished_by}
use Rattle.time_law.specs.Happened.{happened, taken, arrivals}
use Rattle.time_law.proofs.Timed.{Timed, Clocked}
use Rattle.time_law.proofs.TimedSteps.{next_one, start_with, advance_timed, finish_timed, finished_state}
use Rattle.time_law.proofs.TimedFire.{fire_timed, fired_state, entered_timed}
use Rattle.time_law.proofs.Points.{Tells, start_tells, finish_tells, fire_tells, advance_tells, entered_tells}

-- the tick at which mask j fired
abbrev pub fire_of : Code → List (State × Action) → ℕ → ℕ
fire_of code e = λ j. unwrap_or (happened code e (FireOf j)) 0

-- what is told of a state in block b
pub record ToldIn (m : Program) (b : ℕ) (s : State) (entry : ℕ) (e : List (State × Action)) : Type 0 where
  pub timed : Timed m (code_at m b) entry s (arrivals m (code_at m b) entry e) (fire_of (code_at m b) e)
  pub tells : Tells m (code_at m b) s (arrivals m (code_at m b) entry e) (fire_of (code_at m b) e) (happened (code_at m b) e) (taken (code_at m b) e)

unfoldable pub IsTold : Program → Mode → State → ℕ → List (State × Action) → Type 0
IsTold m (In b) s entry e = ToldIn m b s entry e
IsTold m (Entering b) s entry e = Unit {0}
IsTold m Ended s entry e = Unit {0}

any_done : (m : Program) (code : Code) (done : ℕ → Type 0) (s : State) → Inside m code done s → Inside m code (λ t. Unit {0}) s
any_done m code done s i = record { processors = i.processors; masks_are = i.masks_are; agrees = i.agrees; work = i.work; finished = λ p k t e l. tt; ticks = i.ticks }

target_told : (m : Program) (s : State) (entry : ℕ) (e : List (State × Action)) (next : Next) (w : World) → IsTold m (target next w) s entry e
unfolding IsTold
target_told m s entry e Halt w = tt
target_told m s entry e (Goto b) w = tt
target_told m s entry e (If c one other) w = go (int_eq (cell w c) (pos 0))
  where
    go : (v : Bool) → IsTold m (if v then Entering other else Entering one) s entry e
    go true = tt
    go false = tt

-- ---- each action in a block
module _ {m : Program} {b : ℕ} {done : ℕ → Type 0} {s : State} (entry : ℕ) (e : List (State × Action)) (clocked : Clocked m b done s entry (arrivals m (code_at m b) entry e) (fire_of (code_at m b) e)) (tells : Tells m (code_at m b) s (arrivals m (code_at m b) entry e) (fire_of (code_at m b) e) (happened (code_at m b) e) (taken (code_at m b) e)) where
  abbrev with_action : Action → List (State × Action)
  with_action a = (s, a) ∷ e

  started_told : (p d u : ℕ) → IsNext m (code_at m b) s p u → IsDuration m (tuple_at (code_at m b) u) d → (o : Option StreamItem) → next_item (code_at m b) s p ≡ o → ToldIn m b (started (code_at m b) s p d o) entry (with_action (Start p d))
  unfolding next_one
  started_told p d u n time None f = absurd (let y : None ≡ Some (Do u) = sym f ∙ n.item in cc)
  started_told p d u n time (Some Wait) f = absurd (let y : Some Wait ≡ Some (Do u) = sym f ∙ n.item in cc)
  started_told p d u n time (Some (Do v)) f = subst (λ w. ToldIn m b (started (code_at m b) s p d (Some (Do w))) entry (with_action (Start p d))) (let y : Some (Do u) ≡ Some (Do v) = sym n.item ∙ f in let z : u ≡ v = cc in z) (record {
    timed = start_with clocked p d u n time;
    tells = start_tells clocked (happened (code_at m b) e) (taken (code_at m b) e) tells p d u n time _ (happened (code_at m b) (with_action (Start p d))) (cond-true _ _ _ is_u) (λ t ne. cond-false _ _ _ (not_other t ne)) (λ t. refl) (λ j. refl) (taken (code_at m b) (with_action (Start p d))) (cond-true _ _ _ is_u) (λ t ne. cond-false _ _ _ (not_other t ne));
  })
    where
      is_u : is_tuple (next_item (code_at m b) s p) u ≡ true
      is_u = ap (λ o. is_tuple o u) n.item ∙ eq-eqb u u refl

      not_other : (t : ℕ) → (u ≡ t → ⊥) → is_tuple (next_item (code_at m b) s p) t ≡ false
      not_other t ne = ap (λ o. is_tuple o t) n.item ∙ ne_eqb u t ne

  finished_told : (p : ℕ) (may : may_to m (In b) s (Finish p)) → Inside m (code_at m b) (λ t. Unit {0}) (after_in m b s (Finish p)) → ToldIn m b (after_in m b s (Finish p)) entry (with_action (Finish p))
  unfolding finished_state
  finished_told p may inside = record {
    timed = finish_timed clocked p may (arrivals m (code_at m b) entry (with_action (Finish p))) (cond-true _ _ _ (eq-eqb p p refl)) (λ q ne. cond-false _ _ _ (ne_eqb q p ne)) (finished (code_at m b) (processor s p).work s.world) inside;
    tells = go (work_due s.clock (processor s p).work may);
  }
    where
      go : (until t : ℕ) × (operands : List ℤ) × ((processor s p).work ≡ Busy until t operands) → Tells m (code_at m b) (after_in m b s (Finish p)) (arrivals m (code_at m b) entry (with_action (Finish p))) (fire_of (code_at m b) e) (happened (code_at m b) (with_action (Finish p))) (taken (code_at m b) e)
      go (until, u, operands, is) = finish_tells clocked (happened (code_at m b) e) (taken (code_at m b) e) tells p until u operands is (eqb-true until s.clock (sym (ap (λ w. is_due s.clock w) is) ∙ may)) (due_within s p may) (finished (code_at m b) (processor s p).work s.world) (arrivals m (code_at m b) entry (with_action (Finish p))) (cond-true _ _ _ (eq-eqb p p refl)) (λ q ne. cond-false _ _ _ (ne_eqb q p ne)) (happened (code_at m b) (with_action (Finish p))) (λ t. refl) (cond-true _ _ _ (ap (λ v. is_work_on v u) is ∙ eq-eqb u u refl)) (λ t ne. cond-false _ _ _ (ap (λ v. is_work_on v t) is ∙ ne_eqb u t ne)) (λ j. refl)

  fired_told : (j : ℕ) (may : may_to m (In b) s (Fire j)) → Inside m (code_at m b) done (after_in m b s (Fire j)) → ToldIn m b (after_in m b s (Fire j)) entry (with_action (Fire j))
  unfolding fired_state
  fired_told j may inside = subst P (sym mask) at inside
    where
      mask : get_or (masks (code_at m b).line) j 0 ≡ may.1.mask
      mask = mask_is m b clocked.fit done s clocked.inside j may.1

      P : ℕ → Type 0
      P k = Inside m (code_at m b) done (record s { processors = passed (s.clock + m.machine.delay) k 0 s.processors; fired = set s.fired j true }) → ToldIn m b (record s { processors = passed (s.clock + m.machine.delay) k 0 s.processors; fired = set s.fired j true }) entry (with_action (Fire j))

      at : P may.1.mask
      at inside = record {
        timed = fire_timed clocked j may.1 _ _ member other now same inside;
        tells = fire_tells clocked (happened (code_at m b) e) (taken (code_at m b) e) tells j may.1 _ _ member other now same (happened (code_at m b) (with_action (Fire j))) (λ t. refl) (λ t. refl) (cond-true _ _ _ (eq-eqb j j refl)) (λ k ne. cond-false _ _ _ (ne_eqb j k ne));
      }
        where
          member : (q : ℕ) → has_bit may.1.mask q ≡ true → arrivals m (code_at m b) entry (with_action (Fire j)) q ≡ arrivals m (code_at m b) entry e q ++ (s.clock + m.machine.delay) ∷ []
          member q g = cond-true _ _ _ (ap (λ k. has_bit k q) mask ∙ g)

          other : (q : ℕ) → has_bit may.1.mask q ≡ false → arrivals m (code_at m b) entry (with_action (Fire j)) q ≡ arrivals m (code_at m b) entry e q
          other q g = cond-false _ _ _ (ap (λ k. has_bit k q) mask ∙ g)

          now : fire_of (code_at m b) (with_action (Fire j)) j ≡ s.clock
          now = ap (λ o. unwrap_or o 0) (cond-true _ _ _ (eq-eqb j j refl))

          same : (k : ℕ) → (k ≡ j → ⊥) → fire_of (code_at m b) (with_action (Fire j)) k ≡ fire_of (code_at m b) e k
          same k ne = ap (λ o. unwrap_or o 0) (cond-false _ _ _ (ne_eqb j k (λ x. ne (sym x))))

-- nothing has happened at the entry
none_yet : (code : Code) (x : Point) → happened code [] x ≡ None
none_yet code (StartOf t) = refl
none_yet code (FinishOf t) = refl
none_yet code (FireOf j) = refl

-- ---- every run
keeps_told : (m : Program) → AllFit m → NoneEmpty m → (done : ℕ → Type 0) (s : State) (e : List (State × Action)) (mode : Mode) → s.mode ≡ mode → Holds m done mode s → IsTold m mode s (first_clock s.clock e) e → (a : Action) → may_to m mode s a → IsTold m (after_to m mode s a).mode (after_to m mode s a) (first_clock (after_to m mode s a).clock (since_entry s a e)) (since_entry s a e)
unfolding Holds IsTold
keeps_told m fit full done s e (In b) f i y a may = within a may
  where
    clocked : Clocked m b done s (first_clock s.clock e) (arrivals m (code_at m b) (first_clock s.clock e) e) (fire_of (code_at m b) e)
    clocked = record { fit = fit b; inside = i; timed = y.timed }

    back : (t : State) → t.mode ≡ In b → (e' : List (State × Action)) → ToldIn m b t (first_clock s.clock e) e' → IsTold m t.mode t (first_clock s.clock e) e'
    back t g e' h = subst (λ o. IsTold m o t (first_clock s.clock e) e') (sym g) h

    within : (a : Action) → may_to m (In b) s a → IsTold m (after_in m b s a).mode (after_in m b s a) (first_clock (after_in m b s a).clock (since_entry s a e)) (since_entry s a e)
    within (Finish p) may = back _ f _ (finished_told (first_clock s.clock e) e clocked y.tells p may (any_done m (code_at m b) _ _ (subst (λ o. Holds m (λ t. finished_by s (Finish p) t (done t)) o (after_in m b s (Finish p))) f (keeps m fit done s (In b) f i (Finish p) may))))
    within (Fire j) may = back _ f _ (fired_told (first_clock s.clock e) e clocked y.tells j may (subst (λ o. Holds m done o (after_in m b s (Fire j))) f (keeps m fit done s (In b) f i (Fire j) may)))
    within (Start p d) may = back _ (started_mode (code_at m b) s p d _ ∙ f) _ (started_told (first_clock s.clock e) e clocked y.tells p d may.1.0 may.1.1 may.1.2 _ refl)
    within Branch may = target_told m (after_in m b s Branch) _ _ (code_at m b).next s.world
    within Advance may = back _ f _ (subst (λ o. ToldIn m b (record s { clock = or_clock o s.clock }) (first_clock s.clock e) ((s, Advance) ∷ e)) (sym may.3.1) (record { timed = advance_timed clocked may.3.0 may.3.1 may.1 may.2; tells = advance_tells clocked _ _ y.tells may.3.0 }))
    within Enter may = absurd may
keeps_told m fit full done s e (Entering b) f i y Enter may = record { timed = entered_timed m b (s.clock + 1) s.world _ _ (λ p. refl) (full b) (entered_inside m b (s.clock + 1) s.world (λ t. ⊥)) (fit b); tells = entered_tells m b (s.clock + 1) s.world _ _ _ _ (λ p. refl) (none_yet (code_at m b)) }
keeps_told m fit full done s e (Entering b) f i y (Finish p) may = absurd may
keeps_told m fit full done s e (Entering b) f i y (Fire j) may = absurd may
keeps_told m fit full done s e (Entering b) f i y (Start p d) may = absurd may
keeps_told m fit full done s e (Entering b) f i y Branch may = absurd may
keeps_told m fit full done s e (Entering b) f i y Advance may = absurd may
keeps_told m fit full done s e Ended f i y a may = absurd may

run_told : (m : Program) → AllFit m → NoneEmpty m → (memory : List Content) (past : List Action) → IsRun m memory past → IsTold m (state_after m memory past).mode (state_after m memory past) (entry_tick m memory past) (execution m memory past)
unfolding IsTold
run_told m fit full memory [] r = record { timed = entered_timed m 0 0 _ _ _ (λ p. refl) (full 0) (entered_inside m 0 0 _ (λ t. ⊥)) (fit 0); tells = entered_tells m 0 0 _ _ _ _ _ (λ p. refl) (none_yet (code_at m 0)) }
run_told m fit full memory (a ∷ past) r = keeps_told m fit full (HasFinished m memory past) (state_after m memory past) (execution m memory past) (state_after m memory past).mode refl (run_holds m fit memory past r.0) (run_told m fit full memory past r.0) a r.1

-- ---- a state within block b
module _ (m : Program) (fit : AllFit m) (full : NoneEmpty m) (memory : List Content) (past : List Action) (b : ℕ) (run : IsRun m memory past) (mode : (state_after m memory past).mode ≡ In b) where
  told : ToldIn m b (state_after m memory past) (entry_tick m memory past) (execution m memory past)
  unfolding IsTold
  told = subst (λ o. IsTold m o (state_after m memory past) (entry_tick m memory past) (execution m memory past)) mode (run_told m fit full memory past run)

  pub run_clocked : Clocked m b (HasFinished m memory past) (state_after m memory past) (entry_tick m memory past) (arrivals m (code_at m b) (entry_tick m memory past) (execution m memory past)) (fire_of (code_at m b) (execution m memory past))
  unfolding Holds
  run_clocked = record { fit = fit b; inside = subst (λ o. Holds m (HasFinished m memory past) o (state_after m memory past)) mode (run_holds m fit memory past run); timed = told.timed }

  pub run_tells : Tells m (code_at m b) (state_after m memory past) (arrivals m (code_at m b) (entry_tick m memory past) (execution m memory past)) (fire_of (code_at m b) (execution m memory past)) (happened (code_at m b) (execution m memory past)) (taken (code_at m b) (execution m memory past))
  run_tells = told.tells
