-- The canonical run has a last beginning at a clock of at most `until`: within a block each step leaves fewer of them, and to enter the
-- next block takes a tick.
use Rattle.std.proofs.Common.{◌≡◌, ℕ, zero, suc, ◌+◌, ◌<◌, ◌≤◌, Bool, true, false, List, [], ◌∷◌, Option, Some, None, pos, refl, sym, ap, ◌∙◌, subst, le_refl, arith, ◌⊎◌, inl, inr, ℤ, if◌then◌else◌}
use Rattle.std.specs.Ordering.{int_eq}
use Rattle.std.proofs.lemmas.Bool.{cases_lt}
use Rattle.bm_base.specs.Memory.{Content}
use Rattle.bm_base.specs.Memories.{IsMemoryOf}
use Rattle.tuple_ir.specs.declared.block.Next.{Next}
use Rattle.tuple_ir.specs.declared.block.Next.TheVariants.{Halt, Goto, If}
use Rattle.tuple_ir.specs.World.{World, cell}
use Rattle.unit_law.specs.State.{Program, Mode, In, Entering, Ended, State, code_at, next_item}
use Rattle.unit_law.specs.Units.{Choice}
use Rattle.unit_law.specs.Steps.{Action, Finish, Fire, Start, Branch, Advance, Enter, may_to, target, after_in, after_to, state_after, IsRun}
use Rattle.unit_law.specs.OnUnit.{IsLawfulChoice}
use Rattle.unit_law.specs.Canonical.{Durations, IsTiming, next_action, IsCanonical}
use Rattle.unit_law.specs.Fit.{AllFit, AllStand, HasTimes}
use Rattle.unit_law.specs.Determinate.{HasFinished}
use Rattle.unit_law.specs.Inside.{Inside}
use Rattle.unit_law.proofs.Ordered.{Holds, run_holds, started_mode}
use Rattle.unit_law.proofs.Totals.{HoldsAre, holds_by}
use Rattle.unit_law.proofs.Budgets.{steps_left, steps_inside, holds_after, HoldsRight, run_right}
use Rattle.unit_law.proofs.CanonicalRuns.{canonical_runs}
use Rattle.unit_law.proofs.RunsOn.{runs_on}
use Rattle.run_text.specs.RunUpTo.{IsLastBy, End, end_of, IsRunUpTo}
use Rattle.run_text.proofs.Later.{clock_later}
use Rattle.run_text.proofs.OneRun.{last_of, shows_end}
use Rattle.run_text.proofs.Coming.{enters_later}

branch_or_not : (a : Action) → (a ≡ Branch) ⊎ (a ≡ Branch → ⊥)
branch_or_not (Finish p) = inr (λ e. absurd (cc))
branch_or_not (Fire j) = inr (λ e. absurd (cc))
branch_or_not (Start p d) = inr (λ e. absurd (cc))
branch_or_not Branch = inl refl
branch_or_not Advance = inr (λ e. absurd (cc))
branch_or_not Enter = inr (λ e. absurd (cc))

-- only a Branch leaves a block
stays : (m : Program) (b : ℕ) (s : State) (a : Action) → (a ≡ Branch → ⊥) → (after_in m b s a).mode ≡ s.mode
stays m b s (Finish p) ne = refl
stays m b s (Fire j) ne = refl
stays m b s (Start p d) ne = started_mode (code_at m b) s p d (next_item (code_at m b) s p)
stays m b s Branch ne = absurd (ne refl)
stays m b s Advance ne = refl
stays m b s Enter ne = refl

-- and no Branch leads into a block at once
not_inside : (next : Next) (w : World) (c : ℕ) → target next w ≡ In c → ⊥
not_inside Halt w c e = cc
not_inside (Goto b) w c e = cc
not_inside (If k one other) w c e = go (int_eq (cell w k) (pos 0)) e
  where
    go : (v : Bool) → (if v then Entering other else Entering one) ≡ In c → ⊥
    go true e = cc
    go false e = cc

module _ (choice : Choice) (durations : Durations) (m : Program) (fit : AllFit m) (stand : AllStand m) (times : HasTimes m) (timing : IsTiming durations) (law : IsLawfulChoice choice m) (memory : List Content) (kinds : IsMemoryOf m.names memory) where
  runs : (past : List Action) → IsCanonical choice durations m memory past → IsRun m memory past
  runs past c = runs_on choice m law memory past kinds (canonical_runs choice durations m fit times timing memory past c)

  inside : (b : ℕ) (past : List Action) → IsCanonical choice durations m memory past → (state_after m memory past).mode ≡ In b → Inside m (code_at m b) (λ t. Unit {0}) (state_after m memory past)
  unfolding Holds
  inside b past c e = plain (subst (λ o. Holds m (HasFinished m memory past) o (state_after m memory past)) e (run_holds m fit memory past (runs past c)))
    where
      plain : Inside m (code_at m b) (HasFinished m memory past) (state_after m memory past) → Inside m (code_at m b) (λ t. Unit {0}) (state_after m memory past)
      plain i = record { processors = i.processors; masks_are = i.masks_are; agrees = i.agrees; work = i.work; finished = λ p k t e l. tt; ticks = i.ticks }

  does : (b : ℕ) (past : List Action) (a : Action) → (state_after m memory past).mode ≡ In b → state_after m memory (a ∷ past) ≡ after_in m b (state_after m memory past) a
  does b past a e = ap (λ o. after_to m o (state_after m memory past) a) e

  -- the steps that a run has left in block b
  left : ℕ → List Action → ℕ
  left b past = steps_left m fit stand b (holds_after m memory past) (state_after m memory past)

  holds : (b : ℕ) (past : List Action) → IsCanonical choice durations m memory past → (state_after m memory past).mode ≡ In b → HoldsAre (code_at m b) (state_after m memory past) (holds_after m memory past)
  unfolding HoldsRight
  holds b past c e = subst (λ o. HoldsRight m (holds_after m memory past) o (state_after m memory past)) e (run_right m fit memory past (runs past c))

  -- within a block a step that is no Branch stays in it, and leaves fewer
  fewer : (b : ℕ) (past : List Action) (a : Action) → IsCanonical choice durations m memory (a ∷ past) → (state_after m memory past).mode ≡ In b → (a ≡ Branch → ⊥) → suc (left b (a ∷ past)) ≤ left b past
  unfolding left holds_after
  fewer b past a c e ne =
      let may = subst (λ o. may_to m o (state_after m memory past) a) e (runs (a ∷ past) c).1 in
      let x = steps_inside m fit stand b (state_after m memory past) (holds_after m memory past) (inside b past c.0 e) (holds b past c.0 e) a may ne in
      subst (λ s. suc (steps_left m fit stand b (holds_by m (state_after m memory past) a (holds_after m memory past)) s) ≤ steps_left m fit stand b (holds_after m memory past) (state_after m memory past)) (sym (does b past a e)) x

  still_in : (b : ℕ) (past : List Action) (a : Action) → (state_after m memory past).mode ≡ In b → (a ≡ Branch → ⊥) → (state_after m memory (a ∷ past)).mode ≡ In b
  still_in b past a e ne = ap (λ s. s.mode) (does b past a e) ∙ stays m b (state_after m memory past) a ne ∙ e

  module _ (until : ℕ) where
    abbrev pub Found : Type 0
    Found = (output : List ℤ) × ((end : Option End) × IsRunUpTo choice durations m memory until output end)

    -- a beginning at a clock of at most `until`, with fewer than so many ticks to go
    record IsNear (ticks : ℕ) (past : List Action) : Type 0 where
      pub canonical : IsCanonical choice durations m memory past
      pub in_time : (state_after m memory past).clock ≤ until
      pub near : until < (state_after m memory past).clock + ticks

    found : (past : List Action) → IsLastBy choice durations m memory until past → Found
    found past l = ((state_after m memory past).world.output, (end_of (state_after m memory past) (state_after m memory past).mode, record { past = past; is_last = l; output_is = refl; end_is = refl }))

    -- it is the last one, or one action more is in time
    on : (ticks : ℕ) (past : List Action) → IsNear ticks past → ((a : Action) → IsNear ticks (a ∷ past) → Found) → Found
    on ticks past h next = go (next_action choice durations m memory past) refl
      where
        late : (a : Action) → next_action choice durations m memory past ≡ Some a → until < (state_after m memory (a ∷ past)).clock → Found
        late a e x = found past (last_of choice durations m memory until past h.canonical h.in_time (λ b f. let y : Some a ≡ Some b = sym e ∙ f in let z : a ≡ b = cc in subst (λ d. until < (state_after m memory (d ∷ past)).clock) z x))

        go : (o : Option Action) → next_action choice durations m memory past ≡ o → Found
        go None e = found past (last_of choice durations m memory until past h.canonical h.in_time (λ a f. let y : None ≡ Some a = sym e ∙ f in absurd (cc)))
        go (Some a) e = split (cases_lt until (state_after m memory (a ∷ past)).clock)
          where
            split : (until < (state_after m memory (a ∷ past)).clock) ⊎ ((state_after m memory (a ∷ past)).clock ≤ until) → Found
            split (inl x) = late a e x
            split (inr x) = let n = h.near in let y = clock_later m memory a past in next a (record { canonical = (h.canonical, e); in_time = x; near = omega arith })

    at_end : (ticks : ℕ) (past : List Action) → IsNear ticks past → (state_after m memory past).mode ≡ Ended → Found
    at_end ticks past h e = ((state_after m memory past).world.output, (end_of (state_after m memory past) Ended, shows_end choice durations m memory until past h.canonical h.in_time e))

    -- each of these holds for so many ticks where it holds for one less
    module _ (ticks : ℕ) (rest : (past : List Action) → IsNear ticks past → Found) where
      at_entry : (b : ℕ) (past : List Action) → IsNear (suc ticks) past → (state_after m memory past).mode ≡ Entering b → Found
      at_entry b past h e = on (suc ticks) past h (λ a k. let n = h.near in let x = enters_later choice durations m memory (state_after m memory past).mode b e past (state_after m memory past) a k.canonical.1 in rest (a ∷ past) (record { canonical = k.canonical; in_time = k.in_time; near = omega arith }))

      behind : (past : List Action) → IsNear (suc ticks) past → ((c : ℕ) → (state_after m memory past).mode ≡ In c → ⊥) → Found
      behind past h out = go (state_after m memory past).mode refl
        where
          go : (mode : Mode) → (state_after m memory past).mode ≡ mode → Found
          go (In c) e = absurd (out c e)
          go (Entering c) e = at_entry c past h e
          go Ended e = at_end (suc ticks) past h e

      leave : (b : ℕ) (past : List Action) (a : Action) → (state_after m memory past).mode ≡ In b → a ≡ Branch → IsNear (suc ticks) (a ∷ past) → Found
      leave b past a e branch k = behind (a ∷ past) k (λ c f. not_inside (code_at m b).next (state_after m memory past).world c (sym (ap (λ d. (after_in m b (state_after m memory past) d).mode) branch) ∙ sym (ap (λ s. s.mode) (does b past a e)) ∙ f))

      within : (b n : ℕ) (past : List Action) → IsNear (suc ticks) past → (state_after m memory past).mode ≡ In b → left b past ≤ n → Found
      within b zero past h e few = on (suc ticks) past h (λ a k. go a k (branch_or_not a))
        where
          go : (a : Action) → IsNear (suc ticks) (a ∷ past) → (a ≡ Branch) ⊎ (a ≡ Branch → ⊥) → Found
          go a k (inl branch) = leave b past a e branch k
          go a k (inr ne) = let x = fewer b past a k.canonical e ne in absurd (omega arith)
      within b (suc n) past h e few = on (suc ticks) past h (λ a k. go (λ k f l. within b n (a ∷ past) k f l) k (branch_or_not a))
        where
          go : {a : Action} → (IsNear (suc ticks) (a ∷ past) → (state_after m memory (a ∷ past)).mode ≡ In b → left b (a ∷ past) ≤ n → Found) → IsNear (suc ticks) (a ∷ past) → (a ≡ Branch) ⊎ (a ≡ Branch → ⊥) → Found
          go {a} more k (inl branch) = leave b past a e branch k
          go {a} more k (inr ne) = let x = fewer b past a k.canonical e ne in more k (still_in b past a e ne) (omega arith)

      by_mode : (past : List Action) → IsNear (suc ticks) past → Found
      by_mode past h = go (state_after m memory past).mode refl
        where
          go : (mode : Mode) → (state_after m memory past).mode ≡ mode → Found
          go (In b) e = within b (left b past) past h e (le_refl _)
          go (Entering b) e = at_entry b past h e
          go Ended e = at_end (suc ticks) past h e

    from : (ticks : ℕ) (past : List Action) → IsNear ticks past → Found
    from zero past h = let x = h.in_time in let y = h.near in absurd (omega arith)
    from (suc ticks) past h = by_mode ticks (λ later k. from ticks later k) past h

    pub there_is : Found
    there_is = from (until + 1) [] (record { canonical = tt; in_time = omega arith; near = omega arith })
