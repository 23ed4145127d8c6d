-- What a machine keeps, within a block.
use Rattle.std.proofs.Common.{◌≡◌, ℕ, ◌<◌, ◌≤◌, true, ◌&&◌, List, length, map, get_or, set, slice_get, nat_lt, refl, sym, ap, ◌∙◌, subst, get_or-set_other, length-set}
use Rattle.std.proofs.lemmas.Bool.{both_ways}
use Rattle.std.proofs.lemmas.List.{get_or-map}
use Rattle.bm_base.specs.Mask.{has_bit}
use Rattle.line_model.specs.Streams.{stream, masks}
use Rattle.unit_law.specs.State.{Code, Program, In, State, Processor, Work, Idle, Busy, Held, at_start, code_at, is_free, is_wait, waits}
use Rattle.unit_law.specs.Units.{has_unfired}
use Rattle.unit_law.specs.Fit.{AllFit}
use Rattle.unit_law.specs.Determinate.{HasFinished}
use Rattle.unit_law.specs.Inside.{Inside}
use Rattle.unit_law.proofs.Ordered.{Holds, run_holds}
use Rattle.unit_law.proofs.Waiters.{waiters_unfired}
use Rattle.unit_law.proofs.Waiting.{waiting_has}
use Rattle.bm_machine.specs.declared.actor.Actor.{Actor}
use Rattle.bm_machine.specs.Shown.{processor_of, IsReached, IsKept, unit_agrees, works_rightly, all_work_rightly, standing_at}

-- ---- what is reached
pub reached_inside : (m : Program) (s : State) (counts : List ℕ) (b : ℕ) → AllFit m → (r : IsReached m s counts) → s.mode ≡ In b → Inside m (code_at m b) (HasFinished m r.memory r.past) s
unfolding Holds
reached_inside m s counts b fit r inside = subst (λ t. Inside m (code_at m b) (HasFinished m r.memory r.past) t) r.last (subst (λ o. Holds m (HasFinished m r.memory r.past) o (state_of r)) (ap (λ t. t.mode) r.last ∙ inside) (run_holds m fit r.memory r.past r.run))
  where
    state_of : (r : IsReached m s counts) → State
    state_of r = Rattle.unit_law.specs.Steps.state_after m r.memory r.past

pub reached_long : (m : Program) (s : State) (counts : List ℕ) (b : ℕ) → AllFit m → IsReached m s counts → s.mode ≡ In b → length s.processors ≡ m.machine.processors
reached_long m s counts b fit r inside = (reached_inside m s counts b fit r inside).processors

-- whoever waits has a mask that has not fired
pub reached_unfired : (m : Program) (s : State) (counts : List ℕ) (b : ℕ) → AllFit m → IsReached m s counts → s.mode ≡ In b → (p : ℕ) → waits (code_at m b) s p ≡ true → has_unfired (masks (code_at m b).line) s.fired p ≡ true
reached_unfired m s counts b fit r inside p w = subst (λ t. has_unfired (masks (code_at m b).line) t.fired p ≡ true) r.last (waiters_unfired m fit r.memory r.past r.run b p (ap (λ t. t.mode) r.last ∙ inside) (subst (λ t. waits (code_at m b) t p ≡ true) (sym r.last) w))

-- ---- what is kept
module _ (m : Program) (s : State) (counts : List ℕ) (told capacity : ℕ) (queue : List ℕ) (waiting : ℕ) (k : IsKept m s counts told capacity queue waiting) (b : ℕ) (inside : s.mode ≡ In b) where
  pub kept_work : all_work_rightly m s counts (In b)
  kept_work = subst (all_work_rightly m s counts) inside k.work

  pub kept_agrees : unit_agrees m s (In b) queue waiting
  kept_agrees = subst (λ mode. unit_agrees m s mode queue waiting) inside k.agrees

  -- those of whom the unit was told are those that wait
  pub kept_told : (p : ℕ) → has_bit told p ≡ waits (code_at m b) s p
  kept_told p = ap (λ t. has_bit t p) (sym k.told_is ∙ kept_agrees.1) ∙ waiting_has (code_at m b) s p

-- ---- who waits
-- by the processors alone
pub waits_standing : (code : Code) (s : State) (actors : List Actor) → s.processors ≡ map processor_of actors → (p : ℕ) → waits code (standing_at s.clock actors) p ≡ waits code s p
waits_standing code s actors e p = ap (λ qs. nat_lt p (length qs) && (is_free s.clock (get_or qs p at_start).work && is_wait (slice_get (stream p code.line) (get_or qs p at_start).place))) (sym e)

-- one processor is replaced: the others wait as before
pub waits_other : (code : Code) (s t : State) (p : ℕ) (x : Processor) → t.clock ≡ s.clock → t.processors ≡ set s.processors p x → (q : ℕ) → (q ≡ p → ⊥) → waits code t q ≡ waits code s q
waits_other code s t p x k e q ne = one ∙ two
  where
    one : waits code t q ≡ (nat_lt q (length (set s.processors p x)) && (is_free s.clock (get_or (set s.processors p x) q at_start).work && is_wait (slice_get (stream q code.line) (get_or (set s.processors p x) q at_start).place)))
    one = ap (λ qs. nat_lt q (length qs) && (is_free t.clock (get_or qs q at_start).work && is_wait (slice_get (stream q code.line) (get_or qs q at_start).place))) e ∙ ap (λ c. nat_lt q (length (set s.processors p x)) && (is_free c (get_or (set s.processors p x) q at_start).work && is_wait (slice_get (stream q code.line) (get_or (set s.processors p x) q at_start).place))) k

    two : (nat_lt q (length (set s.processors p x)) && (is_free s.clock (get_or (set s.processors p x) q at_start).work && is_wait (slice_get (stream q code.line) (get_or (set s.processors p x) q at_start).place))) ≡ waits code s q
    two = ap (λ n. nat_lt q n && (is_free s.clock (get_or (set s.processors p x) q at_start).work && is_wait (slice_get (stream q code.line) (get_or (set s.processors p x) q at_start).place))) (length-set s.processors p x) ∙ ap (λ y. nat_lt q (length s.processors) && (is_free s.clock y.work && is_wait (slice_get (stream q code.line) y.place))) (get_or-set_other s.processors p q x at_start ne)

-- ---- actors as processors
pub actor_at : (actors : List Actor) (p : ℕ) (a : Actor) → p < length actors → a ≡ get_or actors p a → get_or (map processor_of actors) p at_start ≡ processor_of a
actor_at actors p a lt e = get_or-map processor_of actors p a at_start lt ∙ ap processor_of (sym e)

-- a processor that is free has started no more tuples than the clock says
pub free_count : (code : Code) (clock count : ℕ) (w : Work) → is_free clock w ≡ true → works_rightly code clock count w → count ≤ clock
free_count code clock count Idle free h = h
free_count code clock count (Busy until t rs) free h = absurd (both_ways true (sym free) refl)
free_count code clock count (Held until) free h = h.1
