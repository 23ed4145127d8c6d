-- Where a tuple starts, its producers have finished in this execution of the block.
use Rattle.std.proofs.Common.{◌≡◌, ℕ, zero, suc, List, ◌∷◌, replicate, Option, Some, None, refl, sym, ap, ◌∙◌, subst, ℤ}
use Rattle.tuple_ir.specs.declared.tuple.Tuple.{Tuple}
use Rattle.tuple_ir.specs.declared.tuple.Tuple.TheVariants.{Const, Load, Store, LoadEl, StoreEl, One, Two, Print}
use Rattle.tuple_ir.specs.declared.block.Next.{Next}
use Rattle.tuple_ir.specs.declared.block.Next.TheVariants.{Halt, Goto, If}
use Rattle.tuple_ir.specs.declared.event.Event.{Event}
use Rattle.tuple_ir.specs.declared.event.Event.TheVariants.{Started, Finished, Printed, Fired, Entered, Ended as Over, Reached}
use Rattle.tuple_ir.specs.World.{value_of}
use Rattle.line_model.specs.declared.line.StreamItem.{StreamItem}
use Rattle.line_model.specs.declared.line.StreamItem.TheVariants.{Do}
use Rattle.unit_law.specs.State.{Code, Program, In, State, Work, Idle, Busy, Held, code_at, processor, next_item}
use Rattle.unit_law.specs.Units.{Choice}
use Rattle.unit_law.specs.Steps.{Action, Finish, Fire, Start, Branch, Advance, Enter, IsNext, MayIn, May, may_to, after, after_to, tuple_at, state_after}
use Rattle.unit_law.specs.Canonical.{Durations}
use Rattle.unit_law.specs.Determinate.{RespectsConflicts}
use Rattle.unit_law.specs.Events.{value_event, tuple_event, finish_event, start_event, fire_event, branch_event, event_in, event_to, event_of}
use Rattle.bm_machine.specs.Next.{counts_after, Takes, ProducersHaveFinished}

-- ---- only a Start gives the event of one
value_else : (clock p t at q u d : ℕ) (tuple : Tuple) (o : Option ℤ) → value_event clock p t tuple o ≡ Some (Started at q u d) → ⊥
value_else clock p t at q u d tuple None e = cc
value_else clock p t at q u d (Const v) (Some w) e = cc
value_else clock p t at q u d (Load x) (Some w) e = cc
value_else clock p t at q u d (Store x v) (Some w) e = cc
value_else clock p t at q u d (LoadEl x i) (Some w) e = cc
value_else clock p t at q u d (StoreEl x i v) (Some w) e = cc
value_else clock p t at q u d (One op a) (Some w) e = cc
value_else clock p t at q u d (Two op a b) (Some w) e = cc
value_else clock p t at q u d (Print v) (Some w) e = cc

tuple_else : (clock p t at q u d : ℕ) (o : Option Tuple) (operands : List ℤ) → tuple_event clock p t o operands ≡ Some (Started at q u d) → ⊥
tuple_else clock p t at q u d None operands e = cc
tuple_else clock p t at q u d (Some tuple) operands e = value_else clock p t at q u d tuple (value_of tuple operands) e

finish_else : (code : Code) (clock p at q u d : ℕ) (w : Work) → finish_event code clock p w ≡ Some (Started at q u d) → ⊥
finish_else code clock p at q u d Idle e = cc
finish_else code clock p at q u d (Busy until t operands) e = tuple_else clock p t at q u d (tuple_at code t) operands e
finish_else code clock p at q u d (Held until) e = cc

fire_else : (clock j at q u d : ℕ) (o : Option ℕ) → fire_event clock j o ≡ Some (Started at q u d) → ⊥
fire_else clock j at q u d None e = cc
fire_else clock j at q u d (Some mask) e = cc

branch_else : (clock at q u d : ℕ) (next : Next) → branch_event clock next ≡ Some (Started at q u d) → ⊥
branch_else clock at q u d Halt e = cc
branch_else clock at q u d (Goto b) e = cc
branch_else clock at q u d (If c one other) e = cc

-- the tuple of the event is the one that starts
start_same : (clock p time t at q u d : ℕ) (o : Option StreamItem) → o ≡ Some (Do t) → start_event clock p time o ≡ Some (Started at q u d) → t ≡ u
start_same clock p time t at q u d o e h = let x : Some (Started clock p t time) ≡ Some (Started at q u d) = sym (ap (start_event clock p time) e) ∙ h in cc

module _ (m : Program) (respects : RespectsConflicts m) where
  -- at the state where the tuple starts
  starts_after : (s : State) (b : ℕ) → s.mode ≡ In b → (x : Action) (at q u d : ℕ) → MayIn m b s x → event_in (code_at m b) s x ≡ Some (Started at q u d) → (p time : ℕ) × (x ≡ Start p time) × IsNext m (code_at m b) s p u
  starts_after s b inside (Finish p) at q u d may e = absurd (finish_else (code_at m b) s.clock p at q u d (processor s p).work e)
  starts_after s b inside (Fire j) at q u d may e = absurd (fire_else s.clock j at q u d _ e)
  starts_after s b inside (Start p time) at q u d may e = let (none, (t, next, within)) = may in (p, time, refl, subst (λ v. IsNext m (code_at m b) s p v) (start_same s.clock p time t at q u d (next_item (code_at m b) s p) next.item e) next)
  starts_after s b inside Branch at q u d may e = absurd (branch_else s.clock at q u d (code_at m b).next e)
  starts_after s b inside Advance at q u d may e = absurd (cc)
  starts_after s b inside Enter at q u d may e = absurd (cc)

  starts_here : (s : State) (x : Action) (at q u d : ℕ) → May m s x → event_of m s x ≡ Some (Started at q u d) → ProducersHaveFinished m s (Started at q u d)
  starts_here s x at q u d may e memory past is_memory run last b a inside conflict =
      let (p, time, same, next) = starts_after s b inside x at q u d (subst (λ mode. may_to m mode s x) inside may) (sym (ap (λ mode. event_to m mode s x) inside) ∙ e) in
      let may_start = subst (λ y. May m (state_after m memory past) y) same (subst (λ t. May m t x) (sym last) may) in
      respects memory past p time b a u is_memory run (ap (λ t. t.mode) last ∙ inside) may_start (subst (λ t. IsNext m (code_at m b) t p u) (sym last) next) conflict

  module _ (choice : Choice) (durations : Durations) where
    -- after Advances
    pub starts_later : (n : ℕ) (counts : List ℕ) (s : State) (counts' : List ℕ) (s' : State) → Takes choice durations m counts s (replicate n Advance) counts' s' → (x : Action) (at q u d : ℕ) → May m s' x → event_of m s' x ≡ Some (Started at q u d) → ProducersHaveFinished m s (Started at q u d)
    starts_later zero counts s counts' s' takes x at q u d may e = let h : ProducersHaveFinished m s (Started at q u d) = subst (λ t. ProducersHaveFinished m t (Started at q u d)) takes.1 (starts_here s' x at q u d may e) in h
    starts_later (suc n) counts s counts' s' takes x at q u d may e = λ memory past is_memory run last b a inside conflict.
        starts_later n (counts_after counts Advance) (after m s Advance) counts' s' takes.1 x at q u d may e memory (Advance ∷ past) is_memory (run, subst (λ t. May m t Advance) (sym last) takes.0.may) (ap (λ t. after m t Advance) last) b a (ap (λ mode. (after_to m mode s Advance).mode) inside ∙ inside) conflict

    -- .. whatever the event
    pub producers_finish : (n : ℕ) (counts : List ℕ) (s : State) (counts' : List ℕ) (s' : State) → Takes choice durations m counts s (replicate n Advance) counts' s' → (x : Action) (event : Event) → May m s' x → event_of m s' x ≡ Some event → ProducersHaveFinished m s event
    producers_finish n counts s counts' s' takes x (Started at p t d) may e = starts_later n counts s counts' s' takes x at p t d may e
    producers_finish n counts s counts' s' takes x (Finished at p t v) may e = tt
    producers_finish n counts s counts' s' takes x (Printed at p t v) may e = tt
    producers_finish n counts s counts' s' takes x (Fired at j mask) may e = tt
    producers_finish n counts s counts' s' takes x (Entered at b) may e = tt
    producers_finish n counts s counts' s' takes x (Over at) may e = tt
    producers_finish n counts s counts' s' takes x Reached may e = tt
