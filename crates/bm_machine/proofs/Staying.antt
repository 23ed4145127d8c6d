-- What stays from one call to the next, and what is said of the same program, unit and timing.
use Rattle.std.proofs.Common.{◌≡◌, ℕ, Bool, List, Option, refl, sym, ◌∙◌, subst}
use Rattle.tuple_ir.specs.declared.event.Event.{Event}
use Rattle.unit_law.specs.State.{Program, State}
use Rattle.unit_law.specs.Units.{Choice}
use Rattle.unit_law.specs.Canonical.{Durations}
use Rattle.bm_machine.specs.Shown.{Shown}
use Rattle.bm_machine.specs.Seeing.{UnitStays}
use Rattle.bm_machine.specs.Next.{Stays}
use Rattle.bm_machine.specs.Moves.{IsIdle, acts, Waited}

pub stays_first : {U T : Type 0} (chosen : U → Choice) (a : Shown U T) → Stays chosen a a
stays_first chosen a = record { program = refl; choice = refl; timing = refl }

pub stays_on : {U T : Type 0} (chosen : U → Choice) (a b c : Shown U T) → Stays chosen a b → Stays chosen b c → Stays chosen a c
stays_on chosen a b c h k = record { program = k.program ∙ h.program; choice = k.choice ∙ h.choice; timing = k.timing ∙ h.timing }

-- and of a unit
pub unit_first : {U : Type 0} (queue : U → List ℕ) (has_fired : U → List Bool) (room : U → ℕ) (chosen : U → Choice) (a : U) → UnitStays queue has_fired room chosen a a
unit_first queue has_fired room chosen a = record { masks = refl; fired = refl; capacity = refl; choice = refl }

pub unit_on : {U : Type 0} (queue : U → List ℕ) (has_fired : U → List Bool) (room : U → ℕ) (chosen : U → Choice) (a b c : U) → UnitStays queue has_fired room chosen a b → UnitStays queue has_fired room chosen b c → UnitStays queue has_fired room chosen a c
unit_on queue has_fired room chosen a b c h k = record { masks = k.masks ∙ h.masks; fired = k.fired ∙ h.fired; capacity = k.capacity ∙ h.capacity; choice = k.choice ∙ h.choice }

module _ (choice choice' : Choice) (durations durations' : Durations) (m m' : Program) (same_choice : choice' ≡ choice) (same_durations : durations' ≡ durations) (same_program : m' ≡ m) where
  pub acts_same : (b : ℕ) (counts : List ℕ) (s : State) (o : Option Event) (counts' : List ℕ) (s' : State) → acts choice' durations' m' b counts s o counts' s' → acts choice durations m b counts s o counts' s'
  acts_same b counts s o counts' s' h =
      subst (λ x. acts x durations m b counts s o counts' s') same_choice
      (subst (λ x. acts choice' x m b counts s o counts' s') same_durations
      (subst (λ x. acts choice' durations' x b counts s o counts' s') same_program h))

  pub idle_same : (b : ℕ) (s s' : State) → s' ≡ s → IsIdle choice' m' b s → IsIdle choice m b s'
  idle_same b s s' e h =
      subst (λ x. IsIdle choice m b x) (sym e)
      (subst (λ x. IsIdle x m b s) same_choice
      (subst (λ x. IsIdle choice' x b s) same_program h))

-- nothing was done
pub waited_still : (choice : Choice) (durations : Durations) (m : Program) (counts : List ℕ) (s : State) (until : ℕ) (c c' : List ℕ) (t t' : State) → c' ≡ c → t' ≡ t → Waited choice durations m counts s until c t → Waited choice durations m counts s until c' t'
waited_still choice durations m counts s until c c' t t' e f h = subst (λ x. Waited choice durations m counts s until x t') (sym e) (subst (λ x. Waited choice durations m counts s until c x) (sym f) h)
