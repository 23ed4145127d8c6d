-- A run that no run passes in time has ended by then.
use Rattle.std.proofs.Common.{◌≡◌, ℕ, ◌≤◌, List, ◌∷◌, length, Option, Some, None, refl, arith}
use Rattle.bm_base.specs.Memory.{Content}
use Rattle.unit_law.specs.State.{Program, Mode, In, Entering, Ended, State}
use Rattle.unit_law.specs.Units.{Choice}
use Rattle.unit_law.specs.Steps.{Action, state_after, IsRun}
use Rattle.unit_law.specs.Canonical.{Durations, next_action, IsCanonical}
use Rattle.run_text.specs.RunUpTo.{IsLastBy, end_of}
use Rattle.run_text.specs.RunText.{run_status}

-- an end is told where the mode says so
pub ended_status : (s : State) (mode : Mode) → mode ≡ Ended → run_status (end_of s mode) ≡ 0
ended_status s (In b) e = absurd (cc)
ended_status s (Entering b) e = absurd (cc)
ended_status s Ended e = refl

module _ (choice : Choice) (durations : Durations) (m : Program) (memory : List Content) (budget : ℕ)
    (runs : (past : List Action) → IsCanonical choice durations m memory past → IsRun m memory past)
    (bound : (past : List Action) → IsRun m memory past → (state_after m memory past).clock ≤ budget) where
  -- nothing comes behind the last beginning
  pub last_takes_none : (past : List Action) → IsLastBy choice durations m memory budget past → (o : Option Action) → next_action choice durations m memory past ≡ o → o ≡ None
  last_takes_none past h None e = refl
  last_takes_none past h (Some a) e =
      let c : IsCanonical choice durations m memory (a ∷ past) = (h.canonical, e) in
      let l : length (a ∷ past) ≤ length past = h.last (a ∷ past) c (bound (a ∷ past) (runs (a ∷ past) c)) in
      absurd (omega arith)
