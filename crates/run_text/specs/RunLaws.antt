-- What the canonical run shows at clocks of at most a bound.
use Rattle.std.specs.Prelude.{◌≡◌, ℕ, ◌≤◌, List, Option, None, ℤ}
use Rattle.bm_base.specs.Memory.{Content}
use Rattle.bm_base.specs.Memories.{IsMemoryOf}
use Rattle.unit_law.specs.State.{Program, Ended}
use Rattle.unit_law.specs.Units.{Choice}
use Rattle.unit_law.specs.Steps.{Action, state_after}
use Rattle.unit_law.specs.OnUnit.{IsLawfulChoice}
use Rattle.unit_law.specs.Canonical.{Durations, IsTiming, IsCanonical}
use Rattle.unit_law.specs.Fit.{AllFit, AllStand, HasTimes}
use Rattle.bm_base.specs.Prefix.{IsPrefixOf}
use Rattle.run_text.specs.RunUpTo.{End, IsRunUpTo, IsShownBy, end_of}

-- there is an answer from a memory of the names, where lines fit their blocks, each tuple stands in its line and the unit is lawful
abbrev pub RunsShowSomething : Type 0
RunsShowSomething = (choice : Choice) (durations : Durations) (m : Program) → AllFit m → AllStand m → HasTimes m → IsTiming durations
    → IsLawfulChoice choice m → (memory : List Content) → IsMemoryOf m.names memory → (until : ℕ)
    → (output : List ℤ) × ((end : Option End) × IsRunUpTo choice durations m memory until output end)

-- there is at most one answer
abbrev pub RunsShowOneThing : Type 0
RunsShowOneThing = (choice : Choice) (durations : Durations) (m : Program) (memory : List Content) (until : ℕ) (output : List ℤ)
    (end : Option End) (output2 : List ℤ) (end2 : Option End)
    → IsRunUpTo choice durations m memory until output end → IsRunUpTo choice durations m memory until output2 end2 → (output ≡ output2)
    × (end ≡ end2)

-- what a beginning of the run prints by then is a prefix of the output
abbrev pub BeginningsShowAFront : Type 0
BeginningsShowAFront = (choice : Choice) (durations : Durations) (m : Program) (memory : List Content) (until : ℕ) (front output : List ℤ)
    (end : Option End) → IsShownBy choice durations m memory until front
    → IsRunUpTo choice durations m memory until output end → IsPrefixOf front output

-- a beginning that has ended by then has its own output and end shown
abbrev pub EndedRunsShowTheirEnd : Type 0
EndedRunsShowTheirEnd = (choice : Choice) (durations : Durations) (m : Program) (memory : List Content) (until : ℕ) (past : List Action)
    → IsCanonical choice durations m memory past
    → (state_after m memory past).clock ≤ until → (state_after m memory past).mode ≡ Ended
    → IsRunUpTo choice durations m memory until (state_after m memory past).world.output (end_of (state_after m memory past) Ended)

-- where no end is shown, no beginning has ended by then
abbrev pub RunsThatGoOnHaveNotEnded : Type 0
RunsThatGoOnHaveNotEnded = (choice : Choice) (durations : Durations) (m : Program) (memory : List Content) (until : ℕ) (output : List ℤ)
    → IsRunUpTo choice durations m memory until output None
    → (past : List Action) → IsCanonical choice durations m memory past → (state_after m memory past).clock ≤ until
    → (state_after m memory past).mode ≡ Ended → ⊥
