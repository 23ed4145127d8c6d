-- The laws of the texts of runs, on any unit, with any durations and from any memory.
use Rattle.std.specs.Prelude.{ℕ, ◌≡◌, ◌≤◌, List}
use Rattle.bm_base.specs.Memory.{Content}
use Rattle.bm_base.specs.Memories.{IsMemoryOf}
use Rattle.unit_law.specs.State.{Program}
use Rattle.unit_law.specs.Units.{Choice}
use Rattle.unit_law.specs.Steps.{Action, IsRun, state_after}
use Rattle.unit_law.specs.OnUnit.{IsLawfulChoice}
use Rattle.unit_law.specs.Canonical.{Durations, IsTiming}
use Rattle.unit_law.specs.Fit.{AllFit, AllStand, HasTimes}
use Rattle.bm_course.specs.Course.{Output}
use Rattle.run_text.specs.RunText.{IsTextOf}

-- there is at most one text
abbrev pub TextsAreOne : Type 0
TextsAreOne = (choice : Choice) (durations : Durations) (m : Program) (memory : List Content) (budget : ℕ) (s t : Output)
    → IsTextOf choice durations m memory budget s → IsTextOf choice durations m memory budget t → s ≡ t

-- there is one from a memory of the names, where lines fit their blocks, each tuple stands in its line and the unit is lawful
abbrev pub RunsHaveSomeText : Type 0
RunsHaveSomeText = (choice : Choice) (durations : Durations) (m : Program) → AllFit m → AllStand m → HasTimes m → IsTiming durations
    → IsLawfulChoice choice m
    → (memory : List Content) → IsMemoryOf m.names memory → (budget : ℕ) → (text : Output) × IsTextOf choice durations m memory budget text

-- where no run from this memory passes a number of ticks, the text at this budget tells the run's end
abbrev pub BoundedRunsTellTheirEnd : Type 0
BoundedRunsTellTheirEnd = (choice : Choice) (durations : Durations) (m : Program) → AllFit m → HasTimes m → IsTiming durations
    → IsLawfulChoice choice m
    → (memory : List Content) → IsMemoryOf m.names memory → (budget : ℕ)
    → ((past : List Action) → IsRun m memory past → (state_after m memory past).clock ≤ budget)
    → (text : Output) → IsTextOf choice durations m memory budget text → text.status ≡ 0
