-- The laws of traces, on any unit, with any durations and from any memory.
use Rattle.std.specs.Prelude.{ℕ, ◌≡◌, ◌*◌, ◌≤◌, List, None}
use Rattle.bm_base.specs.Memory.{Content}
use Rattle.bm_base.specs.Memories.{IsMemoryOf}
use Rattle.unit_law.specs.State.{Program}
use Rattle.unit_law.specs.Units.{Choice}
use Rattle.unit_law.specs.OnUnit.{IsLawfulChoice}
use Rattle.unit_law.specs.Canonical.{Durations, IsTiming}
use Rattle.tuple_ir.specs.Serial.{outcome}
use Rattle.unit_law.specs.Determinate.{IsDeterminate, StandsAtMost, pass_time}
use Rattle.unit_law.specs.Fit.{AllFit, AllStand, HasTimes}
use Rattle.bm_course.specs.Course.{Output}
use Rattle.timing_script.specs.declared.script.Script.{Script}
use Rattle.run_text.specs.declared.kind.UnitKind.{UnitKind}
use Rattle.run_text.specs.RunUpTo.{IsRunUpTo}
use Rattle.run_text.specs.Serial.{MeansSerially}
use Rattle.run_text.specs.Told.{prints_of}
use Rattle.run_text.specs.TraceText.{IsTraceOf, IsRunTrace}

-- there is at most one trace
abbrev pub TracesAreOne : Type 0
TracesAreOne = (choice : Choice) (durations : Durations) (m : Program) (memory : List Content) (budget : ℕ) (s t : Output)
    → IsTraceOf choice durations m memory budget s → IsTraceOf choice durations m memory budget t → s ≡ t

-- there is one from a memory of the names, where lines fit their blocks, each tuple stands in its line and the unit is lawful
abbrev pub RunsHaveSomeTrace : Type 0
RunsHaveSomeTrace = (choice : Choice) (durations : Durations) (m : Program) → AllFit m → AllStand m → HasTimes m
    → IsTiming durations → IsLawfulChoice choice m
    → (memory : List Content) → IsMemoryOf m.names memory → (budget : ℕ) → (text : Output) × IsTraceOf choice durations m memory budget text

-- the words that a trace prints are those that the run shows, and so is its end
abbrev pub TracesPrintTheRun : Type 0
TracesPrintTheRun = (choice : Choice) (durations : Durations) (m : Program) (memory : List Content) (budget : ℕ) (text : Output)
    → (h : IsTraceOf choice durations m memory budget text)
    → IsRunUpTo choice durations m memory budget (prints_of h.events) h.end

-- the same on a unit of a kind, with the durations of a script
abbrev pub KindsHaveOneTrace : Type 0
KindsHaveOneTrace = (m : Program) (kind : UnitKind) (script : Script) (memory : List Content) (budget : ℕ) (s t : Output)
    → IsRunTrace m kind script memory budget s → IsRunTrace m kind script memory budget t → s ≡ t

abbrev pub KindsHaveSomeTrace : Type 0
KindsHaveSomeTrace = (m : Program) (kind : UnitKind) (script : Script) (memory : List Content) (budget : ℕ) → AllFit m → AllStand m
    → HasTimes m → IsMemoryOf m.names memory → (text : Output) × IsRunTrace m kind script memory budget text

-- what a trace prints, the blocks' serial meaning has
abbrev pub TracesMeanTheSerialOrder : Type 0
TracesMeanTheSerialOrder = (m : Program) (kind : UnitKind) (script : Script) (memory : List Content) (budget : ℕ) (text : Output)
    → AllFit m → HasTimes m → IsDeterminate m → IsMemoryOf m.names memory
    → (h : IsRunTrace m kind script memory budget text) → MeansSerially m memory budget (prints_of h.events) h.end

-- Where k blocks have ended, none stands more than c times in their trail, and the budget is c passes or more, the trace tells an end.
abbrev pub SerialEndsAreTraced : Type 0
SerialEndsAreTraced = (m : Program) (kind : UnitKind) (script : Script) (memory : List Content) (budget c k : ℕ) (text : Output) → AllFit m
    → HasTimes m → IsDeterminate m → IsMemoryOf m.names memory
    → (outcome m.blocks memory k).next ≡ None → StandsAtMost c (outcome m.blocks memory k).trail
    → c * pass_time m ≤ budget
    → IsRunTrace m kind script memory budget text → text.status ≡ 0
