-- What the run of a program writes.
use Rattle.std.specs.Prelude.{ℕ, ◌≡◌, ◌≤◌, ℤ, List, ◌++◌, map, Option, Some, None}
use Rattle.bm_base.specs.Entry.{Entry}
use Rattle.bm_base.specs.Memory.{Content}
use Rattle.bm_base.specs.Memories.{IsMemoryOf}
use Rattle.bm_io.specs.LineValues.{value_line}
use Rattle.timing_script.specs.Script.{script_duration}
use Rattle.timing_script.specs.declared.script.Script.{Script}
use Rattle.unit_law.specs.State.{Program}
use Rattle.unit_law.specs.Units.{Choice, static_choice, dynamic_choice}
use Rattle.unit_law.specs.Steps.{Action, IsRun, state_after}
use Rattle.unit_law.specs.Canonical.{Durations}
use Rattle.unit_law.specs.Fit.{AllFit, HasTimes}
use Rattle.run_text.specs.RunUpTo.{End, IsRunUpTo}
use Rattle.bm_report.specs.Text.{end_lines, going_lines}
use Rattle.bm_course.specs.Course.{Output}
use Rattle.run_text.specs.declared.kind.UnitKind.{UnitKind}
use Rattle.run_text.specs.declared.kind.UnitKind.TheVariants.{Static, Dynamic}

-- 0 where it has ended, 8 where it is still going
abbrev pub run_status : Option End → ℕ
run_status (Some e) = 0
run_status None = 8

-- the end of the run with its memory, or that it goes on after its budget
abbrev pub ending : List Entry → ℕ → Option End → List (List ℕ)
ending names budget (Some e) = end_lines e.clock names e.memory
ending names budget None = going_lines budget

abbrev pub ending_text : List Entry → ℕ → Option End → Output
ending_text names budget end = record { status = run_status end; lines = ending names budget end }

-- a line for each print, and then how the run stands at its budget
abbrev pub run_text : List Entry → ℕ → List ℤ → Option End → Output
run_text names budget output end = record {
  status = run_status end;
  lines = map value_line output ++ ending names budget end;
}

-- The output is the text of what the canonical run of the program shows at clocks of at most the budget: on a unit with this choice,
-- with these durations, from this memory.
pub record IsTextOf (choice : Choice) (durations : Durations) (m : Program) (memory : List Content) (budget : ℕ)
    (text : Output) : Type 0 where
  pub output : List ℤ
  pub end : Option End
  pub shows : IsRunUpTo choice durations m memory budget output end
  pub text_is : text ≡ run_text m.names budget output end

-- the choice of a kind of unit
abbrev pub choice_of : UnitKind → Choice
choice_of Static = static_choice
choice_of Dynamic = dynamic_choice

-- the same on a unit of this kind, with the durations of the script
abbrev pub IsRunText : Program → UnitKind → Script → List Content → ℕ → Output → Type 0
IsRunText m kind script memory budget text = IsTextOf (choice_of kind) (script_duration script) m memory budget text

-- Where no run from this memory passes a number of ticks, the text at this budget tells the run's end.
abbrev pub BoundedRunsEnd : Type 0
BoundedRunsEnd = (m : Program) (kind : UnitKind) (script : Script) (memory : List Content) (budget : ℕ) (text : Output) → AllFit m
    → HasTimes m → IsMemoryOf m.names memory
    → ((past : List Action) → IsRun m memory past → (state_after m memory past).clock ≤ budget)
    → IsRunText m kind script memory budget text → text.status ≡ 0
