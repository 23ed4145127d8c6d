-- What the trace of a run writes.
use Rattle.std.specs.Prelude.{ℕ, ◌≡◌, Bool, true, false, List, [], ◌∷◌, ◌++◌, Option}
use Rattle.bm_base.specs.Entry.{Entry}
use Rattle.bm_base.specs.Memory.{Content}
use Rattle.tuple_ir.specs.declared.event.Event.{Event}
use Rattle.unit_law.specs.State.{Program}
use Rattle.unit_law.specs.Units.{Choice}
use Rattle.unit_law.specs.Canonical.{Durations}
use Rattle.run_text.specs.RunUpTo.{End}
use Rattle.run_text.specs.Told.{IsToldUpTo}
use Rattle.bm_report.specs.Events.{event_line, has_line}
use Rattle.bm_course.specs.Course.{Output}
use Rattle.timing_script.specs.declared.script.Script.{Script}
use Rattle.timing_script.specs.Script.{script_duration}
use Rattle.run_text.specs.declared.kind.UnitKind.{UnitKind}
use Rattle.run_text.specs.RunText.{run_status, ending, choice_of}

abbrev pub line_if : Event → Bool → List (List ℕ)
line_if event true = event_line event ∷ []
line_if event false = []

-- a line, where a run goes on by the event
abbrev pub lines_of : Event → List (List ℕ)
lines_of event = line_if event (has_line event)

abbrev pub event_lines : List Event → List (List ℕ)
event_lines [] = []
event_lines (e ∷ es) = lines_of e ++ event_lines es

-- a line for each event, and then how the run stands at its budget
abbrev pub trace_text : List Entry → ℕ → List Event → Option End → Output
trace_text names budget events end = record {
  status = run_status end;
  lines = event_lines events ++ ending names budget end;
}

-- The output is the trace of what the canonical run of the program tells at clocks of at most the budget: on a unit with this
-- choice, with these durations, from this memory.
pub record IsTraceOf (choice : Choice) (durations : Durations) (m : Program) (memory : List Content) (budget : ℕ)
    (text : Output) : Type 0 where
  pub events : List Event
  pub end : Option End
  pub tells : IsToldUpTo choice durations m memory budget events end
  pub text_is : text ≡ trace_text m.names budget events end

-- the same on a unit of this kind, with the durations of the script
abbrev pub IsRunTrace : Program → UnitKind → Script → List Content → ℕ → Output → Type 0
IsRunTrace m kind script memory budget text = IsTraceOf (choice_of kind) (script_duration script) m memory budget text
