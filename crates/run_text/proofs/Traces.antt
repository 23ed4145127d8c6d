-- The trace of a run.
use Rattle.std.proofs.Common.{◌≡◌, ℕ, true, List, [], ◌∷◌, ◌++◌, Option, Result, Ok, Err, refl, sym, ap, subst, ◌∙◌, inr, append_assoc, ℤ}
use Rattle.std.specs.List.{fold}
use Rattle.bm_base.specs.Memory.{Content}
use Rattle.bm_base.specs.Prefix.{IsPrefixOf}
use Rattle.bm_io.specs.declared.sinks.SinkFault.{SinkFault}
use Rattle.bm_io.specs.declared.sinks.SinkFault.TheVariants.{Failed, Memory}
use Rattle.bm_io.specs.Sink.{Taken, written, tried, Takes, TakesPart, TakesWhole, Sent}
use Rattle.tuple_ir.specs.declared.event.Event.{Event}
use Rattle.unit_law.specs.State.{Program, State}
use Rattle.unit_law.specs.Units.{Choice}
use Rattle.unit_law.specs.Canonical.{Durations}
use Rattle.run_text.specs.declared.runs.RunEnd.{RunEnd}
use Rattle.run_text.specs.RunUpTo.{End}
use Rattle.run_text.specs.Runs.{TellsOn, end_told}
use Rattle.run_text.specs.Told.{Tells, StopsAtEvent}
use Rattle.bm_report.specs.Events.{event_line, has_line}
use Rattle.bm_course.specs.Course.{Output}
use Rattle.bm_course.specs.Sends.{Sends}
use Rattle.bm_course.proofs.Sending.{first_stops, then_sends}
use Rattle.run_text.specs.RunText.{run_status, ending}
use Rattle.run_text.specs.TraceText.{lines_of, line_if, event_lines, trace_text, IsTraceOf}
use Rattle.run_text.specs.EventLines.{with_event_line, LeavesEvent}
use Rattle.run_text.proofs.Told.{told_one, told_front}

-- ---- lines of events

lines-append : (xs ys : List Event) → event_lines (xs ++ ys) ≡ event_lines xs ++ event_lines ys
lines-append [] ys = refl
lines-append (e ∷ xs) ys = ap (λ l. lines_of e ++ l) (lines-append xs ys) ∙ sym (append_assoc (lines_of e) (event_lines xs) (event_lines ys))

fold-append : (before : Taken) (xs ys : List (List ℕ)) → fold written before (xs ++ ys) ≡ fold written (fold written before xs) ys
fold-append before [] ys = refl
fold-append before (x ∷ xs) ys = fold-append (written before x) xs ys

takes-events : (before : Taken) (es : List Event) → Takes before (fold with_event_line before es) (event_lines es)
takes-events before [] = refl
takes-events before (e ∷ es) = takes-events (with_event_line before e) es ∙ sym (fold-append before (lines_of e) (event_lines es))

-- the lines around an event that has one
lines_are : (es front : List Event) (e : Event) (rest : List Event) → es ≡ front ++ e ∷ rest → has_line e ≡ true → event_lines es ≡ event_lines front ++ event_line e ∷ event_lines rest
lines_are es front e rest are h = ap event_lines are ∙ lines-append front (e ∷ rest) ∙ ap (λ t. event_lines front ++ (line_if e t ++ event_lines rest)) h

stops-part : (before now : Taken) (es : List Event) → StopsAtEvent with_event_line LeavesEvent before now es Failed → TakesPart before now (event_lines es)
stops-part before now es h = record {
  whole = event_lines h.front;
  part = h.left.1.part;
  refused = h.left.1.refused;
  rest = event_lines h.rest;
  pieces_are = lines_are es h.front h.refused h.rest h.events_are h.left.0 ∙ ap (λ l. event_lines h.front ++ l ∷ event_lines h.rest) h.left.1.line_is;
  taken = h.left.1.taken ∙ ap (λ t. written t h.left.1.part) (takes-events before h.front);
}

stops-whole : (before now : Taken) (es : List Event) → StopsAtEvent with_event_line LeavesEvent before now es Memory → TakesWhole before now (event_lines es)
stops-whole before now es h = record {
  whole = event_lines h.front;
  rest = event_line h.refused ∷ event_lines h.rest;
  pieces_are = lines_are es h.front h.refused h.rest h.events_are h.left.0;
  taken = inr (h.left.1 ∙ ap tried (takes-events before h.front));
}

-- events that were written as lines: their lines were sent
pub Sent-events : {T : Type 0} (before now : Taken) (es : List Event) (r : Result T SinkFault) → Tells with_event_line LeavesEvent before now es r → Sent before now (event_lines es) r
Sent-events before now es (Ok x) h = record {
  ok = h.ok ∙ takes-events before es;
  failed = λ e. let no : ⊥ = cc in absurd no;
  memory = λ e. let no : ⊥ = cc in absurd no;
}
Sent-events before now es (Err Failed) h = record {
  ok = tt;
  failed = λ _. stops-part before now es h.err;
  memory = λ e. let no : ⊥ = cc in absurd no;
}
Sent-events before now es (Err Memory) h = record {
  ok = tt;
  failed = λ e. let no : ⊥ = cc in absurd no;
  memory = λ _. stops-whole before now es h.err;
}

-- what stops at an event of a front stops at one of the whole
longer : {T : Type 0} (before now : Taken) (front events : List Event) (e : SinkFault) → IsPrefixOf front events → Tells {T = T} with_event_line LeavesEvent before now front (Err e) → Tells {T = T} with_event_line LeavesEvent before now events (Err e)
longer before now front events e p h = record {
  ok = tt;
  err = record {
    front = h.err.front;
    refused = h.err.refused;
    rest = h.err.rest ++ p.0;
    events_are = sym p.1 ∙ ap (λ l. l ++ p.0) h.err.events_are ∙ append_assoc h.err.front (h.err.refused ∷ h.err.rest) p.0;
    left = h.err.left;
  };
}

module _ (choice : Choice) (durations : Durations) (m : Program) (memory : List Content) (budget : ℕ) (text : Output) (is : IsTraceOf choice durations m memory budget text) where
  -- an event is refused
  pub events_stop : (before : List ℤ) (s : State) (old now : Taken) (e : SinkFault) → TellsOn choice durations m memory budget [] before s with_event_line LeavesEvent old now (Err e) → Sends old now text (Err e)
  events_stop before s old now e h =
      let front = told_front choice durations m memory budget h.events is.events is.end h.tells is.tells in
      subst (λ o. Sends old now o (Err e)) (sym is.text_is)
      (first_stops (run_status is.end) (event_lines is.events) (ending m.names budget is.end) old now e (Sent-events old now is.events (Err e) (longer {T = RunEnd} old now h.events is.events e front h.told)))

  -- all events were taken, and the lines of the ending were sent
  pub then_ending : (before : List ℤ) (s : State) (told : RunEnd) (old mid now : Taken) (r : Result ℕ SinkFault) → TellsOn choice durations m memory budget [] before s with_event_line LeavesEvent old mid (Ok told)
      → Sends mid now (record { status = run_status (end_told told s); lines = ending m.names budget (end_told told s) }) r → Sends old now text r
  then_ending before s told old mid now r h k =
      let end : Option End = end_told told s in
      let one = told_one choice durations m memory budget h.events (end_told told s) is.events is.end h.tells is.tells in
      let same : trace_text m.names budget h.events (end_told told s) ≡ text = ap (λ es. trace_text m.names budget es (end_told told s)) one.0 ∙ ap (trace_text m.names budget is.events) one.1 ∙ sym is.text_is in
      subst (λ o. Sends old now o r) same
      (then_sends (run_status (end_told told s)) (event_lines h.events) (ending m.names budget (end_told told s)) old mid now told r (Sent-events old mid h.events (Ok told) h.told) k)
