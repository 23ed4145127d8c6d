-- The line of an event, written or refused.
use Rattle.std.proofs.Common.{◌≡◌, List, [], ◌∷◌, ℕ, Ok, Err, Result, true, refl, sym, ap, ◌∙◌}
use Rattle.std.specs.Prelude.{OnOk, IfErr}
use Rattle.bm_io.specs.declared.sinks.SinkFault.{SinkFault}
use Rattle.bm_io.specs.declared.sinks.SinkFault.TheVariants.{Failed, Memory}
use Rattle.bm_io.specs.Sink.{Taken, written, tried, Sent}
use Rattle.bm_io.proofs.OneLine.{TakesPrefix-part}
use Rattle.std.specs.List.{fold}
use Rattle.tuple_ir.specs.declared.event.Event.{Event}
use Rattle.bm_report.specs.Events.{event_line, has_line}
use Rattle.run_text.specs.TraceText.{line_if}
use Rattle.run_text.specs.EventLines.{with_event_line, LeavesEvent}

pub taken-event : (before now : Taken) (piece : List ℕ) (event : Event) (r : Result (Unit {0}) SinkFault) → has_line event ≡ true → piece ≡ event_line event → Sent before now (piece ∷ []) r
    → OnOk r (now ≡ with_event_line before event)
taken-event before now piece event (Ok x) h e s = s.ok ∙ ap (written before) e ∙ ap (λ t. fold written before (line_if event t)) (sym h)
taken-event before now piece event (Err fault) h e s = tt

pub refused-event : (before now : Taken) (piece : List ℕ) (event : Event) (r : Result (Unit {0}) SinkFault) → has_line event ≡ true → piece ≡ event_line event → Sent before now (piece ∷ []) r
    → (r ≡ Err Memory → now ≡ tried before) → IfErr r (λ fault. LeavesEvent fault before event now)
refused-event before now piece event (Ok x) h e s m = tt
refused-event before now piece event (Err Failed) h e s m = (h, rw (sym e) (TakesPrefix-part before now piece (s.failed refl)))
refused-event before now piece event (Err Memory) h e s m = (h, m refl)
