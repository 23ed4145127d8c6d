-- Events that are written as lines.
use Rattle.std.specs.Prelude.{◌≡◌, true, fold}
use Rattle.bm_io.specs.Sink.{Taken, written, tried}
use Rattle.bm_io.specs.LineValues.{TakesPrefix}
use Rattle.bm_io.specs.declared.sinks.SinkFault.{SinkFault}
use Rattle.bm_io.specs.declared.sinks.SinkFault.TheVariants.{Failed, Memory}
use Rattle.tuple_ir.specs.declared.event.Event.{Event}
use Rattle.bm_report.specs.Events.{event_line, has_line}
use Rattle.run_text.specs.TraceText.{lines_of}

-- with the event's line more, in one write
abbrev pub with_event_line : Taken → Event → Taken
with_event_line before event = fold written before (lines_of event)

-- where writing failed, a prefix of the line may stand there; for want of memory, nothing of it
abbrev pub LeavesEvent : SinkFault → Taken → Event → Taken → Type 0
LeavesEvent Failed before event now = (has_line event ≡ true) × TakesPrefix before now (event_line event)
LeavesEvent Memory before event now = (has_line event ≡ true) × (now ≡ tried before)
