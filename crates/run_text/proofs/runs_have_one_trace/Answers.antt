use Rattle.std.proofs.Common.{refl, sym, ap, ◌∙◌}
use Rattle.unit_law.specs.Steps.{state_after}
use Rattle.run_text.specs.RunUpTo.{end_of}
use Rattle.run_text.specs.Told.{told_by, prints_of}
use Rattle.run_text.specs.TraceText.{trace_text}
use Rattle.run_text.proofs.Told.{told_one}
use Rattle.run_text.proofs.Printed.{told_prints}
use Rattle.run_text.proofs.runs_have_one_trace.Goals as goal

pub returns-clause-one : goal.returns-clause-one
returns-clause-one c choice durations m memory budget s t h k =
    let one = told_one choice durations m memory budget h.events h.end k.events k.end h.tells k.tells in
    h.text_is ∙ ap (λ es. trace_text m.names budget es h.end) one.0 ∙ ap (trace_text m.names budget k.events) one.1 ∙ sym k.text_is

pub returns-clause-some : goal.returns-clause-some
returns-clause-some c choice durations m fit stand times timing lawful memory is_memory budget =
    let h = c.a_run_shows_one_thing.ensures.some choice durations m fit stand times timing lawful memory is_memory budget in
    let past = h.1.1.past in
    let events = told_by m memory past in
    let end = end_of (state_after m memory past) (state_after m memory past).mode in
    (trace_text m.names budget events end, record { events = events; end = end; tells = record { past = past; is_last = h.1.1.is_last; events_are = refl; end_is = refl }; text_is = refl })

pub returns-clause-prints : goal.returns-clause-prints
returns-clause-prints c choice durations m memory budget text h = record {
  past = h.tells.past;
  is_last = h.tells.is_last;
  output_is = ap prints_of h.tells.events_are ∙ told_prints m memory h.tells.past;
  end_is = h.tells.end_is;
}
