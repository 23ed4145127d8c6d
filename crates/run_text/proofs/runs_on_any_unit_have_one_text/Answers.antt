use Rattle.std.proofs.Common.{List, refl, sym, ap, ◌∙◌}
use Rattle.unit_law.specs.Steps.{Action, state_after, IsRun}
use Rattle.unit_law.specs.Canonical.{IsCanonical, next_action}
use Rattle.run_text.specs.RunText.{run_text, run_status}
use Rattle.run_text.proofs.Ends.{ended_status, last_takes_none}
use Rattle.run_text.proofs.runs_on_any_unit_have_one_text.Goals as goal

pub returns-clause-one : goal.returns-clause-one
returns-clause-one c choice durations m memory budget s t h k =
    let one = c.a_run_shows_one_thing.ensures.one choice durations m memory budget h.output h.end k.output k.end h.shows k.shows in
    h.text_is ∙ ap (λ o. run_text m.names budget o h.end) one.0 ∙ ap (λ e. run_text m.names budget k.output e) one.1 ∙ sym k.text_is

pub returns-clause-some : goal.returns-clause-some
returns-clause-some c choice durations m fit stand times timing lawful memory is_memory budget =
    let h = c.a_run_shows_one_thing.ensures.some choice durations m fit stand times timing lawful memory is_memory budget in
    (run_text m.names budget h.0 h.1.0, record { output = h.0; end = h.1.0; shows = h.1.1; text_is = refl })

pub returns-clause-bounded : goal.returns-clause-bounded
returns-clause-bounded c choice durations m fit times timing lawful memory is_memory budget bound text h =
    let runs : (past : List Action) → IsCanonical choice durations m memory past → IsRun m memory past =
    λ past k. c.lawful_units_run.ensures choice m lawful memory past is_memory (c.canonical_runs_are_runs.ensures.on_unit choice durations m fit times timing memory past k) in
    let past = h.shows.past in
    let last = h.shows.is_last in
    let r = runs past last.canonical in
    let on = c.canonical_runs_are_runs.ensures.on_unit choice durations m fit times timing memory past last.canonical in
    let none = last_takes_none choice durations m memory budget runs bound past last (next_action choice durations m memory past) refl in
    let ended = c.canonical_runs_are_runs.ensures.ends choice durations m fit times timing memory past is_memory r (lawful memory past is_memory on) none in
    ap (λ t. t.status) h.text_is ∙ ap run_status h.shows.end_is ∙ ended_status (state_after m memory past) (state_after m memory past).mode ended
