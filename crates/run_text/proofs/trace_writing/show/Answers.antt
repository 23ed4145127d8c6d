use Rattle.std.proofs.Common.{◌≤◌, ◌∙◌, sym, ap}
use Rattle.std.proofs.lemmas.Result.{err_from_is_err_and}
use Rattle.run_text.specs.Runs.{end_told}
use Rattle.run_text.proofs.Texts.{ending_as}
use Rattle.run_text.proofs.Told.{come_first, starts_early}
use Rattle.run_text.proofs.Traces.{events_stop, then_ending}
use Rattle.run_text.proofs.trace_writing.show.Goals as goal

pub returns-in_err-end-clause-sent : goal.returns-in_err-end-clause-sent
returns-in_err-end-clause-sent g c memory text starts is =
    let m = c.args.machine.now in
    let choice = g.U.BarrierUnit.choice m.unit in
    let durations = g.T.Timing.duration m.timing in
    let p = err_from_is_err_and c.from_residual.result c.from_residual.ensures.1 in
    let l : m.state.clock ≤ c.args.budget = starts_early m.program memory m.state m.counts c.args.budget starts in
    let t = c.in_err-end.ensures.tells memory (come_first choice durations m.program memory m.state m.counts starts) l in
    rw (p.1, p.2) (events_stop choice durations m.program memory c.args.budget text is m.state.world.output c.write_events.new.machine.state _ _ c.in_err-end.field-0.0 t)

pub write_ending-requires : goal.write_ending-requires
write_ending-requires g c = c.requires.names ∙ sym (ap (λ p. p.names) c.write_events.ensures.stays.program)

pub returns-clause-sent : goal.returns-clause-sent
returns-clause-sent g c memory text starts is =
    let m = c.args.machine.now in
    let n = c.write_events.new.machine in
    let choice = g.U.BarrierUnit.choice m.unit in
    let durations = g.T.Timing.duration m.timing in
    let l : m.state.clock ≤ c.args.budget = starts_early m.program memory m.state m.counts c.args.budget starts in
    then_ending choice durations m.program memory c.args.budget text is m.state.world.output n.state c.in_ok-end.end _ _ _
    c.write_ending.result (c.in_ok-end.ensures.tells memory (come_first choice durations m.program memory m.state m.counts starts) l)
    (ending_as _ _ c.args.budget (end_told c.in_ok-end.end n.state) _ _ c.write_ending.result (ap (λ p. p.names) c.write_events.ensures.stays.program) c.write_ending.ensures.sent)
