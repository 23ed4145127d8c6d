use Rattle.std.proofs.Common.{◌≤◌, ◌∙◌, sym, ap, arith}
use Rattle.std.proofs.lemmas.Result.{err_from_is_err_and}
use Rattle.run_text.specs.Runs.{end_told}
use Rattle.run_text.proofs.Texts.{prints_stop, then_ending, before_all, ending_as}
use Rattle.run_text.proofs.writing.show.Goals as goal

pub returns-in_err-end-clause-sent : goal.returns-in_err-end-clause-sent
returns-in_err-end-clause-sent g c memory text begins is =
    let m = c.args.machine.now in
    let choice = g.U.BarrierUnit.choice m.unit in
    let durations = g.T.Timing.duration m.timing in
    let p = err_from_is_err_and c.from_residual.result c.from_residual.ensures.1 in
    let l : m.state.clock ≤ c.args.budget = omega (arith, begins.clock) in
    let t = c.in_err-end.ensures.took memory begins.come l is.output is.end (before_all choice durations m.program memory c.args.budget m.state.world.output is.output is.end begins.output is.shows) in
    rw (p.1, p.2) (prints_stop choice durations m.program memory c.args.budget text is _ _ c.in_err-end.field-0.0 t)

pub write_ending-requires : goal.write_ending-requires
write_ending-requires g c = c.requires.names ∙ sym (ap (λ p. p.names) c.write_prints.ensures.stays.program)

pub returns-clause-sent : goal.returns-clause-sent
returns-clause-sent g c memory text begins is =
    let m = c.args.machine.now in
    let n = c.write_prints.new.machine in
    let l : m.state.clock ≤ c.args.budget = omega (arith, begins.clock) in
    then_ending (g.U.BarrierUnit.choice m.unit) (g.T.Timing.duration m.timing) m.program memory c.args.budget text is c.runs_on_any_unit_have_one_text.ensures.one m.state.world.output begins.output n.state c.in_ok-end.end _ _ _
    c.write_ending.result (c.in_ok-end.ensures.runs memory begins.come l)
    (ending_as _ _ c.args.budget (end_told c.in_ok-end.end n.state) _ _ c.write_ending.result (ap (λ p. p.names) c.write_prints.ensures.stays.program) c.write_ending.ensures.sent)
