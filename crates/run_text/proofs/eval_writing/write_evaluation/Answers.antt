use Rattle.std.proofs.lemmas.Result.{err_from_is_err_and}
use Rattle.run_text.proofs.Evaluating.{prints_stop, then_end}
use Rattle.run_text.proofs.eval_writing.write_evaluation.Goals as goal

pub returns-in_err-end-clause-sent : goal.returns-in_err-end-clause-sent
returns-in_err-end-clause-sent g c =
    let p = err_from_is_err_and c.from_residual.result c.from_residual.ensures.1 in
    rw (p.1, p.2) (prints_stop c.args.program.now c.args.turns c.args.store _ _ c.in_err-end.field-0.0 c.in_err-end.ensures.took)

pub write_end-requires : goal.write_end-requires
write_end-requires g c = rw c.names.ensures.value c.in_ok-end.ensures.names

pub returns-clause-sent : goal.returns-clause-sent
returns-clause-sent g c =
    then_end c.args.program.now c.args.turns c.args.store _ _ _ c.in_ok-end.end c.write_end.result c.in_ok-end.end c.names.result.now c.write_prints.new.store c.in_ok-end.ensures.end
    c.names.ensures.value c.in_ok-end.ensures.memory c.in_ok-end.ensures.took c.write_end.ensures.sent
