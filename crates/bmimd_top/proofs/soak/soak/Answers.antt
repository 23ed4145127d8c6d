use Rattle.std.proofs.Common.{Ok, Err}
use Rattle.std.proofs.lemmas.Result.{err_from_is_err_and}
use Rattle.soak_text.proofs.Concluding.{concludes_soak}
use Rattle.bmimd_top.proofs.soak.soak.Goals as goal

pub returns : goal.returns
returns g c files =
    let w = c.in_ok-write_soak.ensures.sent in
    concludes_soak files _ _ c.args.seed c.args.statements w.0 (Ok c.in_ok-write_soak.field-0) w.1 w.2 c.in_ok-write_soak.ensures.cause

pub returns-in_err-write_soak : goal.returns-in_err-write_soak
returns-in_err-write_soak g c files =
    let p = err_from_is_err_and c.from_residual.result c.from_residual.ensures.1 in
    let w = c.in_err-write_soak.ensures.sent in
    rw (p.1, p.2) (concludes_soak files _ _ c.args.seed c.args.statements w.0 (Err c.in_err-write_soak.field-0.0) w.1 w.2 c.in_err-write_soak.ensures.cause)
