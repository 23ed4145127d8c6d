use Rattle.std.proofs.Common.{ap}
use Rattle.std.proofs.lemmas.Result.{err_from_is_err_and}
use Rattle.timing_script.specs.declared.script.Script.TheVariants.{File}
use Rattle.timing_script.proofs.Readings.{reading_found, one_script, not_both, fault_only, fault_told, fault_first}
use Rattle.timing_script.proofs.script.Script.read.Goals as goal

pub returns-clause-found : goal.returns-clause-found
returns-clause-found c = reading_found c.args.bytes.now c.in_ok-offsets.offsets c.in_ok-offsets.ensures

pub returns-clause-only : goal.returns-clause-only
returns-clause-only c = λ lists t. ap File (one_script c.args.bytes.now c.in_ok-offsets.offsets lists (reading_found c.args.bytes.now c.in_ok-offsets.offsets c.in_ok-offsets.ensures) t)

pub returns-clause-only_fault : goal.returns-clause-only_fault
returns-clause-only_fault c = λ line w. not_both c.args.bytes.now c.in_ok-offsets.offsets line (reading_found c.args.bytes.now c.in_ok-offsets.offsets c.in_ok-offsets.ensures) w

pub returns-in_err-offsets-clause-only : goal.returns-in_err-offsets-clause-only
returns-in_err-offsets-clause-only c =
    let p = err_from_is_err_and c.from_residual.result c.from_residual.ensures.1 in
    rw (p.1, p.2) (fault_only c.args.bytes.now c.in_err-offsets.field-0.0 c.in_err-offsets.ensures)

pub returns-in_err-offsets-clause-fault : goal.returns-in_err-offsets-clause-fault
returns-in_err-offsets-clause-fault c =
    let p = err_from_is_err_and c.from_residual.result c.from_residual.ensures.1 in
    rw (p.1, p.2) (fault_told c.args.bytes.now c.in_err-offsets.field-0.0 c.in_err-offsets.ensures)

pub returns-in_err-offsets-clause-only_fault : goal.returns-in_err-offsets-clause-only_fault
returns-in_err-offsets-clause-only_fault c =
    let p = err_from_is_err_and c.from_residual.result c.from_residual.ensures.1 in
    rw (p.1, p.2) (fault_first c.args.bytes.now c.in_err-offsets.field-0.0 c.in_err-offsets.ensures)
