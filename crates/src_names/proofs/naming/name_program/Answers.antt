use Rattle.std.proofs.Common.{◌≡◌, Err}
use Rattle.src_names.specs.Fault as t
use Rattle.bm_base.specs.Passed.{err_is}
use Rattle.src_names.proofs.Whole.{body_fault, is_right}
use Rattle.src_names.proofs.naming.name_program.Goals as goal

pub returns-in_err-declare_all-clause-err : goal.returns-in_err-declare_all-clause-err
returns-in_err-declare_all-clause-err c =
    let told : c.from_residual.result ≡ Err c.in_err-declare_all.field-0.0 = err_is c.from_residual.result c.in_err-declare_all.field-0.0 c.from_residual.ensures.0 c.from_residual.ensures.1 in
    rw told (λ x. t.decls c.requires.few (rw c.as_slice.ensures at (c.in_err-declare_all.ensures.err x)))

pub new-requires : goal.new-requires
new-requires c =
    let declared = rw c.as_slice.ensures at c.in_ok-declare_all.ensures.ok in
    let body = rw c.as_slice-2.ensures at c.in_ok-body.ensures.ok in
    is_right c.args.program.now c.declare_all.new.names c.in_ok-body.body c.requires.few c.requires.well declared c.in_ok-declare_all.ensures.range body

pub returns-in_err-body-clause-err : goal.returns-in_err-body-clause-err
returns-in_err-body-clause-err c =
    let declared = rw c.as_slice.ensures at c.in_ok-declare_all.ensures.ok in
    let stops = rw c.as_slice-2.ensures at c.in_err-body.ensures.err in
    let told : c.from_residual-in_err-body.result ≡ Err c.in_err-body.field-0.0 = err_is c.from_residual-in_err-body.result c.in_err-body.field-0.0 c.from_residual-in_err-body.ensures.0 c.from_residual-in_err-body.ensures.1 in
    rw told (body_fault c.args.program.now c.declare_all.new.names c.in_err-body.field-0.0 c.requires.few declared c.in_ok-declare_all.ensures.range stops)
