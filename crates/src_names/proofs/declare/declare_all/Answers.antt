use Rattle.std.proofs.Common.{◌≡◌, Err, length, take, length-take, arith}
use Rattle.bm_base.specs.Passed.{err_is}
use Rattle.src_names.specs.Declarations as n
use Rattle.src_names.proofs.Declaring.{length_declared, first_fault, one_more, nothing}
use Rattle.src_names.proofs.declare.declare_all.Goals as goal

pub loop-decl-init : goal.loop-decl-init
loop-decl-init c = rw c.requires.none (record { declared = n.none; range = nothing })

pub slice_bounds-earlier-end : goal.slice_bounds-earlier-end
slice_bounds-earlier-end c =
    let long : length (take c.loop-decl.decl-index c.args.decls.now) ≡ length c.loop-decl.names = length_declared c.loop-decl.invariant.declared in
    let same = rw length-take at long in
    rw length-take (omega arith)

pub declare-requires-clause-few : goal.declare-requires-clause-few
declare-requires-clause-few c =
    let long : length (take c.loop-decl.decl-index c.args.decls.now) ≡ length c.loop-decl.names = length_declared c.loop-decl.invariant.declared in
    let same = rw length-take at long in
    omega arith

pub declare-requires-clause-declared : goal.declare-requires-clause-declared
declare-requires-clause-declared c =
    let long : length (take c.loop-decl.decl-index c.args.decls.now) ≡ length c.loop-decl.names = length_declared c.loop-decl.invariant.declared in
    let same = rw length-take at long in
    let index : c.len.result ≡ c.loop-decl.decl-index = omega arith in
    rw index c.loop-decl.invariant.declared

pub returns-in_err-declare-clause-err : goal.returns-in_err-declare-clause-err
returns-in_err-declare-clause-err c =
    let told : c.from_residual.result ≡ Err c.in_err-declare.field-0.0 = err_is c.from_residual.result c.in_err-declare.field-0.0 c.from_residual.ensures.0 c.from_residual.ensures.1 in
    let long : length (take c.loop-decl.decl-index c.args.decls.now) ≡ length c.loop-decl.names = length_declared c.loop-decl.invariant.declared in
    let same = rw length-take at long in
    let index : c.len.result ≡ c.loop-decl.decl-index = omega arith in
    rw told (λ x. first_fault c.args.decls.now c.loop-decl.decl-index c.decl-item.result c.loop-decl.names c.in_err-declare.field-0.0 c.loop-decl-test.true c.decl-item.is c.loop-decl.invariant.declared c.loop-decl.invariant.range (rw index at (c.in_err-declare.ensures.err x)))

pub loop-decl-preserved : goal.loop-decl-preserved
loop-decl-preserved c =
    let long : length (take c.loop-decl.decl-index c.args.decls.now) ≡ length c.loop-decl.names = length_declared c.loop-decl.invariant.declared in
    let same = rw length-take at long in
    let index : c.len.result ≡ c.loop-decl.decl-index = omega arith in
    record {
      declared = one_more c.args.decls.now c.loop-decl.decl-index c.decl-item.result c.declare.new.names c.loop-decl-test.true c.decl-item.is (rw index at c.in_ok-declare.ensures.ok);
      range = c.in_ok-declare.ensures.range;
    }
