use Rattle.std.proofs.Common.{◌≡◌, List, Result, Ok, Err, subst, sym, ap, inl}
use Rattle.std.specs.Prelude.{IsErr, IsErrAnd}
use Rattle.bm_base.specs.Passed.{err_is}
use Rattle.src_lexer.specs.declared.fault.LexFault.{LexFault}
use Rattle.src_lexer.specs.declared.token.Token.{Token}
use Rattle.src_lexer.specs.Spell.{here, tokens}
use Rattle.src_lexer.proofs.Unique.{Read, read_more, one_fault, no_end, finished, fault_only}
use Rattle.src_lexer.proofs.Order.{ordered}
use Rattle.src_lexer.proofs.scan.lex.Goals as goal

pub loop-at-preserved : goal.loop-at-preserved
loop-at-preserved c =
    let src = c.args.src.now in
    let h = c.in_ok-to.ensures in
    let P : List Token → Type 0 = Read src c.in_ok-to.to in
    let us : List Token = tokens c.in_ok-to.kind c.loop-at.at c.in_ok-to.to in
    subst P (sym c.in_ok-add.ensures.ok) (read_more src c.loop-at.at c.in_ok-to.to c.loop-at.tokens.items us c.loop-at.invariant h.2 h.3 h.0)

pub returns-clause-found : goal.returns-clause-found
returns-clause-found c = (finished c.args.src.now c.loop-at.at c.loop-at.tokens.items c.loop-at.invariant c.loop-at-test.false, c.loop-at.invariant.allowed)

pub returns-clause-only_fault : goal.returns-clause-only_fault
returns-clause-only_fault c = λ e h. no_end c.args.src.now c.loop-at.at c.loop-at-test.false (c.loop-at.invariant.faults_only e h)

pub returns-in_err-to-clause-only : goal.returns-in_err-to-clause-only
returns-in_err-to-clause-only c = λ ts s a. absurd (fault_only c.args.src.now c.loop-at.at c.loop-at.tokens.items c.in_err-to.field-0.0 c.loop-at.invariant c.in_err-to.ensures ts s a)

pub returns-in_err-to-clause-fault : goal.returns-in_err-to-clause-fault
returns-in_err-to-clause-fault c =
    let told : c.from_residual.result ≡ Err c.in_err-to.field-0.0 = err_is c.from_residual.result c.in_err-to.field-0.0 c.from_residual.ensures.0 c.from_residual.ensures.1 in
    rw told (λ ne. c.loop-at.invariant.faults _ (here c.in_err-to.ensures))

pub returns-in_err-to-clause-only_fault : goal.returns-in_err-to-clause-only_fault
returns-in_err-to-clause-only_fault c =
    let told : c.from_residual.result ≡ Err c.in_err-to.field-0.0 = err_is c.from_residual.result c.in_err-to.field-0.0 c.from_residual.ensures.0 c.from_residual.ensures.1 in
    λ e h. rw told (inl (one_fault c.args.src.now c.in_err-to.ensures (c.loop-at.invariant.faults_only e h)))

pub returns-clause-ordered : goal.returns-clause-ordered
returns-clause-ordered c = ordered c.args.src.now c.loop-at.tokens.items (finished c.args.src.now c.loop-at.at c.loop-at.tokens.items c.loop-at.invariant c.loop-at-test.false)
