use Rattle.std.proofs.Common.{◌≡◌, Bool, if◌then◌else◌, sym, ap}
use Rattle.std.proofs.lemmas.Result.{err_from_is_err_and}
use Rattle.bm_course.specs.declared.status.TheConstants.{ENDED, GOING}
use Rattle.soak_text.specs.Lines.{parts}
use Rattle.soak_text.specs.Soak.{outcome_of}
use Rattle.soak_text.proofs.Sending.{compiled_stops, compiled_refused, compiled_sent}
use Rattle.soak_text.proofs.writing.write_compiled.Goals as goal

pub returns-in_err-write_summary-clause-sent : goal.returns-in_err-write_summary-clause-sent
returns-in_err-write_summary-clause-sent g c shown are =
    let p = err_from_is_err_and c.from_residual.result c.from_residual.ensures.1 in
    rw (p.1, p.2) (compiled_stops c.args.compiled.now.summary (parts (outcome_of c.args.program.now) shown) _ _ c.in_err-write_summary.field-0.0 c.in_err-write_summary.ensures.sent)

pub returns-in_err-write_parts-clause-sent : goal.returns-in_err-write_parts-clause-sent
returns-in_err-write_parts-clause-sent g c shown are =
    let p = err_from_is_err_and c.from_residual-in_err-write_parts.result c.from_residual-in_err-write_parts.ensures.1 in
    rw (p.1, p.2)
    (compiled_refused c.args.compiled.now.summary (parts (outcome_of c.args.program.now) shown) _ _ _ c.in_err-write_parts.field-0.0 c.in_ok-write_summary.ensures.sent (c.in_err-write_parts.ensures.sent shown are))

pub returns-then-branch-clause-sent : goal.returns-then-branch-clause-sent
returns-then-branch-clause-sent g c shown are =
    let e : GOING ≡ (if c.in_ok-write_parts.field-0 then GOING else ENDED) = ap (λ (b : Bool). if b then GOING else ENDED) (sym c.if-branch.true) in
    compiled_sent c.args.compiled.now.summary (parts (outcome_of c.args.program.now) shown) _ _ _ c.in_ok-write_parts.field-0 GOING c.in_ok-write_summary.ensures.sent (c.in_ok-write_parts.ensures.sent shown are) e

pub returns-else-branch-clause-sent : goal.returns-else-branch-clause-sent
returns-else-branch-clause-sent g c shown are =
    let e : ENDED ≡ (if c.in_ok-write_parts.field-0 then GOING else ENDED) = ap (λ (b : Bool). if b then GOING else ENDED) (sym c.if-branch.false) in
    compiled_sent c.args.compiled.now.summary (parts (outcome_of c.args.program.now) shown) _ _ _ c.in_ok-write_parts.field-0 ENDED c.in_ok-write_summary.ensures.sent (c.in_ok-write_parts.ensures.sent shown are) e
