use Rattle.std.proofs.Common.{arith}
use Rattle.std.proofs.lemmas.Result.{err_from_is_err_and}
use Rattle.bm_course.proofs.Pieces.{sent_stops, sent_goes_on, sent_ends}
use Rattle.bm_course.proofs.product.send_lines.Goals as goal

pub returns-in_err-write-clause-sent : goal.returns-in_err-write-clause-sent
returns-in_err-write-clause-sent g c =
    let p = err_from_is_err_and c.from_residual.result c.from_residual.ensures.1 in
    rw (p.1, p.2) (c.loop-line.invariant.sent _ _ (sent_stops _ _ c.args.lines.now c.loop-line.line-index _ c.in_err-write.field-0.0 c.loop-line-test.true c.in_err-write.ensures.sent))

pub loop-line-preserved : goal.loop-line-preserved
loop-line-preserved g c = record {
  sent = λ now r h. c.loop-line.invariant.sent now r (sent_goes_on _ _ now c.args.lines.now c.loop-line.line-index _ r tt c.loop-line-test.true c.in_ok-write.ensures.sent h);
  later = omega (arith, c.write.ensures.cause.later);
}

pub returns-clause-sent : goal.returns-clause-sent
returns-clause-sent g c = c.loop-line.invariant.sent _ _ (sent_ends _ c.args.lines.now c.loop-line.line-index c.loop-line-test.false)
