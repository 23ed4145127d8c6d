use Rattle.std.proofs.Common.{arith}
use Rattle.std.proofs.lemmas.Result.{err_from_is_err_and}
use Rattle.bm_report.specs.Summary.{summary_lines}
use Rattle.soak_text.proofs.Rows.{row_stops, row_goes_on, rows_end}
use Rattle.soak_text.proofs.writing.write_summary.Goals as goal

pub returns-in_err-write-clause-sent : goal.returns-in_err-write-clause-sent
returns-in_err-write-clause-sent g c =
    let p = err_from_is_err_and c.from_residual.result c.from_residual.ensures.1 in
    let s = rw c.bytes.ensures.value at c.in_err-write.ensures.sent in
    rw (p.1, p.2) (c.loop-row.invariant.sent _ _ (row_stops (summary_lines c.args.summary.now) c.loop-row.row c.line_of_summary.result c.line_of_summary.ensures _ _ c.in_err-write.field-0.0 s))

pub loop-row-preserved : goal.loop-row-preserved
loop-row-preserved g c =
    let s = rw c.bytes.ensures.value at c.in_ok-write.ensures.sent in
    record {
      sent = λ now r q. c.loop-row.invariant.sent now r (row_goes_on (summary_lines c.args.summary.now) c.loop-row.row c.line_of_summary.result c.line_of_summary.ensures _ _ now r s q);
      later = omega (arith, c.write.ensures.cause.later, c.loop-row.invariant.later);
    }

pub returns-clause-sent : goal.returns-clause-sent
returns-clause-sent g c = c.loop-row.invariant.sent _ _ (rows_end (summary_lines c.args.summary.now) c.loop-row.row _ (omega arith))
