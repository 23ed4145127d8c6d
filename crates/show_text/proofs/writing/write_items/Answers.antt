use Rattle.std.proofs.Common.{arith}
use Rattle.std.proofs.lemmas.Result.{err_from_is_err_and}
use Rattle.show_text.specs.Listing.{shown_item_line}
use Rattle.show_text.proofs.Lines.{line_stops, line_goes_on, lines_end}
use Rattle.show_text.proofs.writing.write_items.Goals as goal

pub returns-in_err-write-clause-sent : goal.returns-in_err-write-clause-sent
returns-in_err-write-clause-sent g c =
    let p = err_from_is_err_and c.from_residual.result c.from_residual.ensures.1 in
    let s = rw (c.bytes.ensures.value, c.item_piece.ensures) at c.in_err-write.ensures.sent in
    rw (p.1, p.2) (c.loop-item.invariant.sent _ _ (line_stops shown_item_line c.args.items.now c.loop-item.item-index c.item-item.result c.item-item.result c.loop-item-test.true c.item-item.is _ _ c.in_err-write.field-0.0 s))

pub loop-item-preserved : goal.loop-item-preserved
loop-item-preserved g c =
    let s = rw (c.bytes.ensures.value, c.item_piece.ensures) at c.in_ok-write.ensures.sent in
    record {
      sent = λ now r q. c.loop-item.invariant.sent now r (line_goes_on shown_item_line c.args.items.now c.loop-item.item-index c.item-item.result c.item-item.result c.loop-item-test.true c.item-item.is _ _ now r s q);
      later = omega (arith, c.write.ensures.cause.later, c.loop-item.invariant.later);
    }

pub returns-clause-sent : goal.returns-clause-sent
returns-clause-sent g c = c.loop-item.invariant.sent _ _ (lines_end shown_item_line c.args.items.now c.loop-item.item-index _ c.loop-item-test.false)
