use Rattle.std.proofs.Common.{arith}
use Rattle.std.proofs.lemmas.Result.{err_from_is_err_and}
use Rattle.show_text.proofs.Lines.{block_stops, block_goes_on, blocks_end}
use Rattle.show_text.proofs.writing.write_listing.Goals as goal

pub returns-in_err-write_block-clause-sent : goal.returns-in_err-write_block-clause-sent
returns-in_err-write_block-clause-sent g c =
    let p = err_from_is_err_and c.from_residual.result c.from_residual.ensures.1 in
    rw (p.1, p.2)
    (c.loop-number.invariant.sent _ _ (block_stops c.args.shown.now c.loop-number.number c.index-shown-number.result c.loop-number-test.true c.index-shown-number.is _ _ c.in_err-write_block.field-0.0 c.in_err-write_block.ensures.sent))

pub loop-number-preserved : goal.loop-number-preserved
loop-number-preserved g c = record {
  sent = λ now r q.
      c.loop-number.invariant.sent now r
      (block_goes_on c.args.shown.now c.loop-number.number c.index-shown-number.result c.loop-number-test.true c.index-shown-number.is _ _ now r c.in_ok-write_block.ensures.sent q);
  later = omega (arith, c.write_block.ensures.cause.later, c.loop-number.invariant.later);
}

pub returns-clause-sent : goal.returns-clause-sent
returns-clause-sent g c = c.loop-number.invariant.sent _ _ (blocks_end c.args.shown.now c.loop-number.number _ c.loop-number-test.false)
