use Rattle.std.proofs.Common.{arith, refl, get_or}
use Rattle.std.proofs.lemmas.Result.{err_from_is_err_and}
use Rattle.time_interval.specs.declared.reference.Reason.TheVariants.{SameProcessor}
use Rattle.show_text.specs.declared.shown.ShownPair.{ShownPair}
use Rattle.show_text.specs.Listing.{shown_pair_line}
use Rattle.show_text.proofs.Lines.{line_stops, line_goes_on, lines_end}
use Rattle.show_text.proofs.writing.write_pairs.Goals as goal

abbrev none : ShownPair
none = record { a = 0; b = 0; reason = SameProcessor }

pub returns-in_err-write-clause-sent : goal.returns-in_err-write-clause-sent
returns-in_err-write-clause-sent g c =
    let p = err_from_is_err_and c.from_residual.result c.from_residual.ensures.1 in
    let s = rw (c.bytes.ensures.value, c.pair_piece.ensures) at c.in_err-write.ensures.sent in
    rw (p.1, p.2) (c.loop-pair.invariant.sent _ _ (line_stops shown_pair_line c.args.pairs.now c.loop-pair.pair-index (get_or c.args.pairs.now c.loop-pair.pair-index none) none c.loop-pair-test.true refl _ _ c.in_err-write.field-0.0 s))

pub loop-pair-preserved : goal.loop-pair-preserved
loop-pair-preserved g c =
    let s = rw (c.bytes.ensures.value, c.pair_piece.ensures) at c.in_ok-write.ensures.sent in
    record {
      sent = λ now r q. c.loop-pair.invariant.sent now r (line_goes_on shown_pair_line c.args.pairs.now c.loop-pair.pair-index (get_or c.args.pairs.now c.loop-pair.pair-index none) none c.loop-pair-test.true refl _ _ now r s q);
      later = omega (arith, c.write.ensures.cause.later, c.loop-pair.invariant.later);
    }

pub returns-clause-sent : goal.returns-clause-sent
returns-clause-sent g c = c.loop-pair.invariant.sent _ _ (lines_end shown_pair_line c.args.pairs.now c.loop-pair.pair-index _ c.loop-pair-test.false)
