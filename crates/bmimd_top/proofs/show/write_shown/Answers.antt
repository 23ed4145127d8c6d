use Rattle.std.proofs.Common.{refl, Ok, Err}
use Rattle.std.proofs.lemmas.Result.{err_from_is_err_and}
use Rattle.bm_report.specs.Summary.{summary_lines}
use Rattle.bm_course.proofs.Sending.{first_stops, then_sends, sends_all, sends_part}
use Rattle.show_text.specs.Listing.{listing}
use Rattle.bmimd_top.proofs.Listed.{by_shown}
use Rattle.bmimd_top.proofs.show.write_shown.Goals as goal

pub returns-in_err-write_listing-clause-sent : goal.returns-in_err-write_listing-clause-sent
returns-in_err-write_listing-clause-sent g c =
    let l = c.args.listing.now in
    let p = err_from_is_err_and c.from_residual.result c.from_residual.ensures.1 in
    rw (p.1, p.2) (first_stops 0 (listing l.shown) (summary_lines l.summary) _ _ c.in_err-write_listing.field-0.0 (by_shown _ _ c.items.result.now l.shown (Err c.in_err-write_listing.field-0.0) c.items.ensures c.in_err-write_listing.ensures.sent))

pub returns-in_err-write_summary-clause-sent : goal.returns-in_err-write_summary-clause-sent
returns-in_err-write_summary-clause-sent g c =
    let l = c.args.listing.now in
    let p = err_from_is_err_and c.from_residual-in_err-write_summary.result c.from_residual-in_err-write_summary.ensures.1 in
    rw (p.1, p.2)
    (then_sends 0 (listing l.shown) (summary_lines l.summary) _ _ _ c.in_ok-write_listing.field-0 (Err c.in_err-write_summary.field-0.0)
    (by_shown _ _ c.items.result.now l.shown (Ok c.in_ok-write_listing.field-0) c.items.ensures c.in_ok-write_listing.ensures.sent)
    (sends_part _ _ (record { status = 0; lines = summary_lines l.summary }) c.in_err-write_summary.field-0.0 c.in_err-write_summary.ensures.sent))

pub returns-clause-sent : goal.returns-clause-sent
returns-clause-sent g c =
    let l = c.args.listing.now in
    then_sends 0 (listing l.shown) (summary_lines l.summary) _ _ _ c.in_ok-write_listing.field-0 (Ok 0)
    (by_shown _ _ c.items.result.now l.shown (Ok c.in_ok-write_listing.field-0) c.items.ensures c.in_ok-write_listing.ensures.sent)
    (sends_all _ _ (record { status = 0; lines = summary_lines l.summary }) c.in_ok-write_summary.field-0 0 refl c.in_ok-write_summary.ensures.sent)
