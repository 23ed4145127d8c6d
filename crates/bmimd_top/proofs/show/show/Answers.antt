use Rattle.std.proofs.Common.{[], ap₂, Ok, Err}
use Rattle.std.proofs.lemmas.Result.{err_from_is_err_and}
use Rattle.bm_words.specs.Seen.{seen_machine}
use Rattle.bm_course.specs.Course.{text_only, give, Gives}
use Rattle.bm_course.proofs.Concluding.{Concludes-stop, Concludes-text}
use Rattle.bmimd_top.specs.Listing.{listed_course, text_of, IsListed}
use Rattle.bmimd_top.proofs.show.show.Goals as goal

pub returns-in_err-listing : goal.returns-in_err-listing
returns-in_err-listing g c =
    let p = err_from_is_err_and c.from_residual.result c.from_residual.ensures.1 in
    rw (p.1, p.2) (Concludes-stop IsListed _ _ (listed_course c.args.program.now (seen_machine c.args.machine)) (λ l. give (text_only (text_of l.shown l.summary))) _ c.in_err-listing.field-0.0 c.in_err-listing.ensures)

pub returns : goal.returns
returns g c =
    let kept = c.in_ok-listing.listing in
    Concludes-text IsListed _ _ (listed_course c.args.program.now (seen_machine c.args.machine)) (λ l. give (text_only (text_of l.shown l.summary))) _ _ kept (text_of kept.shown kept.summary)
    (Ok c.in_ok-write_shown.field-0) c.in_ok-listing.ensures (λ l s. ap₂ (λ a b. Gives (text_only (text_of a b)) []) s.shown s.summary) c.in_ok-write_shown.ensures.sent c.in_ok-write_shown.ensures.cause

pub returns-in_err-write_shown : goal.returns-in_err-write_shown
returns-in_err-write_shown g c =
    let kept = c.in_ok-listing.listing in
    let p = err_from_is_err_and c.from_residual-in_err-write_shown.result c.from_residual-in_err-write_shown.ensures.1 in
    rw (p.1, p.2)
    (Concludes-text IsListed _ _ (listed_course c.args.program.now (seen_machine c.args.machine)) (λ l. give (text_only (text_of l.shown l.summary))) _ _ kept (text_of kept.shown kept.summary)
    (Err c.in_err-write_shown.field-0.0) c.in_ok-listing.ensures (λ l s. ap₂ (λ a b. Gives (text_only (text_of a b)) []) s.shown s.summary) c.in_err-write_shown.ensures.sent c.in_err-write_shown.ensures.cause)
