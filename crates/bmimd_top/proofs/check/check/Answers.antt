use Rattle.std.proofs.Common.{[], ap, Ok, Err}
use Rattle.std.proofs.lemmas.Result.{err_from_is_err_and}
use Rattle.bm_course.specs.Course.{text_only, give, Gives}
use Rattle.bm_course.proofs.Concluding.{Concludes-stop, Concludes-text}
use Rattle.bm_inputs.specs.Images.{IsLoaded, loaded_course}
use Rattle.bmimd_top.specs.Running.{counts_text}
use Rattle.bmimd_top.proofs.check.check.Goals as goal

pub returns-in_err-image : goal.returns-in_err-image
returns-in_err-image g c =
    let p = err_from_is_err_and c.from_residual.result c.from_residual.ensures.1 in
    rw (p.1, p.2) (Concludes-stop IsLoaded _ _ (loaded_course c.args.name.now) (λ image. give (text_only (counts_text image))) _ c.in_err-image.field-0.0 c.in_err-image.ensures)

pub returns : goal.returns
returns g c =
    Concludes-text IsLoaded _ _ (loaded_course c.args.name.now) (λ image. give (text_only (counts_text image))) _ _ c.in_ok-image.image (counts_text c.in_ok-image.image)
    (Ok c.in_ok-write_counts.field-0) c.in_ok-image.ensures (λ m s. ap (λ q. Gives (text_only (counts_text q)) []) s) c.in_ok-write_counts.ensures.sent c.in_ok-write_counts.ensures.cause

pub returns-in_err-write_counts : goal.returns-in_err-write_counts
returns-in_err-write_counts g c =
    let p = err_from_is_err_and c.from_residual-in_err-write_counts.result c.from_residual-in_err-write_counts.ensures.1 in
    rw (p.1, p.2)
    (Concludes-text IsLoaded _ _ (loaded_course c.args.name.now) (λ image. give (text_only (counts_text image))) _ _ c.in_ok-image.image (counts_text c.in_ok-image.image)
    (Err c.in_err-write_counts.field-0.0) c.in_ok-image.ensures (λ m s. ap (λ q. Gives (text_only (counts_text q)) []) s) c.in_err-write_counts.ensures.sent c.in_err-write_counts.ensures.cause)
