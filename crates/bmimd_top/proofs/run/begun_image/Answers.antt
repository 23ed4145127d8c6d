use Rattle.std.proofs.lemmas.Result.{err_from_is_err_and}
use Rattle.bm_words.specs.Seen.{seen_run}
use Rattle.bm_course.proofs.Coming.{Comes-stop, Comes-then}
use Rattle.bm_inputs.specs.Images.{IsLoaded, loaded_course}
use Rattle.bm_inputs.specs.Beginning.{begins_course, IsBegun}
use Rattle.bmimd_top.proofs.Begun.{of_image}
use Rattle.bmimd_top.proofs.run.begun_image.Goals as goal

pub returns-in_err-image-clause-comes : goal.returns-in_err-image-clause-comes
returns-in_err-image-clause-comes g c =
    let p = err_from_is_err_and c.from_residual.result c.from_residual.ensures.1 in
    rw (p.1, p.2) (Comes-stop IsLoaded IsBegun _ _ (loaded_course c.args.name.now) (begins_course (seen_run c.args.run)) c.in_err-image.field-0.0 c.in_err-image.ensures)

pub returns-clause-comes : goal.returns-clause-comes
returns-clause-comes g c =
    let run = seen_run c.args.run in
    Comes-then IsLoaded IsBegun _ _ _ (loaded_course c.args.name.now) (begins_course run) c.in_ok-image.image c.begin.result c.in_ok-image.ensures
    (λ m s. of_image _ _ run c.in_ok-image.image m c.begin.result s c.begin.ensures.comes)
