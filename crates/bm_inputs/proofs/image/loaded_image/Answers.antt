use Rattle.std.proofs.Common.{◌≡◌, refl, sym, ap, subst, ◌∙◌, Some, None, Ok, Err}
use Rattle.std.proofs.lemmas.Result.{err_from_is_err_and}
use Rattle.bm_base.specs.declared.limits.TheConstants.{MOST_IMAGE_BYTES}
use Rattle.stream_file.specs.Images.{IsTextOfImage, IsLoadFault}
use Rattle.bm_course.specs.Course.{judge, accepted, rejected}
use Rattle.bm_course.specs.Limited.{IsContent, limited}
use Rattle.bm_course.specs.Refusals.{refused_as}
use Rattle.bm_course.proofs.Coming.{Comes-stop, Comes-give, Comes-refuse, Comes-starve}
use Rattle.bm_inputs.specs.ImageLines.{load_refused}
use Rattle.bm_inputs.specs.Images.{LoadsImage, IsLoaded}
use Rattle.bm_inputs.proofs.image.loaded_image.Goals as goal

pub returns-in_err-bytes : goal.returns-in_err-bytes
returns-in_err-bytes g c =
    let p = err_from_is_err_and c.from_residual.result c.from_residual.ensures.1 in
    rw (p.1, p.2) (Comes-stop IsContent IsLoaded _ _ (limited c.args.name.now MOST_IMAGE_BYTES) (λ bytes. judge (LoadsImage bytes)) c.in_err-bytes.field-0.0 c.in_err-bytes.ensures.comes)

pub returns-in-Ok : goal.returns-in-Ok
returns-in-Ok g c =
    Comes-give IsContent IsLoaded _ _ (limited c.args.name.now MOST_IMAGE_BYTES) (λ bytes. judge (LoadsImage bytes)) c.in_ok-bytes.bytes c.in-Ok.image c.in_ok-bytes.ensures.comes
    (λ a e. (c.in-Ok.image, refl, λ rest. accepted c.in-Ok.image (subst (λ b. IsTextOfImage b c.in-Ok.image) (c.deref.ensures.value ∙ e) c.in-Ok.ensures.found) refl))

pub returns-in-Some : goal.returns-in-Some
returns-in-Some g c =
    let s : load_refused c.in-Err.fault ≡ Some (refused_as c.in-Some.refusal) = sym c.in-Some.ensures in
    Comes-refuse IsContent IsLoaded _ _ (limited c.args.name.now MOST_IMAGE_BYTES) (λ bytes. judge (LoadsImage bytes)) c.in_ok-bytes.bytes c.in-Some.refusal c.in_ok-bytes.ensures.comes
    (λ a e. rejected (refused_as c.in-Some.refusal) (c.in-Err.fault, subst (λ b. IsLoadFault b c.in-Err.fault) (c.deref.ensures.value ∙ e) c.in-Err.ensures.fault, s) refl)

pub returns : goal.returns
returns g c = Comes-starve IsContent IsLoaded _ _ (limited c.args.name.now MOST_IMAGE_BYTES) (λ bytes. judge (LoadsImage bytes)) c.in_ok-bytes.bytes c.in_ok-bytes.ensures.comes
