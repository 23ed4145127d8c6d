use Rattle.std.proofs.Common.{◌≡◌, refl, sym, subst, ◌∙◌, Some}
use Rattle.std.proofs.lemmas.Result.{err_from_is_err_and}
use Rattle.bm_base.specs.declared.limits.TheConstants.{MOST_SCRIPT_BYTES}
use Rattle.timing_script.specs.Text.{IsScriptOf, IsFault}
use Rattle.bm_course.specs.Course.{judge, accepted, rejected}
use Rattle.bm_course.specs.Limited.{IsContent, limited}
use Rattle.bm_course.specs.Refusals.{refused_as}
use Rattle.bm_course.proofs.Coming.{Comes-stop, Comes-give, Comes-refuse, Comes-starve}
use Rattle.bm_inputs.specs.ScriptLines.{script_refused}
use Rattle.bm_inputs.specs.Scripts.{ReadsScript, IsScript}
use Rattle.bm_inputs.proofs.script.script_of_file.Goals as goal

pub returns-in_err-bytes : goal.returns-in_err-bytes
returns-in_err-bytes g c =
    let p = err_from_is_err_and c.from_residual.result c.from_residual.ensures.1 in
    rw (p.1, p.2) (Comes-stop IsContent IsScript _ _ (limited c.args.name.now MOST_SCRIPT_BYTES) (λ bytes. judge (ReadsScript bytes)) c.in_err-bytes.field-0.0 c.in_err-bytes.ensures.comes)

pub returns-in-Ok : goal.returns-in-Ok
returns-in-Ok g c =
    Comes-give IsContent IsScript _ _ (limited c.args.name.now MOST_SCRIPT_BYTES) (λ bytes. judge (ReadsScript bytes)) c.in_ok-bytes.bytes c.in-Ok.script c.in_ok-bytes.ensures.comes
    (λ a e. (c.in-Ok.script, refl, λ rest. accepted c.in-Ok.script (subst (λ b. IsScriptOf b c.in-Ok.script) (c.deref.ensures.value ∙ e) c.in-Ok.ensures.found) refl))

pub returns-in-Some : goal.returns-in-Some
returns-in-Some g c =
    let s : script_refused c.in-Err.fault ≡ Some (refused_as c.in-Some.refusal) = sym c.in-Some.ensures in
    Comes-refuse IsContent IsScript _ _ (limited c.args.name.now MOST_SCRIPT_BYTES) (λ bytes. judge (ReadsScript bytes)) c.in_ok-bytes.bytes c.in-Some.refusal c.in_ok-bytes.ensures.comes
    (λ a e. rejected (refused_as c.in-Some.refusal) (c.in-Err.fault, subst (λ b. IsFault b c.in-Err.fault) (c.deref.ensures.value ∙ e) c.in-Err.ensures.fault, s) refl)

pub returns : goal.returns
returns g c = Comes-starve IsContent IsScript _ _ (limited c.args.name.now MOST_SCRIPT_BYTES) (λ bytes. judge (ReadsScript bytes)) c.in_ok-bytes.bytes c.in_ok-bytes.ensures.comes
