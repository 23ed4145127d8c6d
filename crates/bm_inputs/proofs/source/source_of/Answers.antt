use Rattle.std.proofs.Common.{◌≡◌, ◌≢◌, refl, sym, ap, subst, ◌∙◌, Some, None}
use Rattle.std.proofs.lemmas.Result.{err_from_is_err_and}
use Rattle.bm_base.specs.declared.limits.TheConstants.{MOST_SOURCE_BYTES}
use Rattle.src_front.specs.declared.fault.SourceFault.TheVariants.{Memory}
use Rattle.src_front.specs.Reads.{Reads, FirstFault}
use Rattle.bm_inputs.specs.SourceLines.{source_refused}
use Rattle.bm_course.specs.Course.{judge, accepted, rejected}
use Rattle.bm_course.specs.Limited.{IsContent, limited}
use Rattle.bm_course.specs.Refusals.{refused_as}
use Rattle.bm_course.proofs.Coming.{Comes-stop, Comes-give, Comes-refuse, Comes-starve}
use Rattle.bm_inputs.specs.Sources.{ReadsSource}
use Rattle.bm_inputs.specs.Standing.{IsProgram}
use Rattle.bm_inputs.proofs.source.source_of.Goals as goal

pub returns-in_err-bytes-clause-comes : goal.returns-in_err-bytes-clause-comes
returns-in_err-bytes-clause-comes g c =
    let p = err_from_is_err_and c.from_residual.result c.from_residual.ensures.1 in
    rw (p.1, p.2) (Comes-stop IsContent IsProgram _ _ (limited c.args.name.now MOST_SOURCE_BYTES) (λ bytes. judge (ReadsSource bytes)) c.in_err-bytes.field-0.0 c.in_err-bytes.ensures.comes)

pub returns-in-Ok-clause-comes : goal.returns-in-Ok-clause-comes
returns-in-Ok-clause-comes g c =
    Comes-give IsContent IsProgram _ _ (limited c.args.name.now MOST_SOURCE_BYTES) (λ bytes. judge (ReadsSource bytes)) c.in_ok-bytes.bytes c.in-Ok.program c.in_ok-bytes.ensures.comes
    (λ a e. (c.in-Ok.program, refl, λ rest. accepted c.in-Ok.program (subst (λ b. Reads b c.in-Ok.program) (c.deref.ensures.value ∙ e) c.in-Ok.ensures.found) refl))

pub returns-in-Some-clause-comes : goal.returns-in-Some-clause-comes
returns-in-Some-clause-comes g c =
    let s : source_refused c.in-Err.fault ≡ Some (refused_as c.in-Some.refusal) = sym c.in-Some.ensures in
    let other : c.in-Err.fault ≢ Memory = λ e. let no : None ≡ Some (refused_as c.in-Some.refusal) = sym (ap source_refused e) ∙ s in cc in
    Comes-refuse IsContent IsProgram _ _ (limited c.args.name.now MOST_SOURCE_BYTES) (λ bytes. judge (ReadsSource bytes)) c.in_ok-bytes.bytes c.in-Some.refusal c.in_ok-bytes.ensures.comes
    (λ a e. rejected (refused_as c.in-Some.refusal) (c.in-Err.fault, subst (λ b. FirstFault b c.in-Err.fault) (c.deref.ensures.value ∙ e) (c.in-Err.ensures.fault other), s) refl)

pub returns-clause-comes : goal.returns-clause-comes
returns-clause-comes g c = Comes-starve IsContent IsProgram _ _ (limited c.args.name.now MOST_SOURCE_BYTES) (λ bytes. judge (ReadsSource bytes)) c.in_ok-bytes.bytes c.in_ok-bytes.ensures.comes
