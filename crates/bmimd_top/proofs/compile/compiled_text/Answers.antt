use Rattle.std.proofs.Common.{refl, subst, Ok, Err}
use Rattle.std.proofs.lemmas.Result.{err_from_is_err_and}
use Rattle.bm_words.specs.Seen.{seen_machine}
use Rattle.bm_course.specs.declared.refusal.Stop.TheVariants as stop
use Rattle.bm_course.specs.Course.{judge, accepted, ◌>>=◌}
use Rattle.bm_course.proofs.Coming.{Comes-stop, Comes-give, Comes-starve, Comes-then}
use Rattle.bm_inputs.specs.Sources.{source_course}
use Rattle.bm_inputs.specs.Machines.{machine_course}
use Rattle.bm_inputs.specs.Standing.{IsProgram, IsMachine}
use Rattle.compiled_image.specs.Compiled.{IsCompiled}
use Rattle.compiled_image.specs.Summarised.{IsSummaryOf}
use Rattle.bmimd_top.specs.Compiling.{Made, Makes, IsWritten}
use Rattle.bmimd_top.proofs.compile.compiled_text.Goals as goal

pub returns-in_err-source : goal.returns-in_err-source
returns-in_err-source g c =
    let p = err_from_is_err_and c.from_residual.result c.from_residual.ensures.1 in
    rw (p.1, p.2)
    (Comes-stop IsProgram IsWritten _ _ (source_course c.args.program.now) (λ p. machine_course (seen_machine c.args.machine) >>= (λ spec. judge (Makes spec p))) c.in_err-source.field-0.0 c.in_err-source.ensures.comes)

pub returns-in_err-spec : goal.returns-in_err-spec
returns-in_err-spec g c =
    let p = err_from_is_err_and c.from_residual-in_err-spec.result c.from_residual-in_err-spec.ensures.1 in
    rw (p.1, p.2)
    (Comes-then IsProgram IsWritten _ _ _ (source_course c.args.program.now) (λ p. machine_course (seen_machine c.args.machine) >>= (λ spec. judge (Makes spec p))) c.in_ok-source.source (Err c.in_err-spec.field-0.0)
    c.in_ok-source.ensures.comes
    (λ p s. Comes-stop IsMachine IsWritten _ _ (machine_course (seen_machine c.args.machine)) (λ spec. judge (Makes spec p)) c.in_err-spec.field-0.0 c.in_err-spec.ensures))

pub returns-in_err-compiled : goal.returns-in_err-compiled
returns-in_err-compiled g c =
    let p = err_from_is_err_and c.from_residual-in_err-compiled.result c.from_residual-in_err-compiled.ensures.1 in
    rw (p.1, p.2)
    (Comes-then IsProgram IsWritten _ _ _ (source_course c.args.program.now) (λ p. machine_course (seen_machine c.args.machine) >>= (λ spec. judge (Makes spec p))) c.in_ok-source.source (Err stop.Memory)
    c.in_ok-source.ensures.comes
    (λ p s. Comes-starve IsMachine IsWritten _ _ (machine_course (seen_machine c.args.machine)) (λ spec. judge (Makes spec p)) c.in_ok-spec.spec c.in_ok-spec.ensures))

pub returns-in_err-bytes : goal.returns-in_err-bytes
returns-in_err-bytes g c =
    let p = err_from_is_err_and c.from_residual-in_err-bytes.result c.from_residual-in_err-bytes.ensures.1 in
    rw (p.1, p.2)
    (Comes-then IsProgram IsWritten _ _ _ (source_course c.args.program.now) (λ p. machine_course (seen_machine c.args.machine) >>= (λ spec. judge (Makes spec p))) c.in_ok-source.source (Err stop.Memory)
    c.in_ok-source.ensures.comes
    (λ p s. Comes-starve IsMachine IsWritten _ _ (machine_course (seen_machine c.args.machine)) (λ spec. judge (Makes spec p)) c.in_ok-spec.spec c.in_ok-spec.ensures))

pub returns : goal.returns
returns g c =
    let compiled = c.in_ok-compiled.compiled in
    let made : Made = record { image = compiled.image; summary = compiled.summary } in
    let h : IsCompiled c.in_ok-spec.spec c.in_ok-source.source compiled.image = c.in_ok-compiled.ensures.image in
    let k : IsSummaryOf c.in_ok-spec.spec c.in_ok-source.source compiled.summary = c.in_ok-compiled.ensures.summary in
    Comes-then IsProgram IsWritten _ _ _ (source_course c.args.program.now) (λ p. machine_course (seen_machine c.args.machine) >>= (λ spec. judge (Makes spec p))) c.in_ok-source.source (Ok (record { bytes = c.in_ok-bytes.bytes; summary = compiled.summary }))
    c.in_ok-source.ensures.comes
    (λ p s. Comes-give IsMachine IsWritten _ _ (machine_course (seen_machine c.args.machine)) (λ spec. judge (Makes spec p)) c.in_ok-spec.spec (record { bytes = c.in_ok-bytes.bytes; summary = compiled.summary }) c.in_ok-spec.ensures
    (λ m t. (
      made,
      record { bytes = c.in_ok-bytes.ensures.text; summary = refl },
      λ rest. accepted made (
        subst (λ x. IsCompiled x p compiled.image) t (subst (λ y. IsCompiled c.in_ok-spec.spec y compiled.image) s h),
        subst (λ x. IsSummaryOf x p compiled.summary) t (subst (λ y. IsSummaryOf c.in_ok-spec.spec y compiled.summary) s k),
      ) refl,
    )))
