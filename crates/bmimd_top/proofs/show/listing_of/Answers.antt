use Rattle.std.proofs.Common.{refl, subst, Ok, Err}
use Rattle.std.proofs.lemmas.Result.{err_from_is_err_and}
use Rattle.bm_words.specs.Seen.{seen_machine}
use Rattle.bm_course.specs.declared.refusal.Stop.TheVariants as stop
use Rattle.bm_course.specs.Course.{judge, accepted, ◌>>=◌}
use Rattle.bm_course.proofs.Coming.{Comes-stop, Comes-give, Comes-starve, Comes-then}
use Rattle.bm_inputs.specs.Sources.{source_course}
use Rattle.bm_inputs.specs.Machines.{machine_course}
use Rattle.bm_inputs.specs.Standing.{IsProgram, IsMachine}
use Rattle.compiled_image.specs.Summarised.{IsSummaryOf}
use Rattle.bmimd_top.specs.declared.show.Listing.{Listing}
use Rattle.bmimd_top.specs.Listing.{Listed, Lists, IsListed}
use Rattle.tuple_lower.specs.Means.{blocks_of}
use Rattle.show_text.specs.Shown.{AreShown}
use Rattle.bmimd_top.proofs.show.listing_of.Goals as goal

pub returns-in_err-source : goal.returns-in_err-source
returns-in_err-source g c =
    let p = err_from_is_err_and c.from_residual.result c.from_residual.ensures.1 in
    rw (p.1, p.2)
    (Comes-stop IsProgram IsListed _ _ (source_course c.args.program.now) (λ p. machine_course (seen_machine c.args.machine) >>= (λ spec. judge (Lists spec p))) c.in_err-source.field-0.0 c.in_err-source.ensures.comes)

pub returns-in_err-spec : goal.returns-in_err-spec
returns-in_err-spec g c =
    let p = err_from_is_err_and c.from_residual-in_err-spec.result c.from_residual-in_err-spec.ensures.1 in
    rw (p.1, p.2)
    (Comes-then IsProgram IsListed _ _ _ (source_course c.args.program.now) (λ p. machine_course (seen_machine c.args.machine) >>= (λ spec. judge (Lists spec p))) c.in_ok-source.source (Err c.in_err-spec.field-0.0)
    c.in_ok-source.ensures.comes
    (λ p s. Comes-stop IsMachine IsListed _ _ (machine_course (seen_machine c.args.machine)) (λ spec. judge (Lists spec p)) c.in_err-spec.field-0.0 c.in_err-spec.ensures))

pub returns-in_err-shown : goal.returns-in_err-shown
returns-in_err-shown g c =
    let p = err_from_is_err_and c.from_residual-in_err-shown.result c.from_residual-in_err-shown.ensures.1 in
    rw (p.1, p.2)
    (Comes-then IsProgram IsListed _ _ _ (source_course c.args.program.now) (λ p. machine_course (seen_machine c.args.machine) >>= (λ spec. judge (Lists spec p))) c.in_ok-source.source (Err stop.Memory)
    c.in_ok-source.ensures.comes
    (λ p s. Comes-starve IsMachine IsListed _ _ (machine_course (seen_machine c.args.machine)) (λ spec. judge (Lists spec p)) c.in_ok-spec.spec c.in_ok-spec.ensures))

pub returns-in_err-compiled : goal.returns-in_err-compiled
returns-in_err-compiled g c =
    let p = err_from_is_err_and c.from_residual-in_err-compiled.result c.from_residual-in_err-compiled.ensures.1 in
    rw (p.1, p.2)
    (Comes-then IsProgram IsListed _ _ _ (source_course c.args.program.now) (λ p. machine_course (seen_machine c.args.machine) >>= (λ spec. judge (Lists spec p))) c.in_ok-source.source (Err stop.Memory)
    c.in_ok-source.ensures.comes
    (λ p s. Comes-starve IsMachine IsListed _ _ (machine_course (seen_machine c.args.machine)) (λ spec. judge (Lists spec p)) c.in_ok-spec.spec c.in_ok-spec.ensures))

pub returns : goal.returns
returns g c =
    let summary = c.in_ok-compiled.compiled.summary in
    let kept : Listing = record { shown = c.in_ok-shown.shown; summary = summary } in
    let l : Listed = record { shown = c.in_ok-shown.shown; summary = summary } in
    let h : AreShown c.in_ok-spec.spec (blocks_of c.in_ok-source.source) c.in_ok-shown.shown = c.in_ok-shown.ensures in
    let k : IsSummaryOf c.in_ok-spec.spec c.in_ok-source.source summary = c.in_ok-compiled.ensures.summary in
    Comes-then IsProgram IsListed _ _ _ (source_course c.args.program.now) (λ p. machine_course (seen_machine c.args.machine) >>= (λ spec. judge (Lists spec p))) c.in_ok-source.source (Ok kept)
    c.in_ok-source.ensures.comes
    (λ p s. Comes-give IsMachine IsListed _ _ (machine_course (seen_machine c.args.machine)) (λ spec. judge (Lists spec p)) c.in_ok-spec.spec kept c.in_ok-spec.ensures
    (λ m t. (
      l,
      record { shown = refl; summary = refl },
      λ rest. accepted l (
        subst (λ x. AreShown x (blocks_of p) l.shown) t (subst (λ y. AreShown c.in_ok-spec.spec (blocks_of y) l.shown) s h),
        subst (λ x. IsSummaryOf x p summary) t (subst (λ y. IsSummaryOf c.in_ok-spec.spec y summary) s k),
      ) refl,
    )))
