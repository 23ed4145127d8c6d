use Rattle.std.proofs.Common.{refl, subst}
use Rattle.std.proofs.lemmas.Result.{err_from_is_err_and}
use Rattle.bm_course.proofs.Sending.{Sends-nothing}
use Rattle.compiled_image.specs.Compiled.{IsCompiled}
use Rattle.compiled_image.specs.Summarised.{IsSummaryOf}
use Rattle.soak_text.specs.Lines.{parts}
use Rattle.soak_text.specs.Soak.{outcome_of, soak_text}
use Rattle.soak_text.proofs.writing.write_soak.Goals as goal

pub returns-in_err-program-clause-sent : goal.returns-in_err-program-clause-sent
returns-in_err-program-clause-sent g c =
    let p = err_from_is_err_and c.from_residual.result c.from_residual.ensures.1 in
    let t = c.soaks_have_one_text.ensures.some c.args.seed c.args.statements c.requires in
    (t.0, t.1, rw (p.1, p.2, c.in_err-program.ensures.starved) (Sends-nothing _ _))

pub returns-in_err-compiled-clause-sent : goal.returns-in_err-compiled-clause-sent
returns-in_err-compiled-clause-sent g c =
    let p = err_from_is_err_and c.from_residual-in_err-compiled.result c.from_residual-in_err-compiled.ensures.1 in
    let t = c.soaks_have_one_text.ensures.some c.args.seed c.args.statements c.requires in
    (t.0, t.1, rw (p.1, p.2) (Sends-nothing _ _))

pub returns-clause-sent : goal.returns-clause-sent
returns-clause-sent g c =
    let p = c.in_ok-program.program in
    let made = c.in_ok-compiled.compiled in
    let is = subst (λ machine. IsCompiled machine p made.image) c.standard.ensures c.in_ok-compiled.ensures.image in
    let counted = subst (λ machine. IsSummaryOf machine p made.summary) c.standard.ensures c.in_ok-compiled.ensures.summary in
    let shown = c.runs_are_shown.ensures.some c.args.seed p made.image is in (
      soak_text made.summary (parts (outcome_of p) shown.0),
      record {
        program = p;
        read = c.in_ok-program.ensures.read;
        image = made.image;
        compiled = is;
        summary = made.summary;
        counted = counted;
        shown = shown.0;
        shows = shown.1;
        text_is = refl;
      },
      c.write_compiled.ensures.sent shown.0 shown.1,
    )
