use Rattle.std.proofs.Common.{refl, Ok, Err}
use Rattle.std.proofs.lemmas.Result.{err_from_is_err_and}
use Rattle.bm_words.specs.Seen.{seen_machine, seen_run}
use Rattle.bm_course.specs.Course.{text_only, judge, accepted}
use Rattle.bm_course.proofs.Concluding.{Concludes-stop, Concludes-text}
use Rattle.bm_inputs.specs.Beginning.{IsBegun}
use Rattle.bmimd_top.specs.Running.{sourced_course, Runs}
use Rattle.bmimd_top.proofs.Begun.{run_of}
use Rattle.bmimd_top.proofs.go.go.Goals as goal

pub returns-in_err-begun : goal.returns-in_err-begun
returns-in_err-begun g c =
    let run = seen_run c.args.run in
    let p = err_from_is_err_and c.from_residual.result c.from_residual.ensures.1 in
    rw (p.1, p.2) (Concludes-stop IsBegun _ _ (sourced_course c.args.program.now (seen_machine c.args.machine) run) (λ b. judge (Runs run b)) _ c.in_err-begun.field-0.0 c.in_err-begun.ensures.comes)

pub returns : goal.returns
returns g c =
    let run = seen_run c.args.run in
    let w = c.in_ok-write_text.ensures.sent in
    Concludes-text IsBegun _ _ (sourced_course c.args.program.now (seen_machine c.args.machine) run) (λ b. judge (Runs run b)) _ _ c.in_ok-begun.begun w.0
    (Ok c.in_ok-write_text.field-0) c.in_ok-begun.ensures.comes
    (λ b s. accepted (text_only w.0) (w.0, run_of run c.in_ok-begun.begun b w.0 s w.1, refl) refl) w.2 c.in_ok-write_text.ensures.cause

pub returns-in_err-write_text : goal.returns-in_err-write_text
returns-in_err-write_text g c =
    let run = seen_run c.args.run in
    let p = err_from_is_err_and c.from_residual-in_err-write_text.result c.from_residual-in_err-write_text.ensures.1 in
    let w = c.in_err-write_text.ensures.sent in
    rw (p.1, p.2)
    (Concludes-text IsBegun _ _ (sourced_course c.args.program.now (seen_machine c.args.machine) run) (λ b. judge (Runs run b)) _ _ c.in_ok-begun.begun w.0
    (Err c.in_err-write_text.field-0.0) c.in_ok-begun.ensures.comes
    (λ b s. accepted (text_only w.0) (w.0, run_of run c.in_ok-begun.begun b w.0 s w.1, refl) refl) w.2 c.in_err-write_text.ensures.cause)
