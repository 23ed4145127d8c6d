use Rattle.std.proofs.Common.{[], ap₂, Ok, Err}
use Rattle.std.proofs.lemmas.Result.{err_from_is_err_and}
use Rattle.bm_words.specs.Seen.{seen_data}
use Rattle.bm_course.specs.Course.{text_only, give, Gives}
use Rattle.bm_course.proofs.Concluding.{Concludes-stop, Concludes-text}
use Rattle.run_text.specs.EvalText.{eval_text}
use Rattle.bmimd_top.specs.Evaluating.{ready_course, IsReady}
use Rattle.bmimd_top.proofs.eval.evaluate.Goals as goal

pub returns-in_err-ready : goal.returns-in_err-ready
returns-in_err-ready g c =
    let p = err_from_is_err_and c.from_residual.result c.from_residual.ensures.1 in
    rw (p.1, p.2) (Concludes-stop IsReady _ _ (ready_course c.args.name.now (seen_data c.args.given)) (λ e. give (text_only (eval_text e.program e.memory c.args.turns))) _ c.in_err-ready.field-0.0 c.in_err-ready.ensures.comes)

pub returns : goal.returns
returns g c =
    let kept = c.in_ok-ready.ready in
    Concludes-text IsReady _ _ (ready_course c.args.name.now (seen_data c.args.given)) (λ e. give (text_only (eval_text e.program e.memory c.args.turns))) _ _ kept (eval_text kept.program kept.store c.args.turns)
    (Ok c.in_ok-write_evaluation.field-0) c.in_ok-ready.ensures.comes (λ e s. ap₂ (λ q m. Gives (text_only (eval_text q m c.args.turns)) []) s.program s.memory) c.in_ok-write_evaluation.ensures.sent c.in_ok-write_evaluation.ensures.cause

pub returns-in_err-write_evaluation : goal.returns-in_err-write_evaluation
returns-in_err-write_evaluation g c =
    let kept = c.in_ok-ready.ready in
    let p = err_from_is_err_and c.from_residual-in_err-write_evaluation.result c.from_residual-in_err-write_evaluation.ensures.1 in
    rw (p.1, p.2)
    (Concludes-text IsReady _ _ (ready_course c.args.name.now (seen_data c.args.given)) (λ e. give (text_only (eval_text e.program e.memory c.args.turns))) _ _ kept (eval_text kept.program kept.store c.args.turns)
    (Err c.in_err-write_evaluation.field-0.0) c.in_ok-ready.ensures.comes (λ e s. ap₂ (λ q m. Gives (text_only (eval_text q m c.args.turns)) []) s.program s.memory) c.in_err-write_evaluation.ensures.sent c.in_err-write_evaluation.ensures.cause)
