use Rattle.std.proofs.Common.{◌≡◌, ap, ◌∙◌}
use Rattle.bm_base.specs.Memory.{initial}
use Rattle.src_meaning.specs.Meaning.{Outcome, meaning}
use Rattle.soak_text.specs.Lines.{summed}
use Rattle.soak_text.specs.Soak.{turns, outcome_of}
use Rattle.soak_text.specs.Parts.{evaluated_of}
use Rattle.soak_text.proofs.Folds.{folds_all}
use Rattle.soak_text.proofs.Kept.{evaluated_as}
use Rattle.soak_text.proofs.evaluating.evaluate.Goals as goal

pub returns-clause-value : goal.returns-clause-value
returns-clause-value c =
    let p = c.args.program.now in
    let first : c.in_ok-store.store ≡ initial p.names = c.in_ok-store.ensures.value ∙ ap initial c.names.ensures.value in
    let o : Outcome = meaning p c.in_ok-store.store turns in
    let same : o ≡ outcome_of p = ap (λ m. meaning p m turns) first in
    let prints : c.eval.new.out ≡ summed o.output = c.in_ok-end.ensures.took.ok ∙ folds_all o.output in
    evaluated_as c.in_ok-end.end c.eval.new.out o c.in_ok-end.ensures.end prints ∙ ap evaluated_of same
