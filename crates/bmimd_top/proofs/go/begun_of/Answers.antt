use Rattle.std.proofs.Common.{Err}
use Rattle.std.proofs.lemmas.Result.{err_from_is_err_and}
use Rattle.bm_words.specs.Seen.{seen_machine, seen_run}
use Rattle.bm_course.proofs.Coming.{Comes-stop, Comes-then}
use Rattle.bm_inputs.specs.Sources.{source_course}
use Rattle.bm_inputs.specs.Machines.{machine_course}
use Rattle.bm_inputs.specs.Standing.{IsProgram, IsMachine}
use Rattle.bm_inputs.specs.Beginning.{IsBegun}
use Rattle.bmimd_top.specs.Running.{compiled_course}
use Rattle.bmimd_top.proofs.Begun.{of_inputs}
use Rattle.bmimd_top.proofs.Sourced.{behind_source}
use Rattle.bmimd_top.proofs.go.begun_of.Goals as goal

pub returns-in_err-source-clause-comes : goal.returns-in_err-source-clause-comes
returns-in_err-source-clause-comes g c =
    let word = seen_machine c.args.machine in
    let run = seen_run c.args.run in
    let p = err_from_is_err_and c.from_residual.result c.from_residual.ensures.1 in
    rw (p.1, p.2) (Comes-stop IsProgram IsBegun _ _ (source_course c.args.program.now) (behind_source word run) c.in_err-source.field-0.0 c.in_err-source.ensures.comes)

pub returns-in_err-spec-clause-comes : goal.returns-in_err-spec-clause-comes
returns-in_err-spec-clause-comes g c =
    let word = seen_machine c.args.machine in
    let run = seen_run c.args.run in
    let p = err_from_is_err_and c.from_residual-in_err-spec.result c.from_residual-in_err-spec.ensures.1 in
    rw (p.1, p.2)
    (Comes-then IsProgram IsBegun _ _ _ (source_course c.args.program.now) (behind_source word run) c.in_ok-source.source (Err c.in_err-spec.field-0.0) c.in_ok-source.ensures.comes
    (λ p s. Comes-stop IsMachine IsBegun _ _ (machine_course word) (λ spec. compiled_course run spec p) c.in_err-spec.field-0.0 c.in_err-spec.ensures))

pub returns-clause-comes : goal.returns-clause-comes
returns-clause-comes g c =
    let word = seen_machine c.args.machine in
    let run = seen_run c.args.run in
    let spec = c.in_ok-spec.spec in
    let source = c.in_ok-source.source in
    Comes-then IsProgram IsBegun _ _ _ (source_course c.args.program.now) (behind_source word run) source c.compiled_begin.result c.in_ok-source.ensures.comes
    (λ p s. Comes-then IsMachine IsBegun _ _ _ (machine_course word) (λ m. compiled_course run m p) spec c.compiled_begin.result c.in_ok-spec.ensures
    (λ m t. of_inputs _ _ run spec m source p c.compiled_begin.result t s c.compiled_begin.ensures.comes))
