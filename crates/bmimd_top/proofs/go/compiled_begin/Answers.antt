use Rattle.std.proofs.Common.{refl, sym, subst, ◌∙◌, Ok, Err}
use Rattle.bm_base.specs.Memories.{IsMemoryOf}
use Rattle.std.proofs.lemmas.Result.{err_from_is_err_and}
use Rattle.bm_words.specs.Seen.{seen_run}
use Rattle.bm_course.specs.declared.refusal.Stop.TheVariants as stop
use Rattle.bm_course.specs.Course.{judge, accepted}
use Rattle.bm_course.proofs.Coming.{Comes-stop, Comes-give, Comes-starve, Comes-then}
use Rattle.compiled_image.specs.Compiled.{IsCompiled}
use Rattle.bm_inputs.specs.declared.begun.Begun.{Begun}
use Rattle.bm_inputs.specs.Scripts.{script_course, IsScript}
use Rattle.bm_inputs.specs.Memories.{memory_course, IsMemory}
use Rattle.bm_inputs.specs.Beginning.{beginning, IsBegun}
use Rattle.bm_inputs.proofs.Beginnings.{by_names}
use Rattle.bmimd_top.specs.Running.{Begins}
use Rattle.bmimd_top.proofs.Sourced.{behind_script}
use Rattle.bmimd_top.proofs.go.compiled_begin.Goals as goal

pub returns-in_err-script-clause-comes : goal.returns-in_err-script-clause-comes
returns-in_err-script-clause-comes g c =
    let run = seen_run c.args.run in
    let p = err_from_is_err_and c.from_residual.result c.from_residual.ensures.1 in
    rw (p.1, p.2) (Comes-stop IsScript IsBegun _ _ (script_course run.script) (behind_script run c.args.spec c.args.source.now) c.in_err-script.field-0.0 c.in_err-script.ensures)

pub returns-in_err-store-clause-comes : goal.returns-in_err-store-clause-comes
returns-in_err-store-clause-comes g c =
    let run = seen_run c.args.run in
    let source = c.args.source.now in
    let p = err_from_is_err_and c.from_residual-in_err-store.result c.from_residual-in_err-store.ensures.1 in
    rw (p.1, p.2)
    (Comes-then IsScript IsBegun _ _ _ (script_course run.script) (behind_script run c.args.spec source) c.in_ok-script.script (Err c.in_err-store.field-0.0) c.in_ok-script.ensures
    (λ t s. Comes-stop IsMemory IsBegun _ _ (memory_course source.names run.given) (λ memory. judge (Begins c.args.spec source t memory)) c.in_err-store.field-0.0
    (by_names _ _ run.given c.names.result.now source.names (Err c.in_err-store.field-0.0) c.names.ensures.value c.in_err-store.ensures.comes)))

pub returns-in_err-image-clause-comes : goal.returns-in_err-image-clause-comes
returns-in_err-image-clause-comes g c =
    let run = seen_run c.args.run in
    let source = c.args.source.now in
    let p = err_from_is_err_and c.from_residual-in_err-image.result c.from_residual-in_err-image.ensures.1 in
    rw (p.1, p.2)
    (Comes-then IsScript IsBegun _ _ _ (script_course run.script) (behind_script run c.args.spec source) c.in_ok-script.script (Err stop.Memory) c.in_ok-script.ensures
    (λ t s. Comes-starve IsMemory IsBegun _ _ (memory_course source.names run.given) (λ memory. judge (Begins c.args.spec source t memory)) c.in_ok-store.store
    (by_names _ _ run.given c.names.result.now source.names (Ok c.in_ok-store.store) c.names.ensures.value c.in_ok-store.ensures.comes)))

pub returns-clause-comes : goal.returns-clause-comes
returns-clause-comes g c =
    let run = seen_run c.args.run in
    let source = c.args.source.now in
    let image = c.in_ok-image.field-0.image in
    let compiled : IsCompiled c.args.spec source image = c.in_ok-image.ensures.image in
    let kept : Begun = record { image = image; script = c.in_ok-script.script; store = c.in_ok-store.store } in
    Comes-then IsScript IsBegun _ _ _ (script_course run.script) (behind_script run c.args.spec source) c.in_ok-script.script (Ok kept) c.in_ok-script.ensures
    (λ t s. Comes-give IsMemory IsBegun _ _ (memory_course source.names run.given) (λ memory. judge (Begins c.args.spec source t memory)) c.in_ok-store.store kept
    (by_names _ _ run.given c.names.result.now source.names (Ok c.in_ok-store.store) c.names.ensures.value c.in_ok-store.ensures.comes)
    (λ m u. (beginning image t m, record { image = refl; script = s; memory = u }, λ rest. accepted (beginning image t m) (image, compiled, refl) refl)))

pub returns-clause-memory : goal.returns-clause-memory
returns-clause-memory g c =
    let compiled : IsCompiled c.args.spec c.args.source.now c.in_ok-image.field-0.image = c.in_ok-image.ensures.image in
    subst (λ names. IsMemoryOf names c.in_ok-store.store) (c.names.ensures.value ∙ sym compiled.faithful.names) c.in_ok-store.ensures.memory
