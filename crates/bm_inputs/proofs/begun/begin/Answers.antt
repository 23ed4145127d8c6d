use Rattle.std.proofs.Common.{◌≡◌, refl, subst, Result, Ok, Err}
use Rattle.std.proofs.lemmas.Result.{err_from_is_err_and}
use Rattle.bm_words.specs.Seen.{seen_run}
use Rattle.bm_course.specs.Course.{give}
use Rattle.bm_course.proofs.Coming.{Comes-stop, Comes-give, Comes-then}
use Rattle.bm_inputs.specs.declared.begun.Begun.{Begun}
use Rattle.bm_inputs.specs.Scripts.{script_course, IsScript}
use Rattle.bm_inputs.specs.Memories.{memory_course, IsMemory}
use Rattle.bm_inputs.specs.Beginning.{beginning, IsBegun}
use Rattle.bm_inputs.proofs.Beginnings.{behind_script, by_names}
use Rattle.bm_inputs.proofs.begun.begin.Goals as goal

pub returns-in_err-script-clause-comes : goal.returns-in_err-script-clause-comes
returns-in_err-script-clause-comes g c =
    let run = seen_run c.args.run in
    let p = err_from_is_err_and c.from_residual.result c.from_residual.ensures.1 in
    rw (p.1, p.2) (Comes-stop IsScript IsBegun _ _ (script_course run.script) (behind_script run c.args.image) c.in_err-script.field-0.0 c.in_err-script.ensures)

pub returns-in_err-store-clause-comes : goal.returns-in_err-store-clause-comes
returns-in_err-store-clause-comes g c =
    let run = seen_run c.args.run in
    let p = err_from_is_err_and c.from_residual-in_err-store.result c.from_residual-in_err-store.ensures.1 in
    rw (p.1, p.2)
    (Comes-then IsScript IsBegun _ _ _ (script_course run.script) (behind_script run c.args.image) c.in_ok-script.script (Err c.in_err-store.field-0.0) c.in_ok-script.ensures
    (λ s e. Comes-stop IsMemory IsBegun _ _ (memory_course c.args.image.names run.given) (λ memory. give (beginning c.args.image s memory)) c.in_err-store.field-0.0
    (by_names _ _ run.given c.names.result.now c.args.image.names (Err c.in_err-store.field-0.0) c.names.ensures c.in_err-store.ensures.comes)))

pub returns-clause-comes : goal.returns-clause-comes
returns-clause-comes g c =
    let run = seen_run c.args.run in
    let kept : Begun = record { image = c.args.image; script = c.in_ok-script.script; store = c.in_ok-store.store } in
    Comes-then IsScript IsBegun _ _ _ (script_course run.script) (behind_script run c.args.image) c.in_ok-script.script (Ok kept) c.in_ok-script.ensures
    (λ s e. Comes-give IsMemory IsBegun _ _ (memory_course c.args.image.names run.given) (λ memory. give (beginning c.args.image s memory)) c.in_ok-store.store kept
    (by_names _ _ run.given c.names.result.now c.args.image.names (Ok c.in_ok-store.store) c.names.ensures c.in_ok-store.ensures.comes)
    (λ m t. (beginning c.args.image s m, record { image = refl; script = e; memory = t }, λ rest. refl)))
