use Rattle.std.proofs.Common.{refl, sym, subst, ◌∙◌, ap, Ok, Err}
use Rattle.std.proofs.lemmas.Result.{err_from_is_err_and}
use Rattle.src_names.specs.RProgram.{RProgram}
use Rattle.bm_words.specs.Seen.{seen_data}
use Rattle.bm_course.specs.Course.{give, ◌>>=◌}
use Rattle.bm_course.proofs.Coming.{Comes-stop, Comes-give, Comes-then}
use Rattle.bm_inputs.specs.Sources.{source_course}
use Rattle.bm_inputs.specs.Standing.{IsProgram}
use Rattle.bm_inputs.specs.Memories.{memory_course, IsMemory}
use Rattle.bm_inputs.proofs.Beginnings.{by_names}
use Rattle.bmimd_top.specs.declared.eval.Ready.{Ready}
use Rattle.bmimd_top.specs.Evaluating.{evaluated, IsReady}
use Rattle.bmimd_top.proofs.eval.ready_source.Goals as goal

pub returns-in_err-program-clause-comes : goal.returns-in_err-program-clause-comes
returns-in_err-program-clause-comes g c =
    let p = err_from_is_err_and c.from_residual.result c.from_residual.ensures.1 in
    rw (p.1, p.2) (Comes-stop IsProgram IsReady _ _ (source_course c.args.name.now) (λ q. memory_course q.names (seen_data c.args.given) >>= (λ memory. give (evaluated q memory))) c.in_err-program.field-0.0 c.in_err-program.ensures.comes)

pub returns-in_err-store-clause-comes : goal.returns-in_err-store-clause-comes
returns-in_err-store-clause-comes g c =
    let word = seen_data c.args.given in
    let p = err_from_is_err_and c.from_residual-in_err-store.result c.from_residual-in_err-store.ensures.1 in
    rw (p.1, p.2)
    (Comes-then IsProgram IsReady _ _ _ (source_course c.args.name.now) (λ q. memory_course q.names word >>= (λ memory. give (evaluated q memory))) c.in_ok-program.program (Err c.in_err-store.field-0.0) c.in_ok-program.ensures.comes
    (λ q s. Comes-stop IsMemory IsReady _ _ (memory_course q.names word) (λ memory. give (evaluated q memory)) c.in_err-store.field-0.0
    (by_names _ _ word c.names.result.now q.names (Err c.in_err-store.field-0.0) (c.names.ensures.value ∙ ap (λ (x : RProgram). x.names) s) c.in_err-store.ensures.comes)))

pub returns-clause-comes : goal.returns-clause-comes
returns-clause-comes g c =
    let word = seen_data c.args.given in
    let kept : Ready = record { program = c.in_ok-program.program; store = c.in_ok-store.store } in
    Comes-then IsProgram IsReady _ _ _ (source_course c.args.name.now) (λ q. memory_course q.names word >>= (λ memory. give (evaluated q memory))) c.in_ok-program.program (Ok kept) c.in_ok-program.ensures.comes
    (λ q s. Comes-give IsMemory IsReady _ _ (memory_course q.names word) (λ memory. give (evaluated q memory)) c.in_ok-store.store kept
    (by_names _ _ word c.names.result.now q.names (Ok c.in_ok-store.store) (c.names.ensures.value ∙ ap (λ (x : RProgram). x.names) s) c.in_ok-store.ensures.comes)
    (λ m t. (evaluated q m, record { program = s; memory = t }, λ rest. refl)))
