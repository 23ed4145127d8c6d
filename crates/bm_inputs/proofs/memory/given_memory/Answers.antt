use Rattle.std.proofs.lemmas.Result.{err_from_is_err_and}
use Rattle.bm_base.specs.Memory.{initial}
use Rattle.bm_course.proofs.Coming.{Comes-begin, Comes-starve-first}
use Rattle.bm_inputs.specs.Memories.{IsMemory}
use Rattle.bm_inputs.proofs.memory.given_memory.Goals as goal

pub returns-in_err-new-in-Declared-clause-comes : goal.returns-in_err-new-in-Declared-clause-comes
returns-in_err-new-in-Declared-clause-comes g c =
    let p = err_from_is_err_and c.from_residual.result c.from_residual.ensures.1 in
    rw (p.1, p.2, c.in-Declared.is) (Comes-starve-first IsMemory _ (initial c.args.names.now))

pub returns-in_ok-new-in-Declared-clause-comes : goal.returns-in_ok-new-in-Declared-clause-comes
returns-in_ok-new-in-Declared-clause-comes g c =
    rw c.in-Declared.is (Comes-begin IsMemory _ c.in_ok-new-in-Declared.field-0 (initial c.args.names.now) c.in_ok-new-in-Declared.ensures.value)
