use Rattle.std.proofs.Common.{[], ◌∷◌, ◌++◌}
use Rattle.std.specs.Prelude.{codes, decimal}
use Rattle.std.proofs.lemmas.Result.{err_from_is_err_and}
use Rattle.bm_io.proofs.Sending.{Sent-stop, Sent-more}
use Rattle.bm_report.specs.Text.{line, memory_lines}
use Rattle.bm_report.proofs.ending.write_end.Goals as goal

pub returns-in_err-write-clause-sent : goal.returns-in_err-write-clause-sent
returns-in_err-write-clause-sent g c =
    let p = err_from_is_err_and c.from_residual.result c.from_residual.ensures.1 in
    let s = rw (c.bytes.ensures.value, c.count_line.ensures) at c.in_err-write.ensures.sent in
    rw (p.1, p.2) (Sent-stop _ _ (line (codes "end " ++ decimal c.args.clock) ∷ []) (memory_lines c.args.names.now c.args.store.now) c.in_err-write.field-0.0 s)

pub returns-clause-sent : goal.returns-clause-sent
returns-clause-sent g c =
    let s = rw (c.bytes.ensures.value, c.count_line.ensures) at c.in_ok-write.ensures.sent in
    Sent-more _ _ _ (line (codes "end " ++ decimal c.args.clock) ∷ []) (memory_lines c.args.names.now c.args.store.now) c.write_memory.result s.ok c.write_memory.ensures.sent
