use Rattle.std.proofs.Common.{◌<◌, ◌≤◌, length, arith}
use Rattle.std.proofs.lemmas.Result.{err_from_is_err_and}
use Rattle.bm_report.proofs.Memories.{name_stops, name_goes_on, names_end}
use Rattle.bm_report.proofs.memory.write_memory.Goals as goal

pub returns-in_err-write_name-clause-sent : goal.returns-in_err-write_name-clause-sent
returns-in_err-write_name-clause-sent g c =
    let p = err_from_is_err_and c.from_residual.result c.from_residual.ensures.1 in
    let b : c.loop-id.id < length c.args.names.now = omega (arith, c.len-id-end.ensures.value) in
    rw (p.1, p.2) (c.loop-id.invariant.sent _ _ (name_stops c.args.names.now c.args.store.now c.loop-id.id c.requires.long b _ _ c.in_err-write_name.field-0.0 c.in_err-write_name.ensures.sent))

pub loop-id-preserved : goal.loop-id-preserved
loop-id-preserved g c =
    let b : c.loop-id.id < length c.args.names.now = omega (arith, c.len-id-end.ensures.value) in
    record {
      sent = λ now r k. c.loop-id.invariant.sent now r (name_goes_on c.args.names.now c.args.store.now c.loop-id.id c.requires.long b _ _ now tt r c.in_ok-write_name.ensures.sent k);
      later = omega (arith, c.write_name.ensures.cause.later, c.loop-id.invariant.later);
    }

pub returns-clause-sent : goal.returns-clause-sent
returns-clause-sent g c =
    let b : length c.args.names.now ≤ c.loop-id.id = omega (arith, c.len-id-end.ensures.value) in
    c.loop-id.invariant.sent _ _ (names_end c.args.names.now c.args.store.now c.loop-id.id _ b)
