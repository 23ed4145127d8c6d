use Rattle.std.proofs.Common.{◌≡◌, ◌+◌, ◌-◌, ◌*◌, ◌/◌, ℕ, suc, refl, arith}
use Rattle.std.specs.Prelude.{slice_get}
use Rattle.std.proofs.lemmas.Result.{err_from_is_err_and}
use Rattle.bm_report.proofs.Memories.{an_entry, row_stops, row_goes_on, rows_are, rows_end, Sent-same}
use Rattle.bm_report.proofs.memory.write_array.Goals as goal

pub returns-in_err-write-clause-sent : goal.returns-in_err-write-clause-sent
returns-in_err-write-clause-sent g c =
    let p = err_from_is_err_and c.from_residual.result c.from_residual.ensures.1 in
    let e = an_entry c.args.names.now c.args.id c.requires.name in
    let i : ℕ = c.loop-row.row * 8 in
    let n : ℕ = c.div_ceil-row-end.result - c.loop-row.row in
    let m : ℕ = c.div_ceil-row-end.result - (c.loop-row.row + 1) in
    let l : n ≡ suc m = omega (arith, c.loop-row-test.true) in
    let s = rw (c.bytes.ensures.value, c.row_line.ensures) at c.in_err-write.ensures.sent in
    rw (p.1, p.2) (c.loop-row.invariant.sent _ _ (row_stops (slice_get c.args.names.now c.args.id) e.0 e.1 (slice_get c.args.store.now c.args.id) c.args.len i (i + 8) n m c.requires.array refl l _ _ c.in_err-write.field-0.0 s))

pub loop-row-init : goal.loop-row-init
loop-row-init g c =
    let e = an_entry c.args.names.now c.args.id c.requires.name in
    let l : c.div_ceil-row-end.result - 0 ≡ (c.args.len + 7) / 8 = omega (arith, c.div_ceil-row-end.ensures) in
    record {
      sent = λ now r k. Sent-same _ now _ _ r (rows_are (slice_get c.args.names.now c.args.id) e.0 (slice_get c.args.store.now c.args.id) c.args.len (c.div_ceil-row-end.result - 0) e.1 c.requires.array l) k;
      later = omega arith;
    }

pub loop-row-preserved : goal.loop-row-preserved
loop-row-preserved g c =
    let e = an_entry c.args.names.now c.args.id c.requires.name in
    let i : ℕ = c.loop-row.row * 8 in
    let j : ℕ = (c.loop-row.row + 1) * 8 in
    let n : ℕ = c.div_ceil-row-end.result - c.loop-row.row in
    let m : ℕ = c.div_ceil-row-end.result - (c.loop-row.row + 1) in
    let l : n ≡ suc m = omega (arith, c.loop-row-test.true) in
    let k : j ≡ i + 8 = omega arith in
    let s = rw (c.bytes.ensures.value, c.row_line.ensures) at c.in_ok-write.ensures.sent in
    record {
      sent = λ now r q. c.loop-row.invariant.sent now r (row_goes_on (slice_get c.args.names.now c.args.id) e.0 e.1 (slice_get c.args.store.now c.args.id) c.args.len i j n m c.requires.array k l _ _ now tt r s q);
      later = omega (arith, c.write.ensures.cause.later, c.loop-row.invariant.later);
    }

pub returns-clause-sent : goal.returns-clause-sent
returns-clause-sent g c =
    let z : c.div_ceil-row-end.result - c.loop-row.row ≡ 0 = omega (arith, c.loop-row-test.false) in
    c.loop-row.invariant.sent _ _ (rows_end (slice_get c.args.names.now c.args.id) (slice_get c.args.store.now c.args.id) (c.loop-row.row * 8) (c.div_ceil-row-end.result - c.loop-row.row) _ z)
