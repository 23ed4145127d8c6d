use Rattle.std.proofs.Common.{◌-◌, ◌≤◌, drop, length, arith}
use Rattle.std.proofs.lemmas.List.{take_all, length-drop}
use Rattle.bm_io.proofs.Streams.{TakesFront-more}
use Rattle.bm_io.proofs.real.write_whole.Goals as goal

pub loop-rest-preserved : goal.loop-rest-preserved
loop-rest-preserved g c =
    let rest = c.loop-rest.rest.now in
    let count = c.in-Ok.count in
    let short : length (drop count rest) ≤ length rest - count = omega (arith, length-drop count rest) in
    rw (take_all (length rest - count) (drop count rest) short) (TakesFront-more _ _ _ _ rest count c.loop-rest.invariant c.in-Ok.ensures.bytes)
