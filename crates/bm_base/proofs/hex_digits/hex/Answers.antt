use Rattle.std.proofs.Common.{◌<◌, ◌^◌, arith}
use Rattle.bm_base.proofs.HexTexts.{below_most}
use Rattle.bm_base.proofs.hex_digits.hex.Goals as goal

pub overflow_mul-value : goal.overflow_mul-value
overflow_mul-value c =
    let b : c.loop-byte.value < 16 ^ 31 = below_most c.loop-byte.byte-index c.loop-byte.value (omega arith) c.loop-byte.invariant.small in
    omega arith

pub overflow_add-value : goal.overflow_add-value
overflow_add-value c =
    let b : c.loop-byte.value < 16 ^ 31 = below_most c.loop-byte.byte-index c.loop-byte.value (omega arith) c.loop-byte.invariant.small in
    omega (arith, c.in-Some.ensures)
