use Rattle.std.proofs.Common.{ap, ◌∙◌, ◌<◌, ◌^◌, ◌*◌, ◌%◌, rules, arith, pos, ◌+ℤ◌, ◌*ℤ◌, w64, of_z, FitsSigned}
use Rattle.std.specs.Int.{int_wrap}
use Rattle.std.proofs.lemmas.Int.{wrapping_add_onto, wrapping_mul_is, int_wrap-add_left}
use Rattle.bm_io.proofs.fold_values.folded.Goals as goal

pub returns : goal.returns
returns c =
    let product = of_z w64 c.args.fold * 31 % 2 ^ 64 in
    let small : product < 2 ^ 64 = omega arith in
    let fits : FitsSigned w64 (pos 31) = search rules in
    wrapping_add_onto w64 product c.args.value small c.ranges.value
    ∙ ap (λ z. int_wrap w64 (z +ℤ c.args.value)) (wrapping_mul_is w64 c.args.fold (pos 31) c.ranges.fold fits)
    ∙ int_wrap-add_left w64 (c.args.fold *ℤ pos 31) c.args.value
