use Rattle.std.proofs.Common.{◌≡◌, ◌<◌, ℕ, true, nat_eq, sym, ap, ◌∙◌, arith}
use Rattle.std.specs.Int.{trailing_zeros}
use Rattle.std.proofs.lemmas.Nat.Bits.{bit_at-trailing_zeros}
use mir.Syntax.{w128}
use Rattle.bm_base.specs.Mask.{has_bit}
use Rattle.unit_law.proofs.ReadyFacts.{first_at}
use Rattle.bm_machine.proofs.search.lowest.Goals as goal

pub returns-else-number-eq0 : goal.returns-else-number-eq0
returns-else-number-eq0 c =
    let n = c.number-number.result in
    let some : 0 < n = let x = c.if-number-eq0.false in omega arith in
    let low = bit_at-trailing_zeros w128 n some c.number-number.type_inv in
    let k : ℕ = trailing_zeros w128 n in
    let few : k < 128 = low.0 in
    let bit : has_bit c.args.mask k ≡ true = ap (λ m. has_bit m k) (sym c.number-number.ensures) ∙ ap (λ v. nat_eq v 1) low.1 in
    sym (first_at (has_bit c.args.mask) 0 128 k (omega arith) (omega arith) bit (λ i lo lt. ap (λ m. has_bit m i) (sym c.number-number.ensures) ∙ ap (λ v. nat_eq v 1) (low.2 i lt)))
