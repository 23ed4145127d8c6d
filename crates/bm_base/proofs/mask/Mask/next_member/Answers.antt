use Rattle.std.proofs.Common.{◌<◌, ◌^◌, ◌/◌, ◌≡◌, ℕ, ap, arith, rules}
use Rattle.std.proofs.lemmas.Nat.{shr_le}
use Rattle.bm_base.proofs.MaskBits.{has_bit-above}
use Rattle.bm_base.proofs.Members.{none_left, first_left}
use Rattle.bm_base.proofs.mask.Mask.next_member.Goals as goal

pub returns-then-from-ge-MOST_PROCESSORS : goal.returns-then-from-ge-MOST_PROCESSORS
returns-then-from-ge-MOST_PROCESSORS c =
    let small : c.args.self < 2 ^ 128 = rw (← c.self.view_is) (search rules) in
    λ q h. has_bit-above c.args.self q small (omega (arith, h, c.if-from-ge-MOST_PROCESSORS.true))

pub returns-then-rest-eq0 : goal.returns-then-rest-eq0
returns-then-rest-eq0 c = none_left c.args.self c.args.from (c.self.inside.0 / 2 ^ c.args.from) (ap (λ m. m / 2 ^ c.args.from) c.self.view_is) c.if-rest-eq0.true

pub returns : goal.returns
returns c =
    let rest : ℕ = c.self.inside.0 / 2 ^ c.args.from in
    let small : c.args.self < 2 ^ 128 = rw (← c.self.view_is) (search rules) in
    let inside : c.self.inside.0 < 2 ^ 128 = rw c.self.view_is small in
    let fits : rest < 2 ^ 128 = omega (arith, shr_le c.self.inside.0 c.args.from, inside) in
    let some : 0 < rest = (let n : rest ≡ 0 → ⊥ = c.if-rest-eq0.false in omega arith) in
    first_left c.args.self c.args.from rest small (ap (λ m. m / 2 ^ c.args.from) c.self.view_is) some fits
