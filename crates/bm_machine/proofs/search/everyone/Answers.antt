use Rattle.std.proofs.Common.{◌≡◌, ℕ, ◌+◌, ◌-◌, ◌/◌, ◌%◌, ◌^◌, ◌<◌, ◌≤◌, nat_eq, nat_lt, sym, ap, ◌∙◌, arith, ◌⊎◌, inl, inr}
use Rattle.std.proofs.lemmas.Bool.{cases_lt, lt-ltb, le-ltb}
use Rattle.std.proofs.lemmas.Nat.{shr-shr}
use Rattle.std.proofs.lemmas.Nat.Bits.{bit_at_ones, bit_at_ones_above}
use Rattle.bm_base.specs.Mask.{has_bit}
use Rattle.bm_machine.proofs.search.everyone.Goals as goal

-- what is left of 128 bits
bits_left : (n p : ℕ) → n ≤ 128 → has_bit ((2 ^ 128 - 1) / 2 ^ (128 - n)) p ≡ nat_lt p n
bits_left n p few = ap (λ x. nat_eq (x % 2) 1) (shr-shr (2 ^ 128 - 1) (128 - n) p) ∙ go (cases_lt p n)
  where
    go : (p < n) ⊎ (n ≤ p) → has_bit (2 ^ 128 - 1) (128 - n + p) ≡ nat_lt p n
    go (inl lt) = ap (λ x. nat_eq x 1) (bit_at_ones 128 (128 - n + p) (omega arith)) ∙ sym (lt-ltb p n lt)
    go (inr le) = ap (λ x. nat_eq x 1) (bit_at_ones_above 128 (128 - n + p) (omega arith)) ∙ sym (le-ltb p n le)

pub returns : goal.returns
returns c = rw c.of_number.ensures (λ p. bits_left c.args.processors p c.requires.few)
