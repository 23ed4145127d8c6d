-- The members of a mask, one after the other.
use Rattle.std.proofs.Common.{◌≡◌, ℕ, ◌+◌, ◌-◌, ◌/◌, ◌%◌, ◌^◌, ◌<◌, ◌≤◌, true, false, nat_eq, inl, inr, ◌⊎◌, sym, ap, ◌∙◌, arith, subst, true≢false}
use Rattle.std.proofs.Math.Nat.{div-div-eq-div-mul}
use Rattle.std.proofs.lemmas.Nat.{pow-add}
use Rattle.std.proofs.lemmas.Nat.Bits.{bit_at-trailing_zeros}
use Rattle.std.proofs.lemmas.Bool.{cases_lt}
use Rattle.std.specs.Int.{w128, bit_at, trailing_zeros}
use Rattle.bm_base.specs.Mask.{has_bit, HasNoneFrom, IsFirstMember}
use Rattle.bm_base.proofs.MaskBits.{has_bit-none, has_bit-above}

shifted : (m a i : ℕ) → bit_at (m / 2 ^ a) i ≡ bit_at m (a + i)
shifted m a i = ap (λ n. n % 2) (div-div-eq-div-mul m (2 ^ a) (2 ^ i) ∙ ap (λ k. m / k) (sym (pow-add 2 a i)))

-- what lies from a place on, told by the mask behind it
lies : (P : ℕ → Type 0) (from q : ℕ) → from ≤ q → ((i : ℕ) → q ≡ from + i → P (from + i)) → P q
lies P from q h f = let e : q ≡ from + (q - from) = omega arith in subst P (sym e) (f (q - from) e)

-- nothing is left behind the place
pub none_left : (m from rest : ℕ) → rest ≡ m / 2 ^ from → rest ≡ 0 → HasNoneFrom m from
none_left m from rest e z q l =
    lies (λ x. has_bit m x ≡ false) from q l (λ i _. ap (λ n. nat_eq n 1) (sym (shifted m from i)) ∙ ap (λ n. has_bit n i) (sym e ∙ z) ∙ has_bit-none i)

-- the lowest bit of what is left
pub first_left : (m from rest : ℕ) → m < 2 ^ 128 → rest ≡ m / 2 ^ from → 0 < rest → rest < 2 ^ 128
    → IsFirstMember m from (from + trailing_zeros w128 rest)
first_left m from rest small e l f = record { low = omega arith; high = below (cases_lt (from + zeros) 128); skipped = skipped; member = member }
  where
    zeros : ℕ
    zeros = trailing_zeros w128 rest

    member : has_bit m (from + zeros) ≡ true
    member = let t = bit_at-trailing_zeros w128 rest l f in
        ap (λ n. nat_eq n 1) (sym (shifted m from zeros) ∙ ap (λ n. bit_at n zeros) (sym e) ∙ t.1)

    skipped : (q : ℕ) → from ≤ q → q < from + zeros → has_bit m q ≡ false
    skipped q ge lt = let t = bit_at-trailing_zeros w128 rest l f in
        lies (λ x. has_bit m x ≡ false) from q ge (λ i is. ap (λ n. nat_eq n 1) (sym (shifted m from i) ∙ ap (λ n. bit_at n i) (sym e) ∙ t.2 i (omega arith)))

    below : (from + zeros < 128) ⊎ (128 ≤ from + zeros) → from + zeros < 128
    below (inl h) = h
    below (inr h) = absurd (true≢false (sym member ∙ has_bit-above m (from + zeros) small h))
