-- The bits of words, by floors, and those of what the operators of bits give.
use Rattle.std.proofs.Common.{◌≡◌, ℕ, ◌-◌, ◌%◌, ◌/◌, ◌^◌, ◌<◌, refl, sym, ap, ◌∙◌, arith, w64, ℤ, pos, negsuc, to_z, of_z, FitsSigned, Bool, not, ◌&&◌, ◌||◌, rules}
use Rattle.std.specs.Prelude.{nat_eq, bit_and, bit_or, bit_xor}
use Rattle.std.specs.Int.{bit_at, bit_not, int_bit_and, int_bit_or, int_bit_xor, int_bit_not}
use Rattle.std.proofs.lemmas.Int.{of_z-to_z}
use Rattle.std.proofs.lemmas.Nat.{and_le_l, or_lt, xor_lt}
use Rattle.std.proofs.lemmas.Nat.Bits.{bit_at-lt, bit_at_not}
use Rattle.bm_base.specs.Mask.{has_bit}
use Rattle.bm_base.specs.Word.{word_bit}
use Rattle.bm_base.proofs.MaskBits.{has_bit-or, has_bit-and, has_bit-xor, not_test}

-- the parity of a number below 0
odd_below : (m : ℕ) → nat_eq (2 - 1 - m % 2) 1 ≡ not (nat_eq (m % 2) 1)
odd_below m = not_test (m % 2) (omega arith)

-- a bit of a number is that of the 64 bits that stand for it
bit_of_word : (a : ℤ) (i : ℕ) → FitsSigned w64 a → i < 64 → word_bit a i ≡ has_bit (of_z w64 a) i
bit_of_word (pos n) i f h = refl
bit_of_word (negsuc n) i f h =
    let small : n < 2 ^ 63 = f.sfits in
    let turn : of_z w64 (negsuc n) ≡ bit_not w64 n = omega arith in
    odd_below (n / 2 ^ i) ∙ sym (ap (λ m. has_bit m i) turn ∙ rw (bit_at_not w64 n i (omega arith) h) (not_test (bit_at n i) (bit_at-lt n i)))

fits_bits : (a : ℤ) → FitsSigned w64 a → of_z w64 a < 2 ^ 64
fits_bits a f = search rules

fits_word : (n : ℕ) → n < 2 ^ 64 → FitsSigned w64 (to_z w64 n)
fits_word n h = search rules

-- the bits of the word that 64 bits stand for
bit_of_bits : (n i : ℕ) → n < 2 ^ 64 → i < 64 → word_bit (to_z w64 n) i ≡ has_bit n i
bit_of_bits n i l h = bit_of_word (to_z w64 n) i (fits_word n l) h ∙ ap (λ m. has_bit m i) (of_z-to_z w64 n l)

module _ (a : ℤ) (i : ℕ) (f : FitsSigned w64 a) (h : i < 64) where
  pub bit_of_not : word_bit (int_bit_not w64 a) i ≡ not (word_bit a i)
  bit_of_not =
      let l = fits_bits a f in
      bit_of_bits (bit_not w64 (of_z w64 a)) i (omega arith) h
      ∙ rw (bit_at_not w64 (of_z w64 a) i l h) (not_test (bit_at (of_z w64 a) i) (bit_at-lt (of_z w64 a) i))
      ∙ ap not (sym (bit_of_word a i f h))

  module _ (b : ℤ) (g : FitsSigned w64 b) where
    both : (op : Bool → Bool → Bool) → op (has_bit (of_z w64 a) i) (has_bit (of_z w64 b) i) ≡ op (word_bit a i) (word_bit b i)
    both op = rw (bit_of_word a i f h, bit_of_word b i g h) refl

    pub bit_of_and : word_bit (int_bit_and w64 a b) i ≡ (word_bit a i && word_bit b i)
    bit_of_and =
        bit_of_bits (bit_and (of_z w64 a) (of_z w64 b)) i (omega (arith, and_le_l (of_z w64 a) (of_z w64 b), fits_bits a f)) h
        ∙ has_bit-and (of_z w64 a) (of_z w64 b) i ∙ both (λ x y. x && y)

    pub bit_of_or : word_bit (int_bit_or w64 a b) i ≡ (word_bit a i || word_bit b i)
    bit_of_or =
        bit_of_bits (bit_or (of_z w64 a) (of_z w64 b)) i (or_lt 64 (of_z w64 a) (of_z w64 b) (fits_bits a f) (fits_bits b g)) h
        ∙ has_bit-or (of_z w64 a) (of_z w64 b) i ∙ both (λ x y. x || y)

    pub bit_of_xor : word_bit (int_bit_xor w64 a b) i ≡ (word_bit a i && not (word_bit b i) || not (word_bit a i) && word_bit b i)
    bit_of_xor =
        bit_of_bits (bit_xor (of_z w64 a) (of_z w64 b)) i (xor_lt 64 (of_z w64 a) (of_z w64 b) (fits_bits a f) (fits_bits b g)) h
        ∙ has_bit-xor (of_z w64 a) (of_z w64 b) i ∙ both (λ x y. x && not y || not x && y)
