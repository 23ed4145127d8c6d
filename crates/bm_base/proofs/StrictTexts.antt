-- The spelling that is read is the one that is written.
use Rattle.std.proofs.Common.{subst, ◌≡◌, ℕ, ◌-◌, ◌^◌, ◌<◌, ◌≤◌, zero, suc, refl, sym, ap, ◌∙◌, arith, Bool, true, false, List, [], ◌∷◌, get_or, Some, None, Option, ℤ, pos, negsuc, neg_ℤ, w64, FitsSigned, true≢false}
use Rattle.std.specs.Prelude.{nat_le, ◌==◌, decimal, ◌&&◌, cond, ◌⊎◌, not}
use Rattle.std.proofs.Common.{inl, inr}
use Rattle.std.specs.Char.{is_ascii_digit}
use Rattle.std.specs.Fmt.{signed_decimal}
use Rattle.std.proofs.lemmas.Fmt.{digits_decimal, decimal-digits_value, first_decimal, decimal_digit}
use Rattle.std.proofs.lemmas.Bool.Decides.{nat_tests}
use Rattle.bm_base.specs.Numeral.{value_from, all_digits, is_numeral, count_to, count_of, number_of, negated, kept}
use Rattle.bm_base.specs.Strict.{leads, leads_above, leads_signed, strict_count_of, strict_number_of}
use Rattle.bm_base.proofs.NumberTexts.{numerals, count_of-decimal, number_of-decimal}

-- which way a choice went
pub chosen : {A : Type 0} (b : Bool) (x y z : A) → cond b x y ≡ z → ((b ≡ true) × (x ≡ z)) ⊎ ((b ≡ false) × (y ≡ z))
chosen true x y z e = inl (refl, e)
chosen false x y z e = inr (refl, e)

pub both_true : (x y : Bool) → (x && y) ≡ true → (x ≡ true) × (y ≡ true)
both_true true y e = (refl, e)
both_true false y e = absurd (true≢false (sym e))

pub none_some : {A : Type 0} {x : A} → None ≡ Some x → ⊥
none_some e = cc

pub some_same : {A : Type 0} {x y : A} → Some x ≡ Some y → x ≡ y
some_same e = cc

pub same_of_eq : (a b : ℕ) → (a == b) ≡ true → a ≡ b
same_of_eq a b e = grind (arith, nat_tests)

pub differ_of_eq : (a b : ℕ) → (a == b) ≡ false → a ≡ b → ⊥
differ_of_eq a b e h = grind (arith, nat_tests)

-- digits with a good beginning are what is written of their value
spelled : (bs : List ℕ) → is_numeral bs ≡ true → leads bs ≡ true → value_from 0 bs < 2 ^ 64 → decimal (value_from 0 bs) ≡ bs
spelled [] h l v = absurd (true≢false (sym h))
spelled (b ∷ []) h l v = decimal-digits_value numerals (b ∷ []) h (omega arith) (λ _. refl) v
spelled (b ∷ c ∷ bs) h l v = decimal-digits_value numerals (b ∷ c ∷ bs) h (omega arith) (λ e. absurd (leading b e l)) v
  where
    leading : (b : ℕ) → b ≡ 48 → not (b == 48) ≡ true → ⊥
    leading b e l = grind (arith, nat_tests)

counted : (most : ℕ) (bs : List ℕ) (n : ℕ) → count_to most bs ≡ Some n → (is_numeral bs ≡ true) × (value_from 0 bs ≡ n) × (n ≤ most)
counted most bs n e = elim (chosen (is_numeral bs && nat_le (value_from 0 bs) most) (Some (value_from 0 bs)) None (Some n) e) [
  | inl p ↦
      (let k = both_true (is_numeral bs) (nat_le (value_from 0 bs) most) p.0 in
      let v : value_from 0 bs ≡ n = some_same p.1 in
      let l : value_from 0 bs ≤ most = grind (arith, nat_tests) in
      (k.0, v, omega arith))
  | inr p ↦ absurd (none_some p.1)
]

count_to-spelled : (most : ℕ) (bs : List ℕ) (n : ℕ) → most < 2 ^ 64 → leads bs ≡ true → count_to most bs ≡ Some n → bs ≡ decimal n
count_to-spelled most bs n m l e =
    let c = counted most bs n e in
    let v : value_from 0 bs ≡ n = c.1 in
    let below : value_from 0 bs < 2 ^ 64 = omega arith in
    sym (spelled bs c.0 l below) ∙ ap decimal v

-- what is read strictly is the text of the number
pub strict_count-spelled : (bs : List ℕ) (n : ℕ) → strict_count_of bs ≡ Some n → bs ≡ decimal n
strict_count-spelled bs n e = elim (chosen (leads bs) (count_of bs) None (Some n) e) [
  | inl p ↦ count_to-spelled (2 ^ 64 - 1) bs n (omega arith) p.0 p.1
  | inr p ↦ absurd (none_some p.1)
]

-- a text of a number leads well
leads_first : (bs : List ℕ) → 48 < get_or bs 0 0 → leads bs ≡ true
leads_first [] h = refl
leads_first (b ∷ []) h = refl
leads_first (b ∷ c ∷ bs) h = grind (arith, nat_tests)

pub leads-decimal : (n : ℕ) → n < 2 ^ 64 → leads (decimal n) ≡ true
leads-decimal zero h = rw (decimal_digit 0 (omega arith)) refl
leads-decimal (suc n) h = leads_first (decimal (suc n)) (first_decimal (suc n) (omega arith) h)

pub strict_count-decimal : (n : ℕ) → n < 2 ^ 64 → strict_count_of (decimal n) ≡ Some n
strict_count-decimal n h = rw (leads-decimal n h) (count_of-decimal n h)

leads_above_first : (bs : List ℕ) → 48 < get_or bs 0 0 → leads_above bs ≡ true
leads_above_first [] h = refl
leads_above_first (b ∷ bs) h = grind (arith, nat_tests)

-- digits do not begin with `-`
signed_as_count : (bs : List ℕ) → all_digits bs ≡ true → leads_signed bs ≡ leads bs
signed_as_count [] h = refl
signed_as_count (b ∷ bs) h =
    let k = both_true (is_ascii_digit b) (all_digits bs) h in
    let d : is_ascii_digit b ≡ true = k.0 in
    let t : (b == 45) ≡ false = grind (arith, nat_tests) in
    rw t refl

pub leads_signed-decimal : (z : ℤ) → FitsSigned w64 z → leads_signed (signed_decimal z) ≡ true
leads_signed-decimal (pos n) f =
    let h : n < 2 ^ 63 = f.sfits in
    signed_as_count (decimal n) (digits_decimal numerals n (omega arith)) ∙ leads-decimal n (omega arith)
leads_signed-decimal (negsuc n) f =
    let h : n < 2 ^ 63 = f.sfits in
    leads_above_first (decimal (suc n)) (first_decimal (suc n) (omega arith) (omega arith))

pub strict_number-decimal : (z : ℤ) → FitsSigned w64 z → strict_number_of (signed_decimal z) ≡ Some z
strict_number-decimal z f = rw (leads_signed-decimal z f) (number_of-decimal z f)

kept_some : (o : Option ℕ) (z : ℤ) → kept o ≡ Some z → (n : ℕ) × (o ≡ Some n) × (z ≡ pos n)
kept_some None z e = absurd (none_some e)
kept_some (Some n) z e = (n, refl, sym (some_same e))

negated_some : (o : Option ℕ) (z : ℤ) → negated o ≡ Some z → (n : ℕ) × (o ≡ Some n) × (z ≡ neg_ℤ (pos n))
negated_some None z e = absurd (none_some e)
negated_some (Some n) z e = (n, refl, sym (some_same e))

leads_of_above : (bs : List ℕ) → leads_above bs ≡ true → leads bs ≡ true
leads_of_above [] h = refl
leads_of_above (b ∷ []) h = refl
leads_of_above (b ∷ c ∷ bs) h = h

-- the digits behind a `-`
below_zero : (ds : List ℕ) (n : ℕ) → leads_above ds ≡ true → ds ≡ decimal n → 45 ∷ ds ≡ signed_decimal (neg_ℤ (pos n))
below_zero ds zero l e =
    let z : ds ≡ 48 ∷ [] = e ∙ decimal_digit 0 (omega arith) in
    absurd (true≢false (sym l ∙ ap leads_above z))
below_zero ds (suc n) l e = ap (λ (x : List ℕ). 45 ∷ x) e

pub strict_number-spelled : (bs : List ℕ) (z : ℤ) → strict_number_of bs ≡ Some z → bs ≡ signed_decimal z
strict_number-spelled [] z e = absurd (none_some e)
strict_number-spelled (b ∷ bs) z e = elim (chosen (leads_signed (b ∷ bs)) (number_of (b ∷ bs)) None (Some z) e) [
  | inr p ↦ absurd (none_some p.1)
  | inl p ↦ by (b == 45) refl p.0 p.1
]
  where
    by : (t : Bool) → (b == 45) ≡ t → cond t (leads_above bs) (leads (b ∷ bs)) ≡ true → cond t (negated (count_to (2 ^ 63) bs)) (kept (count_to (2 ^ 63 - 1) (b ∷ bs))) ≡ Some z → b ∷ bs ≡ signed_decimal z
    by true t l h =
        let n = negated_some (count_to (2 ^ 63) bs) z h in
        let dash : b ≡ 45 = same_of_eq b 45 t in
        let ds : bs ≡ decimal n.0 = count_to-spelled (2 ^ 63) bs n.0 (omega arith) (leads_of_above bs l) n.1 in
        rw (dash, n.2) (below_zero bs n.0 l ds)
    by false t l h =
        let n = kept_some (count_to (2 ^ 63 - 1) (b ∷ bs)) z h in
        rw n.2 (count_to-spelled (2 ^ 63 - 1) (b ∷ bs) n.0 (omega arith) l n.1)

kept_fits : (n : ℕ) → n ≤ 2 ^ 63 - 1 → FitsSigned w64 (pos n)
kept_fits n h = record { sfits = omega arith }

negated_fits : (n : ℕ) → n ≤ 2 ^ 63 → FitsSigned w64 (neg_ℤ (pos n))
negated_fits zero h = record { sfits = omega arith }
negated_fits (suc n) h = record { sfits = omega arith }

-- what is read is in its range
pub strict_number-fits : (bs : List ℕ) (z : ℤ) → strict_number_of bs ≡ Some z → FitsSigned w64 z
strict_number-fits [] z e = absurd (none_some e)
strict_number-fits (b ∷ bs) z e = elim (chosen (leads_signed (b ∷ bs)) (number_of (b ∷ bs)) None (Some z) e) [
  | inr p ↦ absurd (none_some p.1)
  | inl p ↦ elim (chosen (b == 45) (negated (count_to (2 ^ 63) bs)) (kept (count_to (2 ^ 63 - 1) (b ∷ bs))) (Some z) p.1) [
    | inl q ↦ (let n = negated_some (count_to (2 ^ 63) bs) z q.1 in subst (FitsSigned w64) (sym n.2) (negated_fits n.0 (counted (2 ^ 63) bs n.0 n.1).2))
    | inr q ↦ (let n = kept_some (count_to (2 ^ 63 - 1) (b ∷ bs)) z q.1 in subst (FitsSigned w64) (sym n.2) (kept_fits n.0 (counted (2 ^ 63 - 1) (b ∷ bs) n.0 n.1).2))
  ]
]

pub strict_count-below : (bs : List ℕ) (n : ℕ) → strict_count_of bs ≡ Some n → n < 2 ^ 64
strict_count-below bs n e = elim (chosen (leads bs) (count_of bs) None (Some n) e) [
  | inl p ↦ omega (arith, (counted (2 ^ 64 - 1) bs n p.1).2)
  | inr p ↦ absurd (none_some p.1)
]
