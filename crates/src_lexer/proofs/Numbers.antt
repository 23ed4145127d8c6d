-- The value of digits, as bm_base counts it.
use Rattle.std.proofs.Common.{◌≡◌, ℕ, suc, ◌-◌, ◌^◌, ◌<◌, Bool, true, false, ◌&&◌, List, [], ◌∷◌, length, get_or, Some, None, refl, ap, ◌∙◌, arith}
use Rattle.std.specs.Prelude.{if◌then◌else◌, nat_le}
use Rattle.std.specs.Char.{is_ascii_digit}
use Rattle.bm_base.specs.Numeral.{value_from, all_digits, is_numeral, count_of}

abbrev Each : List ℕ → Type 0
Each bs = (i : ℕ) → i < length bs → is_ascii_digit (get_or bs i 0) ≡ true

digits : (bs : List ℕ) → Each bs → all_digits bs ≡ true
digits [] h = refl
digits (b ∷ bs) h = ap (λ z. z && all_digits bs) (h 0 (omega arith)) ∙ digits bs (λ i k. h (suc i) (omega (arith, k)))

numeral : (bs : List ℕ) → 0 < length bs → Each bs → is_numeral bs ≡ true
numeral [] n h = absurd (omega (arith, n))
numeral (b ∷ bs) n h = digits (b ∷ bs) h

by_order : (most v : ℕ) (n l : Bool) → n ≡ true → nat_le v most ≡ l → None ≡ (if n && l then Some v else None) → most < v
by_order most v true true e k h = absurd cc
by_order most v true false e k h = grind (arith, k)
by_order most v false l e k h = absurd cc

-- digits of which no count is told have a value over its range
pub uncounted : (bs : List ℕ) → 0 < length bs → Each bs → None ≡ count_of bs → 2 ^ 64 - 1 < value_from 0 bs
uncounted bs n h e = by_order (2 ^ 64 - 1) (value_from 0 bs) (is_numeral bs) (nat_le (value_from 0 bs) (2 ^ 64 - 1)) (numeral bs n h) refl e
