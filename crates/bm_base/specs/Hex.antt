-- Texts of masks, and their numbers.
use Rattle.std.specs.Prelude.{ℕ, ◌+◌, ◌-◌, ◌*◌, ◌&&◌, nat_le, if◌then◌else◌, List, [], ◌∷◌, length, Option, Some, None}
use Rattle.std.specs.Option.{option_and_then}
use Rattle.bm_base.specs.declared.limits.TheConstants.{MOST_MASK_DIGITS}
use Rattle.bm_base.specs.Strict.{leads}

-- 0 to 9 and a to f
abbrev pub hex_digit_of : ℕ → Option ℕ
hex_digit_of b =
    if nat_le 48 b && nat_le b 57 then Some (b - 48)
    else (if nat_le 97 b && nat_le b 102 then Some (b - 87) else None)

-- the value of digits behind digits of the value n
abbrev pub hex_from : ℕ → List ℕ → Option ℕ
hex_from n [] = Some n
hex_from n (b ∷ bs) = option_and_then (λ d. hex_from (n * 16 + d) bs) (hex_digit_of b)

-- 1 to 32 digits, with no leading zero but in `0` alone
abbrev pub hex_of : List ℕ → Option ℕ
hex_of bs = if nat_le 1 (length bs) && nat_le (length bs) MOST_MASK_DIGITS && leads bs then hex_from 0 bs else None
