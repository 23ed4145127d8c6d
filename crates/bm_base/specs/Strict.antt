-- Texts of numbers in their one spelling, and their values.
use Rattle.std.specs.Prelude.{ℕ, ◌==◌, Bool, true, not, if◌then◌else◌, List, [], ◌∷◌, Option, None, ℤ}
use Rattle.bm_base.specs.Numeral.{count_of, number_of}

-- no digit stands behind a leading `0`
abbrev pub leads : List ℕ → Bool
leads [] = true
leads (b ∷ []) = true
leads (b ∷ c ∷ bs) = not (b == 48)

-- digits with no leading zero but in `0` alone, below 2^64
abbrev pub strict_count_of : List ℕ → Option ℕ
strict_count_of bs = if leads bs then count_of bs else None

-- not `0`, and no digit behind a leading `0`
abbrev pub leads_above : List ℕ → Bool
leads_above [] = true
leads_above (b ∷ bs) = not (b == 48)

abbrev pub leads_signed : List ℕ → Bool
leads_signed [] = true
leads_signed (b ∷ bs) = if b == 45 then leads_above bs else leads (b ∷ bs)

-- an optional `-`, and digits with no leading zero but in `0` alone; no `-0`; from -2^63 to 2^63 - 1
abbrev pub strict_number_of : List ℕ → Option ℤ
strict_number_of bs = if leads_signed bs then number_of bs else None
