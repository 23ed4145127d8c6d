-- A text for rows of fields.
use Rattle.std.specs.Prelude.{ℕ, ◌+◌, ◌≡◌, ◌≤◌, ◌==◌, ◌||◌, not, true, Bool, List, [], ◌∷◌, ◌++◌, length}
use Rattle.std.specs.List.{AllByRecursion}
use Rattle.timing_script.specs.Rows.{TextRow, text_row, is_blank}

-- no LF, CR, blank or `#`
abbrev pub is_plain : ℕ → Bool
is_plain b = not (b == 10 || b == 13 || is_blank b || b == 35)

pub record IsPlainField (field : List ℕ) : Type 0 where
  pub some : 1 ≤ length field
  pub each : AllByRecursion (λ b. is_plain b ≡ true) field

pub record IsPlainRow (fields : List (List ℕ)) : Type 0 where
  pub some : 1 ≤ length fields
  pub each : AllByRecursion IsPlainField fields

-- each field with a space behind it
abbrev pub spaced : List (List ℕ) → List ℕ
spaced [] = []
spaced (f ∷ fs) = f ++ 32 ∷ spaced fs

-- rows on the lines behind so many
abbrev pub numbered : ℕ → List (List (List ℕ)) → List TextRow
numbered count [] = []
numbered count (fields ∷ rows) = text_row (count + 1) fields ∷ numbered (count + 1) rows
