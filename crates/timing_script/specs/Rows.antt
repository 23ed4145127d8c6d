-- Texts of rows of fields. 9 is a tab, 13 a CR, 32 a space and 35 a `#`.
use Rattle.std.specs.Prelude.{ℕ, ◌+◌, ◌-◌, ◌==◌, ◌||◌, Bool, true, false, if◌then◌else◌, List, [], ◌∷◌, ◌++◌, length, take, get_or}
use Rattle.bm_base.specs.Lines.{whole_lines, cut_line}

abbrev pub is_blank : ℕ → Bool
is_blank b = b == 32 || b == 9

-- what stands between two blanks is a field, where it is not empty
abbrev pub field_before : List ℕ → List (List ℕ) → List (List ℕ)
field_before [] fields = fields
field_before (b ∷ bs) fields = (b ∷ bs) ∷ fields

-- the fields of bytes that stand behind the front of a field
abbrev pub fields_from : List ℕ → List ℕ → List (List ℕ)
fields_from front [] = field_before front []
fields_from front (b ∷ bs) = if is_blank b then field_before front (fields_from [] bs) else fields_from (front ++ b ∷ []) bs

-- the fields of a line: its longest runs of bytes that are no blanks
abbrev pub fields_of : List ℕ → List (List ℕ)
fields_of line = fields_from [] line

abbrev pub is_comment : List ℕ → Bool
is_comment [] = false
is_comment (b ∷ bs) = b == 35

-- a line without fields, or one whose first field begins with `#`
abbrev pub is_passed_over : List (List ℕ) → Bool
is_passed_over [] = true
is_passed_over (first ∷ fields) = is_comment first

-- a line that is not passed over: its number, from 1, and its fields
pub record TextRow : Type 0 where
  pub line : ℕ
  pub fields : List (List ℕ)

abbrev pub text_row : ℕ → List (List ℕ) → TextRow
text_row line fields = record { line = line; fields = fields }

-- the row of a line, or none
abbrev pub row_at : ℕ → List (List ℕ) → List TextRow
row_at line fields = if is_passed_over fields then [] else text_row line fields ∷ []

-- a line without a CR at its end
abbrev pub without_cr : List ℕ → List ℕ
without_cr line = if get_or line (length line - 1) 0 == 13 then take (length line - 1) line else line

-- a CR before the LF is white space
abbrev pub trimmed : Bool → List ℕ → List ℕ
trimmed true line = without_cr line
trimmed false line = line

-- the rows of whole lines and a cut one behind so many lines
abbrev pub rows_from : ℕ → List (List ℕ) → List ℕ → List TextRow
rows_from count [] cut = row_at (count + 1) (fields_of cut)
rows_from count (l ∷ ls) cut = row_at (count + 1) (fields_of (without_cr l)) ++ rows_from (count + 1) ls cut

-- the rows of a text; its last line may lack its LF
abbrev pub rows_of : List ℕ → List TextRow
rows_of bytes = rows_from 0 (whole_lines bytes) (cut_line bytes)
