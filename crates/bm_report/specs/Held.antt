-- The lines of one name.
use Rattle.std.specs.Prelude.{ℕ, ◌≡◌, ◌<◌, ◌%◌, List, [], ◌++◌, length, take, drop, codes, decimal, Option, Some, None}
use Rattle.std.specs.Fmt.{signed_decimal}
use Rattle.bm_base.specs.Entry.{Entry}
use Rattle.bm_base.specs.Memory.{Content, Word, Words, word_of}
use Rattle.bm_report.specs.Text.{line, spaced, content_lines}

abbrev pub name_at : Option Entry → List ℕ
name_at (Some e) = e.name
name_at None = []

-- all lines of a name
abbrev pub lines_at : Option Entry → Option Content → List (List ℕ)
lines_at (Some e) (Some c) = content_lines e.name c
lines_at _ _ = []

-- the line of a variable
abbrev pub variable_at : Option Entry → Option Content → List ℕ
variable_at e c = line (name_at e ++ codes " " ++ signed_decimal (word_of c))

-- so many elements of an array from `first` on
abbrev pub elements_at : Option Content → ℕ → ℕ → List ℕ
elements_at (Some (Words vs)) first count = spaced (take count (drop first vs))
elements_at _ first count = []

-- the line of an array that begins with its element `first`
abbrev pub row_at : Option Entry → Option Content → ℕ → List ℕ
row_at e c first = line (name_at e ++ codes "[" ++ decimal first ++ codes "]" ++ elements_at c first 8)

-- a line begins with this element: the one of a variable with 0, those of an array with each eighth
abbrev pub BeginsLine : Option Content → ℕ → Type 0
BeginsLine (Some (Word v)) first = first ≡ 0
BeginsLine (Some (Words vs)) first = (first < length vs) × (first % 8 ≡ 0)
BeginsLine None first = ⊥

-- it is an array of this length
abbrev pub IsArrayOf : Option Content → ℕ → Type 0
IsArrayOf (Some (Words vs)) len = length vs ≡ len
IsArrayOf _ len = ⊥
