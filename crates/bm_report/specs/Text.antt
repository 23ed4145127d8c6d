-- The lines that tell how a run ended, and the memory.
use Rattle.std.specs.Prelude.{ℕ, zero, suc, ◌+◌, ◌/◌, ℤ, List, [], ◌∷◌, ◌++◌, length, take, drop, codes, decimal}
use Rattle.std.specs.Fmt.{signed_decimal}
use Rattle.bm_base.specs.Entry.{Entry}
use Rattle.bm_base.specs.Memory.{Content, Word, Words}

abbrev pub line : List ℕ → List ℕ
line text = text ++ codes "\n"

-- each value behind a space
abbrev pub spaced : List ℤ → List ℕ
spaced [] = []
spaced (v ∷ vs) = codes " " ++ signed_decimal v ++ spaced vs

-- the line of a variable
abbrev pub variable_line : List ℕ → ℤ → List ℕ
variable_line name v = line (name ++ codes " " ++ signed_decimal v)

-- the line of the elements of an array from number i on, eight at most
abbrev pub row_line : List ℕ → List ℤ → ℕ → List ℕ
row_line name values i = line (name ++ codes "[" ++ decimal i ++ codes "]" ++ spaced (take 8 (drop i values)))

-- so many lines, the first from element i on
abbrev pub row_lines : List ℕ → List ℤ → ℕ → ℕ → List (List ℕ)
row_lines name values i zero = []
row_lines name values i (suc rows) = row_line name values i ∷ row_lines name values (i + 8) rows

-- a variable has a line, and an array one for each eight elements, the last perhaps shorter
abbrev pub content_lines : List ℕ → Content → List (List ℕ)
content_lines name (Word v) = variable_line name v ∷ []
content_lines name (Words vs) = row_lines name vs 0 ((length vs + 7) / 8)

-- the lines of all names, in declared order
abbrev pub memory_lines : List Entry → List Content → List (List ℕ)
memory_lines (e ∷ es) (c ∷ cs) = content_lines e.name c ++ memory_lines es cs
memory_lines _ _ = []

-- it has ended at this tick, with this memory
abbrev pub end_lines : ℕ → List Entry → List Content → List (List ℕ)
end_lines clock names memory = line (codes "end " ++ decimal clock) ∷ memory_lines names memory

-- it is done, with this memory
abbrev pub done_lines : List Entry → List Content → List (List ℕ)
done_lines names memory = codes "done\n" ∷ memory_lines names memory

-- it goes on after so many ticks or turns
abbrev pub going_lines : ℕ → List (List ℕ)
going_lines n = line (codes "still going " ++ decimal n) ∷ []
