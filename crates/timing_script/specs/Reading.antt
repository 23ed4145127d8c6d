-- How a script's text is read: row by row, field by field.
use Rattle.std.specs.Prelude.{ℕ, nat_le, if◌then◌else◌, List, [], ◌∷◌, ◌++◌, get_or, set, replicate, Option, Some, None, Result, Ok}
use Rattle.std.specs.Prelude.{Err, ◌≡◌}
use Rattle.std.specs.Option.{option_and_then}
use Rattle.bm_base.specs.Numeral.{count_of}
use Rattle.timing_script.specs.Rows.{TextRow, rows_of}
use Rattle.timing_script.specs.declared.offsets.TheConstants.{PROCESSORS}
use Rattle.timing_script.specs.declared.reading.ScriptFault.{ScriptFault}
use Rattle.timing_script.specs.declared.reading.ScriptFault.TheVariants.{ScriptText, Memory}
use Rattle.timing_script.specs.declared.reading.RowFault.{RowFault}
use Rattle.timing_script.specs.declared.reading.RowFault.TheVariants as row

-- an offset more for a processor
abbrev pub pushed : List (List ℕ) → ℕ → ℕ → List (List ℕ)
pushed lists processor offset = set lists processor (get_or lists processor [] ++ offset ∷ [])

abbrev pub known : ℕ → Option ℕ
known n = if nat_le n 255 then Some n else None

abbrev pub processor_of : List ℕ → Option ℕ
processor_of field = option_and_then known (count_of field)

-- the offsets of further fields for a processor
abbrev pub filled : List (List ℕ) → ℕ → List (List ℕ) → Option (List (List ℕ))
filled lists processor [] = Some lists
filled lists processor (f ∷ fs) = option_and_then (λ offset. filled (pushed lists processor offset) processor fs) (count_of f)

-- a row more
abbrev pub taken : List (List ℕ) → List (List ℕ) → Option (List (List ℕ))
taken lists [] = None
taken lists (f ∷ fs) = option_and_then (λ processor. filled lists processor fs) (processor_of f)

-- rows more, or the number of the first line that is not taken
abbrev pub reading_from : List (List ℕ) → List TextRow → Result (List (List ℕ)) ℕ
reading_from lists [] = Ok lists
reading_from lists (r ∷ rs) = elim (taken lists r.fields) [ None ↦ Err r.line | Some next ↦ reading_from next rs ]

abbrev pub reading : List ℕ → Result (List (List ℕ)) ℕ
reading bytes = reading_from (replicate PROCESSORS []) (rows_of bytes)

-- the fields were taken, or they are none, unless memory ran out
abbrev pub Takes : {A : Type 0} → Option (List (List ℕ)) → List (List ℕ) → Result A RowFault → Type 0
Takes wanted now (Ok x) = wanted ≡ Some now
Takes wanted now (Err row.Refused) = wanted ≡ None
Takes wanted now (Err row.Memory) = Unit {0}

-- what was read is the reading, unless memory ran out
abbrev pub Reads : Result (List (List ℕ)) ℕ → Result (List (List ℕ)) ScriptFault → Type 0
Reads wanted (Ok lists) = wanted ≡ Ok lists
Reads wanted (Err (ScriptText line)) = wanted ≡ Err line
Reads wanted (Err Memory) = Unit {0}
