-- How data is read: row by row, field by field.
use Rattle.std.specs.Prelude.{ℕ, ◌≡◌, ◌≤◌, nat_le, if◌then◌else◌, List, [], ◌∷◌, ◌++◌, length, replicate, get_or, slice_get, slice_set}
use Rattle.std.specs.Prelude.{Option, Some, None, Result, Ok, Err, ℤ, pos, ◌⊎◌}
use Rattle.std.specs.Option.{option_and_then}
use Rattle.bm_base.specs.Entry.{Entry}
use Rattle.bm_base.specs.Memory.{Content, Word, Words, initial}
use Rattle.bm_base.specs.Memories.{IsOfKind}
use Rattle.bm_base.specs.declared.names.Kind.{Kind}
use Rattle.bm_base.specs.Names.{has_name_form, place_of}
use Rattle.bm_base.specs.Numeral.{number_of}
use Rattle.timing_script.specs.Rows.{TextRow, rows_of}
use Rattle.timing_script.specs.declared.fault.DataFault.{DataFault}
use Rattle.timing_script.specs.declared.fault.DataFault.TheVariants.{DataText, DataName, DataTwice, DataCount, Memory}
use Rattle.timing_script.specs.declared.fault.RowFault.{RowFault}
use Rattle.timing_script.specs.declared.fault.RowFault.TheVariants as row
use Rattle.timing_script.specs.Data.{Gift, room_of, laid}

-- the values of further fields behind these
abbrev pub gathered : List ℤ → List (List ℕ) → Option (List ℤ)
gathered values [] = Some values
gathered values (f ∷ fs) = option_and_then (λ v. gathered (values ++ v ∷ []) fs) (number_of f)

-- one value at least
abbrev pub gift_by : List ℕ → List ℤ → Option Gift
gift_by name [] = None
gift_by name (v ∷ vs) = Some (record { name = name; values = v ∷ vs })

-- what the fields of a row give
abbrev pub gift_of : List (List ℕ) → Option Gift
gift_of [] = None
gift_of (f ∷ fs) = if has_name_form f then option_and_then (gift_by f) (gathered [] fs) else None

-- a memory, and for each name the line that gave it its values
pub record State : Type 0 where
  pub memory : List Content
  pub firsts : List (Option ℕ)

abbrev pub start : List Entry → State
start names = record { memory = initial names; firsts = replicate (length names) None }

-- values laid over what a name holds
abbrev pub laid_on : Option Content → List ℤ → Content
laid_on (Some held) values = laid held values
laid_on None values = Word (pos 0)

abbrev pub laid_at : List Content → ℕ → List ℤ → List Content
laid_at memory id values = slice_set memory id (laid_on (slice_get memory id) values)

abbrev pub room_at : Option Entry → ℕ
room_at (Some entry) = room_of entry.kind
room_at None = 0

-- where the name has room
abbrev pub counted : List Entry → State → ℕ → Gift → ℕ → Result State DataFault
counted names state line gift id =
    if nat_le (length gift.values) (room_at (slice_get names id))
    then Ok (record { memory = laid_at state.memory id gift.values; firsts = slice_set state.firsts id (Some line) })
    else Err (DataCount line (length gift.values) (room_at (slice_get names id)))

-- where the name has no row yet
abbrev pub placed : List Entry → State → ℕ → Gift → ℕ → Option ℕ → Result State DataFault
placed names state line gift id (Some first) = Err (DataTwice line first)
placed names state line gift id None = counted names state line gift id

-- where the name is declared
abbrev pub named : List Entry → State → ℕ → Gift → Option ℕ → Result State DataFault
named names state line gift None = Err (DataName line)
named names state line gift (Some id) = placed names state line gift id (get_or state.firsts id None)

abbrev pub given : List Entry → State → ℕ → Option Gift → Result State DataFault
given names state line None = Err (DataText line)
given names state line (Some gift) = named names state line gift (place_of gift.name names)

-- a row more
abbrev pub taken : List Entry → State → TextRow → Result State DataFault
taken names state r = given names state r.line (gift_of r.fields)

-- rows more, or the first fault
abbrev pub reading_from : List Entry → State → List TextRow → Result (List Content) DataFault
reading_from names state [] = Ok state.memory
reading_from names state (r ∷ rs) = elim (taken names state r) [ Err fault ↦ Err fault | Ok next ↦ reading_from names next rs ]

abbrev pub reading : List Entry → List ℕ → Result (List Content) DataFault
reading names bytes = reading_from names (start names) (rows_of bytes)

-- ---- what a name holds before values are laid over it

abbrev pub IsHeld : Option Content → Kind → Type 0
IsHeld (Some held) kind = IsOfKind kind held
IsHeld None kind = ⊥

abbrev pub HasKind : List Content → ℕ → Kind → Type 0
HasKind memory id kind = IsHeld (slice_get memory id) kind

abbrev pub HasRoomIn : Option Content → List ℤ → Type 0
HasRoomIn (Some (Words ws)) values = length values ≤ length ws
HasRoomIn (Some (Word w)) values = ⊥
HasRoomIn None values = ⊥

-- the array has as many elements at least
abbrev pub HasRoom : List Content → ℕ → List ℤ → Type 0
HasRoom memory id values = HasRoomIn (slice_get memory id) values

-- ---- what the code's steps answer

-- the values are these, or there are none, unless memory ran out
abbrev pub Finds : {A B : Type 0} → (A → B) → Option B → Result A RowFault → Type 0
Finds shows wanted (Ok x) = wanted ≡ Some (shows x)
Finds shows wanted (Err row.Refused) = wanted ≡ None
Finds shows wanted (Err row.Memory) = Unit {0}

-- the row was taken, or it has this fault, unless memory ran out
abbrev pub Takes : {A B : Type 0} → Result B DataFault → B → Result A DataFault → Type 0
Takes wanted now (Ok x) = wanted ≡ Ok now
Takes wanted now (Err fault) = (wanted ≡ Err fault) ⊎ (fault ≡ Memory)

-- what was read is the reading, unless memory ran out
abbrev pub Reads : Result (List Content) DataFault → Result (List Content) DataFault → Type 0
Reads wanted (Ok memory) = wanted ≡ Ok memory
Reads wanted (Err fault) = (wanted ≡ Err fault) ⊎ (fault ≡ Memory)
