-- The text of data: a row for a name, the name and then its values.
use Rattle.std.specs.Prelude.{ℕ, ◌≡◌, ◌≤◌, ◌<◌, Bool, true, false, if◌then◌else◌, List, [], ◌∷◌, ◌++◌, length, map, drop}
use Rattle.std.specs.Prelude.{slice_get, Option, Some, None, ℤ}
use Rattle.std.specs.Str.{bytes_eq}
use Rattle.bm_base.specs.Entry.{Entry}
use Rattle.bm_base.specs.declared.names.Kind.{Kind}
use Rattle.bm_base.specs.declared.names.Kind.TheVariants.{Var, Array}
use Rattle.bm_base.specs.Memory.{Content, Word, Words, declared_content}
use Rattle.bm_base.specs.Names.{has_name_form, place_of}
use Rattle.bm_base.specs.Numeral.{number_of}
use Rattle.timing_script.specs.Rows.{TextRow, rows_of}
use Rattle.timing_script.specs.declared.fault.DataFault.{DataFault}
use Rattle.timing_script.specs.declared.fault.DataFault.TheVariants.{DataText, DataName, DataTwice, DataCount, Memory}

-- values that are given to a name
pub record Gift : Type 0 where
  pub name : List ℕ
  pub values : List ℤ

-- the first field is the name, and each further field is a value; there is one value at least
pub record Gives (fields : List (List ℕ)) (gift : Gift) : Type 0 where
  pub further : List (List ℕ)
  pub fields_are : fields ≡ gift.name ∷ further
  pub form : has_name_form gift.name ≡ true
  pub some : 1 ≤ length gift.values
  pub values : map number_of further ≡ map Some gift.values

-- ---- where a row may stand

abbrev pub is_of : List ℕ → List (List ℕ) → Bool
is_of name [] = false
is_of name (f ∷ fs) = bytes_eq name f

-- the line of the first row of this name
abbrev pub first_line : List ℕ → List TextRow → Option ℕ
first_line name [] = None
first_line name (r ∷ rs) = if is_of name r.fields then Some r.line else first_line name rs

-- a variable takes one value, an array up to its length
abbrev pub room_of : Kind → ℕ
room_of (Var initial) = 1
room_of (Array len) = len

-- the name is declared, so
pub record IsDeclared (names : List Entry) (name : List ℕ) (entry : Entry) : Type 0 where
  pub id : ℕ
  pub place : place_of name names ≡ Some id
  pub here : slice_get names id ≡ Some entry

-- behind these rows, the row gives this to a declared name that has room for it and has no row yet
pub record Stands (names : List Entry) (before : List TextRow) (row : TextRow) (gift : Gift) : Type 0 where
  pub gives : Gives row.fields gift
  pub entry : Entry
  pub declared : IsDeclared names gift.name entry
  pub fresh : first_line gift.name before ≡ None
  pub fits : length gift.values ≤ room_of entry.kind

-- behind these rows, each further row gives one of these
abbrev pub StandAll : List Entry → List TextRow → List TextRow → List Gift → Type 0
StandAll names before [] [] = Unit {0}
StandAll names before [] (g ∷ gs) = ⊥
StandAll names before (r ∷ rs) [] = ⊥
StandAll names before (r ∷ rs) (g ∷ gs) = Stands names before r g × StandAll names (before ++ r ∷ []) rs gs

-- ---- the memory

-- the values that a name is given, if any
abbrev pub values_for : List ℕ → List Gift → List ℤ
values_for name [] = []
values_for name (g ∷ gs) = if bytes_eq name g.name then g.values else values_for name gs

-- values laid over what a name holds, from its first element on
abbrev pub laid : Content → List ℤ → Content
laid (Word w) [] = Word w
laid (Word w) (v ∷ vs) = Word v
laid (Words ws) vs = Words (vs ++ drop (length vs) ws)

-- the declared memory, with these values laid over it
abbrev pub memory_of : List Entry → List Gift → List Content
memory_of names gifts = map (λ e. laid (declared_content e.kind) (values_for e.name gifts)) names

-- the bytes are data for these names, and this is the memory that they give
pub record IsDataOf (names : List Entry) (bytes : List ℕ) (memory : List Content) : Type 0 where
  pub gifts : List Gift
  pub rows : StandAll names [] (rows_of bytes) gifts
  pub laid_over : memory ≡ memory_of names gifts

-- ---- faults

-- the row gives values to a name that is declared so and has a row already
pub record IsTwice (names : List Entry) (before : List TextRow) (row : TextRow) (first : ℕ) : Type 0 where
  pub gift : Gift
  pub gives : Gives row.fields gift
  pub entry : Entry
  pub declared : IsDeclared names gift.name entry
  pub given : first_line gift.name before ≡ Some first

-- the row gives more values than there is room for to a name that has no row yet
pub record IsOver (names : List Entry) (before : List TextRow) (row : TextRow) (given room : ℕ) : Type 0 where
  pub gift : Gift
  pub gives : Gives row.fields gift
  pub entry : Entry
  pub declared : IsDeclared names gift.name entry
  pub fresh : first_line gift.name before ≡ None
  pub count : given ≡ length gift.values
  pub room_is : room ≡ room_of entry.kind
  pub over : room < given

-- behind these rows, the row has this fault
abbrev pub IsWrong : List Entry → List TextRow → TextRow → DataFault → Type 0
IsWrong names before row (DataText line) = (row.line ≡ line) × ((gift : Gift) → Gives row.fields gift → ⊥)
IsWrong names before row (DataName line) = (row.line ≡ line) × ((gift : Gift) × (Gives row.fields gift × (place_of gift.name names ≡ None)))
IsWrong names before row (DataTwice line first) = (row.line ≡ line) × IsTwice names before row first
IsWrong names before row (DataCount line given room) = (row.line ≡ line) × IsOver names before row given room
IsWrong names before row Memory = ⊥

-- the first row that has a fault has this one
pub record IsFirstFault (names : List Entry) (bytes : List ℕ) (fault : DataFault) : Type 0 where
  pub before : List TextRow
  pub row : TextRow
  pub behind : List TextRow
  pub gifts : List Gift
  pub rows : rows_of bytes ≡ before ++ row ∷ behind
  pub lawful : StandAll names [] before gifts
  pub wrong : IsWrong names before row fault
