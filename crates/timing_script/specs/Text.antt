-- The text of a script: a row for a processor, its number and then offsets.
use Rattle.std.specs.Prelude.{ℕ, ◌≡◌, ◌==◌, ◌<◌, ◌≤◌, if◌then◌else◌, List, [], ◌∷◌, ◌++◌, length, map, get_or, Some}
use Rattle.std.specs.List.{AllByRecursion}
use Rattle.bm_base.specs.Numeral.{count_of}
use Rattle.timing_script.specs.Rows.{TextRow, rows_of}
use Rattle.timing_script.specs.declared.reading.ScriptFault.{ScriptFault}
use Rattle.timing_script.specs.declared.reading.ScriptFault.TheVariants.{ScriptText, Memory}
use Rattle.timing_script.specs.declared.script.Script.{Script}
use Rattle.timing_script.specs.declared.script.Script.TheVariants.{Least, Most, Seed, File}

-- offsets that are given to a processor
pub record Gift : Type 0 where
  pub processor : ℕ
  pub offsets : List ℕ

-- the first field is the processor's number, from 0 to 255, and each further field is an offset
pub record Gives (fields : List (List ℕ)) (gift : Gift) : Type 0 where
  pub first : List ℕ
  pub further : List (List ℕ)
  pub fields_are : fields ≡ first ∷ further
  pub processor : count_of first ≡ Some gift.processor
  pub known : gift.processor ≤ 255
  pub offsets : map count_of further ≡ map Some gift.offsets

-- each row gives one of these
abbrev pub GiveAll : List TextRow → List Gift → Type 0
GiveAll [] [] = Unit {0}
GiveAll [] (g ∷ gs) = ⊥
GiveAll (r ∷ rs) [] = ⊥
GiveAll (r ∷ rs) (g ∷ gs) = Gives r.fields g × GiveAll rs gs

-- all offsets that are given to a processor, one row's behind another's
abbrev pub offsets_for : ℕ → List Gift → List ℕ
offsets_for p [] = []
offsets_for p (g ∷ gs) = if g.processor == p then g.offsets ++ offsets_for p gs else offsets_for p gs

-- the bytes are a script's text, and these are its offsets, processor by processor
pub record IsTextOf (bytes : List ℕ) (lists : List (List ℕ)) : Type 0 where
  pub gifts : List Gift
  pub rows : GiveAll (rows_of bytes) gifts
  pub count : length lists ≡ 256
  pub each : (p : ℕ) → p < 256 → get_or lists p [] ≡ offsets_for p gifts

abbrev pub IsScriptOf : List ℕ → Script → Type 0
IsScriptOf bytes (File lists) = IsTextOf bytes lists
IsScriptOf bytes Least = ⊥
IsScriptOf bytes Most = ⊥
IsScriptOf bytes (Seed n) = ⊥

-- a row of a script
abbrev pub IsAllowed : TextRow → Type 0
IsAllowed row = (gift : Gift) × Gives row.fields gift

-- the line of this number is no row of a script, and each row before it is one
pub record IsFirstWrong (bytes : List ℕ) (line : ℕ) : Type 0 where
  pub before : List TextRow
  pub row : TextRow
  pub behind : List TextRow
  pub rows : rows_of bytes ≡ before ++ row ∷ behind
  pub lawful : AllByRecursion IsAllowed before
  pub wrong : IsAllowed row → ⊥
  pub number : row.line ≡ line

-- what a refusal tells
abbrev pub IsFault : List ℕ → ScriptFault → Type 0
IsFault bytes (ScriptText line) = IsFirstWrong bytes line
IsFault bytes Memory = Unit {0}
