-- The command table: what the words of a command line ask for.
use Rattle.std.specs.Prelude.{ℕ, nat_eq, drop, List, [], ◌∷◌, Option, Some, None, if◌then◌else◌, nat_le, ◌^◌, ◌-◌, length, codes}
use Rattle.std.specs.Option.{option_map}
use Rattle.std.specs.Str.{bytes_eq}
use Rattle.std.specs.List.{starts_with}
use Rattle.bm_base.specs.declared.limits.TheConstants.{MOST_TURNS, MOST_BUDGET, MOST_STATEMENTS}
use Rattle.bm_base.specs.Numeral.{count_to}

-- the default machine, or one that a file describes
pub data MachineOf : Type 0 where
  Default : MachineOf
  MachineFile : (name : List ℕ) → MachineOf

-- the static unit, or the dynamic one
pub data UnitOf : Type 0 where
  Static : UnitOf
  Dynamic : UnitOf

-- each time of an instruction is its least, or its greatest, or by a seed, or by the script of a file
pub data ScriptOf : Type 0 where
  Least : ScriptOf
  Most : ScriptOf
  Seed : (n : ℕ) → ScriptOf
  ScriptFile : (name : List ℕ) → ScriptOf

-- the declared memory, or that with the values of a file laid over it
pub data DataOf : Type 0 where
  Declared : DataOf
  DataFile : (name : List ℕ) → DataOf

-- on which unit a run goes, with which durations, from which memory and for how many ticks
pub record RunWordsOf : Type 0 where
  pub unit : UnitOf
  pub script : ScriptOf
  pub given : DataOf
  pub budget : ℕ

-- a row of the table: the file of a program or of an image, or the number that a program is made from, and what else its words say
pub data Request : Type 0 where
  EvalOf : (program : List ℕ) (given : DataOf) (turns : ℕ) → Request
  GoOf : (program : List ℕ) (machine : MachineOf) (run : RunWordsOf) → Request
  CompileOf : (program : List ℕ) (machine : MachineOf) (out : List ℕ) → Request
  ShowOf : (program : List ℕ) (machine : MachineOf) → Request
  RunOf : (image : List ℕ) (run : RunWordsOf) → Request
  TraceOf : (image : List ℕ) (run : RunWordsOf) → Request
  CheckOf : (image : List ℕ) → Request
  SoakOf : (seed statements : ℕ) → Request

infixl 10 ◌>>=◌
abbrev pub ◌>>=◌ : {A B : Type 0} → Option A → (A → Option B) → Option B
None >>= f = None
(Some x) >>= f = f x

-- a name is any word that is not empty
unfoldable pub name_of : List ℕ → Option (List ℕ)
name_of [] = None
name_of (b ∷ bs) = Some (b ∷ bs)

-- file:NAME
unfoldable pub file_of : List ℕ → Option (List ℕ)
file_of word = if starts_with nat_eq word (codes "file:") then name_of (drop 5 word) else None

-- 1 to 20 digits of a number in range
unfoldable pub number_of_word : ℕ → List ℕ → Option ℕ
number_of_word most word = if nat_le (length word) 20 then count_to most word else None

-- default | file:NAME
unfoldable pub machine_of : List ℕ → Option MachineOf
machine_of word = if bytes_eq word (codes "default") then Some Default else option_map MachineFile (file_of word)

-- sbm | dbm
unfoldable pub unit_of : List ℕ → Option UnitOf
unit_of word = if bytes_eq word (codes "sbm") then Some Static else (if bytes_eq word (codes "dbm") then Some Dynamic else None)

-- seed:N
unfoldable pub seed_of : List ℕ → Option ℕ
seed_of word = if starts_with nat_eq word (codes "seed:") then number_of_word (2 ^ 64 - 1) (drop 5 word) else None

-- a seed, or else the file
abbrev pub seed_else : Option (List ℕ) → Option ℕ → Option ScriptOf
seed_else file (Some n) = Some (Seed n)
seed_else file None = option_map ScriptFile file

-- seed:N | file:NAME
unfoldable pub further_script_of : List ℕ → Option ScriptOf
further_script_of word = seed_else (file_of word) (seed_of word)

-- least | most | seed:N | file:NAME
unfoldable pub script_of : List ℕ → Option ScriptOf
script_of word = if bytes_eq word (codes "least") then Some Least else (if bytes_eq word (codes "most") then Some Most
    else further_script_of word)

-- none | file:NAME
unfoldable pub data_of : List ℕ → Option DataOf
data_of word = if bytes_eq word (codes "none") then Some Declared else option_map DataFile (file_of word)

-- eval PROG DATA TURNS
abbrev pub eval_of : List (List ℕ) → Option Request
eval_of (program ∷ given ∷ turns ∷ []) = do
  p ← name_of program
  d ← data_of given
  t ← number_of_word MOST_TURNS turns
  Some (EvalOf p d t)
eval_of _ = None

-- UNIT SCRIPT DATA BUDGET
unfoldable pub run_words_of : List (List ℕ) → Option RunWordsOf
run_words_of (unit ∷ script ∷ given ∷ budget ∷ []) = do
  u ← unit_of unit
  s ← script_of script
  d ← data_of given
  b ← number_of_word MOST_BUDGET budget
  Some (record { unit = u; script = s; given = d; budget = b })
run_words_of _ = None

-- go PROG MACH UNIT SCRIPT DATA BUDGET
abbrev pub go_of : List (List ℕ) → Option Request
go_of (program ∷ machine ∷ rest) = do
  p ← name_of program
  m ← machine_of machine
  r ← run_words_of rest
  Some (GoOf p m r)
go_of _ = None

-- compile PROG MACH OUT
abbrev pub compile_of : List (List ℕ) → Option Request
compile_of (program ∷ machine ∷ out ∷ []) = do
  p ← name_of program
  m ← machine_of machine
  o ← name_of out
  Some (CompileOf p m o)
compile_of _ = None

-- show PROG MACH
abbrev pub show_of : List (List ℕ) → Option Request
show_of (program ∷ machine ∷ []) = do
  p ← name_of program
  m ← machine_of machine
  Some (ShowOf p m)
show_of _ = None

-- run IMAGE UNIT SCRIPT DATA BUDGET
abbrev pub run_of : List (List ℕ) → Option Request
run_of (image ∷ rest) = do
  i ← name_of image
  r ← run_words_of rest
  Some (RunOf i r)
run_of _ = None

-- trace IMAGE UNIT SCRIPT DATA BUDGET
abbrev pub trace_of : List (List ℕ) → Option Request
trace_of (image ∷ rest) = do
  i ← name_of image
  r ← run_words_of rest
  Some (TraceOf i r)
trace_of _ = None

-- check IMAGE
abbrev pub check_of : List (List ℕ) → Option Request
check_of (image ∷ []) = do
  i ← name_of image
  Some (CheckOf i)
check_of _ = None

-- soak SEED STATEMENTS
abbrev pub soak_of : List (List ℕ) → Option Request
soak_of (seed ∷ statements ∷ []) = do
  s ← number_of_word (2 ^ 64 - 1) seed
  n ← number_of_word MOST_STATEMENTS statements
  Some (SoakOf s n)
soak_of _ = None

-- what the words ask for, none where they match no row
abbrev pub request_of : List (List ℕ) → Option Request
request_of [] = None
request_of (verb ∷ words) =
    if bytes_eq verb (codes "eval") then eval_of words else
    (if bytes_eq verb (codes "go") then go_of words else
    (if bytes_eq verb (codes "compile") then compile_of words else
    (if bytes_eq verb (codes "show") then show_of words else
    (if bytes_eq verb (codes "run") then run_of words else
    (if bytes_eq verb (codes "trace") then trace_of words else
    (if bytes_eq verb (codes "check") then check_of words else
    (if bytes_eq verb (codes "soak") then soak_of words else None)))))))
