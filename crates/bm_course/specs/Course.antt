-- What a command asks for, file by file, and what it comes to.
use Rattle.std.specs.Prelude.{ℕ, ◌≡◌, ◌+◌, ◌≤◌, List, [], ◌∷◌, length, Option, None, Result, Ok, Err}
use Rattle.bm_io.specs.Files.{Held, Reads}

-- a refusal: its status, and its line, which is one write
pub record Refused : Type 0 where
  pub status : ℕ
  pub line : List ℕ

-- a text: its status, and its lines, one write each
pub record Output : Type 0 where
  pub status : ℕ
  pub lines : List (List ℕ)

-- a file that is put or replaced
pub record NewFile : Type 0 where
  pub name : List ℕ
  pub bytes : List ℕ

-- what a command writes: perhaps a file, and then a text
pub record Product : Type 0 where
  pub file : Option NewFile
  pub text : Output

-- a text alone
abbrev pub text_only : Output → Product
text_only text = record { file = None; text = text }

-- It asks for a file, up to so many bytes and one more; or it refuses; or it gives a value, and the contents that are left.
pub data Step (A : Type 0) : Type 0 where
  Asks : List ℕ → ℕ → Step A
  Refuses : Refused → Step A
  Gives : A → List (List ℕ) → Step A

-- A course says to which steps the contents of the files read so far, in order, may come.
abbrev pub Course : Type 0 → Type 1
Course A = List (List ℕ) → Step A → Type 0

-- the next file, up to so many bytes and one more
abbrev pub file : List ℕ → ℕ → Course (List ℕ)
file name most [] s = s ≡ Asks name most
file name most (bytes ∷ rest) s = s ≡ Gives bytes rest

abbrev pub refuse : {A : Type 0} → Refused → Course A
refuse r = λ contents s. s ≡ Refuses r

abbrev pub give : {A : Type 0} → A → Course A
give x = λ contents s. s ≡ Gives x contents

-- a value or a refusal, as this relation has it
pub data Judged {A : Type 0} (P : Result A Refused → Type 0) (contents : List (List ℕ)) (s : Step A) : Type 0 where
  accepted : (x : A) → P (Ok x) → s ≡ Gives x contents → Judged P contents s
  rejected : (r : Refused) → P (Err r) → s ≡ Refuses r → Judged P contents s

abbrev pub judge : {A : Type 0} → (Result A Refused → Type 0) → Course A
judge P = λ contents s. Judged P contents s

-- one step, and behind its value another course
pub data Then {A B : Type 0} (here : Step A → Type 0) (f : A → Course B) (s : Step B) : Type 0 where
  asks : (name : List ℕ) (most : ℕ) → here (Asks name most) → s ≡ Asks name most → Then here f s
  refuses : (r : Refused) → here (Refuses r) → s ≡ Refuses r → Then here f s
  gives : (x : A) (rest : List (List ℕ)) → here (Gives x rest) → f x rest s → Then here f s

infixl 10 ◌>>=◌
abbrev pub ◌>>=◌ : {A B : Type 0} → Course A → (A → Course B) → Course B
m >>= f = λ contents s. Then (m contents) f s

-- These contents were read, one after another, from the files of these names, as the course asked.
abbrev pub IsReading : {A : Type 0} → Option Held → Course A → List (List ℕ) → List (List ℕ) → Type 0
IsReading told course [] [] = Unit {0}
IsReading told course (bytes ∷ contents) (name ∷ names) = (most : ℕ) × course [] (Asks name most) × Reads told name most bytes
    × (length bytes ≤ most + 1)
    × IsReading told (λ rest. course (bytes ∷ rest)) contents names
IsReading told course [] (name ∷ names) = ⊥
IsReading told course (bytes ∷ contents) [] = ⊥
