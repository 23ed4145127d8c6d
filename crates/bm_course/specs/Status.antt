-- What each status stands for: the one table of the numbers with which a call ends.
use Rattle.std.specs.Prelude.{ℕ, ◌≡◌, ◌⊎◌, List, [], ◌∷◌, Option, Some, slice_get}

-- what a status is the answer to
pub data Kind : Type 0 where
  Ended : Kind
  OfWords : Kind
  OfContent : Kind
  OfRead : Kind
  OfWrite : Kind
  OfMemory : Kind

-- From 0 up: ended or done; usage; source, limit, machine file, image, script, data; still going; a read, a write, and want of memory.
abbrev pub kinds : List Kind
kinds = Ended ∷ OfWords ∷ OfContent ∷ OfContent ∷ OfContent ∷ OfContent ∷ OfContent ∷ OfContent ∷ Ended ∷ OfRead ∷ OfWrite ∷ OfMemory ∷ []

-- none where no call ends so
abbrev pub kind_of : ℕ → Option Kind
kind_of status = slice_get kinds status

abbrev pub Is : Kind → ℕ → Type 0
Is kind status = kind_of status ≡ Some kind

-- the whole text was written
abbrev pub HasEnded : ℕ → Type 0
HasEnded status = Is Ended status

-- a content is refused
abbrev pub IsOfContent : ℕ → Type 0
IsOfContent status = Is OfContent status

-- words or a content are refused
abbrev pub IsRefusal : ℕ → Type 0
IsRefusal status = Is OfWords status ⊎ Is OfContent status

-- it is one of the table
abbrev pub IsStatus : ℕ → Type 0
IsStatus status = (kind : Kind) × Is kind status
