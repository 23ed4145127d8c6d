-- A file of a kind that has a limit of length.
use Rattle.std.specs.Prelude.{ℕ, ◌≡◌, ◌≤◌, ◌<◌, ◌+◌, ◌⊎◌, Vec, List, length, Result, Ok, Err}
use Rattle.std.specs.declared.alloc.Global.{Global}
use Rattle.std.specs.Borrow.{Bor}
use Rattle.bm_course.specs.declared.refusal.Refusal.TheVariants.{TooLong}
use Rattle.bm_course.specs.declared.refusal.Stop.{Stop}
use Rattle.bm_course.specs.declared.refusal.Stop.TheVariants.{Refused as Refusing, Unread, Memory}
use Rattle.bm_course.specs.Course.{Refused, Course, ◌>>=◌, file, judge}
use Rattle.bm_course.specs.Lines.{too_long}

-- the bytes, where they are at most so many, or the file is too long
abbrev pub Fits : List ℕ → ℕ → List ℕ → Result (List ℕ) Refused → Type 0
Fits name most bytes (Ok content) = (content ≡ bytes) × (length bytes ≤ most)
Fits name most bytes (Err r) = (r ≡ too_long name most) × (most < length bytes)

-- the content of a file of at most so many bytes
abbrev pub limited : List ℕ → ℕ → Course (List ℕ)
limited name most = do
  bytes ← file name most
  judge (Fits name most bytes)

-- the bytes of a file, as the code keeps them
abbrev pub IsContent : Vec ℕ Global → List ℕ → Type 0
IsContent bytes content = bytes.items ≡ content

-- the file of this name cannot be read, or there is no memory
abbrev pub IsReadFault : Bor (List ℕ) → Stop → Type 0
IsReadFault name stop = (stop ≡ Unread name) ⊎ (stop ≡ Memory)

-- What is refused is that the file of this name is longer than so many bytes: one more was read of it.
abbrev pub IsLimit : Bor (List ℕ) → ℕ → Stop → Type 0
IsLimit name most stop = (stop ≡ Refusing (TooLong name (most + 1) most)) ⊎ IsReadFault name stop
