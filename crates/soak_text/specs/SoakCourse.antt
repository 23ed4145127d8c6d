-- What a command that soaks asks for, and what it comes to: no file, and the text.
use Rattle.std.specs.Prelude.{ℕ, ◌≡◌, ◌≤◌, Result, Ok, Err}
use Rattle.bm_base.specs.declared.limits.TheConstants.{MOST_STATEMENTS}
use Rattle.bm_io.specs.Files.{Held}
use Rattle.bm_course.specs.Course.{Refused, Output, Product, text_only, Course, judge}
use Rattle.bm_course.specs.Laws.{IsDetermined, Settles}
use Rattle.soak_text.specs.Soak.{IsSoak}

-- the text of a soak, and no refusal
abbrev pub Soaks : ℕ → ℕ → Result Product Refused → Type 0
Soaks seed statements (Ok p) = (text : Output) × IsSoak seed statements text × (p ≡ text_only text)
Soaks seed statements (Err r) = ⊥

abbrev pub soak_course : ℕ → ℕ → Course Product
soak_course seed statements = judge (Soaks seed statements)

-- it comes to at most one step
abbrev pub SoaksHaveOneStep : Type 0
SoaksHaveOneStep = (seed statements : ℕ) → IsDetermined (soak_course seed statements)

-- .. and to one, whatever the held files hold
abbrev pub SoaksSettle : Type 0
SoaksSettle = (held : Held) (seed statements : ℕ) → statements ≤ MOST_STATEMENTS → Settles held (soak_course seed statements)
