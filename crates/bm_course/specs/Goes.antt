-- How a call of the program goes.
use Rattle.std.specs.Prelude.{ℕ, ◌≡◌, ◌≤◌, ◌<◌, ◌⊎◌, List, [], ◌∷◌, ◌++◌, length, Some}
use Rattle.bm_io.specs.Causes.{Rose, next_call}
use Rattle.bm_io.specs.LineValues.{TakesPrefix}
use Rattle.bm_io.specs.Sink.{Taken, written, tried, Takes, TakesWhole, TakesPart}
use Rattle.bm_course.specs.declared.status.TheConstants.{UNWRITTEN, MEMORY}
use Rattle.bm_course.specs.declared.reporting.TheConstants.{SHORT_LINE}
use Rattle.bm_course.specs.Course.{Refused, NewFile, Product, Asks, Refuses, Gives, Course, IsReading}
use Rattle.bm_course.specs.Seen.{SinkSeen, Seen, Later, Asked, Stands, Untouched}
use Rattle.bm_course.specs.Lines.{cannot_read, cannot_write_file, cannot_write, no_memory}

-- one write took the whole line
abbrev pub TakesLine : Taken → Taken → List ℕ → Type 0
TakesLine before now line = now ≡ written before line

-- there was one write
abbrev pub WritesOnce : Taken → Taken → Type 0
WritesOnce before now = now.writes ≡ next_call before.writes

-- The line of a refusal was sent, in one write, and this is the status.
pub data Told (before now : SinkSeen) (r : Refused) (status : ℕ) : Type 0 where
  -- the write took the line: the refusal has its own status
  whole : TakesLine before.taken now.taken r.line → status ≡ r.status → Told before now r status
  -- the write failed, behind a prefix of the line
  part : TakesPrefix before.taken now.taken r.line → Rose before.faults now.faults → status ≡ UNWRITTEN → Told before now r status
  -- the write found no memory, and took nothing
  nothing : now.taken ≡ tried before.taken → status ≡ MEMORY → Told before now r status

-- A refusal was told, and no count of faults fell.
pub record Reported (before now : SinkSeen) (r : Refused) (status : ℕ) : Type 0 where
  pub line : Told before now r status
  pub later : before.faults ≤ now.faults

-- a line that is put together in memory
abbrev pub IsLong : List ℕ → Type 0
IsLong line = SHORT_LINE < length line

-- The refusal was told; or its line is long, there was no memory to make it, and this was told in its place.
abbrev pub ReportedOrStarved : SinkSeen → SinkSeen → Refused → ℕ → Type 0
ReportedOrStarved before now r status = Reported before now r status ⊎ (IsLong r.line × Reported before now no_memory status)

-- neither a held file nor the output was touched
abbrev pub Rests : Seen → Seen → Type 0
Rests before now = Untouched before.files now.files before.out now.out

-- the name that comes next: of a file that the course reads, or of the one that it writes
pub data IsNext (course : Course Product) (contents : List (List ℕ)) : List ℕ → Type 0 where
  to_read : (name : List ℕ) (most : ℕ) → course contents (Asks name most) → IsNext course contents name
  to_write : (p : Product) (file : NewFile) → course contents (Gives p []) → p.file ≡ Some file → IsNext course contents file.name

-- A call met this refusal, behind these contents of the files of these names.
pub data Meets (before now : Seen) (course : Course Product) (contents names : List (List ℕ)) (r : Refused) : Type 0 where
  -- the words or a content refuse, before the writes
  refused : course contents (Refuses r) → Asked before.files now.files names → Rests before now → Meets before now course contents names r
  -- the next file was asked for, and its read failed
  unread : (name : List ℕ) (most : ℕ) → course contents (Asks name most) → Asked before.files now.files (names ++ name ∷ [])
      → Rose before.files.faults now.files.faults → Rests before now → r ≡ cannot_read name → Meets before now course contents names r
  -- the write of the file failed
  unwritten_file : (p : Product) (file : NewFile) → course contents (Gives p []) → p.file ≡ Some file
      → Asked before.files now.files (names ++ file.name ∷ [])
      → Rose before.files.faults now.files.faults → Rests before now → r ≡ cannot_write_file file.name
      → Meets before now course contents names r
  -- a write of a line failed
  unwritten : (p : Product) → course contents (Gives p []) → Stands before.files now.files names p.file
      → TakesPart before.out.taken now.out.taken p.text.lines
      → Rose before.out.faults now.out.faults → r ≡ cannot_write → Meets before now course contents names r
  -- want of memory before the text
  starved : Asked before.files now.files names ⊎ ((name : List ℕ) × IsNext course contents name
      × Asked before.files now.files (names ++ name ∷ []))
      → Rests before now → r ≡ no_memory → Meets before now course contents names r
  -- want of memory at the text, behind some whole lines
  starved_writing : (p : Product) → course contents (Gives p []) → Stands before.files now.files names p.file
      → TakesWhole before.out.taken now.out.taken p.text.lines
      → r ≡ no_memory → Meets before now course contents names r

pub data Ending (before now : Seen) (course : Course Product) (contents names : List (List ℕ)) (status : ℕ) : Type 0 where
  -- the file and the whole text were written
  done : (p : Product) → course contents (Gives p []) → Stands before.files now.files names p.file
      → Takes before.out.taken now.out.taken p.text.lines
      → now.err ≡ before.err → status ≡ p.text.status → Ending before now course contents names status
  -- a refusal was met, and its line was sent, or, if it is long, that of want of memory
  told : (r : Refused) → Meets before now course contents names r → ReportedOrStarved before.err now.err r status
      → Ending before now course contents names status

-- The contents were read from the files of these names, as the course asked, and so it ended.
pub record Goes (before now : Seen) (course : Course Product) (status : ℕ) : Type 0 where
  pub contents : List (List ℕ)
  pub names : List (List ℕ)
  pub reading : IsReading before.files.held course contents names
  pub ending : Ending before now course contents names status
  pub later : Later before now
