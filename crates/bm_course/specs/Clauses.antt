-- What a call comes to, said of each status and of what the held files lead to.
use Rattle.std.specs.Prelude.{ℕ, ◌≡◌, ◌⊎◌, List, [], ◌∷◌, ◌++◌, Some}
use Rattle.bm_io.specs.Causes.{Rose}
use Rattle.bm_io.specs.Files.{Held}
use Rattle.bm_io.specs.LineValues.{TakesPrefix}
use Rattle.bm_io.specs.Sink.{tried, Takes, TakesPart, TakesWhole}
use Rattle.bm_course.specs.declared.status.TheConstants.{UNWRITTEN}
use Rattle.bm_course.specs.Course.{Refused, NewFile, Product, Step, Asks, Refuses, Gives, Course, IsReading}
use Rattle.bm_course.specs.Lines.{no_memory, cannot_read, cannot_write, cannot_write_file}
use Rattle.bm_course.specs.Seen.{Seen, Asked, Stands}
use Rattle.bm_course.specs.Goes.{TakesLine, IsLong, ReportedOrStarved, Rests, Meets}

-- The course came to a product, the whole of it was written, and this is its status.
pub record HasWritten (before now : Seen) (course : Course Product) (status : ℕ) : Type 0 where
  pub contents : List (List ℕ)
  pub names : List (List ℕ)
  pub reading : IsReading before.files.held course contents names
  pub product : Product
  pub gives : course contents (Gives product [])
  pub files : Stands before.files now.files names product.file
  pub out : Takes before.out.taken now.out.taken product.text.lines
  pub err : now.err ≡ before.err
  pub status_is : status ≡ product.text.status

-- The course came to a refusal, and its whole line was written, in one write.
pub record IsRefused (before now : Seen) (course : Course Product) (status : ℕ) : Type 0 where
  pub contents : List (List ℕ)
  pub names : List (List ℕ)
  pub reading : IsReading before.files.held course contents names
  pub refusal : Refused
  pub refuses : course contents (Refuses refusal)
  pub asked : Asked before.files now.files names
  pub rests : Rests before now
  pub err : TakesLine before.err.taken now.err.taken refusal.line
  pub status_is : status ≡ refusal.status

-- The course asked for a file, its read failed, and that was told. It is the last of the names asked.
pub record IsUnread (before now : Seen) (course : Course Product) : Type 0 where
  pub contents : List (List ℕ)
  pub names : List (List ℕ)
  pub reading : IsReading before.files.held course contents names
  pub name : List ℕ
  pub most : ℕ
  pub asks : course contents (Asks name most)
  pub asked : Asked before.files now.files (names ++ name ∷ [])
  pub rose : Rose before.files.faults now.files.faults
  pub rests : Rests before now
  pub err : TakesLine before.err.taken now.err.taken (cannot_read name).line

-- A write failed: one of the file or of the text, which was told, or one of the line of this refusal, or of want of memory in the place of
-- a long one.
pub record IsUnwritten (before now : Seen) (course : Course Product) : Type 0 where
  pub contents : List (List ℕ)
  pub names : List (List ℕ)
  pub reading : IsReading before.files.held course contents names
  pub refusal : Refused
  pub meets : Meets before now course contents names refusal
  pub err : ((refusal.status ≡ UNWRITTEN) × TakesLine before.err.taken now.err.taken refusal.line)
      ⊎ (TakesPrefix before.err.taken now.err.taken refusal.line × Rose before.err.faults now.err.faults)
      ⊎ (IsLong refusal.line × TakesPrefix before.err.taken now.err.taken no_memory.line × Rose before.err.faults now.err.faults)

-- There was no memory: before the text, behind some of its lines, or for the long line of this refusal, which was told; or for the write
-- of the line that told it.
pub record IsStarved (before now : Seen) (course : Course Product) : Type 0 where
  pub contents : List (List ℕ)
  pub names : List (List ℕ)
  pub reading : IsReading before.files.held course contents names
  pub refusal : Refused
  pub meets : Meets before now course contents names refusal
  pub err : (((refusal ≡ no_memory) ⊎ IsLong refusal.line) × TakesLine before.err.taken now.err.taken no_memory.line)
      ⊎ (now.err.taken ≡ tried before.err.taken)

-- The held files, asked for by these names one after another, lead the course to this step.
pub record Leads (held : Held) (course : Course Product) (names : List (List ℕ)) (s : Step Product) : Type 0 where
  pub contents : List (List ℕ)
  pub reading : IsReading (Some held) course contents names
  pub comes : course contents s

-- the refusal is reported at the end of the call, or want of memory in the place of a long one
abbrev pub Reports : Seen → Seen → Refused → ℕ → Type 0
Reports before now r status = ReportedOrStarved before.err now.err r status

-- A read fault, or want of memory, comes before the writes.
pub data IsCut (before now : Seen) (status : ℕ) : Type 0 where
  by_read : (name : List ℕ) → Rose before.files.faults now.files.faults → Rests before now
      → Reports before now (cannot_read name) status → IsCut before now status
  by_memory : Rests before now → Reports before now no_memory status → IsCut before now status

-- This refusal is reported, if no such thing comes before it.
pub data Refusing (before now : Seen) (names : List (List ℕ)) (r : Refused) (status : ℕ) : Type 0 where
  told_it : Asked before.files now.files names → Rests before now → Reports before now r status → Refusing before now names r status
  cut_before : IsCut before now status → Refusing before now names r status

-- This product is written, if no such thing comes before it and no write is refused.
pub data Writing (before now : Seen) (names : List (List ℕ)) (p : Product) (status : ℕ) : Type 0 where
  wrote_it : Stands before.files now.files names p.file → Takes before.out.taken now.out.taken p.text.lines → now.err ≡ before.err
      → status ≡ p.text.status
      → Writing before now names p status
  wrote_no_file : (file : NewFile) → p.file ≡ Some file → Rose before.files.faults now.files.faults → Rests before now
      → Reports before now (cannot_write_file file.name) status
      → Writing before now names p status
  wrote_part : Stands before.files now.files names p.file → TakesPart before.out.taken now.out.taken p.text.lines
      → Rose before.out.faults now.out.faults
      → Reports before now cannot_write status → Writing before now names p status
  wrote_some : Stands before.files now.files names p.file → TakesWhole before.out.taken now.out.taken p.text.lines
      → Reports before now no_memory status
      → Writing before now names p status
  cut_off : IsCut before now status → Writing before now names p status

-- This refusal is reported, and nothing is asked for or written.
pub record StopsAtOnce (before now : Seen) (r : Refused) (status : ℕ) : Type 0 where
  pub asked : now.files.asked ≡ before.files.asked
  pub rests : Rests before now
  pub reported : Reports before now r status
