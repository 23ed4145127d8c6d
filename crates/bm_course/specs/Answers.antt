-- All that is said of a call.
use Rattle.std.specs.Prelude.{ℕ, ◌≡◌, ◌⊎◌, List, [], Some}
use Rattle.bm_io.specs.Causes.{Rose}
use Rattle.bm_io.specs.Files.{Held}
use Rattle.bm_course.specs.declared.status.TheConstants.{UNREAD, UNWRITTEN, MEMORY}
use Rattle.bm_course.specs.Status.{HasEnded, IsRefusal, IsStatus}
use Rattle.bm_course.specs.Course.{Refused, Product, Refuses, Gives, Course}
use Rattle.bm_course.specs.Seen.{Seen}
use Rattle.bm_course.specs.Goes.{Goes, WritesOnce}
use Rattle.bm_course.specs.Clauses.{HasWritten, IsRefused, IsUnread, IsUnwritten, IsStarved, Leads, Refusing, Writing}

pub record Answers (before now : Seen) (course : Course Product) (status : ℕ) : Type 0 where
  -- what is read, what is written and the status are what the course comes to, and no count of faults falls
  pub goes : Goes before now course status
  -- what the held files lead to is refused, or written, if no fault and no want of memory comes before
  pub refuses : (held : Held) (names : List (List ℕ)) (r : Refused) → before.files.held ≡ Some held → Leads held course names (Refuses r)
      → Refusing before now names r status
  pub writes : (held : Held) (names : List (List ℕ)) (p : Product) → before.files.held ≡ Some held → Leads held course names (Gives p [])
      → Writing before now names p status
  -- each status has its cause
  pub ended : HasEnded status → HasWritten before now course status
  pub refused : IsRefusal status → IsRefused before now course status
  pub unread : status ≡ UNREAD → IsUnread before now course
  pub unwritten : status ≡ UNWRITTEN → IsUnwritten before now course
  pub starved : status ≡ MEMORY → IsStarved before now course
  pub status_is : IsStatus status
  -- a call that has not ended so has written to the errors once
  pub tells : ¬ HasEnded status → WritesOnce before.err.taken now.err.taken
  -- where no count of faults rose, the product was written, or what the words or the contents refuse was told, or there was no memory
  pub faultless : ¬ Rose before.files.faults now.files.faults → ¬ Rose before.out.faults now.out.faults
      → ¬ Rose before.err.faults now.err.faults
      → (HasEnded status × HasWritten before now course status) ⊎ (IsRefusal status × IsRefused before now course status) ⊎ (status ≡ MEMORY)
