-- What holds of every text.
use Rattle.std.specs.Prelude.{◌≡◌, ◌≤◌, ℕ, List, length}
use Rattle.src_names.specs.RProgram.{RProgram}
use Rattle.src_names.specs.Right.{IsRight}
use Rattle.src_names.specs.Ranges.{IsInRange}
use Rattle.src_names.specs.Sizes.{AllFewNodes, statements}
use Rattle.src_front.specs.declared.fault.SourceFault.{SourceFault}
use Rattle.src_front.specs.Reads.{Reads, FirstFault}

-- a text reads as at most one program
abbrev pub ReadOnce : Type 0
ReadOnce = (src : List ℕ) (r q : RProgram) → Reads src r → Reads src q → r ≡ q

-- what a text is: a program, or a text with a first fault
pub data Answer (src : List ℕ) : Type 0 where
  program : {r : RProgram} → Reads src r → Answer src
  fault : {e : SourceFault} → FirstFault src e → Answer src

-- each text is one of the two and not both, and has no other first fault
pub record HaveOneAnswer : Type 0 where
  pub some : (src : List ℕ) → Answer src
  pub not_both : (src : List ℕ) (r : RProgram) (e : SourceFault) → Reads src r → FirstFault src e → ⊥
  pub one_fault : (src : List ℕ) (d e : SourceFault) → FirstFault src d → FirstFault src e → d ≡ e

-- what a text reads as has lawful names, and each name number in it is declared and of the right kind
abbrev pub ReadRight : Type 0
ReadRight = (src : List ℕ) (r : RProgram) → Reads src r → IsRight r

-- and at most 120 nodes in each statement
abbrev pub ReadFewNodes : Type 0
ReadFewNodes = (src : List ℕ) (r : RProgram) → Reads src r → AllFewNodes r.body

-- and no more statements than the text has bytes
abbrev pub ReadFewStatements : Type 0
ReadFewStatements = (src : List ℕ) (r : RProgram) → Reads src r → statements r.body ≤ length src

-- and each declared kind is in range, and each number a word
abbrev pub ReadInRange : Type 0
ReadInRange = (src : List ℕ) (r : RProgram) → Reads src r → IsInRange r
