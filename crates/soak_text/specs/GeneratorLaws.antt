-- What holds of every generated program.
use Rattle.std.specs.Prelude.{ℕ, ◌+◌, ◌*◌, ◌≤◌, length}
use Rattle.src_tree.specs.declared.tree.Program.{Program}
use Rattle.src_tree.specs.Plain.{IsPlain}
use Rattle.src_tree.specs.Same.{IsSame}
use Rattle.src_tree.specs.Text.{program_text}
use Rattle.src_names.specs.RProgram.{RProgram}
use Rattle.src_names.specs.Named.{IsNamed}
use Rattle.src_front.specs.Reads.{Reads}
use Rattle.bm_base.specs.declared.limits.TheConstants.{MOST_STATEMENTS}
use Rattle.soak_text.specs.declared.sizes.TheConstants.{MOST_ITEM_BYTES, MOST_DECLARATION_BYTES}
use Rattle.soak_text.specs.Generator.{generated}

-- a program that the tree is named by: so its naming is not refused
pub record HasProgram (p : Program) : Type 0 where
  pub program : RProgram
  pub is : IsNamed p program

-- each generated tree is named by a program
abbrev pub AreNamed : Type 0
AreNamed = (seed statements : ℕ) → HasProgram (generated seed statements)

-- its canonical text has at most so many bytes an item, and so many for the declarations
abbrev pub AreShort : Type 0
AreShort = (seed statements : ℕ) → length (program_text (generated seed statements)) ≤ MOST_ITEM_BYTES * statements + MOST_DECLARATION_BYTES

-- it is plain: its identifiers are names, its numbers are 0 or more, and its text keeps the limits on depth and nodes
abbrev pub ArePlain : Type 0
ArePlain = (seed statements : ℕ) → statements ≤ MOST_STATEMENTS → IsPlain (generated seed statements)

-- a tree that is the same, places aside, is named by the same program
abbrev pub SameAreNamedAlike : Type 0
SameAreNamedAlike = (p q : Program) (r : RProgram) → IsSame p q → IsNamed p r → IsNamed q r

-- its text reads as the program that the tree is named by
abbrev pub AreReadBack : Type 0
AreReadBack = (seed statements : ℕ) (r : RProgram) → statements ≤ MOST_STATEMENTS → IsNamed (generated seed statements) r →
    Reads (program_text (generated seed statements)) r
