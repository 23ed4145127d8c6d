-- What holds of every text and its tree.
use Rattle.std.specs.Prelude.{◌≡◌, ℕ, List}
use Rattle.src_lexer.specs.declared.token.Token.{Token}
use Rattle.src_lexer.specs.Spell.{Spells, AreAllowed}
use Rattle.src_tree.specs.declared.tree.Program.{Program}
use Rattle.src_tree.specs.Grammar.{Derives}
use Rattle.src_tree.specs.Limits.{KeepsLimits}
use Rattle.src_tree.specs.Text.{program_text}
use Rattle.src_tree.specs.Plain.{IsPlain}
use Rattle.src_tree.specs.Same.{IsSame}
use Rattle.src_parser.specs.declared.fault.ParseFault.{ParseFault}
use Rattle.src_parser.specs.Fault.{Faults}

-- tokens derive at most one program
abbrev pub HaveOneTree : Type 0
HaveOneTree = (src : List ℕ) (ts : List Token) (p q : Program) → Derives src ts p → Derives src ts q → p ≡ q

-- The text spells these tokens alone, within all limits; they derive this tree alone; and it is the same tree, places aside.
pub record IsParsedAgain (p : Program) : Type 0 where
  pub tokens : List Token
  pub tree : Program
  pub spells : Spells (program_text p) 0 tokens
  pub spells_only : (ts : List Token) → Spells (program_text p) 0 ts → ts ≡ tokens
  pub allowed : AreAllowed (program_text p) tokens
  pub limits : KeepsLimits tokens
  pub derives : Derives (program_text p) tokens tree
  pub derives_only : (q : Program) → Derives (program_text p) tokens q → q ≡ tree
  pub same : IsSame p tree

-- the text of every plain tree is lexed and parsed as the same tree
abbrev pub AreParsedAgain : Type 0
AreParsedAgain = (p : Program) → IsPlain p → IsParsedAgain p

-- what tokens are: a tree within the limits, or tokens with a first fault
pub data Answer (src : List ℕ) (ts : List Token) : Type 0 where
  tree : {p : Program} → Derives src ts p → KeepsLimits ts → Answer src ts
  fault : {e : ParseFault} → Faults src ts e → Answer src ts

-- tokens are one of the two and not both, and have no other first fault
pub record HaveOneAnswer : Type 0 where
  pub some : (src : List ℕ) (ts : List Token) → Answer src ts
  pub not_both : (src : List ℕ) (ts : List Token) (p : Program) (e : ParseFault) → Derives src ts p → KeepsLimits ts → Faults src ts e → ⊥
  pub one_fault : (src : List ℕ) (ts : List Token) (d e : ParseFault) → Faults src ts d → Faults src ts e → d ≡ e
