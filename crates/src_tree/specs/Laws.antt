-- What holds of every plain tree and its text.
use Rattle.std.specs.Prelude.{ℕ, List}
use Rattle.src_lexer.specs.declared.token.Token.{Token}
use Rattle.src_lexer.specs.Spell.{Spells, AreAllowed}
use Rattle.src_tree.specs.declared.tree.Program.{Program}
use Rattle.src_tree.specs.Grammar.{Derives}
use Rattle.src_tree.specs.Limits.{KeepsLimits}
use Rattle.src_tree.specs.Text.{program_text}
use Rattle.src_tree.specs.Plain.{IsPlain, ArePlainDecls, IsPlainBody}
use Rattle.src_tree.specs.Same.{IsSame}

-- the text spells tokens within all limits, and they derive the same tree, places aside
pub record IsReadAgain (p : Program) : Type 0 where
  pub tokens : List Token
  pub tree : Program
  pub spells : Spells (program_text p) 0 tokens
  pub allowed : AreAllowed (program_text p) tokens
  pub limits : KeepsLimits tokens
  pub derives : Derives (program_text p) tokens tree
  pub same : IsSame p tree

-- the text of every plain tree is read as the same tree
abbrev pub AreReadAgain : Type 0
AreReadAgain = (p : Program) → IsPlain p → IsReadAgain p

-- each identifier is a name, each number and length is a word that is 0 or more, each initial value is a word above -2^63
pub record HasPlainParts (p : Program) : Type 0 where
  pub decls : ArePlainDecls p.decls
  pub body : IsPlainBody p.body

-- what is derived from the allowed tokens of a text has plain parts
abbrev pub DerivedArePlain : Type 0
DerivedArePlain = (src : List ℕ) (ts : List Token) (p : Program) → Spells src 0 ts → AreAllowed src ts → Derives src ts p → HasPlainParts p
