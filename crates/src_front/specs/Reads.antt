-- Which program a text reads as, and its first fault.
use Rattle.std.specs.Prelude.{ℕ, List}
use Rattle.src_lexer.specs.declared.token.Token.{Token}
use Rattle.src_lexer.specs.declared.fault.LexFault.{LexFault}
use Rattle.src_lexer.specs.Spell.{Spells, AreAllowed, Faults as FaultsOfBytes}
use Rattle.src_tree.specs.declared.tree.Program.{Program}
use Rattle.src_tree.specs.Grammar.{Derives}
use Rattle.src_tree.specs.Limits.{KeepsLimits}
use Rattle.src_parser.specs.declared.fault.ParseFault.{ParseFault}
use Rattle.src_parser.specs.Fault.{Faults as FaultsOfTokens}
use Rattle.src_names.specs.declared.fault.NameFault.{NameFault}
use Rattle.src_names.specs.RProgram.{RProgram}
use Rattle.src_names.specs.Named.{IsNamed}
use Rattle.src_names.specs.Fault.{Faults as FaultsOfNames}
use Rattle.src_front.specs.declared.fault.SourceFault.{SourceFault}
use Rattle.src_front.specs.declared.fault.SourceFault.TheVariants.{Lex, Parse, Names}

-- the text spells these tokens, whose values and names are within the limits
pub record IsText (src : List ℕ) (tokens : List Token) : Type 0 where
  pub spells : Spells src 0 tokens
  pub allowed : AreAllowed src tokens

-- they derive this tree, and keep the limits of depth and nodes
pub record IsTree (src : List ℕ) (tokens : List Token) (tree : Program) : Type 0 where
  pub text : IsText src tokens
  pub derives : Derives src tokens tree
  pub limits : KeepsLimits tokens

-- The text reads as the resolved program: it spells tokens within the limits, they derive a tree within the limits, and the tree is named
-- by the program.
pub record Reads (src : List ℕ) (program : RProgram) : Type 0 where
  pub tokens : List Token
  pub tree : Program
  pub is_tree : IsTree src tokens tree
  pub named : IsNamed tree program

-- The first fault of a text: that of its bytes; where it spells tokens, that of the tokens; where they derive a tree, that of its names.
pub data FirstFault (src : List ℕ) : SourceFault → Type 0 where
  of_bytes : {e : LexFault} → FaultsOfBytes src 0 e → FirstFault src (Lex e)
  of_tokens : {tokens : List Token} {e : ParseFault} → IsText src tokens → FaultsOfTokens src tokens e → FirstFault src (Parse e)
  of_names : {tokens : List Token} {tree : Program} {e : NameFault} → IsTree src tokens tree → FaultsOfNames tree e
      → FirstFault src (Names e)
