-- The first fault of a source, and a fault of a machine file other than want of memory, is refused with a line.
use Rattle.std.proofs.Common.{◌≡◌, ◌≢◌, ℕ, List, [], ◌∷◌, Option, Some, refl}
use Rattle.src_lexer.specs.declared.token.Token.{Token}
use Rattle.src_lexer.specs.declared.fault.LexFault.{LexFault}
use Rattle.src_lexer.specs.declared.fault.LexFault.TheVariants as lex
use Rattle.src_lexer.specs.Spell.{IsFaultAt, here, later}
use Rattle.src_lexer.specs.Spell as bytes
use Rattle.src_parser.specs.declared.fault.ParseFault.{ParseFault}
use Rattle.src_parser.specs.declared.fault.ParseFault.TheVariants as parse
use Rattle.src_parser.specs.Fault.{Here}
use Rattle.src_names.specs.declared.fault.NameFault.{NameFault}
use Rattle.src_names.specs.Fault.{UseFault, unknown, not_variable, unknown_array, not_array, DeclFault, twice, size, many, decls, body}
use Rattle.src_names.specs.Fault as names
use Rattle.src_front.specs.declared.fault.SourceFault.{SourceFault}
use Rattle.src_front.specs.Reads.{FirstFault, of_bytes, of_tokens, of_names}
use Rattle.machine_file.specs.declared.fault.MachineFault.{MachineFault}
use Rattle.machine_file.specs.declared.fault.MachineFault.TheVariants as machine
use Rattle.bm_course.specs.Course.{Refused}
use Rattle.bm_inputs.specs.SourceLines.{lex_refused, parse_refused, name_refused, source_refused}
use Rattle.bm_inputs.specs.MachineLines.{machine_refused}

-- it is refused with some line
abbrev IsTold : Option Refused → Type 0
IsTold o = (r : Refused) × (o ≡ Some r)

-- a source
module _ (src : List ℕ) where
  byte_told : (from : ℕ) (e : LexFault) → IsFaultAt src from e → IsTold (lex_refused e)
  byte_told from (lex.BadByte at) h = (_, refl)
  byte_told from (lex.LongNumber at) h = (_, refl)
  byte_told from (lex.LongName at len) h = (_, refl)
  byte_told from lex.Memory h = absurd h

  bytes_told : {from : ℕ} {e : LexFault} → bytes.Faults src from e → IsTold (lex_refused e)
  bytes_told {from = from} {e = e} (here h) = byte_told from e h
  bytes_told (later p a r) = bytes_told r

  token_told : (front back : List Token) (e : ParseFault) → Here src front back e → IsTold (parse_refused e)
  token_told front back (parse.Expected at what) h = (_, refl)
  token_told front back (parse.TooDeep at) h = (_, refl)
  token_told front back (parse.TooManyNodes at first) h = (_, refl)
  token_told front [] parse.Memory h = absurd h
  token_told front (t ∷ ts) parse.Memory h = absurd h

  use_told : {es : List _} {u : names.Use} {e : NameFault} → UseFault es u e → IsTold (name_refused e)
  use_told (unknown h) = (_, refl)
  use_told (not_variable h) = (_, refl)
  use_told (unknown_array h) = (_, refl)
  use_told (not_array h) = (_, refl)

  decl_told : {front : List _} {es : List _} {d : _} {e : NameFault} → DeclFault front es d e → IsTold (name_refused e)
  decl_told (twice h) = (_, refl)
  decl_told (size h k) = (_, refl)

  names_told : {p : _} {e : NameFault} → names.Faults p e → IsTold (name_refused e)
  names_told (many h) = (_, refl)
  names_told (decls l h) = decl_told h.wrong
  names_told (body es l d g h) = use_told h.wrong

  pub source_told : {e : SourceFault} → FirstFault src e → IsTold (source_refused e)
  source_told (of_bytes h) = bytes_told h
  source_told (of_tokens {e = e} w h) = token_told h.front h.back e h.here
  source_told (of_names w h) = names_told h

-- a machine file
pub machine_told : (e : MachineFault) → (e ≢ machine.Memory) → IsTold (machine_refused e)
machine_told machine.NotToml h = (_, refl)
machine_told (machine.Key name) h = (_, refl)
machine_told (machine.Kind name) h = (_, refl)
machine_told (machine.Range name value) h = (_, refl)
machine_told machine.Memory h = absurd (h refl)
