-- The faults of the layers below as faults of a text. Want of memory is one of its own.
use Rattle.src_lexer.specs.declared.fault.LexFault.{LexFault}
use Rattle.src_lexer.specs.declared.fault.LexFault.TheVariants as l
use Rattle.src_parser.specs.declared.fault.ParseFault.{ParseFault}
use Rattle.src_parser.specs.declared.fault.ParseFault.TheVariants as p
use Rattle.src_names.specs.declared.fault.NameFault.{NameFault}
use Rattle.src_names.specs.declared.fault.NameFault.TheVariants as n
use Rattle.src_front.specs.declared.fault.SourceFault.{SourceFault}
use Rattle.src_front.specs.declared.fault.SourceFault.TheVariants.{Lex, Parse, Names, Memory}

abbrev pub of_lexer : LexFault → SourceFault
of_lexer l.Memory = Memory
of_lexer e = Lex e

abbrev pub of_parser : ParseFault → SourceFault
of_parser p.Memory = Memory
of_parser e = Parse e

abbrev pub of_names : NameFault → SourceFault
of_names n.Memory = Memory
of_names e = Names e
