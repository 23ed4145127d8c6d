-- What the faults of a source are refused with: 3 where a limit is passed, else 2. Want of memory is no refusal of a source.
use Rattle.std.specs.Prelude.{ℕ, List, ◌++◌, codes, decimal, Option, Some, None}
use Rattle.std.specs.Fmt.{signed_decimal}
use Rattle.src_lexer.specs.declared.fault.LexFault.{LexFault}
use Rattle.src_lexer.specs.declared.fault.LexFault.TheVariants as lex
use Rattle.src_parser.specs.Wanted.{want_text}
use Rattle.src_parser.specs.declared.fault.ParseFault.{ParseFault}
use Rattle.src_parser.specs.declared.fault.ParseFault.TheVariants as parse
use Rattle.src_names.specs.declared.fault.NameFault.{NameFault}
use Rattle.src_names.specs.declared.fault.NameFault.TheVariants as name
use Rattle.src_front.specs.declared.fault.SourceFault.{SourceFault}
use Rattle.src_front.specs.declared.fault.SourceFault.TheVariants.{Lex, Parse, Names, Memory}
use Rattle.bm_course.specs.declared.status.TheConstants.{SOURCE, LIMIT}
use Rattle.bm_course.specs.Course.{Refused}

-- a refusal with this line
abbrev pub plain : ℕ → List ℕ → Option Refused
plain status line = Some (record { status = status; line = line })

abbrev pub lex_refused : LexFault → Option Refused
lex_refused (lex.BadByte at) = plain SOURCE (codes "error 1: bad byte at " ++ decimal at ++ codes "\n")
lex_refused (lex.LongNumber at) = plain LIMIT (codes "error 2: number too large at " ++ decimal at ++ codes "\n")
lex_refused (lex.LongName at len) = plain LIMIT (codes "error 3: name of " ++ decimal len ++ codes " bytes at " ++ decimal at ++ codes "\n")
lex_refused lex.Memory = None

abbrev pub parse_refused : ParseFault → Option Refused
parse_refused (parse.Expected at what) = plain SOURCE (codes "error 4: expected " ++ want_text what ++ codes " at " ++ decimal at
    ++ codes "\n")
parse_refused (parse.TooDeep at) = plain LIMIT (codes "error 5: nested too deep at " ++ decimal at ++ codes "\n")
parse_refused (parse.TooManyNodes at first) = plain LIMIT (codes "error 6: too many nodes at " ++ decimal at
    ++ codes " in the statement at " ++ decimal first ++ codes "\n")
parse_refused parse.Memory = None

abbrev pub name_refused : NameFault → Option Refused
name_refused (name.Unknown at) = plain SOURCE (codes "error 7: unknown name at " ++ decimal at ++ codes "\n")
name_refused (name.Twice at first) = plain SOURCE (codes "error 8: name declared twice at " ++ decimal at ++ codes ", first at "
    ++ decimal first ++ codes "\n")
name_refused (name.NotArray at) = plain SOURCE (codes "error 9: not an array at " ++ decimal at ++ codes "\n")
name_refused (name.NotScalar at) = plain SOURCE (codes "error 10: not a variable at " ++ decimal at ++ codes "\n")
name_refused (name.TooManyNames count) = plain LIMIT (codes "error 11: " ++ decimal count ++ codes " names\n")
name_refused (name.ArraySize at n) = plain LIMIT (codes "error 12: array of " ++ signed_decimal n ++ codes " elements at "
    ++ decimal at ++ codes "\n")
name_refused name.Memory = None

abbrev pub source_refused : SourceFault → Option Refused
source_refused (Lex e) = lex_refused e
source_refused (Parse e) = parse_refused e
source_refused (Names e) = name_refused e
source_refused Memory = None
