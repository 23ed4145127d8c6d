-- How what was expected is printed.
use Rattle.std.specs.Prelude.{ℕ, List, codes}
use Rattle.src_lexer.specs.Symbols.{spelling}
use Rattle.src_parser.specs.declared.want.Want.{Want}
use Rattle.src_parser.specs.declared.want.Want.TheVariants as v

abbrev pub want_text : Want → List ℕ
want_text v.Item = codes "item"
want_text v.Name = codes "name"
want_text v.Number = codes "number"
want_text v.Expr = codes "expression"
want_text (v.Sym k) = spelling k
