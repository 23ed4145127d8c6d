-- The statuses that a source is refused with.
use Rattle.std.proofs.Common.{◌≡◌, ℕ, List, Some, ap, subst, refl}
use Rattle.src_lexer.specs.declared.fault.LexFault.{LexFault}
use Rattle.src_lexer.specs.declared.fault.LexFault.TheVariants as lex
use Rattle.src_parser.specs.declared.fault.ParseFault.{ParseFault}
use Rattle.src_parser.specs.declared.fault.ParseFault.TheVariants as parse
use Rattle.src_names.specs.declared.fault.NameFault.{NameFault}
use Rattle.src_names.specs.declared.fault.NameFault.TheVariants as name
use Rattle.src_front.specs.declared.fault.SourceFault.{SourceFault}
use Rattle.src_front.specs.declared.fault.SourceFault.TheVariants.{Lex, Parse, Names, Memory}
use Rattle.bm_inputs.specs.SourceLines.{plain, lex_refused, parse_refused, name_refused, source_refused}
use Rattle.bm_course.specs.Course.{Refused}
use Rattle.bm_course.specs.Status.{IsOfContent}
use Rattle.machine_file.specs.declared.fault.MachineFault.{MachineFault}
use Rattle.machine_file.specs.declared.fault.MachineFault.TheVariants as machine
use Rattle.bm_inputs.specs.MachineLines.{machine_refused}

two : IsOfContent 2
two = refl

three : IsOfContent 3
three = refl

by_status : (n : ℕ) (line : List ℕ) (r : Refused) → IsOfContent n → plain n line ≡ Some r → IsOfContent r.status
by_status n line r h e =
    let f : record { status = n; line = line } ≡ r = cc in
    subst IsOfContent (ap (λ x. x.status) f) h

by_lex : (e : LexFault) (r : Refused) → lex_refused e ≡ Some r → IsOfContent r.status
by_lex (lex.BadByte at) r h = by_status 2 _ r two h
by_lex (lex.LongNumber at) r h = by_status 3 _ r three h
by_lex (lex.LongName at len) r h = by_status 3 _ r three h
by_lex lex.Memory r h = let no : ⊥ = cc in absurd no

by_parse : (e : ParseFault) (r : Refused) → parse_refused e ≡ Some r → IsOfContent r.status
by_parse (parse.Expected at what) r h = by_status 2 _ r two h
by_parse (parse.TooDeep at) r h = by_status 3 _ r three h
by_parse (parse.TooManyNodes at first) r h = by_status 3 _ r three h
by_parse parse.Memory r h = let no : ⊥ = cc in absurd no

by_name : (e : NameFault) (r : Refused) → name_refused e ≡ Some r → IsOfContent r.status
by_name (name.Unknown at) r h = by_status 2 _ r two h
by_name (name.Twice at first) r h = by_status 2 _ r two h
by_name (name.NotArray at) r h = by_status 2 _ r two h
by_name (name.NotScalar at) r h = by_status 2 _ r two h
by_name (name.TooManyNames count) r h = by_status 3 _ r three h
by_name (name.ArraySize at n) r h = by_status 3 _ r three h
by_name name.Memory r h = let no : ⊥ = cc in absurd no

pub source_refusal : (e : SourceFault) (r : Refused) → source_refused e ≡ Some r → IsOfContent r.status
source_refusal (Lex e) r h = by_lex e r h
source_refusal (Parse e) r h = by_parse e r h
source_refusal (Names e) r h = by_name e r h
source_refusal Memory r h = let no : ⊥ = cc in absurd no

four : IsOfContent 4
four = refl

by_line : (line : List ℕ) (r : Refused) → Some (record { status = 4; line = line }) ≡ Some r → IsOfContent r.status
by_line line r e =
    let f : record { status = 4; line = line } ≡ r = cc in
    subst IsOfContent (ap (λ x. x.status) f) four

pub machine_refusal : (e : MachineFault) (r : Refused) → machine_refused e ≡ Some r → IsOfContent r.status
machine_refusal machine.NotToml r h = by_line _ r h
machine_refusal (machine.Key name) r h = by_line _ r h
machine_refusal (machine.Kind name) r h = by_line _ r h
machine_refusal (machine.Range name value) r h = by_line _ r h
machine_refusal machine.Memory r h = let no : ⊥ = cc in absurd no
