use Rattle.src_parser.proofs.Some.{some}
use Rattle.src_parser.proofs.Unique.{one_fault, no_fault}
use Rattle.src_parser.proofs.laws.tokens_have_one_answer.Goals as goal

pub returns : goal.returns
returns c = record { some = some; not_both = λ src ts p e d k g. no_fault src ts e p g d k; one_fault = λ src ts d e g h. one_fault src ts d e g h }
