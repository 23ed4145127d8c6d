use Rattle.src_lexer.proofs.Some.{some, not_both, one_first}
use Rattle.src_lexer.proofs.laws.texts_have_one_answer.Goals as goal

pub returns : goal.returns
returns c = record { some = some; not_both = not_both; one_fault = λ src d e g h. one_first src g h }
