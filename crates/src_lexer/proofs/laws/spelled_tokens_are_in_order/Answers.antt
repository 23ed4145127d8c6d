use Rattle.src_lexer.proofs.Order.{ordered}
use Rattle.src_lexer.proofs.laws.spelled_tokens_are_in_order.Goals as goal

pub returns : goal.returns
returns c = λ src ts s. ordered src ts s
