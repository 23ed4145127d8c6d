use Rattle.src_lexer.proofs.Unique.{one_spelling}
use Rattle.src_lexer.proofs.laws.text_has_one_spelling.Goals as goal

pub returns : goal.returns
returns c = λ src ts us s t. one_spelling src s t
