use Rattle.src_names.proofs.First.{one_fault, no_fault}
use Rattle.src_names.proofs.Some.{some}
use Rattle.src_names.proofs.laws.trees_have_one_answer.Goals as goal

pub returns : goal.returns
returns c = record { some = some; not_both = λ p r e n f. no_fault f r n; one_fault = λ p d e f g. one_fault f g }
