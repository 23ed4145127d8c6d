use Rattle.src_parser.proofs.Again.{one_tree}
use Rattle.src_parser.proofs.laws.tokens_have_one_tree.Goals as goal

pub returns : goal.returns
returns c = one_tree
