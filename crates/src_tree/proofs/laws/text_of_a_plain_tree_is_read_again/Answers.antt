use Rattle.src_tree.proofs.Whole.{read_again}
use Rattle.src_tree.proofs.laws.text_of_a_plain_tree_is_read_again.Goals as goal

pub returns : goal.returns
returns c = read_again
