use Rattle.src_parser.proofs.Again.{parsed_again}
use Rattle.src_parser.proofs.laws.text_of_a_plain_tree_is_parsed_again.Goals as goal

pub returns : goal.returns
returns c = parsed_again c.text_has_one_spelling.ensures c.text_of_a_plain_tree_is_read_again.ensures
