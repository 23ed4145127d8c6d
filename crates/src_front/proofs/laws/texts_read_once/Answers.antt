use Rattle.src_front.proofs.Once.{read_once}
use Rattle.src_front.proofs.laws.texts_read_once.Goals as goal

pub returns : goal.returns
returns c = read_once c.text_has_one_spelling.ensures c.tokens_have_one_tree.ensures c.trees_have_one_program.ensures
