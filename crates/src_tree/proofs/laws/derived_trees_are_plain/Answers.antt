use Rattle.src_tree.proofs.Derived.{derived}
use Rattle.src_tree.proofs.laws.derived_trees_are_plain.Goals as goal

pub returns : goal.returns
returns c = λ src ts p s a d. derived src ts p (c.spelled_tokens_are_in_order.ensures src ts s).slices a d
