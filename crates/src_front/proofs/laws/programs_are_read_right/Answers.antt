use Rattle.src_front.proofs.Right.{read_right, read_few_nodes, read_few_statements, read_in_range}
use Rattle.src_front.proofs.laws.programs_are_read_right.Goals as goal

pub returns-clause-right : goal.returns-clause-right
returns-clause-right c = read_right c.derived_trees_are_plain.ensures

pub returns-clause-nodes : goal.returns-clause-nodes
returns-clause-nodes c = read_few_nodes

pub returns-clause-statements : goal.returns-clause-statements
returns-clause-statements c = read_few_statements c.spelled_tokens_are_in_order.ensures

pub returns-clause-range : goal.returns-clause-range
returns-clause-range c = read_in_range c.derived_trees_are_plain.ensures
