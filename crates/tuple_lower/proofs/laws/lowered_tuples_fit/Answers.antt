use Rattle.tuple_lower.proofs.Fitting.{tuples_fit, blocks_few}
use Rattle.tuple_lower.proofs.laws.lowered_tuples_fit.Goals as goal

pub returns-clause-tuples : goal.returns-clause-tuples
returns-clause-tuples c = tuples_fit

pub returns-clause-blocks : goal.returns-clause-blocks
returns-clause-blocks c = blocks_few
