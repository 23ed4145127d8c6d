use Rattle.unit_law.proofs.Executions.{all_within, finished_exactly}
use Rattle.unit_law.proofs.executions_are_of_a_block.Goals as goal

pub returns-clause-within : goal.returns-clause-within
returns-clause-within c = all_within

pub returns-clause-finished : goal.returns-clause-finished
returns-clause-finished c = finished_exactly
