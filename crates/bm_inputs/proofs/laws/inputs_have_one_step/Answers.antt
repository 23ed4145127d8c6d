use Rattle.bm_inputs.proofs.Courses.{source-determined, machine-determined}
use Rattle.bm_inputs.proofs.laws.inputs_have_one_step.Goals as goal

pub returns-clause-source : goal.returns-clause-source
returns-clause-source c = source-determined c.texts_read_once.ensures c.sources_have_one_answer.ensures

pub returns-clause-machine : goal.returns-clause-machine
returns-clause-machine c = machine-determined
