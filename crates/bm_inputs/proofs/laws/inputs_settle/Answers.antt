use Rattle.bm_inputs.proofs.Courses.{source-settles, machine-settles}
use Rattle.bm_inputs.proofs.laws.inputs_settle.Goals as goal

pub returns-clause-source : goal.returns-clause-source
returns-clause-source c = source-settles c.sources_have_one_answer.ensures

pub returns-clause-machine : goal.returns-clause-machine
returns-clause-machine c = machine-settles c.machine_files_mean_machines.ensures.fault
