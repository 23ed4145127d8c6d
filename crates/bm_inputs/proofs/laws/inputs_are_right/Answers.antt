use Rattle.src_names.specs.Right.{IsRight}
use Rattle.src_names.specs.Sizes.{AllFewNodes}
use Rattle.bm_inputs.proofs.Courses.{source-keeps, machine-lawful}
use Rattle.bm_inputs.proofs.laws.inputs_are_right.Goals as goal

pub returns-clause-source : goal.returns-clause-source
returns-clause-source c name = (source-keeps IsRight c.programs_are_read_right.ensures.right name).gives

pub returns-clause-nodes : goal.returns-clause-nodes
returns-clause-nodes c name = (source-keeps (λ r. AllFewNodes r.body) c.programs_are_read_right.ensures.nodes name).gives

pub returns-clause-machine : goal.returns-clause-machine
returns-clause-machine c machine = (machine-lawful c.machine_files_mean_machines.ensures.machine machine).gives
