use Rattle.machine_file.proofs.Meant.{machine_means, fault_means}
use Rattle.machine_file.proofs.laws.machine_files_mean_machines.Goals as goal

pub returns-clause-machine : goal.returns-clause-machine
returns-clause-machine c = machine_means

pub returns-clause-fault : goal.returns-clause-fault
returns-clause-fault c = fault_means
