use Rattle.src_names.proofs.Unique.{one_program}
use Rattle.src_names.proofs.laws.trees_have_one_program.Goals as goal

pub returns : goal.returns
returns c = one_program
