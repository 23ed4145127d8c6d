use Rattle.unit_law.proofs.Ordered.{run_inside}
use Rattle.unit_law.proofs.states_within_blocks_agree.Goals as goal

pub returns : goal.returns
returns c = run_inside
