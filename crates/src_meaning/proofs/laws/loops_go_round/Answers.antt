use Rattle.src_meaning.proofs.Loops.{loops_go_round}
use Rattle.src_meaning.proofs.laws.loops_go_round.Goals as goal

pub returns : goal.returns
returns c = loops_go_round
