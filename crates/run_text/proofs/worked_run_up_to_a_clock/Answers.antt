use Rattle.run_text.proofs.WorkedRun.{worked_going, worked_end}
use Rattle.run_text.proofs.worked_run_up_to_a_clock.Goals as goal

pub returns-clause-going : goal.returns-clause-going
returns-clause-going c = worked_going

pub returns-clause-ended : goal.returns-clause-ended
returns-clause-ended c = worked_end
