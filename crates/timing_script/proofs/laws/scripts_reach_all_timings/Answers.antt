use Rattle.timing_script.proofs.Reaching.{reached}
use Rattle.timing_script.proofs.laws.scripts_reach_all_timings.Goals as goal

pub returns : goal.returns
returns c = reached
