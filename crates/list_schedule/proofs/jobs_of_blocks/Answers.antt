use Rattle.list_schedule.proofs.Blocks.{blocks_are_jobs}
use Rattle.list_schedule.proofs.jobs_of_blocks.Goals as goal

pub returns : goal.returns
returns c = blocks_are_jobs
