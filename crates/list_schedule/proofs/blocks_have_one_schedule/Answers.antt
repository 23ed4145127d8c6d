use Rattle.list_schedule.proofs.Blocks.{blocks_have_one}
use Rattle.list_schedule.proofs.blocks_have_one_schedule.Goals as goal

pub returns : goal.returns
returns c = blocks_have_one
