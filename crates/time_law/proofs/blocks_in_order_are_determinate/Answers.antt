use Rattle.time_law.proofs.ByTime.{sound_determinate}
use Rattle.time_law.proofs.blocks_in_order_are_determinate.Goals as goal

pub returns : goal.returns
returns c = sound_determinate
