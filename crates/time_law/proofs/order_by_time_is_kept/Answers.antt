use Rattle.time_law.proofs.ByTime.{sound_respects}
use Rattle.time_law.proofs.order_by_time_is_kept.Goals as goal

pub returns : goal.returns
returns c = sound_respects
