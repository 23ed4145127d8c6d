use Rattle.stream_image.proofs.Accepted.{not_both}
use Rattle.stream_image.proofs.laws.refused_blocks_are_not_accepted.Goals as goal

pub returns : goal.returns
returns c = not_both
