use Rattle.stream_image.proofs.Again.{built_again}
use Rattle.stream_image.proofs.laws.images_are_built_again.Goals as goal

pub returns : goal.returns
returns c = built_again
