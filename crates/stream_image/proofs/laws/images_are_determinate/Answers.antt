use Rattle.stream_image.proofs.ImageFacts.{determinate_is}
use Rattle.stream_image.proofs.laws.images_are_determinate.Goals as goal

pub returns : goal.returns
returns c = determinate_is
