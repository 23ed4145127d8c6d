use Rattle.stream_image.proofs.Put.{zero_at}
use Rattle.stream_image.proofs.line.no_places.Goals as goal

pub returns : goal.returns
returns c = λ p. zero_at 128 p
