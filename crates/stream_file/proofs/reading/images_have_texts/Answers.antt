use Rattle.stream_file.proofs.Again.{image_text}
use Rattle.stream_file.proofs.reading.images_have_texts.Goals as goal

pub returns : goal.returns
returns c = image_text
