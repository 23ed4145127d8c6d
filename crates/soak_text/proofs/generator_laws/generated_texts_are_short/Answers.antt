use Rattle.soak_text.proofs.Shortness.{text_short}
use Rattle.soak_text.proofs.generator_laws.generated_texts_are_short.Goals as goal

pub returns : goal.returns
returns c = text_short
