use Rattle.soak_text.proofs.Limits.{plain}
use Rattle.soak_text.proofs.generator_laws.generated_trees_are_plain.Goals as goal

pub returns : goal.returns
returns c = λ seed statements few. plain seed statements c.text_has_one_spelling.ensures few
