use Rattle.soak_text.proofs.Naming.{named}
use Rattle.soak_text.proofs.generator_laws.generated_trees_are_named.Goals as goal

pub returns : goal.returns
returns c = named
