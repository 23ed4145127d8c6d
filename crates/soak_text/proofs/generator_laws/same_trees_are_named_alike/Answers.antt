use Rattle.soak_text.proofs.Alike.{same}
use Rattle.soak_text.proofs.generator_laws.same_trees_are_named_alike.Goals as goal

pub returns : goal.returns
returns c = same
