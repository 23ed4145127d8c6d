use Rattle.compiled_image.proofs.LawFacts.{runs_plans}
use Rattle.compiled_image.proofs.laws.images_run_their_plans.Goals as goal

pub returns : goal.returns
returns c = runs_plans
