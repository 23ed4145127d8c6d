use Rattle.compiled_image.proofs.Plans as plans
use Rattle.compiled_image.proofs.plan_laws.laws_of_plans.Goals as goal

pub returns-clause-one : goal.returns-clause-one
returns-clause-one c = plans.one

pub returns-clause-irreducible : goal.returns-clause-irreducible
returns-clause-irreducible c = plans.irreducible

pub returns-clause-in_order : goal.returns-clause-in_order
returns-clause-in_order c = plans.in_order
