use Rattle.unit_law.proofs.RunFacts.{clock_rises, places_within, steps_bounded}
use Rattle.unit_law.proofs.runs_go_forward.Goals as goal

pub returns-clause-clock : goal.returns-clause-clock
returns-clause-clock c = clock_rises

pub returns-clause-places : goal.returns-clause-places
returns-clause-places c = places_within

pub returns-clause-steps : goal.returns-clause-steps
returns-clause-steps c = steps_bounded
