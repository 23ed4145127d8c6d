use Rattle.unit_law.proofs.Choices.{ready_exactly, static_exactly, static_none_exactly, dynamic_exactly, dynamic_none_exactly, awaited_exactly}
use Rattle.unit_law.proofs.choices_are_as_told.Goals as goal

pub returns-clause-ready : goal.returns-clause-ready
returns-clause-ready c = ready_exactly

pub returns-clause-static_picks : goal.returns-clause-static_picks
returns-clause-static_picks c = static_exactly

pub returns-clause-static_none : goal.returns-clause-static_none
returns-clause-static_none c = static_none_exactly

pub returns-clause-dynamic_picks : goal.returns-clause-dynamic_picks
returns-clause-dynamic_picks c = dynamic_exactly

pub returns-clause-dynamic_none : goal.returns-clause-dynamic_none
returns-clause-dynamic_none c = dynamic_none_exactly

pub returns-clause-unfired : goal.returns-clause-unfired
returns-clause-unfired c = awaited_exactly
