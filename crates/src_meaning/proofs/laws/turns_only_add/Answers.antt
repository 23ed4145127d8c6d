use Rattle.src_meaning.proofs.Lawful.{turns_add, done_stays}
use Rattle.src_meaning.proofs.laws.turns_only_add.Goals as goal

pub returns-clause-output : goal.returns-clause-output
returns-clause-output c = turns_add

pub returns-clause-done : goal.returns-clause-done
returns-clause-done c = done_stays
