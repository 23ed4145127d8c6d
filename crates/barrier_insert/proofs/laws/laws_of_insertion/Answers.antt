use Rattle.barrier_insert.proofs.LawFacts.{inserted_one, inserted_some, ordered_in, whole}
use Rattle.barrier_insert.proofs.Sorted.{by_start}
use Rattle.barrier_insert.proofs.laws.laws_of_insertion.Goals as goal

pub returns-clause-order : goal.returns-clause-order
returns-clause-order c = by_start

pub returns-clause-one : goal.returns-clause-one
returns-clause-one c = inserted_one

pub returns-clause-some : goal.returns-clause-some
returns-clause-some c = inserted_some

pub returns-clause-ordered : goal.returns-clause-ordered
returns-clause-ordered c = ordered_in

pub returns-clause-whole : goal.returns-clause-whole
returns-clause-whole c = whole
