use Rattle.time_interval.proofs.Tables.{none_of}
use Rattle.time_interval.proofs.walk.unknown.Goals as goal

pub returns-clause-none : goal.returns-clause-none
returns-clause-none c = none_of 128
