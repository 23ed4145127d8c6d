use Rattle.run_text.proofs.OneRun.{shows_one, shows_front, shows_end, none_ended}
use Rattle.run_text.proofs.Reaching.{there_is}
use Rattle.run_text.proofs.a_run_shows_one_thing.Goals as goal

pub returns-clause-some : goal.returns-clause-some
returns-clause-some c = there_is

pub returns-clause-one : goal.returns-clause-one
returns-clause-one c = shows_one

pub returns-clause-front : goal.returns-clause-front
returns-clause-front c = shows_front

pub returns-clause-ended : goal.returns-clause-ended
returns-clause-ended c = shows_end

pub returns-clause-going : goal.returns-clause-going
returns-clause-going c = none_ended
