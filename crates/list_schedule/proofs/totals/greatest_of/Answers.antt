use Rattle.list_schedule.proofs.HeightFacts.{greatest_is}
use Rattle.list_schedule.proofs.totals.greatest_of.Goals as goal

pub returns-in-Some : goal.returns-in-Some
returns-in-Some c = greatest_is c.args.numbers.now c.in-Some.most c.in-Some.ensures.among c.in-Some.ensures.largest
