use Rattle.list_schedule.proofs.One.{the_greedy_schedule_is_one}
use Rattle.list_schedule.proofs.Graham.{grahams_bound}
use Rattle.list_schedule.proofs.laws_of_schedules.Goals as goal

pub returns : goal.returns
returns c = record { one = the_greedy_schedule_is_one; bound = grahams_bound }
