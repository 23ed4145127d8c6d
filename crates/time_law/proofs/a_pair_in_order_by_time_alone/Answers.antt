use Rattle.time_law.proofs.WorkedTime.{timed_sound, timed_times, timed_ordered, timed_determinate, timed_not_synced, closest_is_run}
use Rattle.time_law.proofs.a_pair_in_order_by_time_alone.Goals as goal

pub returns-clause-sound : goal.returns-clause-sound
returns-clause-sound c = timed_sound

pub returns-clause-times : goal.returns-clause-times
returns-clause-times c = timed_times

pub returns-clause-ordered : goal.returns-clause-ordered
returns-clause-ordered c = timed_ordered

pub returns-clause-determinate : goal.returns-clause-determinate
returns-clause-determinate c = timed_determinate

pub returns-clause-not_synced : goal.returns-clause-not_synced
returns-clause-not_synced c = timed_not_synced

pub returns-clause-run : goal.returns-clause-run
returns-clause-run c = closest_is_run
