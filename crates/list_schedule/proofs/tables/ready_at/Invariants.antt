use Rattle.std.proofs.Common.{map, take}
use Rattle.list_schedule.specs.Job.{greatest}
use Rattle.list_schedule.specs.Steps.{Tells, starts_of, finish_of}
use Rattle.list_schedule.proofs.tables.ready_at.Given as goal

abbrev pub invariant-loop-a : goal.invariant-loop-a
invariant-loop-a l = Tells l.last (greatest (map (finish_of l.job.times.items (starts_of l.draft)) (take l.a-index l.producers)))
