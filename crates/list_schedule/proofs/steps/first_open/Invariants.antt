use Rattle.std.proofs.Common.{slice_index}
use Rattle.list_schedule.specs.Steps.{starts_of, IsBest, open_from}
use Rattle.list_schedule.proofs.steps.first_open.Given as goal

abbrev pub invariant-loop-t : goal.invariant-loop-t
invariant-loop-t l = IsBest (open_from l.job.times.items l.job.deps.now.producers (starts_of l.draft)) (slice_index l.heights) l.tick l.t l.best
