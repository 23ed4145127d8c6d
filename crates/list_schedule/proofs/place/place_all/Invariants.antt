use Rattle.std.proofs.Common.{length}
use Rattle.list_schedule.specs.Steps.{starts_of, AreTicks, AreTables}
use Rattle.list_schedule.proofs.Turn.{Making, unplaced}
use Rattle.list_schedule.proofs.place.place_all.Given as goal

abbrev pub invariant-loop-open : goal.invariant-loop-open
invariant-loop-open l = Making l.job.processors l.job.times.items l.job.deps.now.producers (starts_of l.draft) l.draft.places.items l.tick × AreTicks l.draft.starts.items × AreTables l.job.processors l.job.times.items l.job.deps.now.producers l.draft

abbrev pub decreases-loop-open : goal.decreases-loop-open
decreases-loop-open l = unplaced (starts_of l.draft) (length l.job.times.items)
