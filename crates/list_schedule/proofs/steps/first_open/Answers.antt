use Rattle.std.proofs.Common.{slice_index, refl}
use Rattle.list_schedule.specs.Steps.{starts_of, open_from}
use Rattle.list_schedule.proofs.steps.first_open.Goals as goal

pub loop-t-preserved : goal.loop-t-preserved
loop-t-preserved c = c.better_if-best.ensures (open_from c.args.job.now.times.items c.args.job.now.deps.now.producers (starts_of c.args.draft.now)) (slice_index c.args.heights.now) c.open_at.ensures refl c.loop-t.invariant
