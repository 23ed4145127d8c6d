use Rattle.list_schedule.specs.Steps.{starts_of, last_finish}
use Rattle.list_schedule.proofs.StepFacts.{least_more}
use Rattle.list_schedule.proofs.steps.some_idle_from.Goals as goal

pub loop-p-preserved : goal.loop-p-preserved
loop-p-preserved c = least_more (last_finish c.args.job.now.times.items (starts_of c.args.draft.now) c.args.draft.now.places.items) c.loop-p.p c.loop-p.least c.idle_from.result c.min-least.result c.loop-p.invariant c.idle_from.ensures c.min-least.ensures
