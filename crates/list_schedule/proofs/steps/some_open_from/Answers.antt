use Rattle.std.proofs.Common.{min, refl}
use Rattle.list_schedule.specs.Steps.{never, starts_of, open_from}
use Rattle.list_schedule.proofs.StepFacts.{least_none, least_more}
use Rattle.list_schedule.proofs.steps.some_open_from.Goals as goal

pub loop-t-init : goal.loop-t-init
loop-t-init c = (never, refl, least_none (open_from c.args.job.now.times.items c.args.job.now.deps.now.producers (starts_of c.args.draft.now)))

pub loop-t-preserved : goal.loop-t-preserved
loop-t-preserved c =
    let v = open_from c.args.job.now.times.items c.args.job.now.deps.now.producers (starts_of c.args.draft.now) c.loop-t.t in
    let m = c.loop-t.invariant.0 in
    (min m v, c.earlier-least.ensures m v c.loop-t.invariant.1 c.open_at.ensures, least_more (open_from c.args.job.now.times.items c.args.job.now.deps.now.producers (starts_of c.args.draft.now)) c.loop-t.t m v (min m v) c.loop-t.invariant.2 refl refl)
