use Rattle.std.proofs.Common.{◌<◌, ℕ, map, take, length, get_or, sym, subst, arith}
use Rattle.list_schedule.specs.Job.{greatest}
use Rattle.list_schedule.specs.Steps.{Tells, starts_of, finish_of}
use Rattle.list_schedule.proofs.HeightFacts.{element_more}
use Rattle.list_schedule.proofs.tables.ready_at.Goals as goal

pub loop-a-preserved : goal.loop-a-preserved
loop-a-preserved c =
    let lt : c.loop-a.a-index < length c.args.producers.now = omega arith in
    subst (λ (n : ℕ). Tells c.later-last.result n) (sym (element_more (finish_of c.args.job.now.times.items (starts_of c.args.draft.now)) c.args.producers.now c.loop-a.a-index 0 lt))
    (c.later-last.ensures (greatest (map (finish_of c.args.job.now.times.items (starts_of c.args.draft.now)) (take c.loop-a.a-index c.args.producers.now))) (finish_of c.args.job.now.times.items (starts_of c.args.draft.now) (get_or c.args.producers.now c.loop-a.a-index 0)) c.loop-a.invariant c.finish.ensures)
