use Rattle.std.proofs.Common.{slice_index, count_by, nat_eq, sym}
use Rattle.list_schedule.specs.Steps.{starts_of, last_finish}
use Rattle.list_schedule.proofs.steps.best_idle.Goals as goal

pub loop-p-preserved : goal.loop-p-preserved
loop-p-preserved c = c.better-best.ensures (last_finish c.args.job.now.times.items (starts_of c.args.draft.now) c.args.draft.now.places.items) (λ p. count_by (λ a. nat_eq (slice_index c.args.draft.now.places.items a) p) c.args.producers.now) (sym c.idle_from.ensures) (sym c.count.ensures) c.loop-p.invariant
