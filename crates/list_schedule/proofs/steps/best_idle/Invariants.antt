use Rattle.std.proofs.Common.{slice_index, count_by, nat_eq}
use Rattle.list_schedule.specs.Steps.{starts_of, IsBest, last_finish}
use Rattle.list_schedule.proofs.steps.best_idle.Given as goal

abbrev pub invariant-loop-p : goal.invariant-loop-p
invariant-loop-p l = IsBest (last_finish l.job.times.items (starts_of l.draft) l.draft.places.items) (λ p. count_by (λ a. nat_eq (slice_index l.draft.places.items a) p) l.producers) l.tick l.p l.best
