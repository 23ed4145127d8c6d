use Rattle.list_schedule.specs.Steps.{starts_of, IsLeast, last_finish}
use Rattle.list_schedule.proofs.steps.some_idle_from.Given as goal

abbrev pub invariant-loop-p : goal.invariant-loop-p
invariant-loop-p l = IsLeast (last_finish l.job.times.items (starts_of l.draft) l.draft.places.items) l.p l.least
