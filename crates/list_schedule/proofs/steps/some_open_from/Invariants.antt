use Rattle.std.proofs.Common.{ℕ}
use Rattle.list_schedule.specs.Steps.{Tells, starts_of, IsLeast, open_from}
use Rattle.list_schedule.proofs.steps.some_open_from.Given as goal

abbrev pub invariant-loop-t : goal.invariant-loop-t
invariant-loop-t l = (least : ℕ) × Tells l.least least × IsLeast (open_from l.job.times.items l.job.deps.now.producers (starts_of l.draft)) l.t least
