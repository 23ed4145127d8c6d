use Rattle.std.proofs.Common.{ℕ, ◌<◌, ◌≤◌}
use Rattle.time_interval.specs.declared.reference.Reference.TheVariants as reference
use Rattle.time_interval.specs.Next.{IsInTimeNext}
use Rattle.time_interval.proofs.front.Front.in_time_since_some.Given as goal

abbrev pub invariant-loop-index : goal.invariant-loop-index
invariant-loop-index l = (j : ℕ) → l.index ≤ j → j < l.self.knows.bars → ¬ IsInTimeNext l.timing l.items l.g l.p (reference.Bar j)
