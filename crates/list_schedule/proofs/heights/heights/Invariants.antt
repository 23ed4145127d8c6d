use Rattle.std.proofs.Common.{◌≡◌, ◌≤◌, ℕ, length}
use Rattle.list_schedule.proofs.HeightFacts.{Behind}
use Rattle.list_schedule.proofs.heights.heights.Given as goal

abbrev pub invariant-loop-t : goal.invariant-loop-t
invariant-loop-t l = (length l.heights.items ≡ length l.job.times.items) × ((p : ℕ) → 1 ≤ p → Behind (record { processors = p; times = l.job.times.items; producers = l.job.deps.now.producers }) l.heights.items l.t)
