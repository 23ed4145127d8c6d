use Rattle.std.proofs.Common.{◌≡◌, ◌<◌, ℕ, []}
use Rattle.stream_image.specs.Rest.{rest_of}
use Rattle.stream_image.proofs.sorted.Sorting.is_whole.Given as goal

abbrev pub invariant-loop-p : goal.invariant-loop-p
invariant-loop-p l = (q : ℕ) → q < l.p → rest_of l.streams l.self.places q ≡ []
