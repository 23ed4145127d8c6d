use Rattle.std.proofs.Common.{◌≡◌}
use Rattle.time_interval.specs.Bounds.{pace_on}
use Rattle.stream_image.specs.Sorted.{IsSorted}
use Rattle.stream_image.proofs.sorted.all_ordered.Given as goal

abbrev pub invariant-loop : goal.invariant-loop
invariant-loop l = record {
  pace : l.sorting.walked.pace ≡ pace_on l.spec l.block.tuples;
  sorted : IsSorted l.deps.producers l.streams l.masks l.sorting;
}
