use Rattle.std.proofs.Common.{◌≡◌, [], map, filter, nat_eq, slice_index, slice_index_or}
use Rattle.std.specs.List.{range_with_len, list_any}
use Rattle.list_schedule.specs.Job.{greatest}
use Rattle.list_schedule.proofs.heights.above.Given as goal

abbrev pub invariant-loop-b : goal.invariant-loop-b
invariant-loop-b l = l.most ≡ greatest (map (slice_index l.heights) (filter (λ b. list_any (nat_eq l.t) (slice_index_or l.deps.producers b [])) (range_with_len 0 l.b)))
