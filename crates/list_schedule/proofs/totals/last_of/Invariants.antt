use Rattle.std.proofs.Common.{◌≡◌, ◌+◌, map, slice_index}
use Rattle.std.specs.List.{range_with_len}
use Rattle.list_schedule.specs.Job.{greatest}
use Rattle.list_schedule.proofs.totals.last_of.Given as goal

abbrev pub invariant-loop-t : goal.invariant-loop-t
invariant-loop-t l = l.last ≡ greatest (map (λ u. slice_index l.starts u + slice_index l.times u) (range_with_len 0 l.t))
