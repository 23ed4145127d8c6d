use Rattle.std.proofs.Common.{◌≡◌, slice_index, count_by, nat_eq, take}
use Rattle.list_schedule.proofs.steps.count.Given as goal

abbrev pub invariant-loop-a : goal.invariant-loop-a
invariant-loop-a l = l.count ≡ count_by (λ a. nat_eq (slice_index l.draft.places.items a) l.p) (take l.a-index l.producers)
