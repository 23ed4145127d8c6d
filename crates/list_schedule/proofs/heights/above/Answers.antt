use Rattle.std.proofs.Common.{◌≡◌, ◌∙◌, ◌+◌, [], sym, map, filter, nat_eq, slice_index, slice_index_or}
use Rattle.std.specs.List.{range_with_len, list_any}
use Rattle.list_schedule.specs.Job.{greatest}
use Rattle.list_schedule.proofs.HeightFacts.{above_one, above_none}
use Rattle.list_schedule.proofs.heights.above.Goals as goal
use Rattle.list_schedule.proofs.heights.above.Goals.{then-contains, else-contains}

pub loop-b-preserved : goal.loop-b-preserved
loop-b-preserved c = elim c.if-contains.branch as (λ _. c.if-contains.most ≡ greatest (map (slice_index c.args.heights.now) (filter (λ b. list_any (nat_eq c.args.t) (slice_index_or c.args.deps.now.producers b [])) (range_with_len 0 (c.loop-b.b + 1))))) [ then-contains w ↦ above_one c.args.heights.now c.args.deps.now.producers c.args.t c.loop-b.b c.loop-b.most c.if-contains.most c.producers.result.now c.producers.ensures.value (sym c.contains.ensures.value ∙ w.if-contains.true) c.loop-b.invariant (w.most-is ∙ w.max-most.ensures) | else-contains w ↦ above_none c.args.heights.now c.args.deps.now.producers c.args.t c.loop-b.b c.loop-b.most c.if-contains.most c.producers.result.now c.producers.ensures.value (sym c.contains.ensures.value ∙ w.if-contains.false) c.loop-b.invariant w.most-is ]
