use Rattle.std.proofs.Common.{◌+◌, ◌∙◌, slice_index, sym, ap, max}
use Rattle.list_schedule.proofs.HeightFacts.{value_more}
use Rattle.list_schedule.proofs.totals.last_of.Goals as goal

pub loop-t-preserved : goal.loop-t-preserved
loop-t-preserved c = c.max-last.ensures ∙ ap (λ m. max m (slice_index c.args.starts.now c.loop-t.t + slice_index c.args.times.now c.loop-t.t)) c.loop-t.invariant ∙ sym (value_more (λ u. slice_index c.args.starts.now u + slice_index c.args.times.now u) c.loop-t.t)
