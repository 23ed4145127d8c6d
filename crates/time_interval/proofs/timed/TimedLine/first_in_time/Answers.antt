use Rattle.std.proofs.Common.{below_more, true≢false, sym, ◌∙◌}
use Rattle.time_interval.proofs.timed.TimedLine.first_in_time.Goals as goal

pub loop-index-preserved : goal.loop-index-preserved
loop-index-preserved c = below_more _ _ c.loop-index.invariant (λ t. true≢false (sym (c.in_time-in-loop-index.ensures.1 t) ∙ c.if-in_time-2.false))
