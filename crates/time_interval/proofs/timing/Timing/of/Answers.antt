use Rattle.time_interval.proofs.Tables.{pace_from}
use Rattle.time_interval.proofs.timing.Timing.of.Goals as goal

pub invariant_of-result : goal.invariant_of-result
invariant_of-result c = pace_from _ _ _ c.processors.ensures.few c.barrier.ensures.few c.loop-tuple.invariant.short
