use Rattle.std.proofs.Common.{◌*◌}
use Rattle.time_interval.specs.Bounds.{pace_on}
use Rattle.compiled_image.specs.Reasons.{pairs_below}
use Rattle.compiled_image.specs.Counts.{AreUpTo, IsTallyOf}
use Rattle.compiled_image.proofs.pairs.count_pairs.Given as goal

abbrev pub invariant-loop-b : goal.invariant-loop-b
invariant-loop-b l =
    AreUpTo (128 * l.b) l.tally
    × IsTallyOf (pace_on l.fn.spec l.fn.block.tuples) l.fn.line.items (pairs_below l.fn.block.tuples l.b) l.tally
