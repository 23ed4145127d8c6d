use Rattle.time_interval.specs.Bounds.{pace_on}
use Rattle.compiled_image.specs.Reasons.{pairs_below}
use Rattle.show_text.specs.Shown.{ArePairs}
use Rattle.show_text.proofs.shown.show_pairs.Given as goal

abbrev pub invariant-loop-b : goal.invariant-loop-b
invariant-loop-b l = record { pairs : ArePairs (pace_on l.fn.spec l.fn.block.tuples) l.fn.line.items (pairs_below l.fn.block.tuples l.b) l.pairs }
