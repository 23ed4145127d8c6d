use Rattle.std.proofs.Common.{◌+◌, ◌*◌, List, ◌++◌, All, map, take}
use Rattle.line_model.specs.declared.line.Item.{Item}
use Rattle.time_interval.specs.Bounds.{Pace}
use Rattle.time_interval.specs.Ordered.{IsOrdered}
use Rattle.compiled_image.specs.Fronts.{IsFrontOf}
use Rattle.compiled_image.specs.Reasons.{Pair, pair}
use Rattle.compiled_image.specs.Counts.{AreUpTo, IsTallyOf}
use Rattle.compiled_image.proofs.pairs.add_row.Given as goal

abbrev pub invariant-loop-a : goal.invariant-loop-a
invariant-loop-a l =
    AreUpTo (128 * l.fn.b + l.a-index) l.tally
    × ((pace : Pace) (line : List Item) (pairs : List Pair) → IsFrontOf pace.processors line l.fn.b l.fn.on l.fn.seen → All (λ a. IsOrdered pace line a l.fn.b) l.producers → IsTallyOf pace line pairs l.fn.tally → IsTallyOf pace line (pairs ++ map (pair l.fn.b) (take l.a-index l.producers)) l.tally)
