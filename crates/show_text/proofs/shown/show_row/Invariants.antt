use Rattle.std.proofs.Common.{List, ◌++◌, map, take}
use Rattle.compiled_image.specs.Reasons.{Pair, pair}
use Rattle.show_text.specs.Shown.{ArePairs}
use Rattle.show_text.proofs.shown.show_row.Given as goal

abbrev pub invariant-loop-a : goal.invariant-loop-a
invariant-loop-a l = record {
  pairs : (xs : List Pair) → ArePairs l.fn.bounds.pace l.fn.bounds.line xs l.fn.pairs → ArePairs l.fn.bounds.pace l.fn.bounds.line (xs ++ map (pair l.fn.b) (take l.a-index l.producers)) l.pairs;
}
