use Rattle.std.proofs.Common.{◌≡◌, length, List, None}
use Rattle.line_model.specs.declared.line.Item.{Item}
use Rattle.line_model.specs.Streams.{masks}
use Rattle.mask_merge.specs.Reduced.{IsReduced}
use Rattle.mask_merge.specs.Search.{IsOnTurn}
use Rattle.mask_merge.proofs.turns.reduce.Given as goal

abbrev pub invariant-loop-edit : goal.invariant-loop-edit
invariant-loop-edit l = record {
  led : (result : List Item) → IsReduced l.initial.bounds.pace l.deps.producers l.bounds.line result → IsReduced l.initial.bounds.pace l.deps.producers l.initial.bounds.line result;
  on_turn : IsOnTurn l.bounds.pace l.deps.producers l.bounds.line l.in_order;
  rest : l.bounds.before ≡ None;
  pace : l.bounds.pace ≡ l.initial.bounds.pace;
}

abbrev pub decreases-loop-edit : goal.decreases-loop-edit
decreases-loop-edit l = length (masks l.bounds.line)
