use Rattle.std.proofs.Common.{◌≡◌, ℕ, ◌<◌}
use Rattle.mask_merge.specs.Reduced.{IsAdmissible}
use Rattle.mask_merge.specs.Search.{edit_of}
use Rattle.mask_merge.proofs.turns.first_of.Given as goal

abbrev pub invariant-loop-index : goal.invariant-loop-index
invariant-loop-index l = record {
  same : l.bounds ≡ l.initial.bounds;
  tried : (k : ℕ) → k < l.index → ¬ IsAdmissible l.initial.bounds.pace l.deps.producers l.initial.bounds.line (edit_of l.kind k);
}
