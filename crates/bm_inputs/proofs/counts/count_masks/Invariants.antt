use Rattle.std.proofs.Common.{◌≡◌, ◌≤◌, ◌*◌, length}
use Rattle.line_model.specs.Streams.{masks}
use Rattle.unit_law.specs.State.{code_at}
use Rattle.unit_law.specs.Determinate.{sum_below}
use Rattle.bm_inputs.proofs.counts.count_masks.Given as goal

-- the sum of the blocks so far, at most 128 each
abbrev pub invariant-loop-b : goal.invariant-loop-b
invariant-loop-b l = record {
  value : l.count ≡ sum_below (λ b. length (masks (code_at l.image b).line)) l.b;
  few : l.count ≤ 128 * l.b;
}
