use Rattle.std.proofs.Common.{◌≡◌, ◌≤◌, ◌*◌, length}
use Rattle.unit_law.specs.State.{code_at}
use Rattle.unit_law.specs.Determinate.{sum_below}
use Rattle.bm_inputs.proofs.counts.count_tuples.Given as goal

-- the sum of the blocks so far, at most 128 each
abbrev pub invariant-loop-b : goal.invariant-loop-b
invariant-loop-b l = record {
  value : l.count ≡ sum_below (λ b. length (code_at l.image b).tuples) l.b;
  few : l.count ≤ 128 * l.b;
}
