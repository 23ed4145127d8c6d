use Rattle.std.proofs.Common.{◌≡◌, ◌≤◌, ◌*◌, take, sum_by, length}
use Rattle.dependence.proofs.deps.Deps.pairs.Given as goal

abbrev pub invariant-loop-row : goal.invariant-loop-row
invariant-loop-row l = (l.pairs ≡ sum_by length (take l.row-index l.self.producers)) × (l.pairs ≤ 128 * l.row-index)
