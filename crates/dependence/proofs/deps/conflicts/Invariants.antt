use Rattle.std.proofs.Common.{◌≡◌, map}
use Rattle.std.specs.List.{range_with_len}
use Rattle.dependence.specs.Producers.{producers_at, rows_of}
use Rattle.dependence.proofs.deps.conflicts.Given as goal

abbrev pub invariant-loop-b : goal.invariant-loop-b
invariant-loop-b l = rows_of l.rows.items ≡ map (producers_at l.tuples) (range_with_len 0 l.b)
