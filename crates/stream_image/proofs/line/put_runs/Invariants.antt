use Rattle.std.proofs.Common.{◌≡◌, ◌++◌, drop}
use Rattle.stream_image.specs.Line.{runs_ahead, behind_wait}
use Rattle.stream_image.proofs.line.put_runs.Given as goal

abbrev pub invariant-loop-k : goal.invariant-loop-k
invariant-loop-k l = record {
  runs : l.items ++ runs_ahead l.p (drop l.k l.own) ≡ l.fn.items ++ runs_ahead l.p (drop l.place l.own);
  place : behind_wait (drop l.k l.own) ≡ behind_wait (drop l.place l.own);
}
