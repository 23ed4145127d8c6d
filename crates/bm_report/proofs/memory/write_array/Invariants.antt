use Rattle.std.proofs.Common.{◌≤◌, ◌*◌, ◌-◌, List, ℕ, Result}
use Rattle.std.specs.Prelude.{slice_get}
use Rattle.bm_io.specs.declared.sinks.SinkFault.{SinkFault}
use Rattle.bm_io.specs.Sink.{Taken, Sent}
use Rattle.bm_report.specs.Held.{lines_at}
use Rattle.bm_report.proofs.Memories.{rows_at}
use Rattle.bm_report.proofs.memory.write_array.Given as goal

-- whatever comes of the rows that are left, comes of all
abbrev pub invariant-loop-row : goal.invariant-loop-row
invariant-loop-row g l = record {
  sent : (now : Taken) (r : Result (Unit {0}) SinkFault) → Sent (g.O.Sink.taken l.out) now (rows_at (slice_get l.names l.id) (slice_get l.store l.id) (l.row * 8) (l.row-end - l.row)) r
      → Sent (g.O.Sink.taken l.fn.out) now (lines_at (slice_get l.names l.id) (slice_get l.store l.id)) r;
  later : g.O.Sink.faults l.fn.out ≤ g.O.Sink.faults l.out;
}
