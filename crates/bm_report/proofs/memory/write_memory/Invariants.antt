use Rattle.std.proofs.Common.{◌≤◌, List, ℕ, Result, drop}
use Rattle.bm_io.specs.declared.sinks.SinkFault.{SinkFault}
use Rattle.bm_io.specs.Sink.{Taken, Sent}
use Rattle.bm_report.specs.Text.{memory_lines}
use Rattle.bm_report.proofs.memory.write_memory.Given as goal

-- whatever comes of the names that are left, comes of all
abbrev pub invariant-loop-id : goal.invariant-loop-id
invariant-loop-id g l = record {
  sent : (now : Taken) (r : Result (Unit {0}) SinkFault) → Sent (g.O.Sink.taken l.out) now (memory_lines (drop l.id l.names) (drop l.id l.store)) r → Sent (g.O.Sink.taken l.fn.out) now (memory_lines l.names l.store) r;
  later : g.O.Sink.faults l.fn.out ≤ g.O.Sink.faults l.out;
}
