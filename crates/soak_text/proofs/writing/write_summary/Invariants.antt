use Rattle.std.proofs.Common.{◌≤◌, Result, drop}
use Rattle.bm_io.specs.declared.sinks.SinkFault.{SinkFault}
use Rattle.bm_io.specs.Sink.{Taken, Sent}
use Rattle.bm_report.specs.Summary.{summary_lines}
use Rattle.soak_text.proofs.writing.write_summary.Given as goal

-- whatever comes of what is left, comes of all
abbrev pub invariant-loop-row : goal.invariant-loop-row
invariant-loop-row g l = record {
  sent : (now : Taken) (r : Result (Unit {0}) SinkFault) → Sent (g.O.Sink.taken l.out) now (drop l.row (summary_lines l.summary)) r → Sent (g.O.Sink.taken l.fn.out) now (summary_lines l.summary) r;
  later : g.O.Sink.faults l.fn.out ≤ g.O.Sink.faults l.out;
}
