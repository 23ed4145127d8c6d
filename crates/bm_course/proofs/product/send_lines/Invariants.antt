use Rattle.std.proofs.Common.{◌≤◌, Result, map, drop}
use Rattle.bm_io.specs.declared.sinks.SinkFault.{SinkFault}
use Rattle.bm_io.specs.Sink.{Taken, Sent}
use Rattle.bm_course.proofs.product.send_lines.Given as goal

-- whatever comes of the pieces that are left, comes of all
abbrev pub invariant-loop-line : goal.invariant-loop-line
invariant-loop-line g l = record {
  sent : (now : Taken) (r : Result (Unit {0}) SinkFault) → Sent (g.S.Sink.taken l.sink) now (map (λ line. line.now) (drop l.line-index l.lines)) r
      → Sent (g.S.Sink.taken l.fn.sink) now (map (λ line. line.now) l.lines) r;
  later : g.S.Sink.faults l.fn.sink ≤ g.S.Sink.faults l.sink;
}
