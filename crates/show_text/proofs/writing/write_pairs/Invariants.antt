use Rattle.std.proofs.Common.{◌≤◌, Result, drop, map}
use Rattle.bm_io.specs.declared.sinks.SinkFault.{SinkFault}
use Rattle.bm_io.specs.Sink.{Taken, Sent}
use Rattle.show_text.specs.Listing.{pair_lines, shown_pair_line}
use Rattle.show_text.proofs.writing.write_pairs.Given as goal

-- whatever comes of what is left, comes of all
abbrev pub invariant-loop-pair : goal.invariant-loop-pair
invariant-loop-pair g l = record {
  sent : (now : Taken) (r : Result (Unit {0}) SinkFault) → Sent (g.O.Sink.taken l.out) now (map shown_pair_line (drop l.pair-index l.pairs)) r → Sent (g.O.Sink.taken l.fn.out) now (pair_lines l.pairs) r;
  later : g.O.Sink.faults l.fn.out ≤ g.O.Sink.faults l.out;
}
