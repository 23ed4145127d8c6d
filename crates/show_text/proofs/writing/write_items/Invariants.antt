use Rattle.std.proofs.Common.{◌≤◌, Result, drop, map}
use Rattle.bm_io.specs.declared.sinks.SinkFault.{SinkFault}
use Rattle.bm_io.specs.Sink.{Taken, Sent}
use Rattle.show_text.specs.Listing.{item_lines, shown_item_line}
use Rattle.show_text.proofs.writing.write_items.Given as goal

-- whatever comes of what is left, comes of all
abbrev pub invariant-loop-item : goal.invariant-loop-item
invariant-loop-item g l = record {
  sent : (now : Taken) (r : Result (Unit {0}) SinkFault) → Sent (g.O.Sink.taken l.out) now (map shown_item_line (drop l.item-index l.items)) r → Sent (g.O.Sink.taken l.fn.out) now (item_lines l.items) r;
  later : g.O.Sink.faults l.fn.out ≤ g.O.Sink.faults l.out;
}
