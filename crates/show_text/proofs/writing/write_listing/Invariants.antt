use Rattle.std.proofs.Common.{◌≤◌, Result, drop}
use Rattle.bm_io.specs.declared.sinks.SinkFault.{SinkFault}
use Rattle.bm_io.specs.Sink.{Taken, Sent}
use Rattle.show_text.specs.Listing.{listing, listing_from}
use Rattle.show_text.proofs.writing.write_listing.Given as goal

-- whatever comes of the blocks that are left, comes of all
abbrev pub invariant-loop-number : goal.invariant-loop-number
invariant-loop-number g l = record {
  sent : (now : Taken) (r : Result (Unit {0}) SinkFault) → Sent (g.O.Sink.taken l.out) now (listing_from l.number (drop l.number l.shown)) r → Sent (g.O.Sink.taken l.fn.out) now (listing l.shown) r;
  later : g.O.Sink.faults l.fn.out ≤ g.O.Sink.faults l.out;
}
