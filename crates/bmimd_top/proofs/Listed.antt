-- The text of a listing, from what its parts sent.
use Rattle.std.proofs.Common.{◌≡◌, List, Result, subst}
use Rattle.bm_io.specs.declared.sinks.SinkFault.{SinkFault}
use Rattle.bm_io.specs.Sink.{Taken, Sent}
use Rattle.show_text.specs.declared.shown.ShownBlock.{ShownBlock}
use Rattle.show_text.specs.Listing.{listing}

-- the listing of the same blocks was sent
pub by_shown : {T : Type 0} (before now : Taken) (shown other : List ShownBlock) (r : Result T SinkFault) → shown ≡ other → Sent before now (listing shown) r → Sent before now (listing other) r
by_shown before now shown other r e h = subst (λ l. Sent before now (listing l) r) e h
