use Rattle.std.proofs.Common.{◌≡◌, ◌≤◌, ◌+◌, ◌*◌, ◌-◌, ◌++◌, length}
use Rattle.std.specs.Prelude.{slice_get}
use Rattle.bm_report.specs.Held.{elements_at}
use Rattle.bm_report.proofs.memory.elements.Given as goal

-- what is to come after this element gives the whole
abbrev pub invariant-loop-index : goal.invariant-loop-index
invariant-loop-index l = record {
  text : l.piece ++ elements_at (slice_get l.store l.id) l.index (l.index-end - l.index) ≡ l.fn.piece ++ elements_at (slice_get l.store l.id) l.first (l.index-end - l.first);
  size : length l.piece ≤ length l.fn.piece + 21 * (l.index - l.first);
}
