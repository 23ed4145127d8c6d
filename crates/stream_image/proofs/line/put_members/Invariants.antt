use Rattle.std.proofs.Common.{◌≡◌, ◌++◌, ◌<◌, ◌≤◌, ℕ, get_or}
use Rattle.bm_base.specs.Mask.{has_bit}
use Rattle.stream_image.specs.Line.{ahead, passed}
use Rattle.stream_image.specs.Rest.{rest_of}
use Rattle.stream_image.proofs.line.put_members.Given as goal

abbrev pub invariant-loop-p : goal.invariant-loop-p
invariant-loop-p l = record {
  runs : l.items ≡ l.fn.items ++ ahead l.p (has_bit l.mask) (rest_of l.streams l.fn.places);
  done : (q : ℕ) → q < l.p → rest_of l.streams l.places q ≡ passed l.mask (rest_of l.streams l.fn.places) q;
  left : (q : ℕ) → l.p ≤ q → get_or l.places q 0 ≡ get_or l.fn.places q 0;
}
