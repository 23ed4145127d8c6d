use Rattle.std.proofs.Common.{◌≡◌, ◌<◌, ◌≤◌, ℕ, get_or, length}
use Rattle.bm_base.specs.Mask.{has_bit}
use Rattle.line_model.specs.declared.line.StreamItem.TheVariants.{Wait}
use Rattle.line_model.specs.Streams.{own}
use Rattle.stream_image.specs.Rest.{rest_of}
use Rattle.stream_image.proofs.sorted.pass_waits.Given as goal

abbrev pub invariant-loop-p : goal.invariant-loop-p
invariant-loop-p l = record {
  done : (q : ℕ) → q < l.p → rest_of l.streams l.fn.places q ≡ own (has_bit l.mask q) Wait (rest_of l.streams l.places q);
  left : (q : ℕ) → l.p ≤ q → get_or l.places q 0 ≡ get_or l.fn.places q 0;
  room : length l.places ≡ length l.fn.places;
}
