use Rattle.std.proofs.Common.{◌≡◌, length, take}
use Rattle.time_interval.specs.Gaps.{AreFirstPlaces}
use Rattle.time_interval.proofs.places.Places.of.Given as goal

abbrev pub invariant-loop-place : goal.invariant-loop-place
invariant-loop-place l = record {
  long : length l.places ≡ 128;
  first : AreFirstPlaces (take l.place l.items) l.bars l.places;
}
