use Rattle.std.proofs.Common.{◌≡◌, ℕ, nat_lt, length, Some, None, if◌then◌else◌}
use Rattle.time_interval.specs.Steps.{by_processor}
use Rattle.time_interval.proofs.walk.Walk.at_start.Given as goal

abbrev pub invariant-loop-p : goal.invariant-loop-p
invariant-loop-p l = record {
  long : length l.lo ≡ 128;
  set : (q : ℕ) → by_processor l.lo q ≡ (if nat_lt q l.p then Some 0 else None);
}
