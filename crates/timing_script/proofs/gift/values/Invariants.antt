use Rattle.std.proofs.Common.{◌≡◌, ◌≤◌, ◌+◌, length}
use Rattle.timing_script.specs.DataReading.{gathered}
use Rattle.timing_script.proofs.gift.values.Given as goal

abbrev pub invariant-loop-field : goal.invariant-loop-field
invariant-loop-field l = record {
  left : gathered l.values l.fields ≡ gathered l.initial.values l.initial.fields;
  few : length l.values + length l.fields ≤ length l.initial.fields;
}

abbrev pub decreases-loop-field : goal.decreases-loop-field
decreases-loop-field l = length l.fields
