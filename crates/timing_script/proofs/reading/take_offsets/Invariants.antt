use Rattle.std.proofs.Common.{◌≡◌, length}
use Rattle.timing_script.specs.Reading.{filled}
use Rattle.timing_script.proofs.reading.take_offsets.Given as goal

abbrev pub invariant-loop-field : goal.invariant-loop-field
invariant-loop-field l = filled l.offsets l.processor l.fields ≡ filled l.initial.offsets l.processor l.initial.fields

abbrev pub decreases-loop-field : goal.decreases-loop-field
decreases-loop-field l = length l.fields
