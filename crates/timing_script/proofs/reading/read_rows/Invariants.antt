use Rattle.std.proofs.Common.{◌≡◌, length}
use Rattle.timing_script.specs.Reading.{reading, reading_from}
use Rattle.timing_script.proofs.reading.read_rows.Given as goal

abbrev pub invariant-loop-row : goal.invariant-loop-row
invariant-loop-row l = reading_from l.offsets l.rows ≡ reading l.fn.bytes

abbrev pub decreases-loop-row : goal.decreases-loop-row
decreases-loop-row l = length l.rows
