use Rattle.std.proofs.Common.{◌≡◌, length}
use Rattle.bm_base.specs.Memories.{IsMemoryOf}
use Rattle.timing_script.specs.DataReading.{reading, reading_from}
use Rattle.timing_script.specs.Shown.{state_of}
use Rattle.timing_script.proofs.data_reading.read_rows.Given as goal

abbrev pub invariant-loop-row : goal.invariant-loop-row
invariant-loop-row l = record {
  left : reading_from l.names (state_of l.draft) l.rows ≡ reading l.names l.fn.bytes;
  memory : IsMemoryOf l.names l.draft.store;
  firsts : length l.draft.firsts.items ≡ length l.names;
}

abbrev pub decreases-loop-row : goal.decreases-loop-row
decreases-loop-row l = length l.rows
