use Rattle.std.proofs.Common.{◌≡◌, ◌++◌, ◌-◌, ◌<◌, ℕ, length}
use Rattle.stream_file.specs.Fields.{blocks_rows}
use Rattle.stream_file.specs.Written.{blocks_from}
use Rattle.stream_file.specs.RowFits.{AreTypedTuples}
use Rattle.stream_file.specs.Texts.{text_of_rows}
use Rattle.unit_law.specs.State.{code_at}
use Rattle.stream_file.proofs.writing.write_blocks.Given as goal

abbrev pub invariant-loop-b : goal.invariant-loop-b
invariant-loop-b l = record {
  text : l.out.items ++ text_of_rows (blocks_rows l.b (blocks_from l.image l.b (length l.image.blocks - l.b))) ≡ l.fn.out.items ++ text_of_rows (blocks_rows 0 (blocks_from l.image 0 (length l.image.blocks)));
  typed : (b : ℕ) → b < l.b → AreTypedTuples (code_at l.image b).tuples;
}
