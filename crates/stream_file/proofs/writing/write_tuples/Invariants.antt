use Rattle.std.proofs.Common.{◌≡◌, ◌++◌, drop, map}
use Rattle.stream_file.specs.Rows as spec
use Rattle.stream_file.specs.RowFits.{AreTypedTuples}
use Rattle.stream_file.specs.Texts.{text_of_rows}
use Rattle.stream_file.proofs.writing.write_tuples.Given as goal

abbrev pub invariant-loop-one : goal.invariant-loop-one
invariant-loop-one l = record {
  text : l.out.items ++ text_of_rows (map (λ t. spec.Does t) (drop l.one-index l.tuples)) ≡ l.fn.out.items ++ text_of_rows (map (λ t. spec.Does t) l.tuples);
  typed : AreTypedTuples (drop l.one-index l.tuples) → AreTypedTuples l.tuples;
}
