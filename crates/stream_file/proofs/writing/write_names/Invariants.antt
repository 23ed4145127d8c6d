use Rattle.std.proofs.Common.{◌≡◌, ◌++◌, drop, map}
use Rattle.stream_file.specs.Rows as spec
use Rattle.stream_file.specs.RowFits.{AreTypedNames}
use Rattle.stream_file.specs.Texts.{text_of_rows}
use Rattle.stream_file.proofs.writing.write_names.Given as goal

abbrev pub invariant-loop-id : goal.invariant-loop-id
invariant-loop-id l = record {
  text : l.out.items ++ text_of_rows (map (λ e. spec.Named e) (drop l.id l.names)) ≡ l.fn.out.items ++ text_of_rows (map (λ e. spec.Named e) l.names);
  typed : AreTypedNames (drop l.id l.names) → AreTypedNames l.names;
}
