use Rattle.std.proofs.Common.{◌∙◌, ap, w64}
use Rattle.std.proofs.lemmas.Int.{to_z-of_z}
use Rattle.bm_io.specs.LineValues.{value_line}
use Rattle.bm_io.proofs.OneLine.{refused-line}
use Rattle.bm_io.proofs.line_values.LineValuesValues.value.Goals as goal

pub returns-clause-refused : goal.returns-clause-refused
returns-clause-refused g c =
    let whole = ap value_line (to_z-of_z w64 c.args.value c.ranges.value) in
    refused-line (g.O.Sink.taken c.args.self.now.out.now) (g.O.Sink.taken c.write.new.self) c.bytes.result.now c.args.value c.write.result (c.bytes.ensures.value ∙ c.line.ensures ∙ whole) c.write.ensures.sent c.write.ensures.memory
