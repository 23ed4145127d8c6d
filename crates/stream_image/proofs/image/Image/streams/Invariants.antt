use Rattle.line_model.specs.Streams as lines
use Rattle.unit_law.specs.State.{code_at}
use Rattle.stream_image.specs.Line.{AreOf, AreBelow}
use Rattle.stream_image.proofs.image.Image.streams.Given as goal

abbrev pub invariant-loop-p : goal.invariant-loop-p
invariant-loop-p l = AreOf l.p (λ p. lines.stream p (code_at l.self l.b).line) l.streams.items × AreBelow l.p l.streams.items
