use Rattle.std.proofs.Common.{refl, ap, ◌∙◌}
use Rattle.line_model.specs.Streams as lines
use Rattle.unit_law.specs.State.{code_at}
use Rattle.stream_image.proofs.ImageLine.{one_more}
use Rattle.stream_image.proofs.image.Image.streams.Goals as goal

pub loop-p-preserved : goal.loop-p-preserved
loop-p-preserved c =
    let items = c.from_vec-items.ensures ∙ c.in_ok-from_slice.ensures.items ∙ c.stream.ensures in
    one_more c.loop-p.p (λ p. lines.stream p (code_at c.args.self.now c.args.b).line) c.loop-p.streams.items c.push.new.self.items (record { processor = c.loop-p.p; items = c.from_vec-items.result }) refl items c.in_ok-push.ensures.items c.loop-p.invariant
