use Rattle.std.proofs.Common.{◌<◌, ◌∙◌, [], ap, sym, subst, length, get_or, arith}
use Rattle.line_model.specs.Streams as lines
use Rattle.unit_law.specs.State.{Program}
use Rattle.stream_image.specs.Flat.{HeldBlock, held_at}
use Rattle.stream_image.proofs.ImageFacts.{at_place, stream_at, long_map}
use Rattle.stream_image.proofs.image.Image.stream.Goals as goal

pub stream-requires : goal.stream-requires
stream-requires c = let m = long_map (λ (h : HeldBlock). h.block) c.self.inside.held in let r = subst (λ (m : Program). c.args.b < length m.blocks) (sym c.self.view_is) c.requires.block in omega arith

pub returns : goal.returns
returns c =
    let held = c.self.inside.held in
    let l : c.args.b < length held = (let m = long_map (λ (h : HeldBlock). h.block) held in let r = subst (λ (m : Program). c.args.b < length m.blocks) (sym c.self.view_is) c.requires.block in omega arith) in
    let k : c.args.p < c.self.inside.spec.processors = subst (λ (m : Program). c.args.p < m.machine.processors) (sym c.self.view_is) c.requires.processor in
    c.stream.ensures ∙ stream_at c.self.inside.spec c.self.inside.names held c.args.b c.args.p (held_at held c.args.b) c.self.invariant.held_so.each k l (at_place held c.args.b l) ∙ ap (λ (m : Program). lines.stream c.args.p (get_or m.lines c.args.b [])) c.self.view_is
