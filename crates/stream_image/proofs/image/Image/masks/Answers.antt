use Rattle.std.proofs.Common.{◌<◌, ◌∙◌, [], ap, sym, subst, length, get_or, arith}
use Rattle.line_model.specs.Streams as lines
use Rattle.unit_law.specs.State.{Program}
use Rattle.stream_image.specs.Flat.{HeldBlock, held_at}
use Rattle.stream_image.proofs.ImageFacts.{at_place, masks_at, long_map}
use Rattle.stream_image.proofs.image.Image.masks.Goals as goal

pub masks-requires : goal.masks-requires
masks-requires c = let m = long_map (λ (h : HeldBlock). h.block) c.self.inside.held in let r = subst (λ (m : Program). c.args.b < length m.blocks) (sym c.self.view_is) c.requires in omega arith

pub returns : goal.returns
returns c =
    let held = c.self.inside.held in
    let l : c.args.b < length held = (let m = long_map (λ (h : HeldBlock). h.block) held in let r = subst (λ (m : Program). c.args.b < length m.blocks) (sym c.self.view_is) c.requires in omega arith) in
    c.masks.ensures ∙ masks_at c.self.inside.spec.processors held c.args.b (held_at held c.args.b) l (at_place held c.args.b l) ∙ ap (λ (m : Program). lines.masks (get_or m.lines c.args.b [])) c.self.view_is
