use Rattle.std.proofs.Common.{◌∙◌, sym, ap, length}
use Rattle.stream_image.proofs.ShelfFacts.{held_long}
use Rattle.stream_image.proofs.shelf.Shelf.len.Goals as goal

pub returns : goal.returns
returns c = ap length c.as_slice.ensures.value ∙ sym (held_long c.self.inside.columns c.args.self.now c.self.invariant c.self.view_is)
