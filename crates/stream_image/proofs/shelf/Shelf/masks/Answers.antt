use Rattle.std.proofs.Common.{◌∙◌}
use Rattle.tuple_ir.specs.declared.block.Next.TheVariants.{Halt}
use Rattle.stream_image.proofs.ShelfFacts.{within_masks, masks_are}
use Rattle.stream_image.proofs.shelf.Shelf.masks.Goals as goal

pub list-requires : goal.list-requires
list-requires c = within_masks c.self.inside.columns c.args.self.now c.self.invariant c.self.view_is c.args.b c.requires

pub returns : goal.returns
returns c = c.list.ensures ∙ masks_are c.self.inside.columns c.args.self.now c.self.invariant c.self.view_is c.args.b c.requires Halt
