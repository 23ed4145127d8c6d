use Rattle.std.proofs.Common.{◌∙◌}
use Rattle.tuple_ir.specs.declared.block.Next.TheVariants.{Halt}
use Rattle.stream_image.proofs.ShelfFacts.{within_tuples, tuples_are}
use Rattle.stream_image.proofs.shelf.Shelf.tuples.Goals as goal

pub list-requires : goal.list-requires
list-requires c = within_tuples c.self.inside.columns c.args.self.now c.self.invariant c.self.view_is c.args.b c.requires

pub returns : goal.returns
returns c = c.list.ensures ∙ tuples_are c.self.inside.columns c.args.self.now c.self.invariant c.self.view_is c.args.b c.requires Halt
