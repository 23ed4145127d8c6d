use Rattle.std.proofs.Common.{◌<◌, ◌∙◌, ap, length, get_or, arith, List}
use Rattle.tuple_ir.specs.declared.block.Next.{Next}
use Rattle.tuple_ir.specs.declared.block.Next.TheVariants.{Halt}
use Rattle.stream_image.proofs.ShelfFacts.{held_long, next_is}
use Rattle.stream_image.proofs.shelf.Shelf.next.Goals as goal

below : (c : goal.After-as_slice) → c.args.b < length c.as_slice.result.now
below c = let n = held_long c.self.inside.columns c.args.self.now c.self.invariant c.self.view_is in let s = ap length c.as_slice.ensures.value in omega (arith, n, s, c.requires)

pub offset_bounds-as_slice-b : goal.offset_bounds-as_slice-b
offset_bounds-as_slice-b c = let l = below c in let t = c.as_slice.type_inv.1 in omega (arith, l, t)

pub bounds-as_slice-b : goal.bounds-as_slice-b
bounds-as_slice-b c = below c

pub returns : goal.returns
returns c = ap (λ (ns : List Next). get_or ns c.args.b Halt) c.as_slice.ensures.value ∙ next_is c.self.inside.columns c.args.self.now c.self.invariant c.self.view_is c.args.b c.requires Halt
