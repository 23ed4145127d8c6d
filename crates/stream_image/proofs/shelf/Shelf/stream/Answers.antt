use Rattle.std.proofs.Common.{◌∙◌, ap, ap₂, length, get_or, arith, ℕ, List}
use Rattle.std.specs.Prelude.{slice_range}
use Rattle.tuple_ir.specs.declared.block.Next.TheVariants.{Halt}
use Rattle.stream_image.specs.declared.given.Stream.{Stream}
use Rattle.stream_image.specs.Flat.{start_of}
use Rattle.stream_image.specs.Line.{items_of}
use Rattle.stream_image.proofs.ShelfFacts.{within_ends, streams_are, range_is}
use Rattle.stream_image.proofs.shelf.Shelf.stream.Goals as goal

pub start-from-requires : goal.start-from-requires
start-from-requires c = let n = within_ends c.self.inside.columns c.args.self.now c.self.invariant c.self.view_is c.args.b c.requires in let s = ap length c.deref.ensures.value in omega (arith, n, s)

pub offset_bounds-as_slice-b : goal.offset_bounds-as_slice-b
offset_bounds-as_slice-b c = let n = within_ends c.self.inside.columns c.args.self.now c.self.invariant c.self.view_is c.args.b c.requires in let s = ap length c.as_slice.ensures.value in let t = c.as_slice.type_inv.1 in omega (arith, n, s, t)

pub bounds-as_slice-b : goal.bounds-as_slice-b
bounds-as_slice-b c = let n = within_ends c.self.inside.columns c.args.self.now c.self.invariant c.self.view_is c.args.b c.requires in let s = ap length c.as_slice.ensures.value in omega (arith, n, s)

pub find-requires-clause-order : goal.find-requires-clause-order
find-requires-clause-order c = let r = range_is c.self.inside.columns c.args.self.now c.self.invariant c.self.view_is c.args.b c.requires in let f = c.start-from.ensures ∙ ap (λ (es : List ℕ). start_of es 0 c.args.b) c.deref.ensures.value in let t = ap (λ (es : List ℕ). get_or es c.args.b 0) c.as_slice.ensures.value in omega (arith, r.0, f, t)

pub find-requires-clause-within : goal.find-requires-clause-within
find-requires-clause-within c = let r = range_is c.self.inside.columns c.args.self.now c.self.invariant c.self.view_is c.args.b c.requires in let t = ap (λ (es : List ℕ). get_or es c.args.b 0) c.as_slice.ensures.value in omega (arith, r.1, t)

pub returns : goal.returns
returns c = c.find.ensures ∙ ap₂ (λ a b. items_of (slice_range c.self.inside.columns.streams a b) c.args.p) (c.start-from.ensures ∙ ap (λ (es : List ℕ). start_of es 0 c.args.b) c.deref.ensures.value) (ap (λ (es : List ℕ). get_or es c.args.b 0) c.as_slice.ensures.value) ∙ ap (λ (ss : List Stream). items_of ss c.args.p) (streams_are c.self.inside.columns c.args.self.now c.self.invariant c.self.view_is c.args.b c.requires Halt)
