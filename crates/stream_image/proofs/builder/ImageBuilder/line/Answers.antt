use Rattle.std.proofs.Common.{◌≡◌, ◌<◌, ◌++◌, ◌∷◌, [], sym, subst, refl, arith, ℕ}
use Rattle.line_model.specs.Streams as lines
use Rattle.unit_law.specs.State.{Program}
use Rattle.stream_image.specs.Flat.{streams_on}
use Rattle.stream_image.specs.Line.{items_of}
use Rattle.stream_image.specs.Image.{IsKept}
use Rattle.stream_image.specs.Held.{AreHeld}
use Rattle.stream_image.proofs.Accepted.{given_held, held_more, after_push, room_held, line_pushed}
use Rattle.stream_image.proofs.GivenStreams.{own_done}
use Rattle.stream_image.proofs.builder.ImageBuilder.line.Goals as goal

kept : (c : goal.After-drop-block) → IsKept c.self.inside.spec c.self.inside.names c.args.block c.args.line.now.items
kept c = subst (λ (m : Program). IsKept m.machine m.names c.args.block c.args.line.now.items) (sym c.self.view_is) c.requires.kept

streams : (c : goal.After-drop-block) → (p : ℕ) → p < c.self.inside.spec.processors → items_of (streams_on c.processors.result c.args.line.now.items) p ≡ lines.stream p c.args.line.now.items
streams c p l = (own_done c.args.line.now.items c.processors.result).0 p (let e = c.processors.ensures.value in omega (arith, l, e))

pub invariant_of-self : goal.invariant_of-self
invariant_of-self c =
    after_push (AreHeld c.self.inside.spec c.self.inside.names) c.self.inside.held c.push_line.new.self (c.self.inside.held ++ record { block = c.args.block; streams = streams_on c.processors.result c.args.line.now.items; masks = lines.masks c.args.line.now.items } ∷ []) c.push_line.result c.push_line.ensures.ok c.push_line.ensures.err c.self.invariant
    (held_more c.self.inside.spec c.self.inside.names c.self.inside.held _ (record { block = c.args.block; streams = streams_on c.processors.result c.args.line.now.items; masks = lines.masks c.args.line.now.items }) refl (room_held c.self.inside.spec c.self.inside.names c.self.inside.held c.args.self.now c.self.view_is c.requires.room) c.self.invariant
    (given_held c.self.inside.spec c.self.inside.names c.args.block c.args.line.now.items (kept c) (streams_on c.processors.result c.args.line.now.items) (lines.masks c.args.line.now.items) (streams c) refl))

pub returns-clause-ok : goal.returns-clause-ok
returns-clause-ok c = line_pushed c.self.inside.spec c.self.inside.names c.args.block c.args.line.now.items c.self.inside.held c.push_line.new.self (streams_on c.processors.result c.args.line.now.items) (lines.masks c.args.line.now.items) c.args.self.now c.push_line.result c.push_line.ensures.ok c.self.view_is (streams c) refl
