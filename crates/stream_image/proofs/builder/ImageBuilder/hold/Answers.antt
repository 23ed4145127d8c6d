use Rattle.std.proofs.Common.{◌≤◌, ◌++◌, ◌∷◌, [], sym, subst, arith, refl}
use Rattle.unit_law.specs.State.{Program}
use Rattle.stream_image.specs.Held.{IsHeld, AreHeld}
use Rattle.stream_image.proofs.Accepted.{accepted_held, held_more, after_push, room_held}
use Rattle.stream_image.proofs.builder.ImageBuilder.hold.Goals as goal

pub invariant_of-self : goal.invariant_of-self
invariant_of-self c =
    let most : c.args.self.now.machine.processors ≤ 128 = subst (λ (m : Program). m.machine.processors ≤ 128) c.self.view_is (let e = c.processors-processors.ensures.value in let f = c.processors-processors.ensures.few in omega arith) in
    let held = subst (λ (m : Program). IsHeld m.machine m.names (record { block = c.args.block.now; streams = c.args.streams.now; masks = c.args.masks.now })) (sym c.self.view_is) (accepted_held c.args.self.now c.args.block.now c.args.streams.now c.args.masks.now most c.streams_are_bytes.ensures c.requires.increasing c.requires.tuples c.requires.masks c.requires.accepted) in
    after_push (AreHeld c.self.inside.spec c.self.inside.names) c.self.inside.held c.push.new.self (c.self.inside.held ++ record { block = c.args.block.now; streams = c.args.streams.now; masks = c.args.masks.now } ∷ []) c.push.result c.push.ensures.ok c.push.ensures.err c.self.invariant
    (held_more c.self.inside.spec c.self.inside.names c.self.inside.held _ (record { block = c.args.block.now; streams = c.args.streams.now; masks = c.args.masks.now }) refl (room_held c.self.inside.spec c.self.inside.names c.self.inside.held c.args.self.now c.self.view_is c.requires.room) c.self.invariant held)
