use Rattle.std.proofs.Common.{◌+◌, true, length, refl, sym, ap, ◌∙◌, arith, length-set}
use Rattle.bm_base.specs.Mask.{has_bit}
use Rattle.dbm_unit.proofs.Arrivals.{arrived_nowhere}
use Rattle.dbm_unit.proofs.Units.{kept_so}
use Rattle.dbm_unit.proofs.Waits.{Front, read_front, front_arrival, front_below, read_count, risen_room, reaches, stays_below}
use Rattle.dbm_unit.proofs.dbm.DbmBarrierUnit.arrive.Goals as goal
use Rattle.dbm_unit.proofs.dbm.DbmBarrierUnit.arrive.Goals.{In-Some}

front : (c : In-Some) → Front c.self.inside.masks.items c.self.inside.loaded c.self.inside.fired.items c.self.inside.waiting c.self.inside.lists.first.items c.self.inside.lists.next.items c.self.inside.sizes.items c.self.inside.counts.items c.self.inside.ready c.args.p c.in-Some.j
front c = record { room = c.self.invariant.room; kept = c.self.invariant.kept; one = c.requires.one; new = ap (λ t. has_bit t.waiting c.args.p) c.self.view_is ∙ c.requires.new; at = read_front _ c.args.p c.from.result c.index.result.now c.self.invariant.room.first_room c.requires.one c.from.ensures c.index.ensures ∙ c.in-Some.is }

pub index_mut-requires : goal.index_mut-requires
index_mut-requires c = let x = front_below (front (goal.at.index_mut-requires c).In-Some) in let y = c.self.invariant.room.counts_room in omega arith

pub overflow_add-index_mut : goal.overflow_add-index_mut
overflow_add-index_mut c =
    let f = front (goal.at.overflow_add-index_mut c).In-Some in
    let x = (front_arrival f).most in let y = read_count f c.index_mut.result.now c.index_mut.ensures.value in omega arith

pub index-requires-in-Some : goal.index-requires-in-Some
index-requires-in-Some c = let x = front_below (front (goal.at.index-requires-in-Some c).In-Some) in let y = c.self.invariant.room.counts_room in omega arith

pub index-requires-in-Some-2 : goal.index-requires-in-Some-2
index-requires-in-Some-2 c = let x = front_below (front (goal.at.index-requires-in-Some-2 c).In-Some) in let y = c.self.invariant.room.sizes_room in omega arith

pub insert-requires-then-index-clause-room : goal.insert-requires-then-index-clause-room
insert-requires-then-index-clause-room c = let x = front_below (front (goal.at.insert-requires-then-index-clause-room c).In-Some) in let y = c.self.invariant.room.ready_room in omega arith

pub insert-requires-then-index-clause-new : goal.insert-requires-then-index-clause-new
insert-requires-then-index-clause-new c = (front_arrival (front (goal.at.insert-requires-then-index-clause-new c).In-Some)).new

pub invariant_of-self : goal.invariant_of-self
invariant_of-self c =
    let f = front (goal.at.invariant_of-self c).In-Some in
    record { room = risen_room c.self.invariant.room c.in-Some.j (c.index_mut.result.now + 1) c.insert-then-index.new.self (ap length c.insert-then-index.ensures ∙ length-set c.self.inside.ready c.in-Some.j true); kept = reaches f c.index_mut.result.now c.index-in-Some.result.now c.index-in-Some-2.result.now c.insert.new.self c.index_mut.ensures.value c.index-in-Some.ensures c.index-in-Some-2.ensures c.insert.ensures.value c.if-index.true c.insert-then-index.new.self c.insert-then-index.ensures }

pub invariant_of-self-else-index : goal.invariant_of-self-else-index
invariant_of-self-else-index c =
    let f = front (goal.at.invariant_of-self-else-index c).In-Some in
    record { room = risen_room c.self.invariant.room c.in-Some.j (c.index_mut.result.now + 1) c.self.inside.ready refl; kept = stays_below f c.index_mut.result.now c.index-in-Some.result.now c.index-in-Some-2.result.now c.insert.new.self c.index_mut.ensures.value c.index-in-Some.ensures c.index-in-Some-2.ensures c.insert.ensures.value c.if-index.false }

pub invariant_of-self-in_default : goal.invariant_of-self-in_default
invariant_of-self-in_default c = record { room = c.self.invariant.room; kept = kept_so refl (sym c.insert.ensures.value) refl refl (arrived_nowhere c.self.invariant.kept c.args.p c.requires.one (read_front _ c.args.p c.from.result c.index.result.now c.self.invariant.room.first_room c.requires.one c.from.ensures c.index.ensures ∙ c.in_default.is)) }
