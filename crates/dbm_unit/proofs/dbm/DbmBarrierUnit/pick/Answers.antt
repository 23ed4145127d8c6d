use Rattle.std.proofs.Common.{true, false, length, sym, ap, ◌∙◌, subst, arith, length-set}
use Rattle.bm_base.specs.Mask.{has_bit, without}
use Rattle.unit_law.specs.Units.{IsLawful}
use Rattle.unit_law.proofs.ReadyFacts.{dynamic_lawful}
use Rattle.dbm_unit.proofs.Units.{take_set, choice_of, picked, slot_mask, after_pick}
use Rattle.dbm_unit.proofs.dbm.DbmBarrierUnit.pick.Goals as goal

pub index-mask-requires : goal.index-mask-requires
index-mask-requires c = let x = (picked c.self.inside.masks.items c.self.invariant.room c.self.invariant.kept c.in_ok-j.j c.in_ok-j.ensures.least).1 in let y = c.self.invariant.room.loads in omega arith

pub index_mut-requires : goal.index_mut-requires
index_mut-requires c = let x = (picked c.self.inside.masks.items c.self.invariant.room c.self.invariant.kept c.in_ok-j.j c.in_ok-j.ensures.least).1 in let y = c.self.invariant.room.loads in let z = c.self.invariant.room.fired_room in omega arith

pub index_mut-requires-2 : goal.index_mut-requires-2
index_mut-requires-2 c = let x = (picked c.self.inside.masks.items c.self.invariant.room c.self.invariant.kept c.in_ok-j.j c.in_ok-j.ensures.least).1 in let y = c.self.invariant.room.loads in let z = c.self.invariant.room.counts_room in omega arith

pub advance-requires-clause-next : goal.advance-requires-clause-next
advance-requires-clause-next c = let x = (picked c.self.inside.masks.items c.self.invariant.room c.self.invariant.kept c.in_ok-j.j c.in_ok-j.ensures.least).1 in let y = c.self.invariant.room.loads in let z = c.self.invariant.room.next_room in omega arith

pub invariant_of-self-2 : goal.invariant_of-self-2
invariant_of-self-2 c =
    let h = c.self.invariant.room in
    record {
      room = record {
        loads = h.loads;
        fired_room = length-set c.self.inside.fired.items c.in_ok-j.j true ∙ h.fired_room;
        first_room = c.advance.ensures.first_room ∙ h.first_room;
        next_room = ap length c.advance.ensures.next ∙ h.next_room;
        sizes_room = h.sizes_room;
        counts_room = length-set c.self.inside.counts.items c.in_ok-j.j 0 ∙ h.counts_room;
        ready_room = ap length c.in_ok-j.ensures.left ∙ length-set c.self.inside.ready c.in_ok-j.j false ∙ h.ready_room;
      };
      kept = after_pick c.self.inside.masks.items h c.self.invariant.kept c.in_ok-j.j c.index-mask.result.now c.without-self-inside.result c.advance.new.self.first.items c.advance.new.self.next.items c.pop.new.self c.in_ok-j.ensures.least c.index-mask.ensures c.without-self-inside.ensures.value c.advance.ensures.firsts c.advance.ensures.next c.in_ok-j.ensures.left;
    }

pub returns-in_err-j-clause-chosen : goal.returns-in_err-j-clause-chosen
returns-in_err-j-clause-chosen c = c.from_residual.ensures ∙ c.in_err-j.ensures.least ∙ rw (← c.self.view_is) (choice_of c.self.inside.masks.items c.self.invariant.room c.self.invariant.kept)

pub returns-clause-chosen : goal.returns-clause-chosen
returns-clause-chosen c = c.in_ok-j.ensures.least ∙ rw (← c.self.view_is) (choice_of c.self.inside.masks.items c.self.invariant.room c.self.invariant.kept)

pub returns-in_err-j-clause-lawful : goal.returns-in_err-j-clause-lawful
returns-in_err-j-clause-lawful c = subst (IsLawful c.args.self.now.masks c.args.self.now.fired (has_bit c.args.self.now.waiting)) (sym (returns-in_err-j-clause-chosen c)) (dynamic_lawful c.args.self.now.masks c.args.self.now.fired c.args.self.now.waiting)

pub returns-clause-lawful : goal.returns-clause-lawful
returns-clause-lawful c = subst (IsLawful c.args.self.now.masks c.args.self.now.fired (has_bit c.args.self.now.waiting)) (sym (returns-clause-chosen c)) (dynamic_lawful c.args.self.now.masks c.args.self.now.fired c.args.self.now.waiting)

pub returns-clause-fired : goal.returns-clause-fired
returns-clause-fired c = rw (← c.self.view_is) (take_set c.self.inside.loaded c.self.inside.fired.items c.in_ok-j.j true)

pub returns-clause-waiting : goal.returns-clause-waiting
returns-clause-waiting c = rw (← c.self.view_is) (c.without-self-inside.ensures.value ∙ ap (without c.self.inside.waiting) (slot_mask c.self.inside.masks.items c.self.inside.loaded c.in_ok-j.j c.index-mask.result.now (picked c.self.inside.masks.items c.self.invariant.room c.self.invariant.kept c.in_ok-j.j c.in_ok-j.ensures.least).1 c.self.invariant.room.loads c.index-mask.ensures))
