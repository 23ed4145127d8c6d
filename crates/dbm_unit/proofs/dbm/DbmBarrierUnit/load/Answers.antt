use Rattle.std.proofs.Common.{◌≡◌, ◌-◌, ◌<◌, ◌≤◌, true, false, length, take, map, None, refl, sym, ap, ◌∙◌, subst, arith, length-set, get_or-set_same, get_or-set_other}
use Rattle.std.proofs.lemmas.Bool.{eq-eqb, ne_eqb}
use Rattle.std.proofs.lemmas.List.{length-replicate}
use Rattle.dbm_unit.specs.Kept.{is_in, IsKept, HasRoom}
use Rattle.dbm_unit.proofs.Loads.{IsLoading, IsPut, none_loaded, loaded_next, room_next, loaded_masks, loaded_fired, all_loaded}
use Rattle.dbm_unit.proofs.dbm.DbmBarrierUnit.load.Goals as goal
use Rattle.dbm_unit.proofs.dbm.DbmBarrierUnit.load.Goals.{After-loop-j, After-lead-size}

pub loop-j-init : goal.loop-j-init
loop-j-init c =
    let h = c.self.invariant.room in
    record {
      same_room = refl;
      all = refl;
      nobody = c.empty-self-inside.ensures.value;
      room = record {
        loads = let e : length c.self.inside.masks.items ≡ c.args.self.now.room = ap (λ t. t.room) c.self.view_is in omega (arith, c.requires);
        fired_room = h.fired_room;
        first_room = ap length c.clear.ensures.first ∙ length-replicate (length c.self.inside.lists.first.items) None ∙ h.first_room;
        next_room = ap length c.clear.ensures.next ∙ h.next_room;
        sizes_room = h.sizes_room;
        counts_room = h.counts_room;
        ready_room = ap length c.clear-2.ensures ∙ length-replicate (length c.self.inside.ready) false ∙ h.ready_room;
      };
      loading = none_loaded c.args.masks.now c.self.inside.masks.items c.self.inside.fired.items c.clear.new.self.first.items c.clear.new.self.next.items c.self.inside.sizes.items c.self.inside.counts.items c.clear-2.new.self (length c.self.inside.ready) (length c.self.inside.lists.first.items) h.first_room c.clear.ensures.first c.clear-2.ensures;
    }

put : (c : After-lead-size) → IsPut c.index-masks-j.result (c.loop-j.j - 1) c.lead-size.result c.loop-j.self-inside.lists.first.items c.loop-j.self-inside.lists.next.items c.lead-size.new.self.first.items c.lead-size.new.self.next.items
put c = record { sized = c.lead-size.ensures.size; members = c.lead-size.ensures.members; firsts = c.lead-size.ensures.firsts; links = c.lead-size.ensures.links; behind = c.lead-size.ensures.behind }

pub lead-size-requires-clause-next : goal.lead-size-requires-clause-next
lead-size-requires-clause-next c = let x = c.loop-j.invariant.room.next_room in let y = c.loop-j.invariant.room.loads in let z : c.loop-j.j ≤ length c.args.masks.now = c.loop-j.auto.j in omega (arith, c.loop-j-test.true)

pub insert-requires-clause-new : goal.insert-requires-clause-new
insert-requires-clause-new c = c.loop-j.invariant.loading.before (c.loop-j.j - 1) (omega (arith, c.loop-j-test.true))

pub loop-j-preserved-then-size-eq0 : goal.loop-j-preserved-then-size-eq0
loop-j-preserved-then-size-eq0 c =
    let h = c.loop-j.invariant.room in
    let most : c.loop-j.j ≤ length c.args.masks.now = c.loop-j.auto.j in
    let within : c.loop-j.j - 1 < length c.loop-j.self-inside.ready = let x = h.ready_room in let y = h.loads in omega (arith, c.loop-j-test.true) in
    record {
      same_room = length-set c.loop-j.self-inside.masks.items (c.loop-j.j - 1) c.index-masks-j.result ∙ c.loop-j.invariant.same_room;
      all = c.loop-j.invariant.all;
      nobody = c.loop-j.invariant.nobody;
      room = room_next c.loop-j.self-inside.masks.items h (c.loop-j.j - 1) c.index-masks-j.result c.lead-size.result c.lead-size.new.self.first.items c.lead-size.new.self.next.items c.insert.new.self c.lead-size.ensures.first_room c.lead-size.ensures.next_room (ap length c.insert.ensures ∙ length-set c.loop-j.self-inside.ready (c.loop-j.j - 1) true);
      loading = loaded_next c.args.masks.now c.loop-j.j c.loop-j.invariant.loading c.loop-j-test.true most h c.index-masks-j.result c.lead-size.result c.lead-size.new.self.first.items c.lead-size.new.self.next.items c.index-masks-j.is (put (goal.at.loop-j-preserved-then-size-eq0 c).After-lead-size) c.insert.new.self
          (λ k ne. ap (λ r. is_in r k) c.insert.ensures ∙ get_or-set_other c.loop-j.self-inside.ready (c.loop-j.j - 1) k true false ne)
          (ap (λ r. is_in r (c.loop-j.j - 1)) c.insert.ensures ∙ get_or-set_same c.loop-j.self-inside.ready (c.loop-j.j - 1) true false within ∙ sym (eq-eqb 0 c.lead-size.result (sym c.if-size-eq0.true)));
    }

pub loop-j-preserved : goal.loop-j-preserved
loop-j-preserved c =
    let h = c.loop-j.invariant.room in
    let most : c.loop-j.j ≤ length c.args.masks.now = c.loop-j.auto.j in
    record {
      same_room = length-set c.loop-j.self-inside.masks.items (c.loop-j.j - 1) c.index-masks-j.result ∙ c.loop-j.invariant.same_room;
      all = c.loop-j.invariant.all;
      nobody = c.loop-j.invariant.nobody;
      room = room_next c.loop-j.self-inside.masks.items h (c.loop-j.j - 1) c.index-masks-j.result c.lead-size.result c.lead-size.new.self.first.items c.lead-size.new.self.next.items c.loop-j.self-inside.ready c.lead-size.ensures.first_room c.lead-size.ensures.next_room refl;
      loading = loaded_next c.args.masks.now c.loop-j.j c.loop-j.invariant.loading c.loop-j-test.true most h c.index-masks-j.result c.lead-size.result c.lead-size.new.self.first.items c.lead-size.new.self.next.items c.index-masks-j.is (put (goal.at.loop-j-preserved c).After-lead-size) c.loop-j.self-inside.ready
          (λ k ne. refl)
          (c.loop-j.invariant.loading.before (c.loop-j.j - 1) (omega (arith, c.loop-j-test.true)) ∙ sym (ne_eqb 0 c.lead-size.result (λ e. c.if-size-eq0.false (sym e))));
    }

loading : (c : After-loop-j) → IsLoading c.args.masks.now 0 c.loop-j.self-inside.masks.items c.loop-j.self-inside.fired.items c.loop-j.self-inside.lists.first.items c.loop-j.self-inside.lists.next.items c.loop-j.self-inside.sizes.items c.loop-j.self-inside.counts.items c.loop-j.self-inside.ready
loading c = let z : c.loop-j.j ≡ 0 = omega (arith, c.loop-j-test.false) in subst (λ i. IsLoading c.args.masks.now i c.loop-j.self-inside.masks.items c.loop-j.self-inside.fired.items c.loop-j.self-inside.lists.first.items c.loop-j.self-inside.lists.next.items c.loop-j.self-inside.sizes.items c.loop-j.self-inside.counts.items c.loop-j.self-inside.ready) z c.loop-j.invariant.loading

masks_are : (c : After-loop-j) → take c.loop-j.self-inside.loaded c.loop-j.self-inside.masks.items ≡ c.args.masks.now
masks_are c = ap (λ n. take n c.loop-j.self-inside.masks.items) c.loop-j.invariant.all ∙ loaded_masks (loading c) c.loop-j.invariant.room.loads

fired_are : (c : After-loop-j) → take c.loop-j.self-inside.loaded c.loop-j.self-inside.fired.items ≡ map (λ _. false) c.args.masks.now
fired_are c = ap (λ n. take n c.loop-j.self-inside.fired.items) c.loop-j.invariant.all ∙ loaded_fired (loading c) (let x = c.loop-j.invariant.room.loads in let y = c.loop-j.invariant.room.fired_room in omega arith)

pub invariant_of-self : goal.invariant_of-self
invariant_of-self c =
    record {
      room = subst (λ n. HasRoom (length c.loop-j.self-inside.masks.items) n c.loop-j.self-inside.fired.items c.loop-j.self-inside.lists.first.items c.loop-j.self-inside.lists.next.items c.loop-j.self-inside.sizes.items c.loop-j.self-inside.counts.items c.loop-j.self-inside.ready) (sym c.loop-j.invariant.all) c.loop-j.invariant.room;
      kept = subst (λ m. IsKept m (take c.loop-j.self-inside.loaded c.loop-j.self-inside.fired.items) c.loop-j.self-inside.waiting c.loop-j.self-inside.lists.first.items c.loop-j.self-inside.lists.next.items c.loop-j.self-inside.sizes.items c.loop-j.self-inside.counts.items c.loop-j.self-inside.ready) (sym (masks_are c))
          (subst (λ f. IsKept c.args.masks.now f c.loop-j.self-inside.waiting c.loop-j.self-inside.lists.first.items c.loop-j.self-inside.lists.next.items c.loop-j.self-inside.sizes.items c.loop-j.self-inside.counts.items c.loop-j.self-inside.ready) (sym (fired_are c))
          (subst (λ w. IsKept c.args.masks.now (map (λ _. false) c.args.masks.now) w c.loop-j.self-inside.lists.first.items c.loop-j.self-inside.lists.next.items c.loop-j.self-inside.sizes.items c.loop-j.self-inside.counts.items c.loop-j.self-inside.ready) (sym c.loop-j.invariant.nobody) (all_loaded (loading c))));
    }

pub returns-clause-masks : goal.returns-clause-masks
returns-clause-masks c = masks_are c

pub returns-clause-fired : goal.returns-clause-fired
returns-clause-fired c = fired_are c

pub returns-clause-waiting : goal.returns-clause-waiting
returns-clause-waiting c = c.loop-j.invariant.nobody
