use Rattle.std.proofs.Common.{◌≡◌, ℕ, ◌*◌, [], length, false, Option, None, refl, sym, ap, ◌∙◌, arith}
use Rattle.std.proofs.lemmas.List.{length-replicate}
use Rattle.dbm_unit.proofs.Loads.{none_loaded, all_loaded}
use Rattle.dbm_unit.proofs.Units.{kept_so}
use Rattle.dbm_unit.proofs.dbm.Dbm.new.Goals as goal

pub invariant_of-result : goal.invariant_of-result
invariant_of-result c =
    let room : length c.in_ok-masks.masks.items ≡ c.args.room = let x = c.in_ok-masks.ensures.len in omega arith in
    record {
      room = record {
        loads = omega arith;
        fired_room = let x = c.in_ok-fired.ensures.len in omega arith;
        first_room = ap length c.in_ok-lists.ensures.first ∙ length-replicate {A = Option ℕ} 128 None;
        next_room = ap length c.in_ok-lists.ensures.next ∙ length-replicate {A = Option ℕ} (c.args.room * 128) None ∙ ap (λ n. n * 128) (sym room);
        sizes_room = let x = c.in_ok-sizes.ensures.len in omega arith;
        counts_room = let x = c.in_ok-counts.ensures.len in omega arith;
        ready_room = ap length c.in_ok-ready.ensures ∙ length-replicate c.args.room false ∙ sym room;
      };
      kept = kept_so refl (sym c.empty-2.ensures.value) refl refl (all_loaded (none_loaded [] c.in_ok-masks.masks.items c.in_ok-fired.fired.items c.in_ok-lists.lists.first.items c.in_ok-lists.lists.next.items c.in_ok-sizes.sizes.items c.in_ok-counts.counts.items c.in_ok-ready.ready c.args.room 128 refl c.in_ok-lists.ensures.first c.in_ok-ready.ensures));
    }
