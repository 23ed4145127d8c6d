use Rattle.std.proofs.Common.{◌≡◌, ℕ, refl, sym, ap, ◌∙◌, arith, replicate, pos, length, get_or, [], map, None, false, zero, subst}
use Rattle.std.proofs.lemmas.List.{length-replicate}
use Rattle.unit_law.specs.State.{code_at, In, at_start}
use Rattle.unit_law.proofs.Ordered.{entered_at}
use Rattle.bm_machine.specs.Shown.{IsKept, processor_of, works_rightly, dues_of}
use Rattle.bm_machine.proofs.Dues.{dues_rest}
use Rattle.bm_machine.proofs.Running.{starts_standing}
use Rattle.bm_machine.proofs.Begins.{resting, rests, start_is, zeros, entry_unfired, waiting_is}
use Rattle.bm_machine.proofs.machine.Machine.new.Goals as goal

pub masks-requires : goal.masks-requires
masks-requires g c = c.image_laws.ensures.sound.some

pub see_members-requires-clause-block : goal.see_members-requires-clause-block
see_members-requires-clause-block g c = c.image_laws.ensures.sound.some

pub see_members-requires-clause-unfired : goal.see_members-requires-clause-unfired
see_members-requires-clause-unfired g c = λ p w. rw (c.load.ensures.masks, c.load.ensures.fired, c.masks.ensures) (entry_unfired 0 (code_at c.args.image.now 0) c.deref.result.now p w)

pub invariant_of-result : goal.invariant_of-result
invariant_of-result g c =
    let n : c.from-processors.result ≡ c.args.image.now.machine.processors = c.from-processors.ensures ∙ c.processors.ensures.value ∙ ap (λ m. m.processors) c.spec.ensures in
    let actors : c.in_ok-actors.actors.items ≡ replicate c.args.image.now.machine.processors resting = c.in_ok-actors.ensures.items_if_clones_equal (λ y e. e) ∙ ap (λ k. replicate k resting) n in
    let cells : c.in_ok-cells.cells.items ≡ replicate 128 (pos 0) = c.in_ok-cells.ensures.items_if_clones_equal (λ y e. e) in
    let counts : c.in_ok-counts.counts.items ≡ replicate c.args.image.now.machine.processors zero = c.in_ok-counts.ensures.items_if_clones_equal (λ y e. e) ∙ ap (λ k. replicate k zero) n in
    let at_zero : (p : ℕ) → get_or c.in_ok-counts.counts.items p zero ≡ zero = λ p. ap (λ l. get_or l p zero) counts ∙ zeros c.args.image.now.machine.processors p in
    let s = start_is c.args.image.now c.args.store _ _ _ _ (rests c.args.image.now.machine.processors c.in_ok-actors.actors.items actors) (c.see_members.ensures.unit.fired ∙ c.load.ensures.fired ∙ ap (map (λ _. false)) c.masks.ensures) cells c.new-2.ensures in
    let kept : IsKept c.args.image.now (record { clock = 0; mode = In 0; processors = map processor_of c.in_ok-actors.actors.items; fired = g.U.BarrierUnit.fired c.see_members.new.unit; world = record { cells = c.in_ok-cells.cells.items; memory = c.args.store; output = c.new-2.result.items } }) c.in_ok-counts.counts.items c.see_members.new.told (g.U.BarrierUnit.capacity c.see_members.new.unit) (g.U.BarrierUnit.queue c.see_members.new.unit) (g.U.BarrierUnit.waiting c.see_members.new.unit) =
    record {
      reached = record { memory = c.args.store; is_memory = c.requires.memory; past = []; run = tt; last = sym s; counted = at_zero };
      early = omega arith;
      few = λ p. omega (arith, at_zero p);
      long = ap length counts ∙ length-replicate c.args.image.now.machine.processors zero;
      cells = ap length cells;
      work = (c.image_laws.ensures.sound.some, λ p. subst (λ q. works_rightly (code_at c.args.image.now 0) 0 (get_or c.in_ok-counts.counts.items p zero) q.work) (sym (ap (λ l. get_or l p at_start) (rests c.args.image.now.machine.processors c.in_ok-actors.actors.items actors) ∙ entered_at c.args.image.now.machine.processors p)) (omega (arith, at_zero p)));
      room = λ b. rw (c.see_members.ensures.unit.capacity, c.load.ensures.capacity) (c.requires.room b);
      told_is = c.see_members.ensures.sees.told_is;
      agrees = (c.see_members.ensures.unit.masks ∙ c.load.ensures.masks ∙ c.masks.ensures, c.see_members.ensures.sees.told_is ∙ waiting_is (code_at c.args.image.now 0) (record { clock = 0; mode = In 0; processors = map processor_of c.in_ok-actors.actors.items; fired = g.U.BarrierUnit.fired c.see_members.new.unit; world = record { cells = c.in_ok-cells.cells.items; memory = c.args.store; output = c.new-2.result.items } }) c.in_ok-actors.actors.items c.see_members.new.told refl (rw (← c.deref.ensures.value) c.see_members.ensures.sees.told_has));
    } in
    record {
      kept = kept;
      agenda_is = c.in_ok-agenda.ensures ∙ ap (λ k. replicate k None) n ∙ sym (dues_rest 0 c.args.image.now.machine.processors) ∙ sym (ap (dues_of 0) (rests c.args.image.now.machine.processors c.in_ok-actors.actors.items actors));
      able_is = λ p. c.see_members.ensures.sees.able_has p ∙ starts_standing (code_at c.args.image.now 0) (record { clock = 0; mode = In 0; processors = map processor_of c.in_ok-actors.actors.items; fired = g.U.BarrierUnit.fired c.see_members.new.unit; world = record { cells = c.in_ok-cells.cells.items; memory = c.args.store; output = c.new-2.result.items } }) c.deref.result.now (sym (ap (map processor_of) c.deref.ensures.value)) p;
    }

pub returns-clause-state : goal.returns-clause-state
returns-clause-state g c =
    let n : c.from-processors.result ≡ c.args.image.now.machine.processors = c.from-processors.ensures ∙ c.processors.ensures.value ∙ ap (λ m. m.processors) c.spec.ensures in
    let actors : c.in_ok-actors.actors.items ≡ replicate c.args.image.now.machine.processors resting = c.in_ok-actors.ensures.items_if_clones_equal (λ y e. e) ∙ ap (λ k. replicate k resting) n in
    let cells : c.in_ok-cells.cells.items ≡ replicate 128 (pos 0) = c.in_ok-cells.ensures.items_if_clones_equal (λ y e. e) in
    start_is c.args.image.now c.args.store _ _ _ _ (rests c.args.image.now.machine.processors c.in_ok-actors.actors.items actors) (c.see_members.ensures.unit.fired ∙ c.load.ensures.fired ∙ ap (map (λ _. false)) c.masks.ensures) cells c.new-2.ensures
