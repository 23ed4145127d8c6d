use Rattle.std.proofs.Common.{◌≡◌, ℕ, ◌+◌, ◌<◌, ◌≤◌, true, false, not, ◌&&◌, List, ◌++◌, slice_get, drop, length, take, get_or, map, Some, None, refl, sym, ap, ◌∙◌, subst, arith}
use Rattle.std.proofs.lemmas.List.{take_at, get_or_read, length-map}
use Rattle.std.proofs.lemmas.Option.{get_or_from_slice_get, slice_get_within}
use Rattle.bm_base.specs.Mask.{has_bit}
use Rattle.tuple_ir.specs.declared.event.Event.TheVariants.{Fired}
use Rattle.line_model.specs.Streams.{masks}
use Rattle.unit_law.specs.State.{State, Held, In, code_at, waits}
use Rattle.unit_law.specs.Units.{IsLawful, IsReady, fired_after, waiting_after}
use Rattle.bm_base.specs.Mask.{without}
use Rattle.unit_law.specs.Steps.{Fire, NoneDue, after_in, passed}
use Rattle.unit_law.specs.OnUnit.{answer_at, answers_lawfully}
use Rattle.bm_machine.specs.declared.actor.Actor.{Actor}
use Rattle.bm_machine.specs.declared.machine.Machine.TheInside.{Inside}
use Rattle.unit_law.specs.Sound.{IsSound}
use Rattle.bm_machine.specs.Shown.{mode_of, processor_of, standing_at, due_of, able_agrees}
use Rattle.bm_machine.proofs.Running.{starts_standing}
use Rattle.bm_machine.specs.Moves.{fires}
use Rattle.bm_machine.proofs.Dues.{dues_long}
use Rattle.bm_machine.proofs.Moved.{lawful_of}
use Rattle.bm_machine.proofs.WithinBlock.{waits_standing, actor_at, kept_agrees}
use Rattle.bm_machine.proofs.Finished.{state_is}
use Rattle.bm_machine.proofs.Fired.{Firing, fire_members, fire_known, fire_known_starts, fire_none, fire_dues, fire_starts, answer_is, fire_long, fire_short, fire_waits, fire_unfired, fire_kept, fire_gives, index_small, index_within}
use Rattle.bm_machine.proofs.machine.Machine.fire.Given as given
use Rattle.bm_machine.proofs.machine.Machine.fire.Goals as goal
use Rattle.bm_machine.proofs.machine.Machine.fire.Goals.{After-deref_mut, After-deref, After-see_members}

-- the state of a machine by its fields
abbrev state_of : (g : given.Over) → Inside g.row.U.Denot g.row.T.Denot → State
state_of g i = record { clock = i.clock; mode = mode_of i.stage; processors = map processor_of i.actors.items; fired = g.U.BarrierUnit.fired i.unit; world = record { cells = i.cells.items; memory = i.store; output = i.output.items } }

abbrev Ready : (g : given.Over) → Inside g.row.U.Denot g.row.T.Denot → ℕ → ℕ → Type 0
Ready g i b j = Firing i.image.now (state_of g i) i.counts.items i.told (g.U.BarrierUnit.capacity i.unit) (g.U.BarrierUnit.queue i.unit) (g.U.BarrierUnit.waiting i.unit) b j

within : (g : given.Over) (c : After-deref_mut g) → (state_of g c.self.inside).mode ≡ In c.args.block
within g c = subst (λ v. v.state.mode ≡ In c.args.block) (sym c.self.view_is) c.requires.within

answers : (g : given.Over) (c : After-deref_mut g) → answer_at (g.U.BarrierUnit.choice c.self.inside.unit) c.self.inside.image.now c.args.block (state_of g c.self.inside) ≡ Some c.in_ok-j.j
answers g c = answer_is (g.U.BarrierUnit.choice c.self.inside.unit) c.self.inside.image.now (state_of g c.self.inside) c.self.inside.counts.items c.self.inside.told (g.U.BarrierUnit.capacity c.self.inside.unit) (g.U.BarrierUnit.queue c.self.inside.unit) (g.U.BarrierUnit.waiting c.self.inside.unit) c.self.invariant.kept c.args.block (within g c) (Some c.in_ok-j.j) (sym c.in_ok-j.was ∙ c.pick.ensures.chosen)

lawful : (g : given.Over) (c : After-deref_mut g) → answers_lawfully (g.U.BarrierUnit.choice c.self.inside.unit) c.self.inside.image.now (state_of g c.self.inside) (In c.args.block)
lawful g c =
    let h = subst (IsLawful (g.U.BarrierUnit.queue c.self.inside.unit) (g.U.BarrierUnit.fired c.self.inside.unit) (has_bit (g.U.BarrierUnit.waiting c.self.inside.unit))) c.pick.ensures.chosen c.pick.ensures.lawful in
    lawful_of c.choices_are_lawful.ensures.by_mask (g.U.BarrierUnit.choice c.self.inside.unit) c.self.inside.image.now (state_of g c.self.inside) _ _ _ _ _ c.self.invariant.kept h c.args.block (within g c)

ready : (g : given.Over) (c : After-deref_mut g) → IsReady (masks (code_at c.self.inside.image.now c.args.block).line) (state_of g c.self.inside).fired (waits (code_at c.self.inside.image.now c.args.block) (state_of g c.self.inside)) c.in_ok-j.j
ready g c = subst (IsLawful (masks (code_at c.self.inside.image.now c.args.block).line) (state_of g c.self.inside).fired (waits (code_at c.self.inside.image.now c.args.block) (state_of g c.self.inside))) (answers g c) (lawful g c)

-- what is kept and required
facts : (g : given.Over) (c : After-deref_mut g) → Ready g c.self.inside c.args.block c.in_ok-j.j
facts g c = record { sound = subst (λ v. IsSound v.program) (sym c.self.view_is) c.facts.ensures.stands.sound; kept = c.self.invariant.kept; inside = within g c; due = subst (λ v. NoneDue v.state) (sym c.self.view_is) c.requires.none_due; ready = ready g c; quick = subst (λ v. v.program.machine.delay ≤ 100) (sym c.self.view_is) c.facts.ensures.stands.quick }

abbrev queue_of : (g : given.Over) → After-deref_mut g → List ℕ
queue_of g c = masks (code_at c.self.inside.image.now c.args.block).line

mask_is : (g : given.Over) (c : After-deref_mut g) → c.index-masks-j.result ≡ get_or (queue_of g c) c.in_ok-j.j 0
mask_is g c = get_or_read c.masks.result.now c.in_ok-j.j c.index-masks-j.result (subst (λ ms. c.in_ok-j.j < length ms) (sym c.masks.ensures) (index_within (facts g c))) c.index-masks-j.is 0 ∙ ap (λ ms. get_or ms c.in_ok-j.j 0) c.masks.ensures

kept_agrees_of : (g : given.Over) (c : After-deref_mut g) → g.U.BarrierUnit.queue c.self.inside.unit ≡ queue_of g c
kept_agrees_of g c = (kept_agrees c.self.inside.image.now (state_of g c.self.inside) c.self.inside.counts.items c.self.inside.told (g.U.BarrierUnit.capacity c.self.inside.unit) (g.U.BarrierUnit.queue c.self.inside.unit) (g.U.BarrierUnit.waiting c.self.inside.unit) c.self.invariant.kept c.args.block (within g c)).0

abbrev then : (g : given.Over) → After-deref_mut g → State
then g c = after_in c.self.inside.image.now c.args.block (state_of g c.self.inside) (Fire c.in_ok-j.j)

pub pass-requires-clause-short : goal.pass-requires-clause-short
pass-requires-clause-short g c = λ p a at has.
    let there = subst (λ l. slice_get l p ≡ Some a) c.deref_mut.ensures.value at in
    let small = fire_short (facts g c) p (subst (λ k. has_bit k p ≡ true) (mask_is g c) has) in
    let same = ap (λ q. q.place) (actor_at c.self.inside.actors.items p a (slice_get_within c.self.inside.actors.items p a there) (sym (get_or_from_slice_get c.self.inside.actors.items p a a there))) in
    omega arith

-- ---- the state after it
long : (g : given.Over) (c : After-deref_mut g) → length (map processor_of c.self.inside.actors.items) ≡ c.self.inside.image.now.machine.processors
long g c = fire_long (facts g c)

pub pass-requires-clause-members : goal.pass-requires-clause-members
pass-requires-clause-members g c = λ p h. let x = fire_members (facts g c) p (subst (λ k. has_bit k p ≡ true) (mask_is g c) h) in omega (arith, x, long g c, length-map c.self.inside.actors.items processor_of, ap length c.deref_mut.ensures.value)

until_is : (g : given.Over) (c : After-deref_mut g) → c.self.inside.clock + c.from.result ≡ c.self.inside.clock + c.self.inside.image.now.machine.delay
until_is g c = omega (arith, c.from.ensures, c.barrier.ensures.value, ap (λ m. m.delay) c.spec.ensures)

processors_then : (g : given.Over) (c : After-deref_mut g) (new : List Actor) → map processor_of new ≡ passed (c.self.inside.clock + c.from.result) c.index-masks-j.result 0 (map processor_of c.deref_mut.result.now) → map processor_of new ≡ (then g c).processors
processors_then g c new e = e ∙ ap (λ l. passed (c.self.inside.clock + c.from.result) c.index-masks-j.result 0 (map processor_of l)) c.deref_mut.ensures.value ∙ ap (λ k. passed (c.self.inside.clock + c.from.result) k 0 (map processor_of c.self.inside.actors.items)) (mask_is g c) ∙ ap (λ u. passed u (get_or (queue_of g c) c.in_ok-j.j 0) 0 (map processor_of c.self.inside.actors.items)) (until_is g c)

kept_actors : (g : given.Over) (c : After-deref g) → take c.self.inside.actors.len (c.pass.new.actors ++ drop (length c.pass.new.actors) c.self.inside.actors.items) ≡ c.pass.new.actors
kept_actors g c = take_at c.pass.new.actors (drop (length c.pass.new.actors) c.self.inside.actors.items) c.self.inside.actors.len (omega (arith, c.pass.auto.actors, c.deref_mut.ensures.len))

wait_then : (g : given.Over) (c : After-deref g) (d : After-deref_mut g) → map processor_of c.pass.new.actors ≡ (then g d).processors → (q : ℕ) → waits (code_at d.self.inside.image.now d.args.block) (standing_at d.self.inside.clock c.deref.result.now) q ≡ waits (code_at d.self.inside.image.now d.args.block) (then g d) q
wait_then g c d e = waits_standing (code_at d.self.inside.image.now d.args.block) (then g d) c.deref.result.now (sym (ap (map processor_of) (c.deref.ensures.value ∙ kept_actors g c) ∙ e))

pub see_members-requires-clause-told : goal.see_members-requires-clause-told
see_members-requires-clause-told g c =
    let d = (goal.at.see_members-requires-clause-told g c).After-deref_mut in
    let a = kept_agrees_of g d in
    c.pick.ensures.waiting ∙ ap (waiting_after (g.U.BarrierUnit.queue c.self.inside.unit) (g.U.BarrierUnit.waiting c.self.inside.unit)) c.in_ok-j.was ∙ ap (λ ms. without (g.U.BarrierUnit.waiting c.self.inside.unit) (get_or ms c.in_ok-j.j 0)) a ∙ ap (without (g.U.BarrierUnit.waiting c.self.inside.unit)) (sym (mask_is g d)) ∙ ap (λ w. without w c.index-masks-j.result) c.self.invariant.kept.told_is ∙ sym c.without-self-inside.ensures.value

pub hold-requires-clause-new : goal.hold-requires-clause-new
hold-requires-clause-new g c =
    let d = (goal.at.hold-requires-clause-new g c).After-deref_mut in
    λ p h. fire_none (facts g d) c.self.inside.agenda c.self.invariant.agenda_is p (subst (λ k. has_bit k p ≡ true) (mask_is g d) h)

pub hold-requires-clause-members : goal.hold-requires-clause-members
hold-requires-clause-members g c =
    let d = (goal.at.hold-requires-clause-members g c).After-deref_mut in
    λ p h. let x = fire_members (facts g d) p (subst (λ k. has_bit k p ≡ true) (mask_is g d) h) in omega (arith, x, long g d, ap length c.self.invariant.agenda_is, dues_long c.self.inside.clock (map processor_of c.self.inside.actors.items))

pub see_members-requires-clause-members : goal.see_members-requires-clause-members
see_members-requires-clause-members g c =
    let d = (goal.at.see_members-requires-clause-members g c).After-deref_mut in
    λ p h. fire_members (facts g d) p (subst (λ k. has_bit k p ≡ true) (mask_is g d) h)

pub see_members-requires-clause-known : goal.see_members-requires-clause-known
see_members-requires-clause-known g c =
    let d = (goal.at.see_members-requires-clause-known g c).After-deref_mut in
    λ p h. c.without-self-inside.ensures.bits p ∙ ap (λ k. has_bit c.self.inside.told p && not (has_bit k p)) (mask_is g d) ∙ fire_known (facts g d) p (subst (λ k. has_bit k p ≡ false) (mask_is g d) h) ∙ sym (wait_then g c d (processors_then g d c.pass.new.actors c.pass.ensures) p)

pub see_members-requires-clause-known_starts : goal.see_members-requires-clause-known_starts
see_members-requires-clause-known_starts g c =
    let d = (goal.at.see_members-requires-clause-known_starts g c).After-deref_mut in
    λ p h. fire_known_starts (facts g d) c.self.inside.able c.self.invariant.able_is p (subst (λ k. has_bit k p ≡ false) (mask_is g d) h) ∙ sym (starts_standing (code_at c.self.inside.image.now c.args.block) (then g d) c.deref.result.now (sym (ap (map processor_of) (c.deref.ensures.value ∙ kept_actors g c) ∙ processors_then g d c.pass.new.actors c.pass.ensures)) p)

pub see_members-requires-clause-starts : goal.see_members-requires-clause-starts
see_members-requires-clause-starts g c =
    let d = (goal.at.see_members-requires-clause-starts g c).After-deref_mut in
    λ p h. starts_standing (code_at c.self.inside.image.now c.args.block) (then g d) c.deref.result.now (sym (ap (map processor_of) (c.deref.ensures.value ∙ kept_actors g c) ∙ processors_then g d c.pass.new.actors c.pass.ensures)) p ∙ fire_starts (facts g d) c.self.inside.able c.self.invariant.able_is p h

pub see_members-requires-clause-waits : goal.see_members-requires-clause-waits
see_members-requires-clause-waits g c =
    let d = (goal.at.see_members-requires-clause-waits g c).After-deref_mut in
    λ q h. wait_then g c d (processors_then g d c.pass.new.actors c.pass.ensures) q ∙ fire_waits (facts g d) q (ap (λ k. has_bit c.self.inside.told q && not (has_bit k q)) (sym (mask_is g d)) ∙ sym (c.without-self-inside.ensures.bits q) ∙ h)

pub see_members-requires-clause-unfired : goal.see_members-requires-clause-unfired
see_members-requires-clause-unfired g c =
    let d = (goal.at.see_members-requires-clause-unfired g c).After-deref_mut in
    λ q w. rw (c.pick.ensures.masks, c.pick.ensures.fired, c.in_ok-j.was) (fire_unfired (facts g d) q (sym (wait_then g c d (processors_then g d c.pass.new.actors c.pass.ensures) q) ∙ w))

pub overflow_cast-result : goal.overflow_cast-result
overflow_cast-result g c = let x = index_small (facts g ((goal.at.overflow_cast-result g c).After-deref_mut)) in omega arith

-- the machine's state after it
abbrev new_state : (g : given.Over) → After-see_members g → State
new_state g c = record { clock = c.self.inside.clock; mode = mode_of c.self.inside.stage; processors = map processor_of (take c.self.inside.actors.len (c.pass.new.actors ++ drop (length c.pass.new.actors) c.self.inside.actors.items)); fired = g.U.BarrierUnit.fired c.see_members.new.unit; world = record { cells = c.self.inside.cells.items; memory = c.self.inside.store; output = c.self.inside.output.items } }

abbrev before : (g : given.Over) → After-see_members g → After-deref_mut g
before g c = (goal.at.invariant_of-self-2 g c).After-deref_mut

effect : (g : given.Over) (c : After-see_members g) → new_state g c ≡ then g (before g c)
effect g c =
    let d = before g c in
    state_is (new_state g c) (then g d) refl refl (ap (map processor_of) (kept_actors g ((goal.at.invariant_of-self-2 g c).After-deref)) ∙ processors_then g d c.pass.new.actors c.pass.ensures) (c.see_members.ensures.unit.fired ∙ c.pick.ensures.fired ∙ ap (fired_after (g.U.BarrierUnit.fired c.self.inside.unit)) c.in_ok-j.was) refl

pub invariant_of-self-2 : goal.invariant_of-self-2
invariant_of-self-2 g c =
    let d = before g c in
    let e = (goal.at.invariant_of-self-2 g c).After-deref in
    record {
      kept = fire_kept (facts g d) (new_state g c) c.see_members.new.told (g.U.BarrierUnit.capacity c.see_members.new.unit) (g.U.BarrierUnit.queue c.see_members.new.unit) (g.U.BarrierUnit.waiting c.see_members.new.unit) (effect g c) (c.see_members.ensures.unit.capacity ∙ c.pick.ensures.capacity) (c.see_members.ensures.unit.masks ∙ c.pick.ensures.masks) c.see_members.ensures.sees.told_is (λ q. c.see_members.ensures.sees.told_has q ∙ wait_then g e d (processors_then g d c.pass.new.actors c.pass.ensures) q);
      agenda_is = fire_dues (facts g d) c.self.inside.agenda c.hold.new.agenda c.self.invariant.agenda_is c.hold.ensures.long (λ p lt h. c.hold.ensures.held p lt (subst (λ k. has_bit k p ≡ true) (sym (mask_is g d)) h) ∙ ap (λ u. due_of c.self.inside.clock (Held u)) (until_is g d)) (λ p h. c.hold.ensures.other p (subst (λ k. has_bit k p ≡ false) (sym (mask_is g d)) h)) (new_state g c) (effect g c);
      able_is = subst (λ mode. able_agrees c.self.inside.image.now (new_state g c) mode c.see_members.new.able) (sym (within g d)) (λ p. c.see_members.ensures.sees.able_has p ∙ starts_standing (code_at c.self.inside.image.now c.args.block) (new_state g c) e.deref.result.now (sym (ap (map processor_of) e.deref.ensures.value)) p);
    }

pub returns-clause-fires : goal.returns-clause-fires
returns-clause-fires g c =
    let d = before g c in
    subst (λ v. fires (g.U.BarrierUnit.choice v.unit) v.program c.args.block v.counts v.state (Some (Fired c.self.inside.clock c.in_ok-j.j c.index-masks-j.result)) c.self.inside.counts.items (new_state g c)) c.self.view_is (c.in_ok-j.j, answers g d, fire_gives (facts g d) (new_state g c) c.self.inside.counts.items (Fired c.self.inside.clock c.in_ok-j.j c.index-masks-j.result) (effect g c) refl (ap (Fired c.self.inside.clock c.in_ok-j.j) (mask_is g d)))

pub returns-in_err-j-clause-fires : goal.returns-in_err-j-clause-fires
returns-in_err-j-clause-fires g c =
    let i = c.self.inside in
    let choice = g.U.BarrierUnit.choice i.unit in
    let inside = subst (λ v. v.state.mode ≡ In c.args.block) (sym c.self.view_is) c.requires.within in
    let none = answer_is choice i.image.now (state_of g i) i.counts.items i.told (g.U.BarrierUnit.capacity i.unit) (g.U.BarrierUnit.queue i.unit) (g.U.BarrierUnit.waiting i.unit) c.self.invariant.kept c.args.block inside None (sym c.in_err-j.was ∙ c.pick.ensures.chosen) in
    let h = subst (IsLawful (g.U.BarrierUnit.queue i.unit) (g.U.BarrierUnit.fired i.unit) (has_bit (g.U.BarrierUnit.waiting i.unit))) c.pick.ensures.chosen c.pick.ensures.lawful in
    let law = lawful_of c.choices_are_lawful.ensures.by_mask choice i.image.now (state_of g i) _ _ _ _ _ c.self.invariant.kept h c.args.block inside in
    let then : State = record { clock = i.clock; mode = mode_of i.stage; processors = map processor_of i.actors.items; fired = g.U.BarrierUnit.fired c.pick.new.self; world = record { cells = i.cells.items; memory = i.store; output = i.output.items } } in
    let same = state_is then (state_of g i) refl refl refl (c.pick.ensures.fired ∙ ap (fired_after (g.U.BarrierUnit.fired i.unit)) c.in_err-j.was) refl in
    subst (λ o. fires (g.U.BarrierUnit.choice c.args.self.now.unit) c.args.self.now.program c.args.block c.args.self.now.counts c.args.self.now.state o i.counts.items then) (sym c.from_residual.ensures) (subst (λ v. fires (g.U.BarrierUnit.choice v.unit) v.program c.args.block v.counts v.state None i.counts.items then) c.self.view_is (none, law, refl, same))
