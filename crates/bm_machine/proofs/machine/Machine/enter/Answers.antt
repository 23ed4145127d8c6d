use Rattle.std.proofs.Common.{◌≡◌, ℕ, ◌+◌, ◌<◌, false, length, None, replicate, map, refl, sym, ap, ◌∙◌, subst, arith}
use Rattle.std.proofs.lemmas.List.{length-map}
use Rattle.unit_law.specs.State.{State, In, Entering, at_start, code_at, entered, waits}
use Rattle.unit_law.specs.Steps.{Branch, Enter, May, after, target}
use Rattle.bm_machine.specs.declared.machine.Machine.TheInside.{Inside}
use Rattle.unit_law.specs.Sound.{IsSound}
use Rattle.bm_machine.specs.Shown.{mode_of, processor_of, standing_at, dues_of}
use Rattle.bm_machine.proofs.Begins.{resting, rests}
use Rattle.bm_machine.proofs.Finished.{state_is}
use Rattle.bm_machine.proofs.Dues.{dues_long, dues_rest}
use Rattle.bm_machine.proofs.Running.{starts_standing}
use Rattle.bm_machine.proofs.WithinBlock.{waits_standing}
use Rattle.bm_machine.proofs.Entering.{Leaving, entered_is, entered_unfired, entered_kept, entered_left}
use Rattle.bm_machine.proofs.machine.Machine.enter.Given as given
use Rattle.bm_machine.proofs.machine.Machine.enter.Goals as goal
use Rattle.bm_machine.proofs.machine.Machine.enter.Goals.{After-deref, After-see_members}

-- the state of a machine by its fields
abbrev state_of : (g : given.Over) → Inside g.row.U.Denot g.row.T.Denot → State
state_of g i = record { clock = i.clock; mode = mode_of i.stage; processors = map processor_of i.actors.items; fired = g.U.BarrierUnit.fired i.unit; world = record { cells = i.cells.items; memory = i.store; output = i.output.items } }

-- what is kept and required
facts : (g : given.Over) (c : After-deref g) → Leaving c.self.inside.image.now (state_of g c.self.inside) c.self.inside.counts.items c.self.inside.told (g.U.BarrierUnit.capacity c.self.inside.unit) (g.U.BarrierUnit.queue c.self.inside.unit) (g.U.BarrierUnit.waiting c.self.inside.unit) c.args.block c.args.next
facts g c = record {
  sound = subst (λ v. IsSound v.program) (sym c.self.view_is) c.facts.ensures.stands.sound;
  kept = c.self.invariant.kept;
  inside = subst (λ v. v.state.mode ≡ In c.args.block) (sym c.self.view_is) c.requires.within;
  may = subst (λ v. May v.program v.state Branch) (sym c.self.view_is) c.requires.may;
  leads = subst (λ v. target (code_at v.program c.args.block).next v.state.world ≡ Entering c.args.next) (sym c.self.view_is) c.requires.leads;
  early = subst (λ v. v.state.clock < 1000000000000) (sym c.self.view_is) c.requires.early;
}

-- all processors rest
rest_all : (g : given.Over) (c : After-deref g) → map processor_of c.fill.new.self.items ≡ replicate c.self.inside.image.now.machine.processors at_start
rest_all g c =
    let long = subst (λ v. length v.state.processors ≡ v.program.machine.processors) (sym c.self.view_is) c.facts.ensures.stands.processors in
    let n : c.self.inside.actors.len ≡ c.self.inside.image.now.machine.processors = omega (arith, c.self.inside.actors.ok.0, length-map c.self.inside.actors.items processor_of, long) in
    rests c.self.inside.image.now.machine.processors c.fill.new.self.items (c.fill.ensures.items (λ y e. e) ∙ ap (λ k. replicate k resting) n)

agenda_long : (g : given.Over) (c : After-deref g) → length c.self.inside.agenda ≡ c.self.inside.image.now.machine.processors
agenda_long g c = ap length c.self.invariant.agenda_is ∙ dues_long c.self.inside.clock (map processor_of c.self.inside.actors.items) ∙ subst (λ v. length v.state.processors ≡ v.program.machine.processors) (sym c.self.view_is) c.facts.ensures.stands.processors

abbrev then : (g : given.Over) → After-deref g → State
then g c = entered c.self.inside.image.now c.args.next (c.self.inside.clock + 1) (state_of g c.self.inside).world

wait_then : (g : given.Over) (c : After-deref g) → (p : ℕ) → waits (code_at c.self.inside.image.now c.args.next) (standing_at (c.self.inside.clock + 1) c.deref.result.now) p ≡ waits (code_at c.self.inside.image.now c.args.next) (then g c) p
wait_then g c = waits_standing (code_at c.self.inside.image.now c.args.next) (then g c) c.deref.result.now (sym (ap (map processor_of) c.deref.ensures.value ∙ rest_all g c))

pub see_members-requires-clause-unfired : goal.see_members-requires-clause-unfired
see_members-requires-clause-unfired g c =
    let d = (goal.at.see_members-requires-clause-unfired g c).After-deref in
    λ p w. rw (c.load.ensures.masks, c.load.ensures.fired, c.masks.ensures) (entered_unfired (facts g d) p (sym (wait_then g d p) ∙ w))

-- the machine's state after it
abbrev new_state : (g : given.Over) → After-see_members g → State
new_state g c = record { clock = c.self.inside.clock + 1; mode = In c.args.next; processors = map processor_of c.fill.new.self.items; fired = g.U.BarrierUnit.fired c.see_members.new.unit; world = record { cells = c.self.inside.cells.items; memory = c.self.inside.store; output = c.self.inside.output.items } }

abbrev before : (g : given.Over) → After-see_members g → After-deref g
before g c = (goal.at.invariant_of-self g c).After-deref

effect : (g : given.Over) (c : After-see_members g) → new_state g c ≡ then g (before g c)
effect g c = state_is (new_state g c) (then g (before g c)) refl refl (rest_all g (before g c)) (c.see_members.ensures.unit.fired ∙ c.load.ensures.fired ∙ ap (map (λ _. false)) c.masks.ensures) refl

pub invariant_of-self : goal.invariant_of-self
invariant_of-self g c =
    let d = before g c in
    record {
      kept = entered_kept (facts g d) (new_state g c) c.see_members.new.told (g.U.BarrierUnit.capacity c.see_members.new.unit) (g.U.BarrierUnit.queue c.see_members.new.unit) (g.U.BarrierUnit.waiting c.see_members.new.unit) (effect g c) (c.see_members.ensures.unit.capacity ∙ c.load.ensures.capacity) (c.see_members.ensures.unit.masks ∙ c.load.ensures.masks ∙ c.masks.ensures) c.see_members.ensures.sees.told_is (λ p. c.see_members.ensures.sees.told_has p ∙ wait_then g d p);
      agenda_is = c.clear.ensures ∙ ap (λ n. replicate n None) (agenda_long g d) ∙ sym (dues_rest (c.self.inside.clock + 1) c.self.inside.image.now.machine.processors) ∙ sym (ap (dues_of (c.self.inside.clock + 1)) (rest_all g d));
      able_is = λ p. c.see_members.ensures.sees.able_has p ∙ starts_standing (code_at c.self.inside.image.now c.args.next) (new_state g c) c.deref.result.now (sym (ap (map processor_of) c.deref.ensures.value)) p;
    }

pub returns-clause-effect : goal.returns-clause-effect
returns-clause-effect g c = subst (λ v. new_state g c ≡ after v.program (after v.program v.state Branch) Enter) c.self.view_is (effect g c ∙ sym (entered_is (facts g (before g c))))

pub returns-clause-left : goal.returns-clause-left
returns-clause-left g c = entered_left (facts g (before g c)) (new_state g c) (effect g c)
