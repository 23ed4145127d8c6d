use Rattle.std.proofs.Common.{◌≡◌, ℕ, ◌<◌, ◌≤◌, true, List, ◌∷◌, [], slice_get, ◌++◌, drop, length, take, get_or, map, set, Some, pos, refl, sym, ap, ap₂, ◌∙◌, subst, arith, rules}
use Rattle.std.proofs.lemmas.Int.{to_z-of_z}
use Rattle.std.proofs.lemmas.List.{take_at}
use Rattle.std.proofs.lemmas.Option.{slice_get-get_or}
use mir.Syntax.{w64}
use mir.Val.{SFits, to_z, of_z}
use Rattle.tuple_ir.specs.declared.tuple.Tuple.{Tuple}
use Rattle.tuple_ir.specs.declared.tuple.Tuple.TheVariants.{Const}
use Rattle.tuple_ir.specs.World.{write}
use Rattle.unit_law.specs.State.{State, In, Busy, code_at, processor, is_due}
use Rattle.unit_law.specs.Steps.{Finish, after_in, tuple_at}
use Rattle.unit_law.proofs.SoundFits.{sound_fit}
use Rattle.bm_machine.specs.declared.actor.Task.TheVariants.{Rest}
use Rattle.bm_machine.specs.declared.actor.Actor.{Actor}
use Rattle.bm_machine.specs.declared.machine.Machine.TheInside.{Inside}
use Rattle.unit_law.specs.Units.{first_from}
use Rattle.bm_machine.specs.Agenda.{finish_at}
use Rattle.bm_machine.specs.Work.{arity, value_by, printed, world, finish_event}
use Rattle.bm_machine.specs.Next.{left_in}
use Rattle.bm_machine.specs.Moves.{Does}
use Rattle.bm_machine.specs.Shown.{mode_of, processor_of}
use Rattle.bm_machine.proofs.WithinBlock.{actor_at, reached_long}
use Rattle.bm_machine.proofs.Finished.{Finishing, actor_works, actor_freed, few_tuples, tuple_within, names_there, actor_within, finish_first, finish_dues, finish_waiting, finish_told, finish_able, finish_unfired, finish_state, finish_kept, finish_gives, finish_does}
use Rattle.bm_machine.proofs.Falls.{finish_less}
use Rattle.bm_machine.proofs.machine.Machine.finish.Given as given
use Rattle.bm_machine.proofs.machine.Machine.finish.Goals as goal
use Rattle.bm_machine.proofs.machine.Machine.finish.Goals.{After-tuples, After-finish_event}

-- the state of a machine by its fields
abbrev state_of : (g : given.Over) → Inside g.row.U.Denot g.row.T.Denot → State
state_of g i = record { clock = i.clock; mode = mode_of i.stage; processors = map processor_of i.actors.items; fired = g.U.BarrierUnit.fired i.unit; world = record { cells = i.cells.items; memory = i.store; output = i.output.items } }

abbrev Ready : (g : given.Over) → Inside g.row.U.Denot g.row.T.Denot → ℕ → ℕ → Type 0
Ready g i b p = Finishing i.image.now (state_of g i) i.counts.items i.told (g.U.BarrierUnit.capacity i.unit) (g.U.BarrierUnit.queue i.unit) (g.U.BarrierUnit.waiting i.unit) b p

-- what is kept and required
facts : (g : given.Over) (c : After-tuples g) → Ready g c.self.inside c.args.block c.args.p
facts g c = record { sound = c.image_laws.ensures.sound; kept = c.self.invariant.kept; inside = subst (λ v. v.state.mode ≡ In c.args.block) (sym c.self.view_is) c.requires.within; due = subst (λ v. is_due v.state.clock (processor v.state c.args.p).work ≡ true) (sym c.self.view_is) c.requires.due }

works : (g : given.Over) (c : After-tuples g) → (processor (state_of g c.self.inside) c.args.p).work ≡ Busy c.in-Runs.until c.in-Runs.number (take c.in-Runs.count (c.in-Runs.first ∷ c.in-Runs.second ∷ []))
works g c = actor_works (facts g c) c.self.inside.actors.items c.index-actor.result.now c.in-Runs.until c.in-Runs.number c.in-Runs.count c.in-Runs.first c.in-Runs.second refl c.index-actor.ensures c.in-Runs.is

number_within : (g : given.Over) (c : After-tuples g) → c.in-Runs.number < length c.tuples.result.now
number_within g c = subst (λ ts. c.in-Runs.number < length ts) (sym c.tuples.ensures) (tuple_within (facts g c) c.in-Runs.until c.in-Runs.number c.in-Runs.count c.in-Runs.first c.in-Runs.second (works g c))

number_small : (g : given.Over) (c : After-tuples g) → c.in-Runs.number < 128
number_small g c = let x = number_within g c in let y = few_tuples (facts g c) in let z = ap length c.tuples.ensures in omega arith

abbrev tuple_of : (g : given.Over) → After-tuples g → Tuple
tuple_of g c = get_or c.tuples.result.now c.in-Runs.number (Const (pos 0))

tuple_is : (g : given.Over) (c : After-tuples g) → tuple_at (code_at c.self.inside.image.now c.args.block) c.in-Runs.number ≡ Some (tuple_of g c)
tuple_is g c = subst (λ ts. slice_get ts c.in-Runs.number ≡ Some (tuple_of g c)) c.tuples.ensures (slice_get-get_or c.tuples.result.now c.in-Runs.number (Const (pos 0)) (number_within g c))

pub overflow_cast-tuple : goal.overflow_cast-tuple
overflow_cast-tuple g c = let x = number_small g c in omega arith

pub offset_bounds-tuples-number : goal.offset_bounds-tuples-number
offset_bounds-tuples-number g c = let x = number_small g c in omega arith

pub bounds-tuples-number : goal.bounds-tuples-number
bounds-tuples-number g c = number_within g c

pub put-requires-clause-names : goal.put-requires-clause-names
put-requires-clause-names g c =
    let d = (goal.at.put-requires-clause-names g c).After-tuples in
    names_there (facts g d) c.in-Runs.until c.in-Runs.number c.in-Runs.count c.in-Runs.first c.in-Runs.second (works g d) (tuple_of g d) (tuple_is g d)

pub put-requires-clause-room : goal.put-requires-clause-room
put-requires-clause-room g c =
    let x = number_small g ((goal.at.put-requires-clause-room g c).After-tuples) in
    let y = ap length c.deref_mut.ensures.value in let z = c.self.invariant.kept.cells in omega arith

-- ---- the state after it
long : (g : given.Over) (c : After-tuples g) → length (map processor_of c.self.inside.actors.items) ≡ c.self.inside.image.now.machine.processors
long g c = reached_long c.self.inside.image.now (state_of g c.self.inside) c.self.inside.counts.items c.args.block (sound_fit c.self.inside.image.now c.image_laws.ensures.sound) c.self.invariant.kept.reached (facts g c).inside

freed_actors : (g : given.Over) (c : After-tuples g) → List Actor
freed_actors g c = set c.self.inside.actors.items c.args.p (record { place = c.index-actor.result.now.place; task = Rest })

abbrev then : (g : given.Over) → After-tuples g → State
then g c = after_in c.self.inside.image.now c.args.block (state_of g c.self.inside) (Finish c.args.p)

processors_then : (g : given.Over) (c : After-tuples g) → map processor_of (freed_actors g c) ≡ (then g c).processors
unfolding freed_actors
processors_then g c = actor_freed (facts g c) c.self.inside.actors.items c.index-actor.result.now refl c.index-actor.ensures

place_is : (g : given.Over) (c : After-tuples g) → c.index-actor.result.now.place ≡ (processor (state_of g c.self.inside) c.args.p).place
place_is g c = ap (λ q. q.place) (sym (actor_at c.self.inside.actors.items c.args.p c.index-actor.result.now (actor_within (facts g c) c.self.inside.actors.items refl) c.index-actor.ensures))

few : (g : given.Over) (c : After-tuples g) → c.self.inside.image.now.machine.processors ≤ 128
few g c = omega (arith, c.processors-processors.ensures.value, c.processors-processors.ensures.few, ap (λ m. m.processors) c.spec.ensures)

pub pop-requires : goal.pop-requires
pop-requires g c =
    let d = (goal.at.pop-requires g c).After-tuples in
    (finish_at c.self.inside.clock, finish_first (facts g d) c.self.inside.agenda c.self.invariant.agenda_is (long g d) (few g d) (subst (λ v. first_from (λ q. is_due v.state.clock (processor v.state q).work) 0 v.program.machine.processors ≡ Some c.args.p) (sym c.self.view_is) c.requires.lowest))

pub see-requires-clause-one : goal.see-requires-clause-one
see-requires-clause-one g c = let d = (goal.at.see-requires-clause-one g c).After-tuples in let x = few g d in let y = subst (λ v. c.args.p < v.program.machine.processors) (sym c.self.view_is) c.requires.one in omega arith

pub see-requires-clause-unfired : goal.see-requires-clause-unfired
see-requires-clause-unfired g c =
    let d = (goal.at.see-requires-clause-unfired g c).After-tuples in
    λ w. finish_unfired (facts g d) c.args.p (finish_waiting (facts g d) c.index-actor.result.now.place c.stream.result.now (place_is g d) c.stream.ensures w)

-- the value of the machine's state after it
abbrev new_state : (g : given.Over) → After-finish_event g → State
new_state g c = record { clock = c.self.inside.clock; mode = mode_of c.self.inside.stage; processors = map processor_of (set c.self.inside.actors.items c.args.p (record { place = c.index-actor.result.now.place; task = Rest })); fired = g.U.BarrierUnit.fired c.see.new.unit; world = record { cells = take c.self.inside.cells.len (c.put.new.cells ++ drop (length c.put.new.cells) c.self.inside.cells.items); memory = c.put.new.store; output = c.print.new.output.items } }

abbrev before : (g : given.Over) → After-finish_event g → After-tuples g
before g c = (goal.at.invariant_of-self g c).After-tuples

first_is : (g : given.Over) (c : After-tuples g) → to_z w64 (of_z w64 c.in-Runs.first) ≡ c.in-Runs.first
first_is g c = to_z-of_z w64 c.in-Runs.first (let fits : SFits w64 c.in-Runs.first = search rules in fits)

second_is : (g : given.Over) (c : After-tuples g) → to_z w64 (of_z w64 c.in-Runs.second) ≡ c.in-Runs.second
second_is g c = to_z-of_z w64 c.in-Runs.second (let fits : SFits w64 c.in-Runs.second = search rules in fits)

signed_value : (g : given.Over) (c : After-finish_event g) → to_z w64 (of_z w64 c.value-value.result) ≡ c.value-value.result
signed_value g c = to_z-of_z w64 c.value-value.result (let fits : SFits w64 c.value-value.result = search rules in fits)

value_is : (g : given.Over) (c : After-finish_event g) → c.value-value.result ≡ value_by (tuple_of g (before g c)) c.in-Runs.first c.in-Runs.second
value_is g c = c.value-value.ensures ∙ ap₂ (value_by (tuple_of g (before g c))) (first_is g (before g c)) (second_is g (before g c))

world_is : (g : given.Over) (c : After-finish_event g) → (new_state g c).world ≡ write c.in-Runs.number (tuple_of g (before g c)) (take (arity (tuple_of g (before g c))) (c.in-Runs.first ∷ c.in-Runs.second ∷ [])) (state_of g c.self.inside).world
world_is g c =
    let cells = take_at c.put.new.cells (drop (length c.put.new.cells) c.self.inside.cells.items) c.self.inside.cells.len (omega (arith, c.put.auto.cells, c.deref_mut.ensures.len)) in
    let first = first_is g (before g c) in
    let value = signed_value g c ∙ value_is g c ∙ ap (λ x. value_by (tuple_of g (before g c)) x c.in-Runs.second) (sym first) in
    ap (λ cs. world cs c.put.new.store c.print.new.output.items) cells ∙ ap (world c.put.new.cells c.put.new.store) c.print.ensures ∙ c.put.ensures c.in-Runs.second c.self.inside.output.items value ∙ ap (λ x. write c.in-Runs.number (tuple_of g (before g c)) (take (arity (tuple_of g (before g c))) (x ∷ c.in-Runs.second ∷ [])) (world c.deref_mut.result.now c.self.inside.store c.self.inside.output.items)) first ∙ ap (λ cs. write c.in-Runs.number (tuple_of g (before g c)) (take (arity (tuple_of g (before g c))) (c.in-Runs.first ∷ c.in-Runs.second ∷ [])) (world cs c.self.inside.store c.self.inside.output.items)) c.deref_mut.ensures.value

effect : (g : given.Over) (c : After-finish_event g) → new_state g c ≡ then g (before g c)
unfolding freed_actors
effect g c =
    let d = before g c in
    finish_state (facts g d) c.in-Runs.until c.in-Runs.number c.in-Runs.count c.in-Runs.first c.in-Runs.second (works g d) (tuple_of g d) (tuple_is g d) (new_state g c) refl refl (processors_then g d) c.see.ensures.unit.fired (world_is g c)

pub invariant_of-self : goal.invariant_of-self
unfolding freed_actors
invariant_of-self g c =
    let d = before g c in
    record {
      kept = finish_kept (facts g d) (new_state g c) c.see.new.told (g.U.BarrierUnit.capacity c.see.new.unit) (g.U.BarrierUnit.queue c.see.new.unit) (g.U.BarrierUnit.waiting c.see.new.unit) (effect g c) c.see.ensures.unit.capacity c.see.ensures.unit.masks c.see.ensures.told (finish_told (facts g d) c.index-actor.result.now.place c.stream.result.now c.see.new.told (place_is g d) c.stream.ensures c.see.ensures.bits);
      agenda_is = finish_dues (facts g d) c.self.inside.agenda c.pop.new.self c.self.invariant.agenda_is c.pop.ensures (new_state g c) (effect g c);
      able_is = finish_able (facts g d) c.index-actor.result.now.place c.stream.result.now c.self.inside.able c.see.new.able (place_is g d) c.stream.ensures c.see.ensures.able c.self.invariant.able_is (new_state g c) (effect g c);
    }

finishes : (g : given.Over) (c : After-finish_event g) → Does c.self.inside.image.now (state_of g c.self.inside) c.self.inside.counts.items (Finish c.args.p) c.finish_event.result c.self.inside.counts.items (new_state g c)
finishes g c =
    let d = before g c in
    let m = c.self.inside.image.now in
    let less = finish_less m c.args.block (state_of g c.self.inside) (facts g d).inside c.args.p (long g d) (facts g d).due in
    let done = effect g c ∙ sym (finish_does (facts g d)) in
    let left = subst (λ x. left_in m x x.mode < left_in m (state_of g c.self.inside) (state_of g c.self.inside).mode) (sym done) less in
    finish_gives (facts g d) c.in-Runs.until c.in-Runs.number c.in-Runs.count c.in-Runs.first c.in-Runs.second (works g d) (tuple_of g d) (tuple_is g d) (new_state g c) c.value-value.result c.finish_event.result c.self.inside.counts.items (effect g c) (value_is g c) (c.finish_event.ensures ∙ ap (finish_event (tuple_of g d) c.self.inside.clock c.args.p c.in-Runs.number) (signed_value g c)) (c.print.ensures ∙ ap (λ v. printed (tuple_of g d) v c.self.inside.output.items) (signed_value g c)) refl left

pub returns-clause-finishes : goal.returns-clause-finishes
returns-clause-finishes g c = subst (λ v. Does v.program v.state v.counts (Finish c.args.p) c.finish_event.result c.self.inside.counts.items (new_state g c)) c.self.view_is (finishes g c)
