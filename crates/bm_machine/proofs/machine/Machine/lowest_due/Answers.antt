use Rattle.std.proofs.Common.{◌≡◌, ◌≤◌, ℕ, length, Option, Some, None, sym, ap, ◌∙◌, subst, arith}
use Rattle.bm_machine.specs.declared.agenda.Entry.{Entry}
use Rattle.bm_machine.specs.Agenda.{IsFirst}
use Rattle.unit_law.specs.State.{is_due, processor}
use Rattle.unit_law.specs.Units.{first_from}
use Rattle.bm_machine.specs.Shown.{dues_of}
use Rattle.bm_machine.proofs.Dues.{AllLate, lowest_first, none_due_first}
use Rattle.bm_machine.proofs.machine.Machine.lowest_due.Given as given
use Rattle.bm_machine.proofs.machine.Machine.lowest_due.Goals as goal
use Rattle.bm_machine.proofs.machine.Machine.lowest_due.Goals.{After-first}

few : (g : given.Over) (c : After-first g) → length c.args.self.now.state.processors ≤ 256
few g c = omega (arith, c.facts.ensures.stands.processors, c.facts.ensures.stands.few)

first : (g : given.Over) (c : After-first g) → IsFirst (dues_of c.args.self.now.state.clock c.args.self.now.state.processors) c.first.result
first g c = subst (λ v. IsFirst (dues_of v.state.clock v.state.processors) c.first.result) c.self.view_is (subst (λ l. IsFirst l c.first.result) c.self.invariant.agenda_is c.first.ensures)

late : (g : given.Over) (c : After-first g) → AllLate c.args.self.now.state.clock c.args.self.now.state.processors
late g c = λ t least. c.facts.ensures.ticks c.requires.0 t c.requires.1 least

long : (g : given.Over) (c : After-first g) (o : Option ℕ) → first_from (λ p. is_due c.args.self.now.state.clock (processor c.args.self.now.state p).work) 0 (length c.args.self.now.state.processors) ≡ o → first_from (λ p. is_due c.args.self.now.state.clock (processor c.args.self.now.state p).work) 0 c.args.self.now.program.machine.processors ≡ o
long g c o e = subst (λ n. first_from (λ p. is_due c.args.self.now.state.clock (processor c.args.self.now.state p).work) 0 n ≡ o) c.facts.ensures.stands.processors e

none : (g : given.Over) (c : After-first g) → ((entry : Entry) → c.first.result ≡ Some entry → entry.due.tick ≡ c.args.self.now.state.clock → ⊥) → None ≡ first_from (λ p. is_due c.args.self.now.state.clock (processor c.args.self.now.state p).work) 0 c.args.self.now.program.machine.processors
none g c not = sym (long g c None (none_due_first _ _ c.first.result (few g c) (late g c) (first g c) not))

clock_is : (g : given.Over) (c : After-first g) → c.self.inside.clock ≡ c.args.self.now.state.clock
clock_is g c = ap (λ v. v.state.clock) c.self.view_is

pub returns-in-Some : goal.returns-in-Some
returns-in-Some g c =
    let d = (goal.at.returns-in-Some g c).After-first in
    let entry = subst (IsFirst (dues_of c.args.self.now.state.clock c.args.self.now.state.processors)) c.in-Some.is (first g d) in
    sym (long g d (Some c.in-Some.entry.processor) (lowest_first _ _ c.in-Some.entry (few g d) entry (c.if-entry-self.true ∙ clock_is g d)))

pub returns-in_default : goal.returns-in_default
returns-in_default g c =
    let d = (goal.at.returns-in_default g c).After-first in
    none g d (λ entry is at. c.if-entry-self.false (let x : Some c.in-Some.entry ≡ Some entry = sym c.in-Some.is ∙ is in let y : c.in-Some.entry ≡ entry = cc in ap (λ e. e.due.tick) y ∙ at ∙ sym (clock_is g d)))

pub returns-in_default-2 : goal.returns-in_default-2
returns-in_default-2 g c =
    let d = (goal.at.returns-in_default-2 g c).After-first in
    none g d (λ entry is at. let x : None ≡ Some entry = sym c.in_default.is ∙ is in cc)
