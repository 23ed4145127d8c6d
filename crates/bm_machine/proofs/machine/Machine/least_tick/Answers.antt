use Rattle.std.proofs.Common.{◌≡◌, ◌≤◌, length, sym, ap, ◌∙◌, subst, arith}
use Rattle.bm_machine.specs.Agenda.{IsFirst}
use Rattle.unit_law.specs.Steps.{least_tick}
use Rattle.bm_machine.proofs.Dues.{tick_of, least_first}
use Rattle.bm_machine.proofs.machine.Machine.least_tick.Given as given
use Rattle.bm_machine.proofs.machine.Machine.least_tick.Goals as goal
use Rattle.bm_machine.proofs.machine.Machine.least_tick.Goals.{After-first}

least : (g : given.Over) (c : After-first g) → least_tick c.args.self.now.state.clock c.args.self.now.state.processors ≡ tick_of c.first.result
least g c =
    let few : length c.args.self.now.state.processors ≤ 256 = omega (arith, c.facts.ensures.stands.processors, c.facts.ensures.stands.few) in
    let first = subst (λ l. IsFirst l c.first.result) c.self.invariant.agenda_is c.first.ensures in
    ap (λ v. least_tick v.state.clock v.state.processors) (sym c.self.view_is) ∙ least_first _ _ c.first.result (subst (λ v. length v.state.processors ≤ 256) (sym c.self.view_is) few) first

pub returns-in-Some : goal.returns-in-Some
returns-in-Some g c = sym (least g (goal.at.returns-in-Some g c).After-first ∙ ap tick_of c.in-Some.is)

pub returns-in-None : goal.returns-in-None
returns-in-None g c = sym (least g (goal.at.returns-in-None g c).After-first ∙ ap tick_of c.in-None.is)
