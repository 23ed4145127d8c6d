use Rattle.std.proofs.Common.{sym, ◌∙◌, subst, arith}
use Rattle.unit_law.specs.State.{code_at, processor, is_due}
use Rattle.unit_law.specs.Canonical.{can_start}
use Rattle.unit_law.specs.Steps.{NoneDue}
use Rattle.unit_law.proofs.ReadyFacts.{first_passes}
use Rattle.bm_machine.proofs.Nexts.{no_finish}
use Rattle.bm_machine.proofs.machine.Machine.act.Goals as goal

pub finish-requires-clause-one : goal.finish-requires-clause-one
finish-requires-clause-one g c = let v = c.args.self.now in let x = first_passes (λ p. is_due v.state.clock (processor v.state p).work) 0 v.program.machine.processors c.in-Some.p (sym c.lowest_due.ensures ∙ c.in-Some.is) in omega (arith, x.2)

pub finish-requires-clause-due : goal.finish-requires-clause-due
finish-requires-clause-due g c = let v = c.args.self.now in (first_passes (λ p. is_due v.state.clock (processor v.state p).work) 0 v.program.machine.processors c.in-Some.p (sym c.lowest_due.ensures ∙ c.in-Some.is)).0

pub fire-requires-clause-none_due : goal.fire-requires-clause-none_due
fire-requires-clause-none_due g c = no_finish c.args.self.now.program c.args.self.now.state c.facts.ensures.stands.processors (sym c.lowest_due.ensures ∙ c.in_default.is)

pub start-requires-clause-none_due : goal.start-requires-clause-none_due
start-requires-clause-none_due g c = subst (λ s. NoneDue s) (sym c.in_default-fire.ensures.fires.3) (no_finish c.args.self.now.program c.args.self.now.state c.facts.ensures.stands.processors (sym c.lowest_due.ensures ∙ c.in_default.is))

pub start-requires-clause-one : goal.start-requires-clause-one
start-requires-clause-one g c = let v = c.fire.new.self in let x = first_passes (can_start (code_at v.program c.args.block) v.state) 0 v.program.machine.processors c.in-Some-lowest_start.p (sym c.lowest_start.ensures ∙ c.in-Some-lowest_start.is) in omega (arith, x.2)

pub start-requires-clause-can : goal.start-requires-clause-can
start-requires-clause-can g c = let v = c.fire.new.self in (first_passes (can_start (code_at v.program c.args.block) v.state) 0 v.program.machine.processors c.in-Some-lowest_start.p (sym c.lowest_start.ensures ∙ c.in-Some-lowest_start.is)).0
