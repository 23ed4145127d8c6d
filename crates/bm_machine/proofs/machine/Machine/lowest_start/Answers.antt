use Rattle.std.proofs.Common.{◌≡◌, ℕ, map, sym, ◌∙◌, subst}
use Rattle.bm_base.specs.Mask.{has_bit}
use Rattle.unit_law.specs.State.{State, code_at, In}
use Rattle.bm_machine.specs.declared.machine.Machine.TheInside.{Inside}
use Rattle.bm_machine.specs.Shown.{starts_next, mode_of, processor_of}
use Rattle.bm_machine.proofs.Running.{able_in}
use Rattle.bm_machine.proofs.Ables.{lowest_is}
use Rattle.bm_machine.proofs.machine.Machine.lowest_start.Given as given
use Rattle.bm_machine.proofs.machine.Machine.lowest_start.Goals as goal

-- the state of a machine by its fields
abbrev state_of : (g : given.Over) → Inside g.row.U.Denot g.row.T.Denot → State
state_of g i = record { clock = i.clock; mode = mode_of i.stage; processors = map processor_of i.actors.items; fired = g.U.BarrierUnit.fired i.unit; world = record { cells = i.cells.items; memory = i.store; output = i.output.items } }

pub returns : goal.returns
returns g c =
    let v = c.args.self.now in
    let inside = subst (λ v. v.state.mode ≡ In c.args.block) (sym c.self.view_is) c.requires in
    let able = subst (λ v. (q : ℕ) → has_bit c.self.inside.able q ≡ starts_next (code_at v.program c.args.block) v.state q) c.self.view_is (able_in c.self.inside.image.now (state_of g c.self.inside) c.self.inside.able c.args.block inside c.self.invariant.able_is) in
    c.lowest.ensures ∙ lowest_is (has_bit c.self.inside.able) (code_at v.program c.args.block) v.state v.program.machine.processors 128 able c.facts.ensures.stands.processors c.facts.ensures.stands.few
