use Rattle.std.proofs.Common.{◌≡◌, ◌+◌, ◌≤◌, ℕ, get_or, map, subst}
use Rattle.line_model.specs.Streams.{masks}
use Rattle.unit_law.specs.State.{State, In, code_at, waiting_mask}
use Rattle.bm_machine.specs.declared.machine.Machine.TheInside.{Inside}
use Rattle.bm_machine.specs.Shown.{IsReached, mode_of, processor_of}
use Rattle.bm_machine.proofs.Moved.{agrees_in}
use Rattle.bm_machine.proofs.machine.Machine.laws.Given as given
use Rattle.bm_machine.proofs.machine.Machine.laws.Goals as goal

-- the state of a machine by its fields
abbrev state_of : (g : given.Over) → Inside g.row.U.Denot g.row.T.Denot → State
state_of g i = record { clock = i.clock; mode = mode_of i.stage; processors = map processor_of i.actors.items; fired = g.U.BarrierUnit.fired i.unit; world = record { cells = i.cells.items; memory = i.store; output = i.output.items } }

pub returns-clause-reached : goal.returns-clause-reached
returns-clause-reached g c = subst (λ v. IsReached v.program v.state v.counts) c.self.view_is c.self.invariant.kept.reached

pub returns-clause-few : goal.returns-clause-few
returns-clause-few g c = subst (λ v. (p : ℕ) → get_or v.counts p 0 ≤ v.state.clock + 1) c.self.view_is c.self.invariant.kept.few

pub returns-clause-unit : goal.returns-clause-unit
returns-clause-unit g c = subst (λ v. (b : ℕ) → v.state.mode ≡ In b → (g.U.BarrierUnit.queue v.unit ≡ masks (code_at v.program b).line) × (g.U.BarrierUnit.waiting v.unit ≡ waiting_mask (code_at v.program b) v.state)) c.self.view_is (λ b mode. agrees_in c.self.inside.image.now (state_of g c.self.inside) b _ _ mode c.self.invariant.kept.agrees)
