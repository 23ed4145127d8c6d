use Rattle.std.proofs.Common.{◌≤◌, Some, None, refl, ap, arith}
use Rattle.run_text.specs.declared.runs.RunEnd.TheVariants.{Ended, Going}
use Rattle.soak_text.specs.Lines.{budget}
use Rattle.soak_text.proofs.Kept.{has_ran}
use Rattle.soak_text.proofs.running.fold_run.Goals as goal

pub returns-in-Ended-clause-value : goal.returns-in-Ended-clause-value
returns-in-Ended-clause-value g c memory begins =
    let v = c.args.machine.now in
    let l : v.state.clock ≤ budget = omega (arith, begins.clock) in
    let e = rw c.in-Ended.is at c.in_ok-carry.ensures in
    has_ran (g.U.BarrierUnit.choice v.unit) (g.T.Timing.duration v.timing) v.program memory v.state c.carry.new.machine.state v.counts Ended (Some c.clock.result) c.carry.new.prints begins (e.runs memory begins.come l) (ap Some c.clock.ensures.value)

pub returns-in-Going-clause-value : goal.returns-in-Going-clause-value
returns-in-Going-clause-value g c memory begins =
    let v = c.args.machine.now in
    let l : v.state.clock ≤ budget = omega (arith, begins.clock) in
    let e = rw c.in-Going.is at c.in_ok-carry.ensures in
    has_ran (g.U.BarrierUnit.choice v.unit) (g.T.Timing.duration v.timing) v.program memory v.state c.carry.new.machine.state v.counts Going None c.carry.new.prints begins (e.runs memory begins.come l) refl
