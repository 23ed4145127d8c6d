-- The machine has come on from where it stood, and what it has told since was given on.
use Rattle.std.proofs.Common.{◌≡◌, ◌<◌, ◌≤◌}
use Rattle.bm_machine.specs.Next.{Stays, still}
use Rattle.run_text.proofs.Going.{IsGiven}
use Rattle.run_text.proofs.runs.run.Given as goal

abbrev pub invariant-loop-out : goal.invariant-loop-out
invariant-loop-out g l = record {
  stays : Stays g.U.BarrierUnit.choice l.fn.machine l.machine;
  in_time : l.fn.machine.state.clock ≤ l.until → l.machine.state.clock ≤ l.until;
  late : l.until < l.fn.machine.state.clock → (l.machine.state ≡ l.fn.machine.state) × (g.E.Events.held l.out ≡ g.E.Events.held l.fn.out);
  given : IsGiven (g.U.BarrierUnit.choice l.fn.machine.unit) (g.T.Timing.duration l.fn.machine.timing) l.fn.machine.program l.fn.machine.state l.fn.machine.counts g.E.Events.with_event (g.E.Events.held l.fn.out) l.machine.state l.machine.counts (g.E.Events.held l.out);
  later : g.E.Events.faults l.fn.out ≤ g.E.Events.faults l.out;
  lender : g.E.Events.lender l.out ≡ g.E.Events.lender l.fn.out;
}

abbrev pub decreases-loop-out : goal.decreases-loop-out
decreases-loop-out g l = still l.until l.machine.program l.machine.state
