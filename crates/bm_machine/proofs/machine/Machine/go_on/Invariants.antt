-- The clock has gone on, and nothing else.
use Rattle.std.proofs.Common.{◌≡◌, ◌+◌, ◌-◌}
use Rattle.unit_law.specs.State.{In}
use Rattle.bm_machine.specs.Next.{Stays}
use Rattle.bm_machine.specs.Moves.{Waited}
use Rattle.bm_machine.proofs.machine.Machine.go_on.Given as goal

abbrev pub invariant-loop-event : goal.invariant-loop-event
invariant-loop-event g l = record {
  stays : Stays g.U.BarrierUnit.choice l.fn.self l.self;
  within : l.self.state.mode ≡ In l.block;
  waited : Waited (g.U.BarrierUnit.choice l.fn.self.unit) (g.T.Timing.duration l.fn.self.timing) l.fn.self.program l.fn.self.counts l.fn.self.state l.until l.self.counts l.self.state;
}

abbrev pub decreases-loop-event : goal.decreases-loop-event
decreases-loop-event g l = l.until + 1 - l.self.state.clock
