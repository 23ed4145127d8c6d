use Rattle.std.proofs.Common.{arith}
use Rattle.time_interval.proofs.Fronts.{run_front}
use Rattle.time_interval.proofs.timed.TimedLine.lo_start.Goals as goal

pub known-requires-clause-items : goal.known-requires-clause-items
known-requires-clause-items c = (run_front _ c.self.invariant c.args.t _ _ c.items.ensures c.run_of-p.ensures.front).items

pub known-requires-clause-few : goal.known-requires-clause-few
known-requires-clause-few c = let f = run_front _ c.self.invariant c.args.t _ _ c.items.ensures c.run_of-p.ensures.front in omega (arith, f.few)
