use Rattle.std.proofs.Common.{arith}
use Rattle.time_interval.proofs.Fronts.{bar_front}
use Rattle.time_interval.proofs.timed.TimedLine.lo_fire.Goals as goal

pub known-requires-clause-items : goal.known-requires-clause-items
known-requires-clause-items c = (bar_front _ c.self.invariant c.args.index _ _ c.items.ensures c.front_of_bar-front.ensures).items

pub known-requires-clause-few : goal.known-requires-clause-few
known-requires-clause-few c = let f = bar_front _ c.self.invariant c.args.index _ _ c.items.ensures c.front_of_bar-front.ensures in omega (arith, f.few)
