use Rattle.time_interval.proofs.EditFacts.{timed_take}
use Rattle.time_interval.proofs.timed.TimedLine.shorten.Goals as goal

pub invariant_of-self : goal.invariant_of-self
invariant_of-self c = timed_take _ _ c.pop-last.new.self c.self.invariant c.pop-last.ensures.left
