use Rattle.std.proofs.Common.{sym, subst, take}
use Rattle.time_interval.specs.Ahead.{IsAhead}
use Rattle.time_interval.specs.Lines.{Timed}
use Rattle.time_interval.proofs.AheadOrder.{kept_front}
use Rattle.time_interval.proofs.bounds.Bounds.settle.Goals as goal

pub outlast-self-inside-requires-clause-ahead : goal.outlast-self-inside-requires-clause-ahead
outlast-self-inside-requires-clause-ahead c = λ within. subst (λ (v : Timed). IsAhead v.pace (take c.self.inside.place v.line) c.self.inside.front) (sym c.swap.ensures.x_after)
    (kept_front c.self.inside.settled c.self.inside.edited c.self.inside.place c.self.inside.shared c.self.inside.front within c.self.invariant.spare.pace (c.self.invariant.same c.if-self.true) c.self.invariant.ahead)
