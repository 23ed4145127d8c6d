use Rattle.std.proofs.Common.{ap, sym, subst₂}
use Rattle.time_interval.proofs.Fronts.{tuple_has_time}
use Rattle.time_interval.specs.Lines.{HasPoint, Timed}
use Rattle.time_interval.proofs.timed.TimedLine.lo.Goals as goal

pub time-requires : goal.time-requires
time-requires c = tuple_has_time _ _ c.self.invariant (subst₂ HasPoint (ap (λ (v : Timed). v.line) (sym c.self.view_is)) c.in-FinishOf.is c.requires.point)
