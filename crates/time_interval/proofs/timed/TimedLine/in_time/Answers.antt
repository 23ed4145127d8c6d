use Rattle.std.proofs.Common.{sym, subst, Contains}
use Rattle.time_interval.proofs.Fronts.{tuple_has_time}
use Rattle.time_interval.specs.Lines.{Timed, tuples}
use Rattle.time_interval.proofs.timed.TimedLine.in_time.Goals as goal

pub time-requires : goal.time-requires
time-requires c = tuple_has_time _ _ c.self.invariant (subst (λ (v : Timed). Contains (tuples v.line) c.args.g) (sym c.self.view_is) c.requires)
