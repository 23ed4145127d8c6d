use Rattle.std.proofs.Common.{◌≤◌, length, arith, subst, sym, Contains, Decides}
use Rattle.time_interval.specs.Ahead.{IsBefore}
use Rattle.time_interval.specs.Lines.{Timed, IsTimed, tuples}
use Rattle.time_interval.proofs.AheadOrder.{next_ordered}
use Rattle.time_interval.proofs.Fronts.{line_length, tuple_has_time}
use Rattle.time_interval.proofs.Once.{any_of_contains}
use Rattle.time_interval.proofs.timed.TimedLine.ordered_next.Goals as goal

pub orders-requires-clause-short : goal.orders-requires-clause-short
orders-requires-clause-short c =
    let l : length c.self.inside.line.items ≤ 384 = line_length (length c.self.inside.timing.times) c.self.inside.timing.processors c.self.inside.line.items c.self.invariant.few c.self.invariant.line in
    subst (λ xs. length xs ≤ 1000000) (sym c.items.ensures) (omega arith)

pub orders-requires-clause-tuple : goal.orders-requires-clause-tuple
orders-requires-clause-tuple c = tuple_has_time _ _ c.self.invariant (subst (λ (v : Timed). Contains (tuples v.line) c.args.g) (sym c.self.view_is) c.requires.first)

pub returns : goal.returns
returns c = λ i new.
    next_ordered c.args.self.now (subst IsTimed c.self.view_is c.self.invariant) c.args.g c.args.p i (any_of_contains _ _ c.requires.first) new c.orders.result
    (subst (λ (v : Timed). Decides c.orders.result (IsBefore v.pace v.line c.args.g c.args.p)) c.self.view_is
    (subst (λ xs. Decides c.orders.result (IsBefore c.self.inside.timing xs c.args.g c.args.p)) c.items.ensures c.orders.ensures))
