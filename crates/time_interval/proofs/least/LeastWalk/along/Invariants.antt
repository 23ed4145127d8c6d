use Rattle.std.proofs.Common.{◌≡◌, ◌+◌, ◌*◌, drop}
use Rattle.time_interval.specs.Bounds.{along}
use Rattle.time_interval.specs.Steps.{IsUpTo}
use Rattle.time_interval.specs.Walks.{least_of}
use Rattle.time_interval.proofs.least.LeastWalk.along.Given as goal

abbrev pub invariant-loop-item : goal.invariant-loop-item
invariant-loop-item l = record {
  small : IsUpTo (1000 + 1100 * l.item-index) (least_of l.self);
  same : (along l.timing (least_of l.initial.self) l.items).lo ≡ (along l.timing (least_of l.self) (drop l.item-index l.items)).lo;
}
