use Rattle.std.proofs.Common.{◌≡◌, ℕ, ◌<◌, ◌≤◌, take, get_or}
use Rattle.line_model.specs.declared.line.Item.{Item}
use Rattle.time_interval.specs.Ahead.{IsAhead, StandsOrdered}
use Rattle.time_interval.proofs.front.walk_ordered.Given as goal

abbrev pub invariant-loop-k : goal.invariant-loop-k
invariant-loop-k l = record {
  ahead : IsAhead l.timing (take l.k l.items) l.front;
  held : (k : ℕ) (x : Item) → l.from ≤ k → k < l.k → get_or l.items k x ≡ x → StandsOrdered l.timing l.deps.producers (take k l.items) x;
}
