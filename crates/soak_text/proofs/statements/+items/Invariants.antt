use Rattle.std.proofs.Common.{◌≡◌, ◌+◌, ◌*◌}
use Rattle.soak_text.specs.Generator as spec
use Rattle.soak_text.proofs.statements.+items.Given as goal

abbrev pub decreases-item : goal.decreases-item
decreases-item l = l.levels * 4

abbrev pub decreases-several : goal.decreases-several
decreases-several l = l.levels * 4 + 1

abbrev pub decreases-body : goal.decreases-body
decreases-body l = l.levels * 4 + 2

abbrev pub decreases-choose : goal.decreases-choose
decreases-choose l = l.levels * 4 + 3

abbrev pub decreases-repeat : goal.decreases-repeat
decreases-repeat l = l.levels * 4 + 3

abbrev pub invariant-several-loop : goal.invariant-several-loop
invariant-several-loop l = record { drawn : spec.several l.counter (spec.item l.levels) l.fn.draws.state ≡ (l.items, l.draws.state) }
