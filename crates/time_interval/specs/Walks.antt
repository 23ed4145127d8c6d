-- Of private functions: what the tables of a walk hold.
use Rattle.time_interval.specs.declared.walk.Walk.{Walk}
use Rattle.std.specs.Prelude.{[], None}
use Rattle.time_interval.specs.declared.least.LeastWalk.{LeastWalk}
use Rattle.time_interval.specs.Bounds.{Known}
use Rattle.time_interval.specs.Steps.{known_by}

abbrev pub known_of : Walk → Known
known_of w = known_by w.lo w.up w.fired

-- .. of a walk of least ticks alone: no greatest tick is known
abbrev pub least_of : LeastWalk → Known
least_of w = known_by w.lo [] None
