-- What follows of plans.
use Rattle.std.specs.Prelude.{◌≡◌, ℕ, ◌<◌, ◌≤◌, List, length}
use Rattle.bm_base.specs.declared.limits.TheConstants.{MOST_TUPLES}
use Rattle.bm_base.specs.Machine.{Machine, IsMachine}
use Rattle.tuple_ir.specs.declared.tuple.Tuple.{Tuple}
use Rattle.tuple_ir.specs.Sound.{IsBlockSound}
use Rattle.dependence.specs.Producers.{producers_of}
use Rattle.time_interval.specs.Bounds.{pace_on}
use Rattle.mask_merge.specs.Reduced.{IsIrreducible}
use Rattle.unit_law.specs.State.{Code, Program, code_at}
use Rattle.unit_law.specs.Sound.{IsCodeSound, IsSound, block_of}
use Rattle.unit_law.specs.Determinate.{IsDeterminate}
use Rattle.compiled_image.specs.declared.planned.Plan.{Plan}
use Rattle.compiled_image.specs.Planned.{IsPlanned, IsInOrder}

-- a block of at most 128 tuples has a plan on a lawful machine, and only one
abbrev pub BlocksHaveOnePlan : Type 0
BlocksHaveOnePlan = (machine : Machine) (ts : List Tuple) → IsMachine machine → length ts ≤ MOST_TUPLES → (plan : Plan)
    × IsPlanned machine ts plan × ((other : Plan) → IsPlanned machine ts other → other ≡ plan)

-- no barrier of its line can be left out, and no two merged
abbrev pub PlansAreIrreducible : Type 0
PlansAreIrreducible = (machine : Machine) (ts : List Tuple) (plan : Plan) → IsPlanned machine ts plan
    → IsIrreducible (pace_on machine ts) (producers_of ts) plan.line.items

abbrev pub PlansAreInOrder : Type 0
PlansAreInOrder = (machine : Machine) (ts : List Tuple) (plan : Plan) → IsMachine machine → length ts ≤ MOST_TUPLES
    → IsPlanned machine ts plan → IsInOrder machine ts plan.line.items

-- a sound block is sound with a line in order
abbrev pub LinesInOrderAreSound : Type 0
LinesInOrderAreSound = (m : Program) (code : Code) → IsBlockSound m.names (length m.blocks) (block_of code)
    → IsInOrder m.machine code.tuples code.line → IsCodeSound m code

-- each block of the program has a line in order
abbrev pub AllInOrder : Program → Type 0
AllInOrder m = (b : ℕ) → b < length m.blocks → IsInOrder m.machine (code_at m b).tuples (code_at m b).line

-- a sound program on a machine, each of whose blocks has a line in order, is determinate
abbrev pub ProgramsInOrderAreDeterminate : Type 0
ProgramsInOrderAreDeterminate = (m : Program) → IsMachine m.machine → IsSound m → AllInOrder m → IsDeterminate m
