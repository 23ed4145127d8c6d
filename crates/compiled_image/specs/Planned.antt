-- The plan of a block on a machine.
use Rattle.std.specs.Prelude.{ℕ, ◌<◌, List, length, Contains}
use Rattle.bm_base.specs.Machine.{Machine}
use Rattle.tuple_ir.specs.declared.tuple.Tuple.{Tuple}
use Rattle.line_model.specs.declared.line.Item.{Item}
use Rattle.dependence.specs.Producers.{producers_of}
use Rattle.list_schedule.specs.Schedule.{IsScheduleOf}
use Rattle.time_interval.specs.Bounds.{pace_on}
use Rattle.time_interval.specs.Lines.{IsLine, tuples}
use Rattle.time_interval.specs.Ordered.{AllOrdered}
use Rattle.barrier_insert.specs.Inserted.{IsInserted}
use Rattle.mask_merge.specs.Reduced.{IsReduced}
use Rattle.compiled_image.specs.declared.planned.Plan.{Plan}

-- the greedy schedule of the block, the inserted line of this schedule, and the reduced line of that one
pub record IsPlanned (machine : Machine) (ts : List Tuple) (plan : Plan) : Type 0 where
  pub scheduled : IsScheduleOf machine ts plan.schedule
  pub insertion : IsInserted machine ts plan.schedule.plan plan.inserted.items
  pub reduction : IsReduced (pace_on machine ts) (producers_of ts) plan.inserted.items plan.line.items

-- the line is in order: bounds can be made of it, each tuple of the block stands in it, and each producer is ordered before its tuple
pub record IsInOrder (machine : Machine) (ts : List Tuple) (line : List Item) : Type 0 where
  pub is_line : IsLine (length ts) machine.processors line
  pub stand : (t : ℕ) → t < length ts → Contains (tuples line) t
  pub ordered : AllOrdered (pace_on machine ts) (producers_of ts) line
