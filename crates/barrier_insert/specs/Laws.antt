-- What follows of inserted lines.
use Rattle.std.specs.Prelude.{◌≡◌, ℕ, ◌<◌, ◌≤◌, List, length, Contains}
use Rattle.bm_base.specs.declared.limits.TheConstants.{MOST_TUPLES}
use Rattle.bm_base.specs.Machine.{Machine}
use Rattle.tuple_ir.specs.declared.tuple.Tuple.{Tuple}
use Rattle.line_model.specs.declared.line.Item.{Item}
use Rattle.line_model.specs.Streams.{masks}
use Rattle.dependence.specs.Producers.{producers_of}
use Rattle.list_schedule.specs.Job.{IsJob, job_of}
use Rattle.list_schedule.specs.Greedy.{Plan, IsGreedy}
use Rattle.time_interval.specs.Lines.{IsLine, tuples}
use Rattle.time_interval.specs.Bounds.{pace_on}
use Rattle.time_interval.specs.Ordered.{AllOrdered}
use Rattle.barrier_insert.specs.Order.{in_order, IsByStart}
use Rattle.barrier_insert.specs.Inserted.{IsInserted}

-- a block of at most 128 tuples that a plan schedules greedily on a machine
pub record IsScheduled (machine : Machine) (ts : List Tuple) (plan : Plan) : Type 0 where
  pub few : length ts ≤ MOST_TUPLES
  pub job : IsJob (job_of machine ts)
  pub greedy : IsGreedy (job_of machine ts) plan

abbrev pub TheOrderIsByStart : Type 0
TheOrderIsByStart = (start : ℕ → ℕ) (n : ℕ) → IsByStart start n (in_order start n)

abbrev pub TheInsertedLineIsOne : Type 0
TheInsertedLineIsOne =
    (machine : Machine) (ts : List Tuple) (plan : Plan) (line other : List Item)
    → IsInserted machine ts plan line → IsInserted machine ts plan other → line ≡ other

abbrev pub EachBlockHasAnInsertedLine : Type 0
EachBlockHasAnInsertedLine =
    (machine : Machine) (ts : List Tuple) (plan : Plan)
    → IsScheduled machine ts plan → (line : List Item) × IsInserted machine ts plan line

-- each conflicting pair is ordered
abbrev pub InsertedLinesAreOrdered : Type 0
InsertedLinesAreOrdered =
    (machine : Machine) (ts : List Tuple) (plan : Plan) (line : List Item)
    → IsScheduled machine ts plan → IsInserted machine ts plan line → AllOrdered (pace_on machine ts) (producers_of ts) line

-- each tuple stands once, no mask is empty, its members are processors of the machine, and there are at most as many Bars as tuples
pub record IsWhole (machine : Machine) (ts : List Tuple) (line : List Item) : Type 0 where
  pub is_line : IsLine (length ts) machine.processors line
  pub stand : (t : ℕ) → t < length ts → Contains (tuples line) t
  pub bars : length (masks line) ≤ length ts

abbrev pub InsertedLinesAreWhole : Type 0
InsertedLinesAreWhole =
    (machine : Machine) (ts : List Tuple) (plan : Plan) (line : List Item)
    → IsScheduled machine ts plan → IsInserted machine ts plan line → IsWhole machine ts line
