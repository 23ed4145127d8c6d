-- On a lawful machine each tuple has a time.
use Rattle.std.proofs.Common.{ℕ, zero, suc, List, [], ◌∷◌, slice_get, unwrap_or, arith}
use Rattle.std.specs.List.{AllByRecursion}
use Rattle.bm_base.specs.declared.spec.Interval.{Interval}
use Rattle.bm_base.specs.Machine.{Machine, IsTime, IsMachine}
use Rattle.bm_base.specs.Spec.{interval, place_of, time_of}
use Rattle.tuple_ir.specs.declared.tuple.Tuple.{Tuple}
use Rattle.tuple_ir.specs.Kinds.{class_of}
use Rattle.unit_law.specs.State.{Program}
use Rattle.unit_law.specs.Fit.{HasTimes}

-- the time of a class, or one tick
time_at : (ts : List Interval) → AllByRecursion IsTime ts → (k : ℕ) → IsTime (unwrap_or (slice_get ts k) (interval 1 1))
time_at [] h k = record { low = omega arith; order = omega arith; high = omega arith }
time_at (t ∷ ts) h zero = h.0
time_at (t ∷ ts) h (suc k) = time_at ts h.1 k

tuple_time : (machine : Machine) → IsMachine machine → (t : Tuple) → IsTime (time_of machine (class_of t))
tuple_time machine h t = time_at machine.times h.each (place_of (class_of t))

pub has_times : (m : Program) → IsMachine m.machine → HasTimes m
has_times m h t = let x = tuple_time m.machine h t in (x.low, x.order)
