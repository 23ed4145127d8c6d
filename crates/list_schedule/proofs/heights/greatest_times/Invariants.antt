use Rattle.std.proofs.Common.{◌≡◌, map, take}
use Rattle.bm_base.specs.Spec.{time_of}
use Rattle.tuple_ir.specs.Kinds.{class_of}
use Rattle.list_schedule.specs.Job.{AreTimes}
use Rattle.list_schedule.proofs.heights.greatest_times.Given as goal

abbrev pub invariant-loop-tuple : goal.invariant-loop-tuple
invariant-loop-tuple l = (l.times.items ≡ map (λ t. (time_of l.spec (class_of t)).most) (take l.tuple-index l.tuples)) × AreTimes l.times.items
