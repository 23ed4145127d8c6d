-- A small block on two processors, for the numbers of its greedy schedule to be computed on.
use Rattle.std.specs.Prelude.{[], ◌∷◌}
use Rattle.bm_base.specs.Spec.{standard}
use Rattle.tuple_ir.specs.Examples.{sum_tuples}
use Rattle.list_schedule.specs.Job.{Job, job_of}
use Rattle.list_schedule.specs.Greedy.{Plan}

-- x = 2 + 3; print x; on two processors with the default times
abbrev pub sum_job : Job
sum_job = job_of (record standard { processors = 2 }) sum_tuples

-- the second constant on processor 1, all else on processor 0
abbrev pub sum_plan : Plan
sum_plan = record { starts = 0 ∷ 0 ∷ 1 ∷ 2 ∷ 4 ∷ 8 ∷ []; places = 0 ∷ 1 ∷ 0 ∷ 0 ∷ 0 ∷ 0 ∷ [] }
