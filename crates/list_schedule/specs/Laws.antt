-- Laws of greedy schedules.
use Rattle.std.specs.Prelude.{◌≡◌, ◌+◌, ◌-◌, ◌*◌, ◌≤◌, List, length}
use Rattle.bm_base.specs.declared.limits.TheConstants.{MOST_TUPLES}
use Rattle.bm_base.specs.Machine.{Machine, IsMachine}
use Rattle.tuple_ir.specs.declared.tuple.Tuple.{Tuple}
use Rattle.list_schedule.specs.Job.{Job, IsJob, job_of, work, longest}
use Rattle.list_schedule.specs.Greedy.{Plan, IsGreedy, makespan}
use Rattle.list_schedule.specs.Schedule.{Numbered, IsScheduleOf}

-- at most one schedule of a job is greedy
abbrev pub TheGreedyScheduleIsOne : Type 0
TheGreedyScheduleIsOne = (job : Job) (plan other : Plan) → IsJob job → IsGreedy job plan → IsGreedy job other → plan ≡ other

-- Graham's bound (R. L. Graham, Bounds on multiprocessing timing anomalies, SIAM J. Appl. Math. 17, 1969)
abbrev pub GrahamsBound : Type 0
GrahamsBound = (job : Job) (plan : Plan) → IsJob job → IsGreedy job plan
    → job.processors * makespan job plan ≤ work job + (job.processors - 1) * longest job

-- a block of a lawful machine is a job
abbrev pub BlocksAreJobs : Type 0
BlocksAreJobs = (machine : Machine) (ts : List Tuple) → IsMachine machine → IsJob (job_of machine ts)

-- at most 128 tuples have a schedule on a lawful machine, and only one
abbrev pub BlocksHaveOneSchedule : Type 0
BlocksHaveOneSchedule = (machine : Machine) (ts : List Tuple) → IsMachine machine → length ts ≤ MOST_TUPLES → (s : Numbered)
    × IsScheduleOf machine ts s × ((other : Numbered) → IsScheduleOf machine ts other → other ≡ s)
