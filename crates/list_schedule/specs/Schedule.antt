-- The schedule of a block.
use Rattle.std.specs.Prelude.{◌≡◌, ℕ, ◌+◌, ◌-◌, ◌*◌, ◌≤◌, List}
use Rattle.bm_base.specs.Machine.{Machine}
use Rattle.tuple_ir.specs.declared.tuple.Tuple.{Tuple}
use Rattle.list_schedule.specs.Job.{job_of, work, longest}
use Rattle.list_schedule.specs.Greedy.{Plan, IsGreedy, makespan}

-- a plan with its last finish, the sum of the times and the greatest height
pub record Numbered : Type 0 where
  pub plan : Plan
  pub makespan : ℕ
  pub work : ℕ
  pub longest : ℕ

abbrev pub numbered : List ℕ → List ℕ → ℕ → ℕ → ℕ → Numbered
numbered starts places makespan work longest = record {
  plan = record { starts = starts; places = places };
  makespan = makespan;
  work = work;
  longest = longest;
}

-- the greedy plan of these tuples on the machine, its numbers, and Graham's bound
pub record IsScheduleOf (machine : Machine) (ts : List Tuple) (s : Numbered) : Type 0 where
  pub greedy : IsGreedy (job_of machine ts) s.plan
  pub makespan : s.makespan ≡ makespan (job_of machine ts) s.plan
  pub work : s.work ≡ work (job_of machine ts)
  pub longest : s.longest ≡ longest (job_of machine ts)
  pub bound : machine.processors * s.makespan ≤ s.work + (machine.processors - 1) * s.longest
