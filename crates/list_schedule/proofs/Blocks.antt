-- The jobs and schedules of blocks.
use Rattle.std.proofs.Common.{◌≡◌, ℕ, zero, suc, ◌<◌, ◌≤◌, List, [], ◌∷◌, length, slice_get, get_or, Contains, pos, refl, ap, subst, ◌∙◌, inl, inr, arith}
use Rattle.std.specs.List.{AllByRecursion}
use Rattle.std.specs.Option.{unwrap_or}
use Rattle.std.proofs.lemmas.Bool.{cases_lt}
use Rattle.std.proofs.lemmas.List.{length-map, get_or_past, get_or-map}
use Rattle.bm_base.specs.declared.spec.Interval.{Interval}
use Rattle.bm_base.specs.Machine.{Machine, IsMachine, IsTime}
use Rattle.bm_base.specs.Spec.{time_of, interval, place_of}
use Rattle.tuple_ir.specs.declared.tuple.Tuple.{Tuple}
use Rattle.tuple_ir.specs.declared.tuple.Tuple.TheVariants.{Const}
use Rattle.tuple_ir.specs.Kinds.{class_of}
use Rattle.dependence.specs.Producers.{in_conflict}
use Rattle.dependence.proofs.Kept.{kept_from}
use Rattle.dependence.proofs.Rows.{row_at}
use Rattle.list_schedule.specs.Job.{IsJob, job_of, time, work, longest}
use Rattle.list_schedule.specs.Greedy.{Plan, IsGreedy, makespan}
use Rattle.list_schedule.specs.Schedule.{Numbered, IsScheduleOf}
use Rattle.list_schedule.specs.Laws.{BlocksAreJobs, BlocksHaveOneSchedule}
use Rattle.list_schedule.proofs.Exists.{greedy_exists}
use Rattle.list_schedule.proofs.One.{the_greedy_schedule_is_one}
use Rattle.list_schedule.proofs.Graham.{grahams_bound}

each_time : (ts : List Interval) (k : ℕ) → AllByRecursion IsTime ts → IsTime (unwrap_or (slice_get ts k) (interval 1 1))
each_time [] k h = record { low = omega arith; order = omega arith; high = omega arith }
each_time (t ∷ ts) zero h = h.0
each_time (t ∷ ts) (suc k) h = each_time ts k h.1

module _ (machine : Machine) (ts : List Tuple) (m : IsMachine machine) where
  times_are : (t : ℕ) → t < length ts → IsTime (time_of machine (class_of (get_or ts t (Const (pos 0))))) × (time (job_of machine ts) t ≡ (time_of machine (class_of (get_or ts t (Const (pos 0))))).most)
  times_are t lt = (each_time machine.times (place_of (class_of (get_or ts t (Const (pos 0))))) m.each, get_or-map (λ x. (time_of machine (class_of x)).most) ts t (Const (pos 0)) 0 lt)

  many : length (job_of machine ts).times ≡ length ts
  many = length-map ts (λ t. (time_of machine (class_of t)).most)

  pub is_job : IsJob (job_of machine ts)
  is_job = record {
    some = m.some;
    times = λ t lt. let x = times_are t (omega (arith, many)) in let l = x.0.low in let o = x.0.order in omega (arith, x.1);
    earlier = λ t a lt has.
        let P : List ℕ → Type 0 = λ xs. Contains xs a in
        let r = kept_from (in_conflict ts t) t a (subst P (row_at ts t (omega (arith, many))) has) in
        r.0;
  }

  short : (u : ℕ) → time (job_of machine ts) u ≤ 1000
  short u = elim (cases_lt u (length ts)) [ inl lt ↦ (let x = times_are u lt in let h = x.0.high in omega (arith, x.1)) | inr le ↦ omega (arith, get_or_past (job_of machine ts).times u 0 (omega (arith, many))) ]

  abbrev of_plan : Plan → Numbered
  of_plan plan = record { plan = plan; makespan = makespan (job_of machine ts) plan; work = work (job_of machine ts); longest = longest (job_of machine ts) }

  is_schedule : (plan : Plan) → IsGreedy (job_of machine ts) plan → IsScheduleOf machine ts (of_plan plan)
  is_schedule plan g = record { greedy = g; makespan = refl; work = refl; longest = refl; bound = grahams_bound (job_of machine ts) plan is_job g }

  fixed : (plan : Plan) → IsGreedy (job_of machine ts) plan → (other : Numbered) → IsScheduleOf machine ts other → other ≡ of_plan plan
  fixed plan g other h =
      let make : Plan → ℕ → ℕ → ℕ → Numbered = λ p a b c. record { plan = p; makespan = a; work = b; longest = c } in
      ap (λ a. make other.plan a other.work other.longest) h.makespan
      ∙ ap (λ b. make other.plan (makespan (job_of machine ts) other.plan) b other.longest) h.work
      ∙ ap (λ c. make other.plan (makespan (job_of machine ts) other.plan) (work (job_of machine ts)) c) h.longest
      ∙ ap of_plan (the_greedy_schedule_is_one (job_of machine ts) other.plan plan is_job h.greedy g)

  pub has_one : length ts ≤ 128 → (s : Numbered) × IsScheduleOf machine ts s × ((other : Numbered) → IsScheduleOf machine ts other → other ≡ s)
  has_one few = let p = greedy_exists (job_of machine ts) is_job (omega (arith, many)) short in (of_plan p.0, is_schedule p.0 p.1, fixed p.0 p.1)

pub blocks_are_jobs : BlocksAreJobs
blocks_are_jobs = is_job

pub blocks_have_one : BlocksHaveOneSchedule
blocks_have_one = has_one
