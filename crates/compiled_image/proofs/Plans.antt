-- A block has one plan, which is irreducible and in order.
use Rattle.std.proofs.Common.{◌≡◌, ◌≤◌, List, length, Contains, sym, ap, ◌∙◌, subst, arith}
use Rattle.bm_base.specs.Machine.{Machine, IsMachine}
use Rattle.tuple_ir.specs.declared.tuple.Tuple.{Tuple}
use Rattle.line_model.specs.declared.line.Item.{Item}
use Rattle.dependence.specs.Producers.{producers_of}
use Rattle.dependence.proofs.Rows.{as_many}
use Rattle.list_schedule.specs.Schedule.{Numbered}
use Rattle.list_schedule.proofs.Blocks.{blocks_are_jobs, blocks_have_one}
use Rattle.time_interval.specs.Bounds.{pace_on}
use Rattle.barrier_insert.specs.Laws.{IsScheduled}
use Rattle.barrier_insert.specs.Inserted.{IsInserted}
use Rattle.barrier_insert.proofs.LawFacts as insertion
use Rattle.mask_merge.specs.Reduced.{IsReduced}
use Rattle.mask_merge.proofs.LawFacts as reduction
use Rattle.compiled_image.specs.declared.planned.Plan.{Plan}
use Rattle.compiled_image.specs.Planned.{IsPlanned, IsInOrder}
use Rattle.compiled_image.specs.PlanLaws.{BlocksHaveOnePlan, PlansAreIrreducible, PlansAreInOrder}

scheduled : (machine : Machine) (ts : List Tuple) (plan : Plan) → IsMachine machine → length ts ≤ 128 → IsPlanned machine ts plan → IsScheduled machine ts plan.schedule.plan
scheduled machine ts plan h few p = record { few = few; job = blocks_are_jobs machine ts h; greedy = p.scheduled.greedy }

-- a line in order stays so
pub reduced_in_order : (machine : Machine) (ts : List Tuple) (inserted line : List Item) → IsReduced (pace_on machine ts) (producers_of ts) inserted line → IsInOrder machine ts inserted → IsInOrder machine ts line
reduced_in_order machine ts inserted line r h = record {
  is_line = reduction.keeps_lines (pace_on machine ts) (producers_of ts) inserted line (length ts) machine.processors h.is_line r;
  stand = λ t lt. subst (λ us. Contains us t) (sym (reduction.keeps_tuples (pace_on machine ts) (producers_of ts) inserted line r).whole) (h.stand t lt);
  ordered = reduction.ordered (pace_on machine ts) (producers_of ts) inserted line h.ordered r;
}

pub in_order : PlansAreInOrder
in_order machine ts plan h few p =
    let s = scheduled machine ts plan h few p in
    let w = insertion.whole machine ts plan.schedule.plan plan.inserted.items s p.insertion in
    reduced_in_order machine ts plan.inserted.items plan.line.items p.reduction (record {
      is_line = w.is_line;
      stand = w.stand;
      ordered = insertion.ordered_in machine ts plan.schedule.plan plan.inserted.items s p.insertion;
    })

pub irreducible : PlansAreIrreducible
irreducible machine ts plan p = reduction.irreducible (pace_on machine ts) (producers_of ts) plan.inserted.items plan.line.items p.reduction

-- ---- one plan
abbrev plan_of : Numbered → List Item → List Item → Plan
plan_of schedule inserted line = record { schedule = schedule; inserted = record { items = inserted }; line = record { items = line } }

same_plans : (plan other : Plan) → plan.schedule ≡ other.schedule → plan.inserted.items ≡ other.inserted.items → plan.line.items ≡ other.line.items → plan ≡ other
same_plans plan other a b c = ap (λ x. plan_of x plan.inserted.items plan.line.items) a ∙ ap (λ x. plan_of other.schedule x plan.line.items) b ∙ ap (λ x. plan_of other.schedule other.inserted.items x) c

pub one : BlocksHaveOnePlan
one machine ts h few =
    let (schedule, scheduled, only) = blocks_have_one machine ts h few in
    let (inserted, made) = insertion.inserted_some machine ts schedule.plan (record { few = few; job = blocks_are_jobs machine ts h; greedy = scheduled.greedy }) in
    let w = insertion.whole machine ts schedule.plan inserted (record { few = few; job = blocks_are_jobs machine ts h; greedy = scheduled.greedy }) made in
    let (line, turns) = reduction.some (pace_on machine ts) (producers_of ts) inserted (length ts) w.is_line (λ i lt. w.stand i (let e = as_many ts in omega arith)) in
    let plan : Plan = plan_of schedule inserted line in (
      plan,
      record { scheduled = scheduled; insertion = made; reduction = turns },
      λ other p.
          let s = only other.schedule p.scheduled in
          let i = insertion.inserted_one machine ts schedule.plan other.inserted.items inserted (subst (λ x. IsInserted machine ts x other.inserted.items) (ap (λ x. x.plan) s) p.insertion) made in
          same_plans other plan s i (reduction.one (pace_on machine ts) (producers_of ts) inserted other.line.items line (subst (λ x. IsReduced (pace_on machine ts) (producers_of ts) x other.line.items) i p.reduction) turns),
    )
