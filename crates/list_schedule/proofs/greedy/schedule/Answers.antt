use Rattle.std.proofs.Common.{◌≡◌, ◌∙◌, ◌+◌, ℕ, List, Option, map, length, slice_index, sum, sym, ap, subst, arith}
use Rattle.std.specs.List.{range_with_len}
use Rattle.std.specs.Option.{unwrap_or}
use Rattle.bm_base.specs.Spec.{time_of}
use Rattle.tuple_ir.specs.Kinds.{class_of}
use Rattle.list_schedule.specs.Job.{Job, greatest, height, longest, work, job_of}
use Rattle.list_schedule.specs.Greedy.{IsGreedy, makespan}
use Rattle.list_schedule.specs.Steps.{tick_of, starts_of, AreTicks, job_with, plan_with}
use Rattle.list_schedule.proofs.Starts.{no_ticks, none_starts, all_ticks}
use Rattle.list_schedule.proofs.Graham.{grahams_bound}
use Rattle.list_schedule.proofs.Whole.{Made, made_for, few_tuples, heights_many, height_at, is_job, bounded}
use Rattle.list_schedule.proofs.greedy.schedule.Goals as goal
use Rattle.list_schedule.proofs.greedy.schedule.Goals.{After-processors, In_ok-heights, After-deref, In_ok-starts, After-drop-job-2}

made : (c : After-processors) → Made c.args.spec.now c.args.block.now.tuples c.in_ok-times.times.items c.args.deps.now.producers
made c =
    made_for _ _ _ _ (few_tuples c.args.block.now.tuples c.args.deps.now.producers c.requires.producers (omega (arith, c.len.ensures.few, c.len.ensures.value))) (c.in_ok-times.ensures.value ∙ ap (map (λ t. (time_of c.args.spec.now (class_of t)).most)) c.items.ensures) c.in_ok-times.ensures.range c.requires.producers

pub heights-requires-clause-few : goal.heights-requires-clause-few
heights-requires-clause-few c = let m = made ((goal.at.heights-requires-clause-few c).After-processors) in m.few

pub heights-requires-clause-same : goal.heights-requires-clause-same
heights-requires-clause-same c = let m = made ((goal.at.heights-requires-clause-same c).After-processors) in m.same

pub heights-requires-clause-sound : goal.heights-requires-clause-sound
heights-requires-clause-sound c = let m = made ((goal.at.heights-requires-clause-sound c).After-processors) in m.sound

pub place_all-requires-clause-few : goal.place_all-requires-clause-few
place_all-requires-clause-few c = let m = made ((goal.at.place_all-requires-clause-few c).After-processors) in m.few

pub place_all-requires-clause-deps : goal.place_all-requires-clause-deps
place_all-requires-clause-deps c = let m = made ((goal.at.place_all-requires-clause-deps c).After-processors) in m.same

pub place_all-requires-clause-sound : goal.place_all-requires-clause-sound
place_all-requires-clause-sound c = let m = made ((goal.at.place_all-requires-clause-sound c).After-processors) in m.sound c.processors.result c.processors.ensures.some

pub last_of-makespan-requires-clause-few : goal.last_of-makespan-requires-clause-few
last_of-makespan-requires-clause-few c = let m = made ((goal.at.last_of-makespan-requires-clause-few c).After-processors) in omega (arith, m.few, ap length c.deref-3.ensures.value)

pub sum_of-work-requires-clause-few : goal.sum_of-work-requires-clause-few
sum_of-work-requires-clause-few c = let m = made ((goal.at.sum_of-work-requires-clause-few c).After-processors) in omega (arith, m.few, ap length c.deref-5.ensures.value)

heights_are : (c : In_ok-heights) → c.in_ok-heights.heights.items ≡ map (height (job_with c.processors.result c.in_ok-times.times.items c.args.deps.now.producers)) (range_with_len 0 (length c.in_ok-times.times.items))
heights_are c = c.in_ok-heights.ensures c.processors.result c.processors.ensures.some

given : (c : After-deref) → c.deref.result.now ≡ map (height (job_with c.processors.result c.in_ok-times.times.items c.args.deps.now.producers)) (range_with_len 0 (length c.in_ok-times.times.items))
given c = c.deref.ensures.value ∙ c.in_ok-heights.ensures c.processors.result c.processors.ensures.some

pub place_all-requires-clause-heights : goal.place_all-requires-clause-heights
place_all-requires-clause-heights c = heights_many (job_with c.processors.result c.in_ok-times.times.items c.args.deps.now.producers) _ (given ((goal.at.place_all-requires-clause-heights c).After-deref))

pub place_all-requires-clause-tall : goal.place_all-requires-clause-tall
place_all-requires-clause-tall c = height_at (job_with c.processors.result c.in_ok-times.times.items c.args.deps.now.producers) _ (given ((goal.at.place_all-requires-clause-tall c).After-deref))

at_end : (c : After-drop-job-2) → Made c.args.spec.now c.args.block.now.tuples c.in_ok-times.times.items c.args.deps.now.producers
at_end c = made ((goal.at.returns c).After-processors)

job_is : (c : After-drop-job-2) → job_with c.processors.result c.in_ok-times.times.items c.args.deps.now.producers ≡ job_of c.args.spec.now c.args.block.now.tuples
job_is c = let m = at_end c in ap (λ p. job_with p c.in_ok-times.times.items c.args.deps.now.producers) c.processors.ensures.value ∙ m.job

pub place_all-requires-clause-none : goal.place_all-requires-clause-none
place_all-requires-clause-none c = λ u lt. ap (λ xs. slice_index (map tick_of xs) u) c.in_ok-draft.ensures.starts ∙ none_starts _ u (omega (arith, c.len-2.ensures))

pub place_all-requires-clause-ticks : goal.place_all-requires-clause-ticks
place_all-requires-clause-ticks c = subst (λ (xs : List (Option ℕ)). AreTicks xs) (sym c.in_ok-draft.ensures.starts) (no_ticks _)

starts_are : (c : In_ok-starts) → c.in_ok-starts.starts.items ≡ starts_of c.place_all.new.draft
starts_are c =
    let early = c.place_all.ensures.early in
    c.in_ok-starts.ensures ∙ ap (map (λ start. unwrap_or start 0)) c.deref-2.ensures.value ∙ all_ticks c.place_all.new.draft.starts.items (λ u lt. omega (arith, early u))

pub last_of-makespan-requires-clause-early : goal.last_of-makespan-requires-clause-early
last_of-makespan-requires-clause-early c = λ u. let early = c.place_all.ensures.early in omega (arith, ap (λ xs. slice_index xs u) (c.deref-4.ensures.value ∙ starts_are ((goal.at.last_of-makespan-requires-clause-early c).In_ok-starts)), early u)

greedy_is : (c : After-drop-job-2) → IsGreedy (job_of c.args.spec.now c.args.block.now.tuples) (plan_with c.in_ok-starts.starts.items c.place_all.new.draft.places.items)
greedy_is c =
    let P : Job → Type 0 = λ j. IsGreedy j (plan_with c.in_ok-starts.starts.items c.place_all.new.draft.places.items) in
    let Q : List ℕ → Type 0 = λ xs. IsGreedy (job_with c.processors.result c.in_ok-times.times.items c.args.deps.now.producers) (plan_with xs c.place_all.new.draft.places.items) in
    subst P (job_is c) (subst Q (sym (starts_are ((goal.at.returns c).In_ok-starts))) c.place_all.ensures.greedy)

makespan_is : (c : After-drop-job-2) → c.last_of-makespan.result ≡ makespan (job_of c.args.spec.now c.args.block.now.tuples) (plan_with c.in_ok-starts.starts.items c.place_all.new.draft.places.items)
makespan_is c =
    c.last_of-makespan.ensures
    ∙ ap (λ xs. greatest (map (λ u. slice_index xs u + slice_index c.deref-3.result.now u) (range_with_len 0 (length c.deref-3.result.now)))) c.deref-4.ensures.value
    ∙ ap (λ ts. greatest (map (λ u. slice_index c.in_ok-starts.starts.items u + slice_index ts u) (range_with_len 0 (length ts)))) c.deref-3.ensures.value
    ∙ ap (λ job. makespan job (plan_with c.in_ok-starts.starts.items c.place_all.new.draft.places.items)) (job_is c)

longest_is : (c : After-drop-job-2) → c.greatest_of-longest.result ≡ longest (job_of c.args.spec.now c.args.block.now.tuples)
longest_is c = c.greatest_of-longest.ensures ∙ ap greatest c.deref-6.ensures.value ∙ ap greatest (heights_are ((goal.at.returns c).In_ok-heights)) ∙ ap longest (job_is c)

work_is : (c : After-drop-job-2) → c.sum_of-work.result ≡ work (job_of c.args.spec.now c.args.block.now.tuples)
work_is c = c.sum_of-work.ensures ∙ ap sum c.deref-5.ensures.value ∙ ap work (job_is c)

pub returns : goal.returns
returns c = record {
  greedy = greedy_is c;
  makespan = makespan_is c;
  work = work_is c;
  longest = longest_is c;
  bound = bounded _ _ _ _ _ _ _ (makespan_is c) (work_is c) (longest_is c) (grahams_bound (job_of c.args.spec.now c.args.block.now.tuples) _ (is_job _ _ _ _ (at_end c) (omega (arith, c.processors.ensures.some, c.processors.ensures.value))) (greedy_is c));
}
