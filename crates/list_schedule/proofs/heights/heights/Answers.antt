use Rattle.std.proofs.Common.{◌≡◌, ◌∙◌, ◌+◌, ◌-◌, ◌<◌, ◌≤◌, ℕ, [], length, map, filter, nat_eq, slice_index, slice_index_or, get_or, refl, ap, subst, arith}
use Rattle.std.specs.List.{range_with_len, list_any}
use Rattle.std.proofs.lemmas.List.{length-set}
use Rattle.list_schedule.specs.Job.{height, greatest}
use Rattle.std.proofs.lemmas.List.{get_or_default}
use Rattle.list_schedule.proofs.HeightFacts.{Behind, above_is, behind_more, all_heights, height_small}
use Rattle.list_schedule.proofs.heights.heights.Goals as goal
use Rattle.list_schedule.proofs.heights.heights.Goals.{After-above}

behind : (c : After-above) (p : ℕ) → 1 ≤ p → Behind (record { processors = p; times = c.args.job.now.times.items; producers = c.args.job.now.deps.now.producers }) c.loop-t.heights.items (c.loop-t.t - 1 + 1)
behind c p some =
    let P : ℕ → Type 0 = Behind (record { processors = p; times = c.args.job.now.times.items; producers = c.args.job.now.deps.now.producers }) c.loop-t.heights.items in
    let e : c.loop-t.t ≡ c.loop-t.t - 1 + 1 = omega (arith, c.loop-t-test.true) in
    subst P e (c.loop-t.invariant.1 p some)

sum_is : (c : After-above) (p : ℕ) → 1 ≤ p → get_or c.args.job.now.times.items (c.loop-t.t - 1) 0 + c.above.result ≡ height (record { processors = p; times = c.args.job.now.times.items; producers = c.args.job.now.deps.now.producers }) (c.loop-t.t - 1)
sum_is c p some =
    let lt : c.loop-t.t - 1 < length c.args.job.now.times.items = omega (arith, c.loop-t-test.true, c.loop-t.auto.t) in
    above_is (record { processors = p; times = c.args.job.now.times.items; producers = c.args.job.now.deps.now.producers }) c.loop-t.heights.items (c.loop-t.t - 1) c.above.result (c.requires.sound p some) lt c.loop-t.invariant.0 (behind c p some) (c.above.ensures ∙ ap (λ l. greatest (map (slice_index l) (filter (λ b. list_any (nat_eq (c.loop-t.t - 1)) (slice_index_or c.args.job.now.deps.now.producers b [])) (range_with_len 0 (length l))))) c.deref.ensures.value)

pub loop-t-preserved : goal.loop-t-preserved
loop-t-preserved c =
    let b : After-above = (goal.at.loop-t-preserved c).After-above in
    let lt : c.loop-t.t - 1 < length c.args.job.now.times.items = omega (arith, c.loop-t-test.true, c.loop-t.auto.t) in
    (length-set _ _ _ ∙ c.loop-t.invariant.0, λ p some. behind_more (record { processors = p; times = c.args.job.now.times.items; producers = c.args.job.now.deps.now.producers }) c.loop-t.heights.items _ (c.loop-t.t - 1) _ lt c.loop-t.invariant.0 (behind b p some) (ap (λ n. n + c.above.result) (c.index.ensures ∙ get_or_default c.args.job.now.times.items (c.loop-t.t - 1) c.index.result.now 0 lt) ∙ sum_is b p some) refl)

pub overflow_add-index : goal.overflow_add-index
overflow_add-index c =
    let small = height_small (record { processors = 1; times = c.args.job.now.times.items; producers = c.args.job.now.deps.now.producers }) (length c.args.job.now.times.items) (c.loop-t.t - 1) c.requires.short in
    let few : length c.args.job.now.times.items ≤ 128 = c.requires.few in
    let lt : c.loop-t.t - 1 < length c.args.job.now.times.items = omega (arith, c.loop-t-test.true, c.loop-t.auto.t) in
    omega (arith, sum_is c 1 (omega arith), small, few, c.index.ensures, get_or_default c.args.job.now.times.items (c.loop-t.t - 1) c.index.result.now 0 lt)

pub returns : goal.returns
returns c = λ p some.
    let P : ℕ → Type 0 = Behind (record { processors = p; times = c.args.job.now.times.items; producers = c.args.job.now.deps.now.producers }) c.loop-t.heights.items in
    let e : c.loop-t.t ≡ 0 = omega (arith, c.loop-t-test.false) in
    all_heights (record { processors = p; times = c.args.job.now.times.items; producers = c.args.job.now.deps.now.producers }) c.loop-t.heights.items c.loop-t.invariant.0 (subst P e (c.loop-t.invariant.1 p some))
