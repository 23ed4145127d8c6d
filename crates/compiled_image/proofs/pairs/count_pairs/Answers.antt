use Rattle.std.proofs.Common.{◌≡◌, suc, ◌+◌, ◌<◌, [], ◌++◌, length, map, slice_index_or, All, Contains, arith, sym, ap, subst, subst₂, ◌∙◌}
use Rattle.std.proofs.lemmas.List.Elements.{Contains-get_or}
use Rattle.dependence.specs.Producers.{producers_of, producers_at}
use Rattle.dependence.proofs.Kept.{ascending_length}
use Rattle.dependence.proofs.Rows.{row_at, as_many}
use Rattle.time_interval.specs.Bounds.{pace_on}
use Rattle.time_interval.specs.Lines.{tuples}
use Rattle.time_interval.specs.Ordered.{IsOrdered}
use Rattle.time_interval.specs.Sets.{set_at}
use Rattle.compiled_image.specs.Fronts.{IsFrontOf}
use Rattle.compiled_image.specs.Reasons.{pair, pairs_below}
use Rattle.compiled_image.specs.Counts.{IsTallyOf}
use Rattle.compiled_image.proofs.pairs.count_pairs.Goals.{After-producers}
use Rattle.compiled_image.proofs.pairs.count_pairs.Goals as goal

many : (c : After-producers) → length c.in_ok-deps.deps.producers ≡ length c.args.block.now.tuples
many c = ap length c.in_ok-deps.ensures.producers ∙ as_many c.args.block.now.tuples

within : (c : After-producers) → c.loop-b.b < length c.args.block.now.tuples
within c = omega (arith, many c, c.len-b-end.ensures.value, c.loop-b-test.true)

-- the producers of this turn
rows_is : (c : After-producers) → c.producers.result.now ≡ slice_index_or (producers_of c.args.block.now.tuples) c.loop-b.b []
rows_is c = c.producers.ensures.value ∙ ap (λ rows. slice_index_or rows c.loop-b.b []) c.in_ok-deps.ensures.producers

row_is : (c : After-producers) → c.producers.result.now ≡ producers_at c.args.block.now.tuples c.loop-b.b
row_is c = rows_is c ∙ row_at c.args.block.now.tuples c.loop-b.b (within c)

-- what stands in front of the tuple of this turn
front : (c : After-producers) → IsFrontOf c.args.spec.now.processors c.args.line.now.items c.loop-b.b (set_at c.fronts_in-fronts.result.on c.loop-b.b) (set_at c.fronts_in-fronts.result.seen c.loop-b.b)
front c =
    let e = c.items.ensures in
    subst₂ (λ n items. IsFrontOf n items c.loop-b.b (set_at c.fronts_in-fronts.result.on c.loop-b.b) (set_at c.fronts_in-fronts.result.seen c.loop-b.b)) c.processors.ensures.value e
    (c.fronts_in-fronts.ensures c.loop-b.b (subst (λ items. Contains (tuples items) c.loop-b.b) (sym e) (c.requires.in_order.stand c.loop-b.b (within c))))

ordered : (c : After-producers) → All (λ a. IsOrdered (pace_on c.args.spec.now c.args.block.now.tuples) c.args.line.now.items a c.loop-b.b) c.producers.result.now
ordered c k d l =
    let g = slice_index_or c.producers.result.now k d in
    c.requires.in_order.ordered c.loop-b.b g (omega (arith, within c, as_many c.args.block.now.tuples)) (subst (λ row. Contains row g) (rows_is c) (Contains-get_or c.producers.result.now k d l))

pub add_row-requires-clause-few : goal.add_row-requires-clause-few
add_row-requires-clause-few c =
    let l = ascending_length c.producers.result.now c.loop-b.b c.producers.ensures.ascending c.producers.ensures.below in
    let k = within (goal.at.add_row-requires-clause-few c).After-producers in
    omega (arith, c.requires.few)

pub loop-b-preserved : goal.loop-b-preserved
loop-b-preserved c =
    let d = (goal.at.loop-b-preserved c).After-producers in
    let ts = c.args.block.now.tuples in
    let pace = pace_on c.args.spec.now ts in
    let line = c.args.line.now.items in
    let s : suc c.loop-b.b ≡ c.loop-b.b + 1 = omega arith in
    let there : IsTallyOf pace line (pairs_below ts c.loop-b.b ++ map (pair c.loop-b.b) c.producers.result.now) c.add_row.new.tally = c.add_row.ensures.tally pace line (pairs_below ts c.loop-b.b) (front d) (ordered d) c.loop-b.invariant.1 in (
      c.add_row.ensures.room,
      subst (λ n. IsTallyOf pace line (pairs_below ts n) c.add_row.new.tally) s
          (subst (λ row. IsTallyOf pace line (pairs_below ts c.loop-b.b ++ map (pair c.loop-b.b) row) c.add_row.new.tally) (row_is d) there),
    )

pub returns : goal.returns
returns c =
    let ts = c.args.block.now.tuples in
    let m : length c.in_ok-deps.deps.producers ≡ length ts = ap length c.in_ok-deps.ensures.producers ∙ as_many ts in
    let e : c.loop-b.b ≡ length ts = omega (arith, c.len-b-end.ensures.value, c.loop-b-test.false) in
    subst (λ n. IsTallyOf (pace_on c.args.spec.now ts) c.args.line.now.items (pairs_below ts n) c.loop-b.tally) e c.loop-b.invariant.1
