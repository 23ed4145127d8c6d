use Rattle.std.proofs.Common.{◌≡◌, ℕ, suc, ◌+◌, ◌<◌, [], ◌++◌, length, map, slice_index_or, Contains, arith, sym, ap, subst, ◌∙◌}
use Rattle.dependence.specs.Producers.{producers_at}
use Rattle.dependence.proofs.Rows.{row_at, as_many}
use Rattle.time_interval.specs.Edits.{Changing}
use Rattle.time_interval.specs.Bounds.{pace_on}
use Rattle.time_interval.specs.Lines.{tuples}
use Rattle.compiled_image.specs.Reasons.{pair, pairs_below}
use Rattle.show_text.specs.Shown.{ArePairs}
use Rattle.show_text.proofs.shown.show_pairs.Goals.{After-producers}
use Rattle.show_text.proofs.shown.show_pairs.Goals as goal

many : (c : After-producers) → length c.in_ok-deps.deps.producers ≡ length c.args.block.now.tuples
many c = ap length c.in_ok-deps.ensures.producers ∙ as_many c.args.block.now.tuples

within : (c : After-producers) → c.loop-b.b < length c.args.block.now.tuples
within c = omega (arith, many c, c.len-b-end.ensures.value, c.loop-b-test.true)

line_is : (c : After-producers) → c.in_ok-bounds.bounds.line ≡ c.args.line.now.items
line_is c = ap (λ (b : Changing). b.line) c.in_ok-bounds.ensures

stands : (c : After-producers) → (t : ℕ) → t < length c.args.block.now.tuples → Contains (tuples c.in_ok-bounds.bounds.line) t
stands c t l = subst (λ line. Contains (tuples line) t) (sym (line_is c)) (c.requires.in_order.stand t l)

row_is : (c : After-producers) → c.producers.result.now ≡ producers_at c.args.block.now.tuples c.loop-b.b
row_is c = c.producers.ensures.value ∙ ap (λ rows. slice_index_or rows c.loop-b.b []) c.in_ok-deps.ensures.producers ∙ row_at c.args.block.now.tuples c.loop-b.b (within c)

pub show_row-requires-clause-later : goal.show_row-requires-clause-later
show_row-requires-clause-later c =
    let d = (goal.at.show_row-requires-clause-later c).After-producers in
    stands d c.loop-b.b (within d)

pub show_row-requires-clause-earlier : goal.show_row-requires-clause-earlier
show_row-requires-clause-earlier c k e l =
    let d = (goal.at.show_row-requires-clause-earlier c).After-producers in
    let b = c.producers.ensures.below k e l in
    let w = within d in
    stands d (slice_index_or c.producers.result.now k e) (omega arith)

pub loop-b-preserved : goal.loop-b-preserved
loop-b-preserved c =
    let d = (goal.at.loop-b-preserved c).After-producers in
    let ts = c.args.block.now.tuples in
    let pace = pace_on c.args.spec.now ts in
    let e = c.in_ok-bounds.ensures in
    let s : suc c.loop-b.b ≡ c.loop-b.b + 1 = omega arith in
    let old : ArePairs c.in_ok-bounds.bounds.pace c.in_ok-bounds.bounds.line (pairs_below ts c.loop-b.b) c.loop-b.pairs =
    subst (λ (b : Changing). ArePairs b.pace b.line (pairs_below ts c.loop-b.b) c.loop-b.pairs) (sym e) c.loop-b.invariant.pairs in
    let new = c.in_ok-show_row.ensures (pairs_below ts c.loop-b.b) old in
    let there : ArePairs pace c.args.line.now.items (pairs_below ts c.loop-b.b ++ map (pair c.loop-b.b) c.producers.result.now) c.show_row.new.pairs =
    subst (λ (b : Changing). ArePairs b.pace b.line (pairs_below ts c.loop-b.b ++ map (pair c.loop-b.b) c.producers.result.now) c.show_row.new.pairs) e new in
    record {
      pairs = subst (λ n. ArePairs pace c.args.line.now.items (pairs_below ts n) c.show_row.new.pairs) s
          (subst (λ row. ArePairs pace c.args.line.now.items (pairs_below ts c.loop-b.b ++ map (pair c.loop-b.b) row) c.show_row.new.pairs) (row_is d) there);
    }

pub returns : goal.returns
returns c =
    let ts = c.args.block.now.tuples in
    let m : length c.in_ok-deps.deps.producers ≡ length ts = ap length c.in_ok-deps.ensures.producers ∙ as_many ts in
    let e : c.loop-b.b ≡ length ts = omega (arith, c.len-b-end.ensures.value, c.loop-b-test.false) in
    subst (λ n. ArePairs (pace_on c.args.spec.now ts) c.args.line.now.items (pairs_below ts n) c.loop-b.pairs) e c.loop-b.invariant.pairs
