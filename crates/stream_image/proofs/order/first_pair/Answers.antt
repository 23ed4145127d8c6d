use Rattle.std.proofs.Common.{◌≡◌, ◌∙◌, ap, length, arith}
use Rattle.dependence.specs.Producers.{producers_at}
use Rattle.dependence.proofs.Rows.{as_many}
use Rattle.stream_image.proofs.OrderPairs.{row_of, one_more, all_none, first_wrong}
use Rattle.stream_image.proofs.order.first_pair.Goals as goal

pub producers-requires : goal.producers-requires
producers-requires c =
    let e = as_many c.args.tuples.now in
    let d = ap length c.requires.deps.producers in
    omega (arith, c.loop-b-test.true, e, d)

row : (c : goal.In-Some) → c.producers.result.now ≡ producers_at c.args.tuples.now c.loop-b.b
row c = c.producers.ensures.value ∙ row_of c.args.tuples.now c.args.deps.now.producers c.loop-b.b c.requires.deps.producers (omega (arith, c.loop-b-test.true))

pub returns-in-Some : goal.returns-in-Some
returns-in-Some c = first_wrong c.args.wrong c.args.bounds.now.pace c.args.tuples.now c.args.bounds.now.line c.loop-b.b c.in-Some.a c.producers.result.now (row c) c.loop-b.invariant c.in-Some.ensures

pub loop-b-preserved : goal.loop-b-preserved
loop-b-preserved c = one_more c.args.wrong c.args.bounds.now.pace c.args.tuples.now c.args.bounds.now.line c.loop-b.b c.producers.result.now (c.producers.ensures.value ∙ row_of c.args.tuples.now c.args.deps.now.producers c.loop-b.b c.requires.deps.producers (omega (arith, c.loop-b-test.true))) c.loop-b.invariant c.in_default.ensures

pub returns : goal.returns
returns c = all_none c.args.wrong c.args.bounds.now.pace c.args.tuples.now c.args.bounds.now.line (λ a b l. c.loop-b.invariant a b (omega (arith, l, c.loop-b-test.false)))
