use Rattle.std.proofs.Common.{get_or, arith, ◌<◌, length}
use Rattle.std.proofs.lemmas.List.{get_or_default}
use Rattle.stream_image.proofs.OrderPairs.{first_is}
use Rattle.stream_image.proofs.order.first_of.Goals as goal

pub returns-then-is_so : goal.returns-then-is_so
returns-then-is_so c =
    let l : c.loop-a.a-index < length c.args.numbers.now = omega (arith, c.loop-a-test.true) in
    first_is c.args.wrong c.args.bounds.now.pace c.args.bounds.now.line c.args.numbers.now c.args.b c.loop-a.a-index (get_or c.args.numbers.now c.loop-a.a-index 0) l (λ d. get_or_default c.args.numbers.now c.loop-a.a-index d 0 l) c.requires.ascending c.loop-a.invariant (c.is_so.ensures.so c.if-is_so.true)
