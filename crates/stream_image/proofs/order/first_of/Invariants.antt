use Rattle.stream_image.proofs.OrderPairs.{NoneTo}
use Rattle.stream_image.proofs.order.first_of.Given as goal

abbrev pub invariant-loop-a : goal.invariant-loop-a
invariant-loop-a l = NoneTo l.wrong l.bounds.pace l.bounds.line l.numbers l.b l.a-index
