use Rattle.stream_image.proofs.OrderPairs.{NoneBelow}
use Rattle.stream_image.proofs.order.first_pair.Given as goal

abbrev pub invariant-loop-b : goal.invariant-loop-b
invariant-loop-b l = NoneBelow l.wrong l.bounds.pace l.tuples l.bounds.line l.b
