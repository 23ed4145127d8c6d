use Rattle.stream_image.proofs.SortedFacts.{FirstTo}
use Rattle.stream_image.proofs.sorted.Sorting.come_first.Given as goal

abbrev pub invariant-loop-a : goal.invariant-loop-a
invariant-loop-a l = FirstTo l.self.walked.pace l.self.walked.line l.numbers l.p l.a-index
