use Rattle.compiled_image.proofs.FrontFacts.{AreFronts}
use Rattle.compiled_image.proofs.fronts.fronts_in.Given as goal

abbrev pub invariant-loop-item : goal.invariant-loop-item
invariant-loop-item l = AreFronts l.processors l.items l.item-index l.on l.seen l.all.on l.all.seen
