use Rattle.compiled_image.specs.Counts.{HasRoom, IsMade}
use Rattle.compiled_image.proofs.compiling.with_plans.Given as goal

abbrev pub invariant-loop-block : goal.invariant-loop-block
invariant-loop-block l = IsMade l.fn.spec l.fn.blocks.names l.yielded l.builder l.summary × HasRoom l.summary
