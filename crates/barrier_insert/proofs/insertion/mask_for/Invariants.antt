use Rattle.barrier_insert.specs.Inserted.{assignment}
use Rattle.barrier_insert.proofs.Searched.{IsSearched}
use Rattle.barrier_insert.proofs.insertion.mask_for.Given as goal

abbrev pub invariant-loop-g : goal.invariant-loop-g
invariant-loop-g l = IsSearched (assignment l.part.pace l.deps.producers l.schedule.plan) l.part.line l.i l.g-items l.g-index l.found l.mask
