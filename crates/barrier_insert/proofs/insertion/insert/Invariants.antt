use Rattle.std.proofs.Common.{◌≡◌, take}
use Rattle.barrier_insert.specs.Inserted.{IsMade, assignment}
use Rattle.barrier_insert.proofs.insertion.insert.Given as goal

abbrev pub invariant-loop-i : goal.invariant-loop-i
invariant-loop-i l = record {
  pace : l.part.pace ≡ l.initial.part.pace;
  made : IsMade (assignment l.initial.part.pace l.deps.producers l.schedule.plan) (take l.i-index l.i-items) l.part.line;
}
