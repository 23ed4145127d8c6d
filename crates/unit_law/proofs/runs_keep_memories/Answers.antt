use Rattle.unit_law.proofs.Memories.{run_keeps}
use Rattle.unit_law.proofs.runs_keep_memories.Goals as goal

pub returns : goal.returns
returns c = run_keeps
