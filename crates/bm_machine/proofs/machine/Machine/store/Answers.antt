use Rattle.std.proofs.Common.{subst}
use Rattle.bm_base.specs.Memories.{IsMemoryOf}
use Rattle.bm_machine.proofs.machine.Machine.store.Goals as goal

-- the state is the last of a run from a memory of the names
pub returns-clause-memory : goal.returns-clause-memory
returns-clause-memory g c =
    let r = c.self.invariant.kept.reached in
    let m = c.self.inside.image.now in
    subst (λ v. IsMemoryOf v.program.names c.self.inside.store) c.self.view_is (subst (λ s. IsMemoryOf m.names s.world.memory) r.last (c.runs_keep_memories.ensures m.names m r.memory r.past r.is_memory))
