use Rattle.bm_inputs.proofs.Memories.{memory-right}
use Rattle.bm_inputs.proofs.run_laws.memories_are_right.Goals as goal

pub returns : goal.returns
returns c names word l = (memory-right names c.data_has_one_answer.ensures l c.laws_of_memories.ensures.first word).gives
