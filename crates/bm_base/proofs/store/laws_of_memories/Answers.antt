use Rattle.bm_base.proofs.Kept.{IsMemoryOf-initial, IsMemoryOf-set_variable, IsMemoryOf-set_element}
use Rattle.bm_base.proofs.store.laws_of_memories.Goals as goal

pub returns : goal.returns
returns c = record { first = IsMemoryOf-initial; variables = IsMemoryOf-set_variable; elements = IsMemoryOf-set_element }
