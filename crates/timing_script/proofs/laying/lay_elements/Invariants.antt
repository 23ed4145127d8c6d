use Rattle.std.proofs.Common.{◌≡◌, List, take}
use Rattle.bm_base.specs.Entry.{Entry}
use Rattle.bm_base.specs.Memories.{IsMemoryOf}
use Rattle.timing_script.specs.DataReading.{laid_at}
use Rattle.timing_script.proofs.laying.lay_elements.Given as goal

abbrev pub invariant-loop-index : goal.invariant-loop-index
invariant-loop-index l = record {
  value : l.store ≡ laid_at l.initial.store l.id (take l.index l.values);
  kept : (names : List Entry) → IsMemoryOf names l.initial.store → IsMemoryOf names l.store;
}
