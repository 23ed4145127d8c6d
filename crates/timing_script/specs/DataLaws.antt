-- What holds of all bytes, as data for lawful names.
use Rattle.std.specs.Prelude.{ℕ, ◌≡◌, List}
use Rattle.bm_base.specs.Entry.{Entry}
use Rattle.bm_base.specs.Memory.{Content}
use Rattle.bm_base.specs.Memories.{IsMemoryOf}
use Rattle.bm_base.specs.Names.{AreNames}
use Rattle.timing_script.specs.declared.fault.DataFault.{DataFault}
use Rattle.timing_script.specs.Data.{IsDataOf, IsFirstFault}

-- what bytes are
pub data Answer (names : List Entry) (bytes : List ℕ) : Type 0 where
  gives : (memory : List Content) → IsDataOf names bytes memory → Answer names bytes
  wrong : (fault : DataFault) → IsFirstFault names bytes fault → Answer names bytes

-- Bytes give one memory, which is one of the names, or they have one first fault; not both.
pub record DataHasOneAnswer : Type 0 where
  pub some : (names : List Entry) (bytes : List ℕ) → AreNames names → Answer names bytes
  pub one_memory : (names : List Entry) (bytes : List ℕ) (m n : List Content) → AreNames names
      → IsDataOf names bytes m → IsDataOf names bytes n → m ≡ n
  pub of_names : (names : List Entry) (bytes : List ℕ) (m : List Content) → AreNames names → IsDataOf names bytes m → IsMemoryOf names m
  pub one_fault : (names : List Entry) (bytes : List ℕ) (a b : DataFault) → AreNames names
      → IsFirstFault names bytes a → IsFirstFault names bytes b → a ≡ b
  pub not_both : (names : List Entry) (bytes : List ℕ) (m : List Content) (a : DataFault) → AreNames names
      → IsDataOf names bytes m → IsFirstFault names bytes a → ⊥
