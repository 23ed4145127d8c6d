-- Which operands, tuples and blocks are sound.
use Rattle.std.specs.Prelude.{◌≡◌, ℕ, ◌<◌, ◌≤◌, true, List, length, Some, slice_get}
use Rattle.std.specs.List.{AllByRecursion}
use Rattle.bm_base.specs.declared.limits.TheConstants.{MOST_TUPLES}
use Rattle.bm_base.specs.Entry.{Entry}
use Rattle.bm_base.specs.Names.{IsVariableOf, IsArrayOf}
use Rattle.tuple_ir.specs.declared.tuple.Tuple.{Tuple}
use Rattle.tuple_ir.specs.declared.block.Block.{Block}
use Rattle.tuple_ir.specs.declared.block.Next.{Next}
use Rattle.tuple_ir.specs.declared.block.Next.TheVariants.{Halt, Goto, If}
use Rattle.tuple_ir.specs.OperandList.{Operand, Cell, Variable, Array, operands}
use Rattle.tuple_ir.specs.Kinds.{has_value}

-- cell c is that of a tuple that gives a value, before number i
abbrev pub IsValueBefore : List Tuple → ℕ → ℕ → Type 0
IsValueBefore tuples i c = (c < i) × ((t : Tuple) × (slice_get tuples c ≡ Some t) × (has_value t ≡ true))

-- an operand of tuple number i: the cell of an earlier tuple that gives a value, or a name of the right kind
abbrev pub IsOperandSound : List Entry → List Tuple → ℕ → Operand → Type 0
IsOperandSound names tuples i (Cell c) = IsValueBefore tuples i c
IsOperandSound names tuples i (Variable x) = IsVariableOf names x
IsOperandSound names tuples i (Array x) = IsArrayOf names x

-- each operand of tuple number i is sound
pub record IsTupleSound (names : List Entry) (tuples : List Tuple) (i : ℕ) (tuple : Tuple) : Type 0 where
  pub each : AllByRecursion (IsOperandSound names tuples i) (operands tuple)

-- what may follow a block is one of so many blocks
abbrev pub leads_below : ℕ → Next → Type 0
leads_below blocks Halt = Unit {0}
leads_below blocks (Goto b) = b < blocks
leads_below blocks (If c one other) = (one < blocks) × (other < blocks)

-- the cell that is asked behind these tuples is that of a value
abbrev pub asks_value : List Tuple → Next → Type 0
asks_value tuples Halt = Unit {0}
asks_value tuples (Goto b) = Unit {0}
asks_value tuples (If c one other) = IsValueBefore tuples (length tuples) c

-- what follows these tuples is one of so many blocks, and is chosen by one of their values
pub record IsNextSound (tuples : List Tuple) (blocks : ℕ) (next : Next) : Type 0 where
  pub leads : leads_below blocks next
  pub asks : asks_value tuples next

-- one of so many blocks: at most 128 tuples, each of them sound, and a sound next
pub record IsBlockSound (names : List Entry) (blocks : ℕ) (block : Block) : Type 0 where
  pub few : length block.tuples ≤ MOST_TUPLES
  pub each : (i : ℕ) (tuple : Tuple) → slice_get block.tuples i ≡ Some tuple → IsTupleSound names block.tuples i tuple
  pub next : IsNextSound block.tuples blocks block.next

-- there is a block, and each is sound among all
pub record AreBlocksSound (names : List Entry) (blocks : List Block) : Type 0 where
  pub some : 0 < length blocks
  pub each : (b : ℕ) (block : Block) → slice_get blocks b ≡ Some block → IsBlockSound names (length blocks) block
