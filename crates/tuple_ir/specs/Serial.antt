-- The serial meaning of blocks: no processors, no barriers, no time.
use Rattle.std.specs.Prelude.{ℕ, zero, suc, List, [], ◌∷◌, ◌++◌, length, Option, Some, None, get_or, if◌then◌else◌, pos}
use Rattle.std.specs.Ordering.{int_eq}
use Rattle.bm_base.specs.Memory.{Content}
use Rattle.tuple_ir.specs.declared.block.Next.{Next}
use Rattle.tuple_ir.specs.declared.block.Next.TheVariants.{Halt, Goto, If}
use Rattle.tuple_ir.specs.declared.block.Block.{Block}
use Rattle.tuple_ir.specs.World.{World, at_first, cell, serial}

-- the block that a next leads to, none at a halt
abbrev pub follows : Next → World → Option ℕ
follows Halt w = None
follows (Goto b) w = Some b
follows (If c one other) w = if int_eq (cell w c) (pos 0) then Some other else Some one

-- an outcome: the block to run next (none: a halt was followed, and it has ended), the world, and the numbers of the blocks run
pub record Outcome : Type 0 where
  pub next : Option ℕ
  pub world : World
  pub trail : List ℕ

-- the world after a block, its tuples in number order
abbrev pub block_end : Block → World → World
block_end block w = serial block.tuples w (length block.tuples)

-- a number that no block has stands for an empty block with a halt
abbrev pub no_block : Block
no_block = record { tuples = []; next = Halt }

abbrev pub block_at : List Block → ℕ → Block
block_at blocks b = get_or blocks b no_block

-- one block more; where it has ended it stays
abbrev pub one_block : List Block → Option ℕ → World → List ℕ → Outcome
one_block blocks None w trail = record { next = None; world = w; trail = trail }
one_block blocks (Some b) w trail = record {
  next = follows (block_at blocks b).next (block_end (block_at blocks b) w);
  world = block_end (block_at blocks b) w;
  trail = trail ++ b ∷ [];
}

-- at most k blocks, from block 0
abbrev pub outcome : List Block → List Content → ℕ → Outcome
outcome blocks memory zero = record { next = Some 0; world = at_first memory; trail = [] }
outcome blocks memory (suc k) = let before = outcome blocks memory k in one_block blocks before.next before.world before.trail
