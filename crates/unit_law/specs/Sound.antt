-- What each block and its line keep, whatever is known of the order of its tuples.
use Rattle.std.specs.Prelude.{◌≡◌, ℕ, ◌<◌, ◌≤◌, true, length, Some, slice_get}
use Rattle.bm_base.specs.declared.limits.TheConstants.{MOST_MASKS}
use Rattle.bm_base.specs.Mask.{has_bit}
use Rattle.tuple_ir.specs.declared.block.Block.{Block}
use Rattle.tuple_ir.specs.Sound.{IsBlockSound}
use Rattle.line_model.specs.Streams.{masks}
use Rattle.line_model.specs.Order.{StandsAt}
use Rattle.unit_law.specs.State.{Code, Program, code_at}
use Rattle.unit_law.specs.Fit.{IsFit}

-- the block without its line
abbrev pub block_of : Code → Block
block_of code = record { tuples = code.tuples; next = code.next }

-- at most 128 tuples, with operands that are earlier values and names of the right kind, and a next that leads to blocks and asks a
-- value; each tuple stands in the line once, on a processor of the machine, and nothing else does; there are at most 128 masks, of
-- the machine's processors, and none is empty
pub record IsCodeSound (m : Program) (code : Code) : Type 0 where
  pub block : IsBlockSound m.names (length m.blocks) (block_of code)
  pub fit : IsFit m code
  pub whole : (t : ℕ) → t < length code.tuples → (p k : ℕ) × StandsAt code.line t p k
  pub few_masks : length (masks code.line) ≤ MOST_MASKS
  pub none_empty : (j mask : ℕ) → slice_get (masks code.line) j ≡ Some mask → (p : ℕ) × (has_bit mask p ≡ true)

-- there is a block, and one line for each; and each is sound with its line
pub record IsSound (m : Program) : Type 0 where
  pub some : 1 ≤ length m.blocks
  pub one_each : length m.lines ≡ length m.blocks
  pub each : (b : ℕ) → b < length m.blocks → IsCodeSound m (code_at m b)
