-- What the blocks of each program keep.
use Rattle.std.specs.Prelude.{ℕ, ◌+◌, ◌*◌, ◌<◌, ◌≤◌, length}
use Rattle.std.specs.List.{AllByRecursion}
use Rattle.src_names.specs.RProgram.{RProgram}
use Rattle.src_names.specs.Sizes.{AllFewNodes, statements}
use Rattle.src_names.specs.Right.{IsRight}
use Rattle.src_names.specs.Ranges.{IsInRange}
use Rattle.tuple_ir.specs.Fits.{TupleFits}
use Rattle.tuple_ir.specs.Serial.{block_at}
use Rattle.tuple_ir.specs.Sound.{AreBlocksSound}
use Rattle.tuple_lower.specs.Blocks.{lowered_blocks}
use Rattle.tuple_lower.specs.Means.{blocks_of}

-- there is a block, and each is sound among all
abbrev pub LoweredAreSound : Type 0
LoweredAreSound = (p : RProgram) → IsRight p → AllFewNodes p.body → AreBlocksSound p.names (lowered_blocks p).blocks

-- where the numbers of the program are in range, each tuple has the ranges of its type
abbrev pub TuplesFit : Type 0
TuplesFit = (p : RProgram) → IsRight p → AllFewNodes p.body → IsInRange p → (b : ℕ) → b < length (blocks_of p)
    → AllByRecursion TupleFits (block_at (blocks_of p) b).tuples

-- a statement opens at most four blocks
abbrev pub BlocksAreFew : Type 0
BlocksAreFew = (p : RProgram) → AllFewNodes p.body → length (blocks_of p) ≤ 4 * statements p.body + 1
