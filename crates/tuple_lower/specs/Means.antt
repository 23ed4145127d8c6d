-- What it is that the blocks of a program mean what the program means.
use Rattle.std.specs.Prelude.{ℕ, ◌≡◌, ◌+◌, ◌*◌, ◌≤◌, ◌<◌, nat_eq, List, length, count_by, None}
use Rattle.bm_base.specs.Memory.{Content}
use Rattle.src_names.specs.RProgram.{RProgram}
use Rattle.src_names.specs.Sizes.{AllFewNodes}
use Rattle.src_meaning.specs.declared.evaluate.End.TheVariants.{Done}
use Rattle.src_meaning.specs.Meaning as m
use Rattle.src_meaning.specs.Meaning.{meaning}
use Rattle.src_meaning.specs.Laws.{Prints}
use Rattle.tuple_ir.specs.declared.block.Block.{Block}
use Rattle.tuple_ir.specs.Serial.{Outcome, outcome}
use Rattle.tuple_lower.specs.Blocks.{lowered_blocks}

-- how often block b stands in the trail
abbrev pub times : ℕ → List ℕ → ℕ
times b trail = count_by (nat_eq b) trail

abbrev pub blocks_of : RProgram → List Block
blocks_of p = (lowered_blocks p).blocks

-- the blocks have ended, with the memory and the output of the source
pub record HasEndedAs (o : Outcome) (source : m.Outcome) : Type 0 where
  pub ended : o.next ≡ None
  pub same_memory : o.world.memory ≡ source.memory
  pub same_output : o.world.output ≡ source.output

-- Where the source is done within n turns, (n + 1) * N blocks, N the number of all, have ended as it ends, and none stands more than n + 1
-- times in their trail.
abbrev pub BlocksEnd : Type 0
BlocksEnd = (p : RProgram) (memory : List Content) (n : ℕ) → AllFewNodes p.body → (meaning p memory n).end ≡ Done
    → HasEndedAs (outcome (blocks_of p) memory ((n + 1) * length (blocks_of p))) (meaning p memory n)
    × ((b : ℕ) → times b (outcome (blocks_of p) memory ((n + 1) * length (blocks_of p))).trail ≤ n + 1)

-- Where some block stands more than n + 1 times in the trail of k + 1 blocks, the output of k blocks goes on where that of n turns ends.
abbrev pub BlocksKeepUp : Type 0
BlocksKeepUp = (p : RProgram) (memory : List Content) (n k b : ℕ) → AllFewNodes p.body
    → n + 1 < times b (outcome (blocks_of p) memory (k + 1)).trail
    → Prints (meaning p memory n).output (outcome (blocks_of p) memory k).world.output

-- The output of k turns goes on where that of k + 1 blocks ends. Where these have ended, the source is done within k turns, with the same
-- memory and output.
abbrev pub BlocksKeepBack : Type 0
BlocksKeepBack = (p : RProgram) (memory : List Content) (k : ℕ) → AllFewNodes p.body
    → Prints (outcome (blocks_of p) memory (k + 1)).world.output (meaning p memory k).output
    × ((outcome (blocks_of p) memory (k + 1)).next ≡ None → ((meaning p memory k).end ≡ Done)
    × HasEndedAs (outcome (blocks_of p) memory (k + 1)) (meaning p memory k))

-- so many blocks have the output of the source, and none stands more than n + 1 times in their trail
pub record KeepsPace (blocks : List Block) (memory : List Content) (n : ℕ) (source : m.Outcome) : Type 0 where
  pub count : ℕ
  pub same_output : (outcome blocks memory count).world.output ≡ source.output
  pub few : (b : ℕ) → times b (outcome blocks memory count).trail ≤ n + 1

-- For every number of turns there are as many blocks.
abbrev pub BlocksKeepPace : Type 0
BlocksKeepPace = (p : RProgram) (memory : List Content) (n : ℕ) → AllFewNodes p.body → KeepsPace (blocks_of p) memory n (meaning p memory n)
