-- An image's own blocks, given again.
use Rattle.std.specs.Prelude.{◌≡◌, ℕ, ◌+◌, ◌<◌, ◌≤◌, List, [], length, take, None}
use Rattle.std.specs.List.{AllByRecursion}
use Rattle.bm_base.specs.declared.limits.TheConstants.{MOST_TUPLES, MOST_MASKS}
use Rattle.line_model.specs.declared.line.Item.{Item}
use Rattle.line_model.specs.Streams.{stream, masks}
use Rattle.unit_law.specs.State.{Program, code_at}
use Rattle.unit_law.specs.Sound.{block_of}
use Rattle.stream_image.specs.declared.given.Stream.{Stream}
use Rattle.stream_image.specs.Line.{AreIncreasing, items_of}
use Rattle.stream_image.specs.Image.{IsImage, with_streams}
use Rattle.stream_image.specs.Refused.{IsAccepted, target_fault}

-- the first k blocks of an image, with their lines
abbrev pub first_blocks : Program → ℕ → Program
first_blocks m k = record m { blocks = take k m.blocks; lines = take k m.lines }

-- the streams of a line on so many processors, in increasing order of these; an empty one may be left out
pub record AreStreamsOf (processors : ℕ) (line : List Item) (streams : List Stream) : Type 0 where
  pub increasing : AreIncreasing streams
  pub within : AllByRecursion (λ (s : Stream). s.processor < processors) streams
  pub items : (p : ℕ) → p < processors → items_of streams p ≡ stream p line

-- block b of an image with its streams and masks, given again behind the blocks before it
pub record IsTakenAgain (m : Program) (b : ℕ) (streams : List Stream) : Type 0 where
  pub few_tuples : length (code_at m b).tuples ≤ MOST_TUPLES
  pub few_masks : length (masks (code_at m b).line) ≤ MOST_MASKS
  -- nothing refuses it
  pub accepted : IsAccepted (first_blocks m b) (block_of (code_at m b)) streams (masks (code_at m b).line)
  -- and the image has it next
  pub same : with_streams (first_blocks m b) (block_of (code_at m b)) streams (masks (code_at m b).line) ≡ first_blocks m (b + 1)

-- so an image is built of its own blocks again: it begins with none, each of them is taken, and none leads past them
pub record AreBuiltAgain : Type 0 where
  pub none : (m : Program) → first_blocks m 0 ≡ record m { blocks = []; lines = [] }
  pub each : (m : Program) (b : ℕ) (streams : List Stream) → IsImage m → b < length m.blocks →
      AreStreamsOf m.machine.processors (code_at m b).line streams → IsTakenAgain m b streams
  pub all : (m : Program) → IsImage m → first_blocks m (length m.blocks) ≡ m
  pub targets : (m : Program) → IsImage m → target_fault m.blocks ≡ None
