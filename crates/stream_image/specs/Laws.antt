-- What the line of streams and masks has.
use Rattle.std.specs.Prelude.{◌≡◌, ℕ, ◌<◌, List}
use Rattle.line_model.specs.declared.line.StreamItem.{StreamItem}
use Rattle.line_model.specs.Streams.{stream, masks}
use Rattle.stream_image.specs.Check.{waits_in, masks_of}
use Rattle.tuple_ir.specs.declared.block.Block.{Block}
use Rattle.unit_law.specs.State.{Program}
use Rattle.unit_law.specs.Determinate.{IsDeterminate}
use Rattle.stream_image.specs.declared.given.Stream.{Stream}
use Rattle.stream_image.specs.declared.fault.ImageFault.{ImageFault}
use Rattle.stream_image.specs.Line.{line_of, IsOwnLine}
use Rattle.stream_image.specs.Image.{IsImage}
use Rattle.stream_image.specs.Refused.{IsRefused, IsAccepted}

-- each of n processors has as many waits as masks
abbrev pub HaveEvenWaits : ℕ → (ℕ → List StreamItem) → List ℕ → Type 0
HaveEvenWaits n streams masks = (p : ℕ) → p < n → waits_in (streams p) ≡ masks_of p masks

-- where waits are as many as masks, the line has these streams
abbrev pub LinesHaveTheirStreams : Type 0
LinesHaveTheirStreams =
    (n : ℕ) (streams : ℕ → List StreamItem) (queue : List ℕ) → HaveEvenWaits n streams queue →
    (p : ℕ) → p < n → stream p (line_of n streams queue) ≡ streams p

-- .. and these masks
abbrev pub LinesHaveTheirMasks : Type 0
LinesHaveTheirMasks = (n : ℕ) (streams : ℕ → List StreamItem) (queue : List ℕ) → masks (line_of n streams queue) ≡ queue

-- .. and is the line of its own streams and masks
abbrev pub LinesAreTheirOwn : Type 0
LinesAreTheirOwn =
    (n : ℕ) (streams : ℕ → List StreamItem) (queue : List ℕ) → HaveEvenWaits n streams queue → IsOwnLine n (line_of n streams queue)

abbrev pub ImagesAreDeterminate : Type 0
ImagesAreDeterminate = (m : Program) → IsImage m → IsDeterminate m

abbrev pub RefusedBlocksAreNotAccepted : Type 0
RefusedBlocksAreNotAccepted =
    (m : Program) (block : Block) (streams : List Stream) (masks : List ℕ) (fault : ImageFault) →
    IsRefused m block streams masks fault → IsAccepted m block streams masks → ⊥
