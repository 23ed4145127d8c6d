-- Of the storage of images: lists that lie one behind another in one list, and blocks that lie in columns.
use Rattle.std.specs.Prelude.{ℕ, zero, suc, ◌≡◌, ◌≤◌, List, [], ◌∷◌, ◌++◌, slice_range, get_or}
use Rattle.tuple_ir.specs.declared.tuple.Tuple.{Tuple}
use Rattle.tuple_ir.specs.declared.block.Block.{Block}
use Rattle.tuple_ir.specs.declared.block.Next.{Next}
use Rattle.tuple_ir.specs.Serial.{no_block}
use Rattle.line_model.specs.declared.line.Item.{Item}
use Rattle.line_model.specs.declared.line.StreamItem.{StreamItem}
use Rattle.line_model.specs.Streams.{stream, masks}
use Rattle.stream_image.specs.declared.given.Stream.{Stream}

-- the lists that end at these places, the first from this one on
abbrev pub parts : {A : Type 0} → List ℕ → ℕ → List A → List (List A)
parts [] from all = []
parts (e ∷ es) from all = slice_range all from e ∷ parts es e all

-- the ends go up, to the end of all
abbrev pub IsCut : List ℕ → ℕ → ℕ → Type 0
IsCut [] from count = from ≡ count
IsCut (e ∷ es) from count = (from ≤ e) × IsCut es e count

-- where list i begins, or where the next one will
abbrev pub start_of : List ℕ → ℕ → ℕ → ℕ
start_of ends from zero = from
start_of ends from (suc i) = get_or ends i 0

-- streams by their processors and their items
abbrev pub streams_of : List ℕ → List (List StreamItem) → List Stream
streams_of [] items = []
streams_of (p ∷ ps) [] = []
streams_of (p ∷ ps) (is ∷ items) = record { processor = p; items = is } ∷ streams_of ps items

abbrev pub no_stream : Stream
no_stream = record { processor = 0; items = [] }

-- the streams of a line on so many processors, without the empty ones
abbrev pub some_stream : ℕ → List StreamItem → List Stream
some_stream p [] = []
some_stream p (i ∷ is) = record { processor = p; items = i ∷ is } ∷ []

abbrev pub streams_on : ℕ → List Item → List Stream
streams_on zero line = []
streams_on (suc p) line = streams_on p line ++ some_stream p (stream p line)

-- a block with its streams and its masks in queue order
pub record HeldBlock : Type 0 where
  pub block : Block
  pub streams : List Stream
  pub masks : List ℕ

abbrev pub held_of : Block → List Stream → List ℕ → HeldBlock
held_of block streams masks = record { block = block; streams = streams; masks = masks }

-- a block with the streams of a line on so many processors, and its masks
abbrev pub held_of_line : Block → ℕ → List Item → HeldBlock
held_of_line block n line = record { block = block; streams = streams_on n line; masks = masks line }

abbrev pub no_held : HeldBlock
no_held = record { block = no_block; streams = []; masks = [] }

abbrev pub held_at : List HeldBlock → ℕ → HeldBlock
held_at held b = get_or held b no_held

-- blocks by their columns
abbrev pub blocks_of : List Next → List (List Tuple) → List (List ℕ) → List (List Stream) → List HeldBlock
blocks_of [] ts ms ss = []
blocks_of (n ∷ ns) [] ms ss = []
blocks_of (n ∷ ns) (t ∷ ts) [] ss = []
blocks_of (n ∷ ns) (t ∷ ts) (m ∷ ms) [] = []
blocks_of (n ∷ ns) (t ∷ ts) (m ∷ ms) (s ∷ ss) =
    record { block = record { tuples = t; next = n }; streams = s; masks = m } ∷ blocks_of ns ts ms ss
