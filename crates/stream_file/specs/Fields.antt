-- An image's fields, and their text.
use Rattle.std.specs.Prelude.{ℕ, suc, ◌≡◌, ◌≤◌, ◌^◌, ◌==◌, ◌&&◌, nat_le, nat_lt, Bool, true, if◌then◌else◌, List, [], ◌∷◌, ◌++◌, length}
use Rattle.std.specs.Prelude.{map}
use Rattle.std.specs.List.{AllByRecursion}
use Rattle.std.specs.Int.{w64}
use Rattle.std.specs.Int.RustNames.{FitsSigned}
use Rattle.bm_base.specs.declared.limits.TheConstants.{MOST_TUPLES, MOST_MASKS, MOST_PROCESSORS, MOST_DELAY}
use Rattle.bm_base.specs.declared.spec.Interval.{Interval}
use Rattle.bm_base.specs.declared.spec.Class.{Class}
use Rattle.bm_base.specs.declared.names.Kind.{Kind}
use Rattle.bm_base.specs.declared.names.Kind.TheVariants.{Var, Array}
use Rattle.bm_base.specs.Machine.{IsTime}
use Rattle.bm_base.specs.Entry.{Entry}
use Rattle.bm_base.specs.Names.{AreNames}
use Rattle.bm_base.specs.Lines.{unlines}
use Rattle.tuple_ir.specs.declared.tuple.Tuple.{Tuple}
pub use Rattle.tuple_ir.specs.Fits.{TupleFits}
use Rattle.tuple_ir.specs.declared.block.Next.{Next}
use Rattle.tuple_ir.specs.declared.block.Next.TheVariants.{Halt, Goto, If}
use Rattle.line_model.specs.declared.line.StreamItem.{StreamItem}
use Rattle.line_model.specs.declared.line.StreamItem.TheVariants.{Do, Wait}
use Rattle.stream_image.specs.declared.given.Stream.{Stream}
use Rattle.stream_file.specs.Words.{classes}
use Rattle.stream_file.specs.Rows.{Row, Version, Processors, Barrier, Times, Named, Opens, Does, Masks, Streams, Follows, Ends}
use Rattle.stream_file.specs.Rows.{row_text, item_text, ◌‿◌}

pub record BlockFields : Type 0 where
  pub tuples : List Tuple
  pub masks : List ℕ
  pub streams : List Stream
  pub next : Next

pub record Fields : Type 0 where
  pub version : ℕ
  pub processors : ℕ
  pub barrier : ℕ
  -- in the order of the classes
  pub times : List Interval
  pub names : List Entry
  pub blocks : List BlockFields

-- ---- their text, line by line

abbrev pub items_text : List StreamItem → List ℕ
items_text [] = []
items_text (i ∷ []) = item_text i
items_text (i ∷ j ∷ js) = item_text i ‿ items_text (j ∷ js)

-- `bmimd 1` has no line for the delay, which is 0
abbrev pub barrier_rows : ℕ → ℕ → List Row
barrier_rows version delay = if version == 1 then [] else Barrier delay ∷ []

abbrev pub head_rows : ℕ → ℕ → ℕ → List Row
head_rows version processors delay = Version version ∷ Processors processors ∷ barrier_rows version delay

abbrev pub time_rows : List Class → List Interval → List Row
time_rows (c ∷ cs) (t ∷ ts) = Times c t ∷ time_rows cs ts
time_rows _ _ = []

abbrev pub opened_rows : ℕ → List Tuple → List ℕ → List Stream → List Row
opened_rows number tuples masks streams = Opens number
    ∷ (map Does tuples ++ (map Masks masks ++ map (λ s. Streams s.processor (items_text s.items)) streams))

abbrev pub block_rows : ℕ → BlockFields → List Row
block_rows number b = opened_rows number b.tuples b.masks b.streams ++ Follows b.next ∷ []

-- the first of these blocks has this number
abbrev pub blocks_rows : ℕ → List BlockFields → List Row
blocks_rows number [] = []
blocks_rows number (b ∷ bs) = block_rows number b ++ blocks_rows (suc number) bs

abbrev pub top_rows : Fields → List Row
top_rows f = head_rows f.version f.processors f.barrier ++ (time_rows classes f.times ++ map Named f.names)

abbrev pub rows : Fields → List Row
rows f = top_rows f ++ (blocks_rows 0 f.blocks ++ Ends ∷ [])

-- the lines of the text
abbrev pub lines_of : Fields → List (List ℕ)
lines_of f = map row_text (rows f)

-- the text of an image's fields: one for each
abbrev pub text_of : Fields → List ℕ
text_of f = unlines (lines_of f)

-- ---- which fields have a text

-- version 1 and 2 have 1 to 64 processors, version 3 has 65 to 128
abbrev pub fits_processors : ℕ → ℕ → Bool
fits_processors version n = if version == 3 then nat_le 65 n && nat_le n MOST_PROCESSORS else nat_le 1 n && nat_le n 64

-- version 2 has a delay from 1 to 100, version 3 from 0 to 100
abbrev pub fits_barrier : ℕ → ℕ → Bool
fits_barrier version d = if version == 3 then nat_le d MOST_DELAY else nat_le 1 d && nat_le d MOST_DELAY

-- the masks of version 1 and 2 have 1 to 16 digits, those of version 3 up to 32
abbrev pub fits_mask : ℕ → ℕ → Bool
fits_mask version m = if version == 3 then nat_lt m (2 ^ 128) else nat_lt m (2 ^ 64)

pub record HeadFits (version processors barrier : ℕ) : Type 0 where
  pub low : 1 ≤ version
  pub high : version ≤ 3
  pub processors_fit : fits_processors version processors ≡ true
  pub barrier_fits : (version ≡ 1 → barrier ≡ 0) × ((version ≡ 1 → ⊥) → fits_barrier version barrier ≡ true)

abbrev pub ItemFits : StreamItem → Type 0
ItemFits (Do t) = t ≤ 255
ItemFits Wait = Unit {0}

abbrev pub NextFits : Next → Type 0
NextFits Halt = Unit {0}
NextFits (Goto b) = b ≤ 4294967295
NextFits (If c one other) = (c ≤ 255) × (one ≤ 4294967295) × (other ≤ 4294967295)

abbrev pub KindFits : Kind → Type 0
KindFits (Var initial) = FitsSigned w64 initial
KindFits (Array len) = (1 ≤ len) × (len ≤ 4294967295)

pub record StreamFits (s : Stream) : Type 0 where
  pub processor : s.processor ≤ 255
  pub some : 1 ≤ length s.items
  pub each : AllByRecursion ItemFits s.items

-- each processor is from this one on, and above the one before
abbrev pub AreAbove : ℕ → List Stream → Type 0
AreAbove least [] = Unit {0}
AreAbove least (s ∷ ss) = (least ≤ s.processor) × AreAbove (suc s.processor) ss

pub record OpenFits (version : ℕ) (tuples : List Tuple) (masks : List ℕ) (streams : List Stream) : Type 0 where
  pub few_tuples : length tuples ≤ MOST_TUPLES
  pub tuples_fit : AllByRecursion TupleFits tuples
  pub few_masks : length masks ≤ MOST_MASKS
  pub masks_fit : AllByRecursion (λ m. fits_mask version m ≡ true) masks
  pub streams_fit : AllByRecursion StreamFits streams
  pub rising : AreAbove 0 streams

pub record BlockFits (version : ℕ) (b : BlockFields) : Type 0 where
  pub open_fits : OpenFits version b.tuples b.masks b.streams
  pub next : NextFits b.next

pub record NamesFit (names : List Entry) : Type 0 where
  pub declared : AreNames names
  pub each : AllByRecursion (λ (e : Entry). KindFits e.kind) names

pub record Fits (f : Fields) : Type 0 where
  pub head : HeadFits f.version f.processors f.barrier
  pub count : length f.times ≡ 9
  pub times : AllByRecursion IsTime f.times
  pub names : NamesFit f.names
  pub some : 1 ≤ length f.blocks
  pub few : length f.blocks ≤ 4294967296
  pub each : AllByRecursion (BlockFits f.version) f.blocks

-- ---- which bytes are a text, and which is the first line that cannot stand

-- the bytes are the text of these fields
pub record IsTextOf (bytes : List ℕ) (f : Fields) : Type 0 where
  pub fits : Fits f
  pub text : bytes ≡ text_of f

-- some text begins with these lines
pub record CanStand (lines : List (List ℕ)) : Type 0 where
  pub fields : Fields
  pub fits : Fits fields
  pub more : List (List ℕ)
  pub begins : lines_of fields ≡ lines ++ more
