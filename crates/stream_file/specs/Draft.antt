-- What has been read of a text so far, and one line more.
use Rattle.std.specs.Prelude.{ℕ, ◌+◌, ◌==◌, ◌&&◌, nat_le, nat_lt, Bool, true, false, if◌then◌else◌, List, [], ◌∷◌, ◌++◌, length, Option}
use Rattle.std.specs.Prelude.{Some, None, Result, Ok, Err}
use Rattle.bm_base.specs.declared.limits.TheConstants.{MOST_TUPLES, MOST_MASKS}
use Rattle.bm_base.specs.declared.spec.Interval.{Interval}
use Rattle.bm_base.specs.declared.spec.Class.{Class}
use Rattle.bm_base.specs.declared.names.NamesFault.{NamesFault}
use Rattle.bm_base.specs.Entry.{Entry}
use Rattle.bm_base.specs.Names.{adding}
use Rattle.bm_base.specs.Spec.{place_of}
use Rattle.bm_base.specs.Lines.{whole_lines, cut_line}
use Rattle.tuple_ir.specs.declared.tuple.Tuple.{Tuple}
use Rattle.tuple_ir.specs.declared.block.Next.{Next}
use Rattle.line_model.specs.declared.line.StreamItem.{StreamItem}
use Rattle.stream_image.specs.declared.given.Stream.{Stream}
use Rattle.stream_file.specs.declared.draft.Stage.{Stage}
use Rattle.stream_file.specs.declared.draft.Stage.TheVariants as at
use Rattle.stream_file.specs.Cuts.{◌>>=◌}
use Rattle.stream_file.specs.Rows.{Row, Version, Processors, Barrier, Times, Named, Opens, Does, Masks, Streams, Follows, Ends, row_of}
use Rattle.stream_file.specs.Rows.{item_of}
use Rattle.stream_file.specs.Fields.{BlockFields, Fields, fits_processors, fits_barrier, fits_mask}

pub record Draft : Type 0 where
  -- which lines may come next
  pub stage : Stage
  pub version : ℕ
  pub processors : ℕ
  pub barrier : ℕ
  pub times : List Interval
  pub names : List Entry
  -- the blocks that are complete
  pub blocks : List BlockFields
  -- the block that is open
  pub tuples : List Tuple
  pub masks : List ℕ
  pub streams : List Stream
  -- the least processor that may come next
  pub from : ℕ

abbrev pub start : Draft
start = record {
  stage = at.Version;
  version = 0;
  processors = 0;
  barrier = 0;
  times = [];
  names = [];
  blocks = [];
  tuples = [];
  masks = [];
  streams = [];
  from = 0;
}

-- the fields that were read
abbrev pub fields_of : Draft → Fields
fields_of d = record {
  version = d.version;
  processors = d.processors;
  barrier = d.barrier;
  times = d.times;
  names = d.names;
  blocks = d.blocks;
}

-- ---- the items of a stream's text

-- fields behind the front of a field
abbrev pub split_from : List ℕ → List ℕ → List (List ℕ)
split_from front [] = front ∷ []
split_from front (b ∷ bs) = if b == 32 then front ∷ split_from [] bs else split_from (front ++ b ∷ []) bs

abbrev pub all_items : List (List ℕ) → Option (List StreamItem)
all_items [] = Some []
all_items (f ∷ fs) = do
  item ← item_of f
  items ← all_items fs
  Some (item ∷ items)

abbrev pub items_of : List ℕ → Option (List StreamItem)
items_of text = all_items (split_from [] text)

-- ---- one line more

abbrev pub is_version : Stage → Bool
is_version at.Version = true
is_version _ = false

abbrev pub is_processors : Stage → Bool
is_processors at.Processors = true
is_processors _ = false

abbrev pub is_barrier : Stage → Bool
is_barrier at.Barrier = true
is_barrier _ = false

abbrev pub is_times : Stage → Bool
is_times at.Times = true
is_times _ = false

abbrev pub is_names : Stage → Bool
is_names at.Names = true
is_names _ = false

-- a block may open
abbrev pub may_open : Stage → Bool
may_open at.Names = true
may_open at.Between = true
may_open _ = false

abbrev pub is_tuples : Stage → Bool
is_tuples at.Tuples = true
is_tuples _ = false

abbrev pub may_mask : Stage → Bool
may_mask at.Tuples = true
may_mask at.Masks = true
may_mask _ = false

-- a block is open
abbrev pub is_open : Stage → Bool
is_open at.Tuples = true
is_open at.Masks = true
is_open at.Streams = true
is_open _ = false

abbrev pub is_between : Stage → Bool
is_between at.Between = true
is_between _ = false

abbrev pub is_done : Stage → Bool
is_done at.Done = true
is_done _ = false

abbrev pub take_version : ℕ → Draft → Option Draft
take_version v d = if is_version d.stage && nat_le 1 v && nat_le v 3 then Some (record d { stage = at.Processors; version = v }) else None

abbrev pub behind_processors : ℕ → Stage
behind_processors version = if version == 1 then at.Times else at.Barrier

abbrev pub take_processors : ℕ → Draft → Option Draft
take_processors n d = if is_processors d.stage
    && fits_processors d.version n then Some (record d { stage = behind_processors d.version; processors = n }) else None

abbrev pub take_barrier : ℕ → Draft → Option Draft
take_barrier n d = if is_barrier d.stage && fits_barrier d.version n then Some (record d { stage = at.Times; barrier = n }) else None

abbrev pub behind_time : ℕ → Stage
behind_time count = if count == 8 then at.Names else at.Times

abbrev pub take_time : Class → Interval → Draft → Option Draft
take_time c t d = if is_times d.stage
    && place_of c == length d.times then Some (record d { stage = behind_time (length d.times); times = d.times ++ t ∷ [] }) else None

abbrev pub with_name : Entry → Draft → Result ℕ NamesFault → Option Draft
with_name e d (Ok id) = Some (record d { names = d.names ++ e ∷ [] })
with_name e d (Err fault) = None

abbrev pub take_name : Entry → Draft → Option Draft
take_name e d = if is_names d.stage then with_name e d (adding e.name e.kind d.names) else None

abbrev pub take_opening : ℕ → Draft → Option Draft
take_opening b d = if may_open d.stage && b == length d.blocks then Some (record d { stage = at.Tuples }) else None

abbrev pub take_tuple : Tuple → Draft → Option Draft
take_tuple t d = if is_tuples d.stage && nat_lt (length d.tuples) MOST_TUPLES then Some (record d { tuples = d.tuples ++ t ∷ [] }) else None

abbrev pub take_mask : ℕ → Draft → Option Draft
take_mask m d = if may_mask d.stage && nat_lt (length d.masks) MOST_MASKS
    && fits_mask d.version m then Some (record d { stage = at.Masks; masks = d.masks ++ m ∷ [] }) else None

abbrev pub with_stream : ℕ → Draft → Option (List StreamItem) → Option Draft
with_stream p d None = None
with_stream p d (Some items) = Some (record d {
  stage = at.Streams;
  streams = d.streams ++ record { processor = p; items = items }
      ∷ [];
  from = p + 1;
})

abbrev pub take_stream : ℕ → List ℕ → Draft → Option Draft
take_stream p text d = if is_open d.stage && nat_le d.from p then with_stream p d (items_of text) else None

abbrev pub take_next : Next → Draft → Option Draft
take_next n d = if is_open d.stage
    then Some (record d {
      stage = at.Between;
      blocks = d.blocks ++ record { tuples = d.tuples; masks = d.masks; streams = d.streams; next = n }
          ∷ [];
      tuples = [];
      masks = [];
      streams = [];
      from = 0;
    }) else None

abbrev pub take_end : Draft → Option Draft
take_end d = if is_between d.stage then Some (record d { stage = at.Done }) else None

-- the draft with one line more, where it can stand here
abbrev pub step : Draft → Row → Option Draft
step d (Version v) = take_version v d
step d (Processors n) = take_processors n d
step d (Barrier n) = take_barrier n d
step d (Times c t) = take_time c t d
step d (Named e) = take_name e d
step d (Opens b) = take_opening b d
step d (Does t) = take_tuple t d
step d (Masks m) = take_mask m d
step d (Streams p text) = take_stream p text d
step d (Follows n) = take_next n d
step d Ends = take_end d

abbrev pub take_line : Draft → List ℕ → Option Draft
take_line d line = row_of line >>= step d

-- ---- a whole text

abbrev pub finished : ℕ → Draft → List ℕ → Result Draft ℕ
finished count d [] = if is_done d.stage then Ok d else Err (count + 1)
finished count d (b ∷ bs) = Err (count + 1)

-- the draft of whole lines and a cut one behind so many lines, or the number of the first line that is not taken
abbrev pub reading_from : ℕ → Draft → List (List ℕ) → List ℕ → Result Draft ℕ
reading_from count d [] cut = finished count d cut
reading_from count d (l ∷ ls) cut = elim (take_line d l) [ None ↦ Err (count + 1) | Some e ↦ reading_from (count + 1) e ls cut ]

abbrev pub reading : List ℕ → Result Draft ℕ
reading bytes = reading_from 0 start (whole_lines bytes) (cut_line bytes)
