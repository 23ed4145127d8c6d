-- The fields of an image.
use Rattle.std.specs.Prelude.{ℕ, zero, suc, ◌==◌, nat_le, if◌then◌else◌, List, [], ◌∷◌, length, map}
use Rattle.bm_base.specs.declared.spec.Class.{Class}
use Rattle.bm_base.specs.Machine.{Machine}
use Rattle.bm_base.specs.Spec.{time_of}
use Rattle.line_model.specs.declared.line.Item.{Item}
use Rattle.line_model.specs.declared.line.StreamItem.{StreamItem}
use Rattle.line_model.specs.Streams.{stream, masks}
use Rattle.unit_law.specs.State.{Program, code_at}
use Rattle.stream_image.specs.declared.given.Stream.{Stream}
use Rattle.stream_file.specs.Words.{classes}
use Rattle.stream_file.specs.Rows.{Row, Streams}
use Rattle.stream_file.specs.Fields.{BlockFields, Fields, head_rows, time_rows, items_text}

-- more than 64 processors have version 3, a delay on fewer has version 2
abbrev pub version_of : ℕ → ℕ → ℕ
version_of processors delay = if nat_le processors 64 then (if delay == 0 then 1 else 2) else 3

-- processor p's items, where there are some, in front of other streams
abbrev pub given_by : ℕ → List StreamItem → List Stream → List Stream
given_by p [] streams = streams
given_by p (i ∷ items) streams = record { processor = p; items = i ∷ items } ∷ streams

-- the streams that a line gives so many processors from p on, without the empty ones
abbrev pub streams_from : ℕ → ℕ → List Item → List Stream
streams_from p zero line = []
streams_from p (suc count) line = given_by p (stream p line) (streams_from (suc p) count line)

-- the fields of block b of an image
abbrev pub fields_at : Program → ℕ → BlockFields
fields_at m b = record {
  tuples = (code_at m b).tuples;
  masks = masks (code_at m b).line;
  streams = streams_from 0 m.machine.processors (code_at m b).line;
  next = (code_at m b).next;
}

-- those of so many blocks from number b on
abbrev pub blocks_from : Program → ℕ → ℕ → List BlockFields
blocks_from m b zero = []
blocks_from m b (suc count) = fields_at m b ∷ blocks_from m (suc b) count

abbrev pub fields_of : Program → Fields
fields_of m = record {
  version = version_of m.machine.processors m.machine.delay;
  processors = m.machine.processors;
  barrier = m.machine.delay;
  times = map (time_of m.machine) classes;
  names = m.names;
  blocks = blocks_from m 0 (length m.blocks);
}

-- Of private functions: the lines of a machine and of streams
abbrev pub head_lines : Machine → List Row
head_lines m = head_rows (version_of m.processors m.delay) m.processors m.delay

abbrev pub time_lines : Machine → List Class → List Row
time_lines m cs = time_rows cs (map (time_of m) cs)

abbrev pub stream_rows : List Stream → List Row
stream_rows streams = map (λ s. Streams s.processor (items_text s.items)) streams
