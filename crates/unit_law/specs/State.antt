-- What a barrier machine runs, and the states that it can be in.
use Rattle.std.specs.Prelude.{ℕ, zero, suc, Bool, true, false, ◌&&◌, nat_eq, nat_lt, nat_le, List, [], ◌∷◌, length, map, get_or}
use Rattle.std.specs.Prelude.{replicate, Option, Some, None, slice_get, ℤ}
use Rattle.bm_base.specs.declared.spec.Interval.{Interval}
use Rattle.bm_base.specs.Machine.{Machine}
use Rattle.bm_base.specs.Spec.{time_of}
use Rattle.bm_base.specs.Entry.{Entry}
use Rattle.bm_base.specs.Mask.{mask_of}
use Rattle.bm_base.specs.Memory.{Content}
use Rattle.tuple_ir.specs.declared.tuple.Tuple.{Tuple}
use Rattle.tuple_ir.specs.declared.block.Next.{Next}
use Rattle.tuple_ir.specs.declared.block.Block.{Block}
use Rattle.tuple_ir.specs.Kinds.{class_of}
use Rattle.tuple_ir.specs.Serial.{block_at}
use Rattle.tuple_ir.specs.World.{World, at_first}
use Rattle.line_model.specs.declared.line.Item.{Item}
use Rattle.line_model.specs.declared.line.StreamItem.{StreamItem}
use Rattle.line_model.specs.declared.line.StreamItem.TheVariants.{Do, Wait}
use Rattle.line_model.specs.Streams.{stream, masks}

-- what a machine runs: its processors, delay and times, the names, and for each block its tuples, its next and its line
pub record Program : Type 0 where
  pub machine : Machine
  pub names : List Entry
  pub blocks : List Block
  pub lines : List (List Item)

-- one block with its line
pub record Code : Type 0 where
  pub tuples : List Tuple
  pub next : Next
  pub line : List Item

-- a number that no block has stands for an empty block with a halt and an empty line
abbrev pub code_at : Program → ℕ → Code
code_at m b = record { tuples = (block_at m.blocks b).tuples; next = (block_at m.blocks b).next; line = get_or m.lines b [] }

-- the interval within which a tuple's time lies
abbrev pub interval_of : Program → Tuple → Interval
interval_of m t = time_of m.machine (class_of t)

-- within a block, on the way to one, or at the run's end
pub data Mode : Type 0 where
  In : (block : ℕ) → Mode
  Entering : (block : ℕ) → Mode
  Ended : Mode

-- what a processor does: nothing, or a tuple until a tick, with the operands that it read when it started, or it is held until a
-- tick since a mask has fired that it is a member of
pub data Work : Type 0 where
  Idle : Work
  Busy : (until tuple : ℕ) (operands : List ℤ) → Work
  Held : (until : ℕ) → Work

-- a processor: how many items of its stream it has taken up, and what it does
pub record Processor : Type 0 where
  pub place : ℕ
  pub work : Work

-- a state: the clock, the mode, the processors, which masks of the block have fired, and the cells, memory and output
pub record State : Type 0 where
  pub clock : ℕ
  pub mode : Mode
  pub processors : List Processor
  pub fired : List Bool
  pub world : World

-- idle, at the beginning of its stream
abbrev pub at_start : Processor
at_start = record { place = 0; work = Idle }

-- block b at its entry: all processors idle at the beginning of their streams, and no mask fired
abbrev pub entered : Program → ℕ → ℕ → World → State
entered m b clock w = record {
  clock = clock;
  mode = In b;
  processors = replicate m.machine.processors at_start;
  fired = map (λ _. false) (masks (code_at m b).line);
  world = w;
}

-- where a run begins: clock 0, block 0, all cells 0, this memory, no output
abbrev pub start : Program → List Content → State
start m memory = entered m 0 0 (at_first memory)

abbrev pub processor : State → ℕ → Processor
processor s p = get_or s.processors p at_start

-- the processor can go on at this clock: it is idle, or its hold is over
abbrev pub is_free : ℕ → Work → Bool
is_free clock Idle = true
is_free clock (Busy until t operands) = false
is_free clock (Held until) = nat_le until clock

-- the processor's Finish is due at this clock
abbrev pub is_due : ℕ → Work → Bool
is_due clock Idle = false
is_due clock (Busy until t operands) = nat_eq until clock
is_due clock (Held until) = false

-- the processor's next item, where one is left
abbrev pub next_item : Code → State → ℕ → Option StreamItem
next_item code s p = slice_get (stream p code.line) (processor s p).place

abbrev pub is_wait : Option StreamItem → Bool
is_wait (Some Wait) = true
is_wait (Some (Do t)) = false
is_wait None = false

-- processor p of the machine waits: it is free, and its next item is a wait
abbrev pub waits : Code → State → ℕ → Bool
waits code s p = nat_lt p (length s.processors) && (is_free s.clock (processor s p).work && is_wait (next_item code s p))

-- the answers of a test at 0, 1, .. below n
abbrev pub answers : (ℕ → Bool) → ℕ → ℕ → List Bool
answers f k zero = []
answers f k (suc n) = f k ∷ answers f (suc k) n

-- the mask of the processors that wait
abbrev pub waiting_mask : Code → State → ℕ
waiting_mask code s = mask_of (answers (waits code s) 0 (length s.processors))
