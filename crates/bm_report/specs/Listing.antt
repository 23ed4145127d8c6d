-- The lines of a listing: the items of a line, the pairs that conflict, and what follows a block.
use Rattle.std.specs.Prelude.{ℕ, List, ◌++◌, codes, decimal}
use Rattle.bm_base.specs.Numeral.{hexadecimal}
use Rattle.tuple_ir.specs.declared.block.Next.{Next}
use Rattle.tuple_ir.specs.declared.block.Next.TheVariants.{Halt, Goto, If}
use Rattle.line_model.specs.declared.line.Item.{Item}
use Rattle.line_model.specs.declared.line.Item.TheVariants.{Run, Bar}
use Rattle.time_interval.specs.declared.reference.Reference.{Reference}
use Rattle.time_interval.specs.declared.reference.Reference.TheVariants as since
use Rattle.time_interval.specs.declared.reference.Reason.{Reason}
use Rattle.time_interval.specs.declared.reference.Reason.TheVariants.{SameProcessor, ByBarrier, ByTime}
use Rattle.bm_report.specs.Text.{line}

-- a number behind a space
abbrev pub field : ℕ → List ℕ
field n = codes " " ++ decimal n

-- an item: a run with its start in the schedule, or a barrier's mask
abbrev pub item_line_of : Item → ℕ → List ℕ
item_line_of (Run processor tuple) start = line (codes "run" ++ field processor ++ field tuple ++ field start)
item_line_of (Bar mask) start = line (codes "bar " ++ hexadecimal mask)

-- since the block's start, or since the barrier at this place of the queue
abbrev pub reference_text : Reference → List ℕ
reference_text since.Start = codes " start"
reference_text (since.Bar index) = codes " bar" ++ field index

abbrev pub reason_text : Reason → List ℕ
reason_text SameProcessor = codes " processor"
reason_text ByBarrier = codes " barrier"
reason_text (ByTime reference) = codes " time" ++ reference_text reference

-- a pair that conflicts, and why the one stands before the other
abbrev pub pair_line_of : ℕ → ℕ → Reason → List ℕ
pair_line_of a b reason = line (codes "pair" ++ field a ++ field b ++ reason_text reason)

-- what follows a block, as in an image
abbrev pub next_line_of : Next → List ℕ
next_line_of Halt = line (codes "halt")
next_line_of (Goto block) = line (codes "goto" ++ field block)
next_line_of (If cell one other) = line (codes "if" ++ field cell ++ field one ++ field other)
