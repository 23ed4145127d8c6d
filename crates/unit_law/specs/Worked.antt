-- A worked program: one block on four processors, with the masks 3 (processors 0 and 1) and c (processors 2 and 3).
use Rattle.std.specs.Prelude.{ℕ, zero, suc, ◌&&◌, Bool, List, [], ◌∷◌, length, Option, Some, None, if◌then◌else◌, pos, negsuc}
use Rattle.bm_base.specs.Spec.{standard}
use Rattle.bm_base.specs.Entry.{Entry}
use Rattle.bm_base.specs.declared.names.Kind.TheVariants.{Var}
use Rattle.bm_base.specs.declared.word.Un.TheVariants.{Neg}
use Rattle.bm_base.specs.declared.word.Bin.TheVariants.{Mul}
use Rattle.bm_base.specs.Memory.{Content, initial}
use Rattle.tuple_ir.specs.declared.tuple.Tuple.TheVariants.{Load, Const, One, Two, Print}
use Rattle.tuple_ir.specs.declared.block.Next.TheVariants.{Halt}
use Rattle.tuple_ir.specs.declared.event.Event.{Event}
use Rattle.tuple_ir.specs.declared.event.Event.TheVariants as event
use Rattle.line_model.specs.declared.line.Item.{Item}
use Rattle.line_model.specs.declared.line.Item.TheVariants.{Run, Bar}
use Rattle.unit_law.specs.State.{Program}
use Rattle.unit_law.specs.Units.{Choice, first_from, is_behind, is_ready}
use Rattle.unit_law.specs.Steps.{Action, Finish, Fire, Start, Branch, Advance}
use Rattle.unit_law.specs.Canonical.{Durations, is_none}

-- the line: processor 0 loads x, and 1 waits for it; processor 2 makes a 1, and 3 waits for it; then each works with what came
abbrev pub worked_line : List Item
worked_line = Run 0 0 ∷ Bar 3 ∷ Run 2 1 ∷ Bar 12 ∷ Run 1 2 ∷ Run 2 3 ∷ Run 2 5 ∷ Run 3 4 ∷ []

abbrev pub worked_names : List Entry
worked_names = record { name = 120 ∷ []; kind = Var (pos 0) } ∷ []

abbrev pub worked : Program
worked = record {
  machine = standard;
  names = worked_names;
  blocks = record { tuples = Load 0 ∷ Const (pos 1) ∷ One Neg 0 ∷ Two Mul 1 1 ∷ One Neg 1 ∷ Print 3 ∷ []; next = Halt } ∷ [];
  lines = worked_line ∷ [];
}

abbrev pub worked_memory : List Content
worked_memory = initial worked_names

-- every tuple takes its greatest time: 4 ticks for the load, 3 for the product, 1 for the others
abbrev pub longest : Durations
longest processor k interval = interval.most

-- on the dynamic unit mask c fires at tick 1 and mask 3 at tick 4; the run ends at tick 5
abbrev pub dynamic_run : List Action
dynamic_run = Start 0 4 ∷ Start 2 1 ∷ Advance ∷ Finish 2 ∷ Fire 1 ∷ Start 2 3 ∷ Start 3 1 ∷ Advance ∷ Finish 3 ∷ Advance ∷ Finish 0
    ∷ Finish 2 ∷ Fire 0 ∷ Start 1 1 ∷ Start 2 1 ∷ Advance ∷ Finish 1 ∷ Finish 2 ∷ Branch ∷ []

-- on the static unit both fire at tick 4, mask 3 first; the run ends at tick 8
abbrev pub static_run : List Action
static_run = Start 0 4 ∷ Start 2 1 ∷ Advance ∷ Finish 2 ∷ Advance ∷ Finish 0 ∷ Fire 0 ∷ Fire 1 ∷ Start 1 1 ∷ Start 2 3 ∷ Start 3 1
    ∷ Advance ∷ Finish 1 ∷ Finish 3 ∷ Advance ∷ Finish 2 ∷ Start 2 1 ∷ Advance ∷ Finish 2 ∷ Branch ∷ []

-- the same program where a mask's members resume two ticks after it fires: on the dynamic unit the run ends at tick 7
abbrev pub delayed : Program
delayed = record worked { machine = record standard { delay = 2 } }

abbrev pub delayed_run : List Action
delayed_run = Start 0 4 ∷ Start 2 1 ∷ Advance ∷ Finish 2 ∷ Fire 1 ∷ Advance ∷ Start 2 3 ∷ Start 3 1 ∷ Advance ∷ Finish 0 ∷ Finish 3
    ∷ Fire 0 ∷ Advance ∷ Finish 2 ∷ Start 1 1 ∷ Start 2 1 ∷ Advance ∷ Finish 1 ∷ Finish 2 ∷ Branch ∷ []

-- what it shows: each Advance and no other action shows nothing
abbrev pub delayed_events : List Event
delayed_events =
    event.Started 0 0 0 4 ∷ event.Started 0 2 1 1 ∷ event.Finished 1 2 1 (pos 1) ∷ event.Fired 1 1 12
    ∷ event.Started 3 2 3 3 ∷ event.Started 3 3 4 1 ∷ event.Finished 4 0 0 (pos 0) ∷ event.Finished 4 3 4 (negsuc 0) ∷ event.Fired 4 0 3
    ∷ event.Finished 6 2 3 (pos 1) ∷ event.Started 6 1 2 1 ∷ event.Started 6 2 5 1 ∷ event.Finished 7 1 2 (pos 0)
    ∷ event.Printed 7 2 5 (pos 1)
    ∷ event.Ended 7 ∷ []

-- the last of the numbers below n that passes a test
abbrev pub last_below : (ℕ → Bool) → ℕ → Option ℕ
last_below f zero = None
last_below f (suc n) = if f n then Some n else last_below f n

-- the choice of a third unit, of neither kind: none until a mask is urgent, then the last ready one
abbrev pub late_choice : Choice
late_choice masks fired waiting = if is_none (first_from (λ j. is_ready masks fired waiting j && is_behind fired j) 0 (length masks))
    then None else last_below (is_ready masks fired waiting) (length masks)

-- on the third unit both masks fire at tick 4, mask c first
abbrev pub late_run : List Action
late_run = Start 0 4 ∷ Start 2 1 ∷ Advance ∷ Finish 2 ∷ Advance ∷ Finish 0 ∷ Fire 1 ∷ Fire 0 ∷ Start 1 1 ∷ Start 2 3 ∷ Start 3 1 ∷ Advance
    ∷ Finish 1 ∷ Finish 3 ∷ Advance ∷ Finish 2 ∷ Start 2 1 ∷ Advance ∷ Finish 2 ∷ Branch ∷ []
