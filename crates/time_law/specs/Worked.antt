-- A worked program of which one pair is in order by time alone, where a mask's members resume two ticks after it fires.
use Rattle.std.specs.Prelude.{nat_eq, List, [], ◌∷◌, pos, if◌then◌else◌}
use Rattle.bm_base.specs.Spec.{standard}
use Rattle.bm_base.specs.declared.word.Un.TheVariants.{Neg}
use Rattle.bm_base.specs.declared.word.Bin.TheVariants.{Div}
use Rattle.tuple_ir.specs.declared.tuple.Tuple.TheVariants.{Const, Load, One, Two}
use Rattle.tuple_ir.specs.declared.block.Next.TheVariants.{Halt}
use Rattle.line_model.specs.declared.line.Item.{Item}
use Rattle.line_model.specs.declared.line.Item.TheVariants.{Run, Bar}
use Rattle.unit_law.specs.State.{Program}
use Rattle.unit_law.specs.Steps.{Action, Finish, Fire, Start, Advance}
use Rattle.unit_law.specs.Canonical.{Durations}
use Rattle.unit_law.specs.Worked.{worked_names}

-- behind a barrier processor 0 loads x, which takes 1 to 4 ticks, and processor 1 makes a 2, divides it by itself, which takes 4 to 12
-- ticks, and negates x
abbrev pub timed_line : List Item
timed_line = Bar 3 ∷ Run 0 0 ∷ Run 1 1 ∷ Run 1 2 ∷ Run 1 3 ∷ []

abbrev pub timed : Program
timed = record {
  machine = record standard { delay = 2 };
  names = worked_names;
  blocks = record { tuples = Load 0 ∷ Const (pos 2) ∷ Two Div 1 1 ∷ One Neg 0 ∷ []; next = Halt } ∷ [];
  lines = timed_line ∷ [];
}

-- processor 0 takes its greatest times, the others their least ones
abbrev pub closest : Durations
closest p k interval = if nat_eq p 0 then interval.most else interval.least

-- the run until the negation has started: the load finishes at tick 6, and the negation starts at tick 7
abbrev pub closest_run : List Action
closest_run = Fire 0 ∷ Advance ∷ Start 0 4 ∷ Start 1 1 ∷ Advance ∷ Finish 1 ∷ Start 1 4 ∷ Advance ∷ Finish 0 ∷ Advance ∷ Finish 1
    ∷ Start 1 1 ∷ []
