-- Programs whose lines are in order are determinate.
use Rattle.std.proofs.Common.{◌≡◌, ℕ, ◌<◌, ◌≤◌, true, false, List, [], length, Contains, Option, Some, None, slice_get, refl, sym, ap, subst, arith, ◌⊎◌, inl, inr}
use Rattle.std.proofs.lemmas.Bool.{both_ways, cases_lt}
use Rattle.std.proofs.lemmas.List.{get_or_past}
use Rattle.std.proofs.lemmas.Option.{slice_get_within}
use Rattle.bm_base.specs.Machine.{Machine}
use Rattle.tuple_ir.specs.declared.tuple.Tuple.{Tuple}
use Rattle.tuple_ir.specs.Conflict.{Conflict, clash}
use Rattle.tuple_ir.specs.Serial.{no_block}
use Rattle.line_model.specs.declared.line.Item.{Item}
use Rattle.dependence.specs.Producers.{in_conflict}
use Rattle.dependence.proofs.Kept.{kept_has}
use Rattle.dependence.proofs.Rows.{row_at, as_many}
use Rattle.unit_law.specs.State.{Program, code_at}
use Rattle.time_interval.specs.Bounds.{pace_on}
use Rattle.time_interval.specs.Ordered.{IsOrdered}
use Rattle.time_law.specs.Conflicts.{ConflictsOrdered, pace_of}
use Rattle.time_law.proofs.ByTime.{sound_determinate}
use Rattle.time_law.proofs.LineFits.{line_sound}
use Rattle.compiled_image.specs.Planned.{IsInOrder}
use Rattle.compiled_image.specs.PlanLaws.{LinesInOrderAreSound, AllInOrder, ProgramsInOrderAreDeterminate}
use Rattle.compiled_image.proofs.Machines.{has_times}

-- the later tuple of a conflict is one of the block's
pub later_within : (ts : List Tuple) (a b : ℕ) → Conflict ts a b → b < length ts
later_within ts a b k = go (slice_get ts a) (slice_get ts b) k.shared refl
  where
    go : (o q : Option Tuple) → clash ts a o q ≡ true → slice_get ts b ≡ q → b < length ts
    go None q h e = absurd (both_ways false refl h)
    go (Some x) None h e = absurd (both_ways false refl h)
    go (Some x) (Some y) h e = slice_get_within ts b y e

-- where each producer is ordered, each conflicting pair is
pub pair_ordered : (machine : Machine) (ts : List Tuple) (line : List Item) → IsInOrder machine ts line → (x y : ℕ) → Conflict ts x y → IsOrdered (pace_on machine ts) line x y
pair_ordered machine ts line h x y k =
    let lt = later_within ts x y k in
    h.ordered y x (let e = as_many ts in omega arith) (subst (λ row. Contains row x) (sym (row_at ts y lt)) (kept_has (in_conflict ts y) y x k.before k.shared))

all_ordered : (m : Program) → AllInOrder m → ConflictsOrdered m
all_ordered m h b x y k = go (cases_lt b (length m.blocks))
  where
    go : (b < length m.blocks) ⊎ (length m.blocks ≤ b) → IsOrdered (pace_of m (code_at m b)) (code_at m b).line x y
    go (inl lt) = pair_ordered m.machine (code_at m b).tuples (code_at m b).line (h b lt) x y k
    go (inr le) =
        let none : (code_at m b).tuples ≡ [] = ap (λ z. z.tuples) (get_or_past m.blocks b no_block le) in
        let lt = later_within (code_at m b).tuples x y k in
        let l : length (code_at m b).tuples ≡ 0 = ap length none in absurd (omega arith)

pub lines_sound : LinesInOrderAreSound
lines_sound m code block h = line_sound m code block h.is_line h.stand

pub determinate : ProgramsInOrderAreDeterminate
determinate m machine sound h = sound_determinate m sound (has_times m machine) (all_ordered m h)
