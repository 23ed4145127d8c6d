-- The seven lines that tell how a program and its runs stand.
use Rattle.std.specs.Prelude.{ℕ, ◌%◌, ◌^◌, ℤ, pos, ◌+ℤ◌, ◌*ℤ◌, Bool, true, false, List, [], ◌∷◌, ◌++◌, length, fold, codes, decimal}
use Rattle.std.specs.Prelude.{Option, Some, None, is_none}
use Rattle.std.specs.Fmt.{signed_decimal}
use Rattle.bm_base.specs.Word.{wrap}
use Rattle.bm_io.specs.declared.fold_values.FoldValues.{FoldValues}
use Rattle.bm_report.specs.Text.{line}
use Rattle.run_text.specs.RunUpTo.{End}
use Rattle.run_text.specs.declared.kind.UnitKind.{UnitKind}
use Rattle.run_text.specs.declared.kind.UnitKind.TheVariants.{Static, Dynamic}
use Rattle.src_meaning.specs.declared.evaluate.End.{End as Stand}
use Rattle.src_meaning.specs.declared.evaluate.End.TheVariants.{Done, More}
use Rattle.src_meaning.specs.Meaning.{Outcome}
use Rattle.soak_text.specs.declared.pace.Pace.{Pace}
use Rattle.soak_text.specs.declared.pace.Pace.TheVariants.{Least, Most, Seeded}

-- the fold of words: from 0, h becomes h * 31 + v at each word v, wrapping
abbrev pub fold_of : List ℤ → ℤ
fold_of words = fold (λ h v. wrap ((h *ℤ pos 31) +ℤ v)) (pos 0) words

-- how many words were printed, modulo 2^64, and their fold
abbrev pub summed : List ℤ → FoldValues
summed words = record { count = length words % 2 ^ 64; fold = fold_of words }

abbrev pub prints_text : FoldValues → List ℕ
prints_text prints = codes " prints " ++ decimal prints.count ++ codes " fold " ++ signed_decimal prints.fold

abbrev pub stand_name : Stand → List ℕ
stand_name Done = codes "source done"
stand_name More = codes "source more"

abbrev pub unit_name : UnitKind → List ℕ
unit_name Static = codes "sbm "
unit_name Dynamic = codes "dbm "

abbrev pub pace_name : Pace → List ℕ
pace_name Least = codes "least"
pace_name Most = codes "most"
pace_name Seeded = codes "seed"

-- how many ticks each run has
abbrev pub budget : ℕ
budget = 1000000000

-- a run has ended at this clock, or goes on after its ticks
abbrev pub end_text : Option ℕ → List ℕ
end_text (Some clock) = codes " end " ++ decimal clock
end_text None = codes " going " ++ decimal budget

-- the line of the source
abbrev pub source_line : Stand → FoldValues → List ℕ
source_line stand prints = line (stand_name stand ++ prints_text prints)

-- the line of a run on a unit of this kind at this pace
abbrev pub run_line : UnitKind → Pace → Option ℕ → FoldValues → List ℕ
run_line kind pace end prints = line ((unit_name kind ++ pace_name pace) ++ end_text end ++ prints_text prints)

-- what a run shows: the words that it has printed and, where it has ended in time, its end
pub record Shown : Type 0 where
  pub output : List ℤ
  pub end : Option End

-- a line, and whether what it tells of is still going
pub record Part : Type 0 where
  pub line : List ℕ
  pub going : Bool

abbrev pub is_more : Stand → Bool
is_more Done = false
is_more More = true

-- the clock of an end
abbrev pub clock_of : Option End → Option ℕ
clock_of (Some e) = Some e.clock
clock_of None = None

-- what is told of the source, by its outcome
abbrev pub source_part : Outcome → Part
source_part o = record { line = source_line o.end (summed o.output); going = is_more o.end }

-- .. and of a run, by what it shows
abbrev pub run_part : UnitKind → Pace → Shown → Part
run_part kind pace shown = record {
  line = run_line kind pace (clock_of shown.end) (summed shown.output);
  going = is_none (clock_of shown.end);
}

-- the runs on a unit of this kind
abbrev pub unit_parts : UnitKind → (UnitKind → Pace → Shown) → List Part
unit_parts kind shown =
    run_part kind Least (shown kind Least) ∷ run_part kind Most (shown kind Most) ∷ run_part kind Seeded (shown kind Seeded) ∷ []

-- all seven
abbrev pub parts : Outcome → (UnitKind → Pace → Shown) → List Part
parts o shown = (source_part o ∷ []) ++ (unit_parts Static shown ++ unit_parts Dynamic shown)
