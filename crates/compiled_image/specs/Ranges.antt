-- The ranges of an image's numbers.
use Rattle.std.specs.Prelude.{ℕ, ◌+◌, ◌*◌, ◌<◌, ◌≤◌, length}
use Rattle.std.specs.List.{AllByRecursion}
use Rattle.bm_base.specs.Entry.{Entry}
use Rattle.bm_base.specs.Machine.{Machine, IsMachine}
use Rattle.bm_base.specs.Names.{AreNames}
use Rattle.src_names.specs.RProgram.{RProgram}
use Rattle.src_names.specs.Right.{IsRight}
use Rattle.src_names.specs.Ranges.{KindInRange, IsInRange}
use Rattle.src_names.specs.Sizes.{AllFewNodes, statements}
use Rattle.tuple_ir.specs.Fits.{TupleFits}
use Rattle.unit_law.specs.State.{Program, code_at}
use Rattle.compiled_image.specs.Compiled.{IsImageOf}

-- a lawful machine, lawful names whose kinds are in range, at most four blocks a statement and one, and tuples with the ranges of their type
pub record HasRanges (p : RProgram) (m : Program) : Type 0 where
  pub machine : IsMachine m.machine
  pub names : AreNames m.names
  pub kinds : AllByRecursion (λ (e : Entry). KindInRange e.kind) m.names
  pub few : length m.blocks ≤ 4 * statements p.body + 1
  pub tuples : (b : ℕ) → b < length m.blocks → AllByRecursion TupleFits (code_at m b).tuples

-- the image of a program whose numbers are in range, on a lawful machine
abbrev pub ImagesHaveRanges : Type 0
ImagesHaveRanges = (machine : Machine) (p : RProgram) (m : Program) → IsMachine machine → IsRight p → AllFewNodes p.body → IsInRange p
    → IsImageOf machine p m → HasRanges p m
