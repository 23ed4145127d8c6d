-- What follows of what is shown.
use Rattle.std.specs.Prelude.{◌≡◌, List}
use Rattle.bm_base.specs.Machine.{Machine, IsMachine}
use Rattle.src_names.specs.RProgram.{RProgram}
use Rattle.src_names.specs.Right.{IsRight}
use Rattle.src_names.specs.Sizes.{AllFewNodes}
use Rattle.tuple_lower.specs.Means.{blocks_of}
use Rattle.show_text.specs.declared.shown.ShownBlock.{ShownBlock}
use Rattle.show_text.specs.Shown.{AreShown}

-- on each lawful machine one thing alone is shown of a program that is right and has at most 120 nodes in each statement
abbrev pub ProgramsAreShownOnce : Type 0
ProgramsAreShownOnce = (machine : Machine) (p : RProgram) (shown other : List ShownBlock) → IsMachine machine → IsRight p
    → AllFewNodes p.body →
    AreShown machine (blocks_of p) shown → AreShown machine (blocks_of p) other → shown ≡ other

-- .. and something is shown of it
abbrev pub ProgramsAreShown : Type 0
ProgramsAreShown = (machine : Machine) (p : RProgram) → IsMachine machine → IsRight p → AllFewNodes p.body
    → (shown : List ShownBlock) × AreShown machine (blocks_of p) shown
