-- What follows of the texts of soaks.
use Rattle.std.specs.Prelude.{ℕ, ◌≡◌, ◌≤◌}
use Rattle.bm_base.specs.Spec.{standard}
use Rattle.src_names.specs.RProgram.{RProgram}
use Rattle.unit_law.specs.State.{Program}
use Rattle.bm_base.specs.declared.limits.TheConstants.{MOST_STATEMENTS}
use Rattle.bm_course.specs.Course.{Output}
use Rattle.compiled_image.specs.Compiled.{IsCompiled}
use Rattle.run_text.specs.declared.kind.UnitKind.{UnitKind}
use Rattle.soak_text.specs.declared.pace.Pace.{Pace}
use Rattle.soak_text.specs.Lines.{Shown}
use Rattle.soak_text.specs.Soak.{Shows, AreShown, IsSoak}

-- the runs of an image that a program is compiled to show something
abbrev pub RunsAreShown : Type 0
RunsAreShown = (seed : ℕ) (p : RProgram) (m : Program) → IsCompiled standard p m
    → (shown : UnitKind → Pace → Shown) × AreShown m seed shown

-- .. and only one thing
abbrev pub RunsAreShownOnce : Type 0
RunsAreShownOnce = (seed : ℕ) (m : Program) (kind : UnitKind) (pace : Pace) (shown other : Shown) → Shows m seed kind pace shown
    → Shows m seed kind pace other → shown ≡ other

-- a seed and a number of items have a text
abbrev pub SoaksHaveAText : Type 0
SoaksHaveAText = (seed statements : ℕ) → statements ≤ MOST_STATEMENTS → (text : Output) × IsSoak seed statements text

-- .. and only one
abbrev pub SoaksHaveOneText : Type 0
SoaksHaveOneText = (seed statements : ℕ) (text other : Output) → IsSoak seed statements text → IsSoak seed statements other
    → text ≡ other
