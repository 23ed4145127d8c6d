-- The source and the runs of a soak tell of the same.
use Rattle.std.specs.Prelude.{ℕ, ◌≡◌, Some}
use Rattle.bm_base.specs.Spec.{standard}
use Rattle.src_names.specs.RProgram.{RProgram}
use Rattle.src_meaning.specs.declared.evaluate.End.TheVariants.{Done}
use Rattle.unit_law.specs.State.{Program}
use Rattle.run_text.specs.RunUpTo.{End}
use Rattle.bm_course.specs.declared.status.TheConstants.{ENDED}
use Rattle.bm_course.specs.Course.{Output}
use Rattle.compiled_image.specs.Compiled.{IsCompiled}
use Rattle.run_text.specs.declared.kind.UnitKind.{UnitKind}
use Rattle.soak_text.specs.declared.pace.Pace.{Pace}
use Rattle.soak_text.specs.Lines.{Shown}
use Rattle.soak_text.specs.Soak.{Shows, outcome_of, IsSoak}

-- the run has printed what the source has, and leaves its memory
pub record AgreesWith (p : RProgram) (shown : Shown) (e : End) : Type 0 where
  pub output : shown.output ≡ (outcome_of p).output
  pub memory : e.memory ≡ (outcome_of p).memory

-- Where the source is done and a run has ended, both have printed the same words, so that their lines tell the same count and fold,
-- and they leave the same memory.
abbrev pub EndsAgree : Type 0
EndsAgree = (seed : ℕ) (p : RProgram) (m : Program) (kind : UnitKind) (pace : Pace) (shown : Shown) (e : End) → IsCompiled standard p m
    → Shows m seed kind pace shown → (outcome_of p).end ≡ Done → shown.end ≡ Some e → AgreesWith p shown e

-- Where the text of a soak has the status of an end, each run has printed what the source has: all seven lines tell one count and fold.
abbrev pub SoaksAgree : Type 0
SoaksAgree = (seed statements : ℕ) (text : Output) (h : IsSoak seed statements text) → text.status ≡ ENDED
    → (kind : UnitKind) (pace : Pace) → (h.shown kind pace).output ≡ (outcome_of h.program).output
