-- What a soak writes: a large program is generated from a number, compiled, evaluated, and run on both units at three paces.
use Rattle.std.specs.Prelude.{ℕ, ◌≡◌, List, ◌++◌, map, if◌then◌else◌}
use Rattle.std.specs.List.{list_any}
use Rattle.bm_base.specs.Memory.{initial}
use Rattle.bm_base.specs.Spec.{standard}
use Rattle.src_tree.specs.Text.{program_text}
use Rattle.src_names.specs.RProgram.{RProgram}
use Rattle.src_front.specs.Reads.{Reads}
use Rattle.src_meaning.specs.Meaning.{Outcome, meaning}
use Rattle.soak_text.specs.Generator.{generated}
use Rattle.timing_script.specs.Script.{script_duration}
use Rattle.timing_script.specs.declared.script.Script.{Script}
use Rattle.timing_script.specs.declared.script.Script.TheVariants as script
use Rattle.unit_law.specs.State.{Program}
use Rattle.run_text.specs.RunUpTo.{IsRunUpTo}
use Rattle.bm_report.specs.declared.summary.Summary.{Summary}
use Rattle.bm_report.specs.Summary.{summary_lines}
use Rattle.bm_course.specs.declared.status.TheConstants.{ENDED, GOING}
use Rattle.bm_course.specs.Course.{Output}
use Rattle.run_text.specs.declared.kind.UnitKind.{UnitKind}
use Rattle.run_text.specs.RunText.{choice_of}
use Rattle.compiled_image.specs.Compiled.{IsCompiled}
use Rattle.compiled_image.specs.Summarised.{IsSummaryOf}
use Rattle.soak_text.specs.declared.pace.Pace.{Pace}
use Rattle.soak_text.specs.declared.pace.Pace.TheVariants.{Least, Most, Seeded}
use Rattle.soak_text.specs.Lines.{Shown, Part, budget, parts}

-- how many turns of its loops the source is evaluated for
abbrev pub turns : ℕ
turns = 1000000

-- the script of a pace: that of the least times, of the greatest, or of the soak's own seed
abbrev pub script_of : ℕ → Pace → Script
script_of seed Least = script.Least
script_of seed Most = script.Most
script_of seed Seeded = script.Seed seed

-- the canonical run of an image on a unit of this kind at this pace shows this at clocks of at most the budget
abbrev pub Shows : Program → ℕ → UnitKind → Pace → Shown → Type 0
Shows m seed kind pace shown =
    IsRunUpTo (choice_of kind) (script_duration (script_of seed pace)) m (initial m.names) budget shown.output shown.end

-- what each of the runs shows
abbrev pub AreShown : Program → ℕ → (UnitKind → Pace → Shown) → Type 0
AreShown m seed shown = (kind : UnitKind) (pace : Pace) → Shows m seed kind pace (shown kind pace)

-- the source's meaning within its turns, from its declared memory
abbrev pub outcome_of : RProgram → Outcome
outcome_of p = meaning p (initial p.names) turns

-- the summary, and then the seven lines; still going where one of the seven is
abbrev pub soak_text : Summary → List Part → Output
soak_text summary parts = record {
  status = if list_any (λ part. part.going) parts then GOING else ENDED;
  lines = summary_lines summary ++ map (λ part. part.line) parts;
}

-- The text of the soak of a seed and a number of items. The generated tree's own text is read again, and what it reads as is compiled
-- on the default machine.
pub record IsSoak (seed statements : ℕ) (text : Output) : Type 0 where
  pub program : RProgram
  pub read : Reads (program_text (generated seed statements)) program
  pub image : Program
  pub compiled : IsCompiled standard program image
  pub summary : Summary
  pub counted : IsSummaryOf standard program summary
  pub shown : UnitKind → Pace → Shown
  pub shows : AreShown image seed shown
  pub text_is : text ≡ soak_text summary (parts (outcome_of program) shown)
