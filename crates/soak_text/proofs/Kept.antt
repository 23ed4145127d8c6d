-- What is kept of an outcome, and of a run.
use Rattle.std.proofs.Common.{◌≡◌, ℕ, List, ◌++◌, Option, Result, Ok, Err, ap₂, ◌∙◌, subst}
use Rattle.std.specs.Prelude.{pos, IfOk}
use Rattle.bm_base.specs.Memory.{Content}
use Rattle.bm_io.specs.FoldValues.{with_value, NeverLeaves}
use Rattle.bm_io.specs.declared.fold_values.FoldValues.{FoldValues}
use Rattle.bm_io.specs.declared.sinks.SinkFault.{SinkFault}
use Rattle.unit_law.specs.State.{Program, State}
use Rattle.unit_law.specs.Units.{Choice}
use Rattle.unit_law.specs.Canonical.{Durations}
use Rattle.run_text.specs.RunUpTo.{IsRunUpTo}
use Rattle.run_text.specs.Runs.{RunsOn, end_told}
use Rattle.run_text.specs.declared.runs.RunEnd.{RunEnd}
use Rattle.src_meaning.specs.declared.evaluate.End.{End}
use Rattle.src_meaning.specs.Meaning.{Outcome}
use Rattle.run_text.specs.Begins.{Begins}
use Rattle.soak_text.specs.declared.evaluating.Evaluated.{Evaluated}
use Rattle.soak_text.specs.declared.running.Ran.{Ran}
use Rattle.soak_text.specs.Lines.{clock_of, summed, budget}
use Rattle.soak_text.specs.Parts.{evaluated_of, HasRan}
use Rattle.soak_text.proofs.Folds.{folds_all}

pub evaluated_as : (end : End) (prints : FoldValues) (o : Outcome) → end ≡ o.end → prints ≡ summed o.output → record { end = end; prints = prints } ≡ evaluated_of o
evaluated_as end prints o e f = ap₂ (λ (x : End) (y : FoldValues). let z : Evaluated = record { end = x; prints = y } in z) e f

abbrev none : FoldValues
none = record { count = 0; fold = pos 0 }

abbrev ran_as : Option ℕ → FoldValues → Ran
ran_as end prints = record { end = end; prints = prints }

module _ (choice : Choice) (durations : Durations) (m : Program) (memory : List Content) where
  -- from its beginning the run has come to its end, or its budget
  pub has_ran : (s now : State) (counts : List ℕ) (told : RunEnd) (end : Option ℕ) (prints : FoldValues) → Begins choice durations m memory s counts
      → RunsOn choice durations m memory budget s.world.output now with_value NeverLeaves none prints (Ok told) → end ≡ clock_of (end_told told now) → HasRan choice durations m memory (ran_as end prints)
  has_ran s now counts told end prints begins h e = record {
    shown = record { output = h.values; end = end_told told now };
    shows = subst (λ before. IsRunUpTo choice durations m memory budget (before ++ h.values) (end_told told now)) begins.output h.shows;
    kept = ap₂ ran_as e (h.took.ok ∙ folds_all h.values);
  }

pub ok_then : {T : Type 0} (P Q : T → Type 0) (r : Result T SinkFault) → ((x : T) → P x → Q x) → IfOk r P → IfOk r Q
ok_then P Q (Ok x) f h = f x h
ok_then P Q (Err e) f h = tt
