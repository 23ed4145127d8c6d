-- What the runs of an image show.
use Rattle.std.proofs.Common.{◌≡◌, ℕ, ℤ, List, Option, ap₂}
use Rattle.bm_base.specs.Memory.{initial}
use Rattle.bm_base.specs.Memories.{IsMemoryOf}
use Rattle.timing_script.specs.Script.{script_duration}
use Rattle.timing_script.specs.Within.{script_duration-within}
use Rattle.unit_law.specs.State.{Program}
use Rattle.unit_law.specs.Units.{static_choice, dynamic_choice}
use Rattle.unit_law.specs.OnUnit.{IsLawfulChoice}
use Rattle.unit_law.specs.Fit.{AllFit, AllStand, HasTimes}
use Rattle.run_text.specs.RunUpTo.{End, IsRunUpTo}
use Rattle.run_text.specs.RunLaws.{RunsShowSomething, RunsShowOneThing}
use Rattle.run_text.specs.declared.kind.UnitKind.{UnitKind}
use Rattle.run_text.specs.RunText.{choice_of}
use Rattle.run_text.proofs.LawfulKinds.{lawful}
use Rattle.soak_text.specs.declared.pace.Pace.{Pace}
use Rattle.soak_text.specs.Lines.{Shown, budget}
use Rattle.soak_text.specs.Soak.{script_of, Shows, AreShown}

-- what is shown, of its parts
pub shown_as : (s t : Shown) → s.output ≡ t.output → s.end ≡ t.end → s ≡ t
shown_as s t e f = ap₂ (λ (output : List ℤ) (end : Option End). let x : Shown = record { output = output; end = end } in x) e f

module _ (seed : ℕ) (m : Program) where
  module _ (some : RunsShowSomething) (fit : AllFit m) (stand : AllStand m) (times : HasTimes m) (fixed : IsLawfulChoice static_choice m) (dynamic : IsLawfulChoice dynamic_choice m) (memory : IsMemoryOf m.names (initial m.names)) where
    run : (kind : UnitKind) (pace : Pace) → (output : List ℤ) × ((end : Option End) × IsRunUpTo (choice_of kind) (script_duration (script_of seed pace)) m (initial m.names) budget output end)
    run kind pace =
        some (choice_of kind) (script_duration (script_of seed pace)) m fit stand times (script_duration-within (script_of seed pace)) (lawful m fixed dynamic kind) (initial m.names) memory budget

    pub shown_all : (shown : UnitKind → Pace → Shown) × AreShown m seed shown
    shown_all = (λ kind pace. record { output = (run kind pace).0; end = (run kind pace).1.0 }, λ kind pace. (run kind pace).1.1)

  pub shown_once : RunsShowOneThing → (kind : UnitKind) (pace : Pace) (s t : Shown) → Shows m seed kind pace s → Shows m seed kind pace t → s ≡ t
  shown_once one kind pace s t h k =
      let e = one (choice_of kind) (script_duration (script_of seed pace)) m (initial m.names) budget s.output s.end t.output t.end h k in
      shown_as s t e.0 e.1
