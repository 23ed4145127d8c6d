-- What the text of a run tells of the blocks' serial meaning.
use Rattle.std.specs.Prelude.{ℕ, ◌≡◌, ◌+◌, ◌*◌, ◌≤◌, ℤ, List, Option, Some, None}
use Rattle.bm_base.specs.Memory.{Content}
use Rattle.bm_base.specs.Memories.{IsMemoryOf}
use Rattle.bm_base.specs.Prefix.{IsPrefixOf}
use Rattle.tuple_ir.specs.Serial.{outcome}
use Rattle.timing_script.specs.declared.script.Script.{Script}
use Rattle.unit_law.specs.State.{Program}
use Rattle.unit_law.specs.Fit.{AllFit, HasTimes}
use Rattle.unit_law.specs.Determinate.{IsDeterminate, StandsAtMost, pass_time}
use Rattle.run_text.specs.RunUpTo.{End}
use Rattle.bm_course.specs.Course.{Output}
use Rattle.run_text.specs.declared.kind.UnitKind.{UnitKind}
use Rattle.run_text.specs.RunText.{IsRunText}

-- as many blocks as its end has ticks, and one more, have ended from this memory, with the end's memory and this output
pub record EndsSerially (m : Program) (memory : List Content) (output : List ℤ) (e : End) : Type 0 where
  pub ended : (outcome m.blocks memory (e.clock + 1)).next ≡ None
  pub memory_is : (outcome m.blocks memory (e.clock + 1)).world.memory ≡ e.memory
  pub output_is : (outcome m.blocks memory (e.clock + 1)).world.output ≡ output

-- The output is a prefix of what budget + 1 blocks print from this memory in serial order; and where there is an end, that has ended so.
pub record MeansSerially (m : Program) (memory : List Content) (budget : ℕ) (output : List ℤ) (end : Option End) : Type 0 where
  pub front : IsPrefixOf output (outcome m.blocks memory (budget + 1)).world.output
  pub ends : (e : End) → end ≡ Some e → EndsSerially m memory output e

abbrev pub RunsMeanTheSerialOrder : Type 0
RunsMeanTheSerialOrder = (m : Program) (kind : UnitKind) (script : Script) (memory : List Content) (budget : ℕ) (text : Output) → AllFit m
    → HasTimes m → IsDeterminate m → IsMemoryOf m.names memory
    → (h : IsRunText m kind script memory budget text) → MeansSerially m memory budget h.output h.end

-- Where k blocks have ended, none stands more than c times in their trail, and the budget is c passes or more, the text tells an end.
abbrev pub SerialEndsAreTold : Type 0
SerialEndsAreTold = (m : Program) (kind : UnitKind) (script : Script) (memory : List Content) (budget c k : ℕ) (text : Output) → AllFit m
    → HasTimes m → IsDeterminate m → IsMemoryOf m.names memory
    → (outcome m.blocks memory k).next ≡ None → StandsAtMost c (outcome m.blocks memory k).trail
    → c * pass_time m ≤ budget
    → IsRunText m kind script memory budget text → text.status ≡ 0
