-- With what budget the end of a run is shown.
use Rattle.std.specs.Prelude.{ℕ, ◌≡◌, ◌+◌, ◌*◌, ◌≤◌, List}
use Rattle.bm_base.specs.Machine.{Machine, IsMachine}
use Rattle.bm_base.specs.Memory.{Content}
use Rattle.bm_base.specs.Memories.{IsMemoryOf}
use Rattle.timing_script.specs.declared.script.Script.{Script}
use Rattle.unit_law.specs.State.{Program}
use Rattle.unit_law.specs.Determinate.{pass_time}
use Rattle.src_names.specs.RProgram.{RProgram}
use Rattle.src_meaning.specs.declared.evaluate.End.TheVariants.{Done}
use Rattle.src_meaning.specs.Meaning.{meaning}
use Rattle.compiled_image.specs.Compiled.{IsCompiled}
use Rattle.run_text.specs.declared.kind.UnitKind.{UnitKind}
use Rattle.run_text.specs.RunText.{IsRunText}
use Rattle.bm_course.specs.Course.{Output}

-- On a lawful machine, from a memory of the names: where the source is done within n turns, and the budget is n + 1 passes over the blocks
-- or more, the text of the run has the status of an end.
abbrev pub EnoughTicksEndRuns : Type 0
EnoughTicksEndRuns = (machine : Machine) (p : RProgram) (m : Program) (kind : UnitKind) (script : Script) (memory : List Content)
    (budget n : ℕ) (text : Output) → IsMachine machine → IsCompiled machine p m → IsMemoryOf m.names memory
    → IsRunText m kind script memory budget text → (meaning p memory n).end ≡ Done → (n + 1) * pass_time m ≤ budget → text.status ≡ 0
