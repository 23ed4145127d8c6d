-- What the code keeps of what a run or an evaluation begins with.
use Rattle.std.proofs.Common.{◌≡◌, Result, subst}
use Rattle.bm_base.specs.Machine.{Machine}
use Rattle.src_names.specs.RProgram.{RProgram}
use Rattle.bm_words.specs.Table.{RunWordsOf}
use Rattle.bm_course.specs.declared.refusal.Stop.{Stop}
use Rattle.bm_course.specs.Course.{Output}
use Rattle.bm_course.specs.Seen.{FilesSeen}
use Rattle.bm_course.specs.Ends.{Comes}
use Rattle.unit_law.specs.State.{Program}
use Rattle.run_text.specs.RunText.{IsRunText}
use Rattle.run_text.specs.TraceText.{IsRunTrace}
use Rattle.bm_inputs.specs.declared.begun.Begun.{Begun}
use Rattle.bm_inputs.specs.Beginning.{Beginning, beginning, begins_course, IsBegun}
use Rattle.bmimd_top.specs.Running.{kind_of, IsRunBy, IsTraceBy, compiled_course}

-- a run of what the code keeps is one of what it stands for
pub run_of : (run : RunWordsOf) (kept : Begun) (b : Beginning) (text : Output) → IsBegun kept b → IsRunBy run (beginning kept.image kept.script kept.store) text → IsRunBy run b text
run_of run kept b text s h =
    subst (λ m. IsRunText b.image (kind_of run.unit) b.script m run.budget text) s.memory
    (subst (λ t. IsRunText b.image (kind_of run.unit) t kept.store run.budget text) s.script (subst (λ i. IsRunText i (kind_of run.unit) kept.script kept.store run.budget text) s.image h))

-- and so is a trace
pub trace_of : (run : RunWordsOf) (kept : Begun) (b : Beginning) (text : Output) → IsBegun kept b → IsTraceBy run (beginning kept.image kept.script kept.store) text → IsTraceBy run b text
trace_of run kept b text s h =
    subst (λ m. IsRunTrace b.image (kind_of run.unit) b.script m run.budget text) s.memory
    (subst (λ t. IsRunTrace b.image (kind_of run.unit) t kept.store run.budget text) s.script (subst (λ i. IsRunTrace i (kind_of run.unit) kept.script kept.store run.budget text) s.image h))

-- what the run of the same image begins with
pub of_image : (before now : FilesSeen) (run : RunWordsOf) (image other : Program) (r : Result Begun Stop) → image ≡ other → Comes IsBegun before now (begins_course run image) r → Comes IsBegun before now (begins_course run other) r
of_image before now run image other r e h = subst (λ x. Comes IsBegun before now (begins_course run x) r) e h

-- .. and that of a run of the same program on the same machine
pub of_inputs : (before now : FilesSeen) (run : RunWordsOf) (machine other : Machine) (p q : RProgram) (r : Result Begun Stop) → machine ≡ other → p ≡ q → Comes IsBegun before now (compiled_course run machine p) r → Comes IsBegun before now (compiled_course run other q) r
of_inputs before now run machine other p q r e f h =
    subst (λ x. Comes IsBegun before now (compiled_course run other x) r) f (subst (λ m. Comes IsBegun before now (compiled_course run m p) r) e h)
