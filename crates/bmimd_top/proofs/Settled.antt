-- The course of each row comes to one step after the same contents.
use Rattle.std.proofs.Common.{◌≡◌, ℕ, List, Option, Some, None, Ok, Err, sym, ap, ap₂, ◌∙◌}
use Rattle.bm_base.specs.Machine.{Machine, IsMachine}
use Rattle.unit_law.specs.State.{Program}
use Rattle.timing_script.specs.declared.script.Script.{Script}
use Rattle.bm_words.specs.Table.{Request, MachineOf, DataOf, RunWordsOf, EvalOf, GoOf, CompileOf, ShowOf, RunOf, TraceOf, CheckOf, SoakOf}
use Rattle.src_names.specs.RProgram.{RProgram}
use Rattle.run_text.specs.declared.kind.UnitKind.{UnitKind}
use Rattle.run_text.specs.RunText.{IsRunText}
use Rattle.bm_course.specs.Course.{Output, text_only, Gives, ◌>>=◌, give, judge}
use Rattle.bm_course.specs.Lines.{usage}
use Rattle.bm_course.specs.Laws.{IsDetermined, HasOneVerdict}
use Rattle.bm_course.proofs.Settling.{then-determined, then-determined-of, judge-determined, give-determined, refuse-determined}
use Rattle.bm_inputs.specs.Sources.{source_course}
use Rattle.bm_inputs.specs.Machines.{machine_course}
use Rattle.bm_inputs.specs.Images.{loaded_course}
use Rattle.run_text.specs.EvalText.{eval_text}
use Rattle.bmimd_top.specs.Running.{Begins, Runs, Traces, compiled_course, sourced_course, counts_text, kind_of}
use Rattle.run_text.specs.TraceLaws.{KindsHaveOneTrace}
use Rattle.soak_text.specs.SoakCourse.{SoaksHaveOneStep}
use Rattle.stream_image.specs.Image.{IsImage}
use Rattle.bm_base.specs.Memory.{Content}
use Rattle.bm_inputs.specs.Memories.{memory_course}
use Rattle.bm_inputs.specs.Scripts.{script_course}
use Rattle.bm_inputs.specs.Beginning.{Beginning, beginning, begun_course}
use Rattle.bm_inputs.specs.BeginningLaws.{BeginningsHaveOneStep}
use Rattle.bm_inputs.proofs.Beginnings.{begun-determined}
use Rattle.bmimd_top.specs.Evaluating.{ready_course, evaluated}
use Rattle.bmimd_top.proofs.Sourced.{behind_source, behind_script}
use Rattle.src_names.specs.Right.{IsRight}
use Rattle.src_names.specs.Sizes.{AllFewNodes}
use Rattle.bm_report.specs.declared.summary.Summary.{Summary}
use Rattle.compiled_image.specs.Laws.{ProgramsHaveOneImage, ProgramsHaveOneSummary}
use Rattle.show_text.specs.declared.shown.ShownBlock.{ShownBlock}
use Rattle.show_text.specs.Laws.{ProgramsAreShownOnce}
use Rattle.bmimd_top.specs.Listing.{Lists, listed_course, text_of}
use Rattle.bmimd_top.specs.Compiling.{Makes, made_course, product_of}
use Rattle.bmimd_top.specs.Command.{eval_course, go_course, compile_course, show_course, run_course, trace_course, check_course, course_by}

-- a program that can be compiled
record IsReady (p : RProgram) : Type 0 where
  right : IsRight p
  nodes : AllFewNodes p.body

-- the laws of sources and machines
pub record Inputs : Type 0 where
  pub source : (name : List ℕ) → IsDetermined (source_course name)
  pub machine : (machine : MachineOf) → IsDetermined (machine_course machine)
  pub right : (name : List ℕ) (contents rest : List (List ℕ)) (p : RProgram) → source_course name contents (Gives p rest) → IsRight p
  pub nodes : (name : List ℕ) (contents rest : List (List ℕ)) (p : RProgram) → source_course name contents (Gives p rest) → AllFewNodes p.body
  pub lawful : (machine : MachineOf) (contents rest : List (List ℕ)) (m : Machine) → machine_course machine contents (Gives m rest) → IsMachine m
  pub image : ProgramsHaveOneImage

-- the laws of the parts
pub record Parts : Type 0 where
  pub inputs : Inputs
  pub summary : ProgramsHaveOneSummary
  pub loaded : (name : List ℕ) → IsDetermined (loaded_course name)
  pub text : (m : Program) (kind : UnitKind) (script : Script) (memory : List Content) (budget : ℕ) (s t : Output) → IsRunText m kind script memory budget s → IsRunText m kind script memory budget t → s ≡ t
  pub shown : ProgramsAreShownOnce
  pub trace : KindsHaveOneTrace
  pub soaks : SoaksHaveOneStep
  pub sound : (name : List ℕ) (contents rest : List (List ℕ)) (m : Program) → loaded_course name contents (Gives m rest) → IsImage m
  pub begun : BeginningsHaveOneStep

module _ (inputs : Inputs) where
  source-ready : (name : List ℕ) (contents rest : List (List ℕ)) (p : RProgram) → source_course name contents (Gives p rest) → IsReady p
  source-ready name contents rest p h = record { right = inputs.right name contents rest p h; nodes = inputs.nodes name contents rest p h }

module _ (parts : Parts) where
  -- a program is compiled to one image
  begins-once : (machine : Machine) (p : RProgram) (script : Script) (memory : List Content) → IsMachine machine → IsReady p → HasOneVerdict (Begins machine p script memory)
  begins-once machine p script memory l r (Ok b) (Ok d) h k =
      ap Ok (h.2 ∙ ap (λ i. beginning i script memory) (parts.inputs.image machine p h.0 k.0 l r.right r.nodes h.1.image_is k.1.image_is) ∙ sym k.2)
  begins-once machine p script memory l r (Ok b) (Err s) h k = absurd k
  begins-once machine p script memory l r (Err s) q h k = absurd h

  pub sourced-determined : (name : List ℕ) (machine : MachineOf) (run : RunWordsOf) → IsDetermined (sourced_course name machine run)
  sourced-determined name machine run =
      then-determined-of IsReady (source_course name) (behind_source machine run) (parts.inputs.source name) (source-ready parts.inputs name)
      (λ p r. then-determined-of IsMachine (machine_course machine) (λ spec. compiled_course run spec p) (parts.inputs.machine machine) (parts.inputs.lawful machine)
      (λ spec l. then-determined (script_course run.script) (behind_script run spec p) (parts.begun.script run.script)
      (λ script. then-determined (memory_course p.names run.given) (λ memory. judge (Begins spec p script memory)) (parts.begun.memory p.names run.given r.right.names)
      (λ memory. judge-determined (Begins spec p script memory) (begins-once spec p script memory l r)))))

  run-once : (run : RunWordsOf) (b : Beginning) → HasOneVerdict (Runs run b)
  run-once run b (Ok s) (Ok t) h k = ap Ok (h.2 ∙ ap text_only (parts.text b.image (kind_of run.unit) b.script b.memory run.budget h.0 k.0 h.1 k.1) ∙ sym k.2)
  run-once run b (Ok s) (Err r) h k = absurd k
  run-once run b (Err r) q h k = absurd h

  trace-once : (run : RunWordsOf) (b : Beginning) → HasOneVerdict (Traces run b)
  trace-once run b (Ok s) (Ok t) h k = ap Ok (h.2 ∙ ap text_only (parts.trace b.image (kind_of run.unit) b.script b.memory run.budget h.0 k.0 h.1 k.1) ∙ sym k.2)
  trace-once run b (Ok s) (Err r) h k = absurd k
  trace-once run b (Err r) q h k = absurd h

  pub ready-determined : (name : List ℕ) (given : DataOf) → IsDetermined (ready_course name given)
  ready-determined name given =
      then-determined-of IsRight (source_course name) (λ p. memory_course p.names given >>= (λ memory. give (evaluated p memory))) (parts.inputs.source name) (parts.inputs.right name)
      (λ p r. then-determined (memory_course p.names given) (λ memory. give (evaluated p memory)) (parts.begun.memory p.names given r.names) (λ memory. give-determined (evaluated p memory)))

  eval-determined : (name : List ℕ) (given : DataOf) (turns : ℕ) → IsDetermined (eval_course name given turns)
  eval-determined name given turns =
      then-determined (ready_course name given) (λ e. give (text_only (eval_text e.program e.memory turns))) (ready-determined name given) (λ e. give-determined (text_only (eval_text e.program e.memory turns)))

  -- it has one image with one summary
  made-once : (machine : Machine) (p : RProgram) → IsMachine machine → IsReady p → HasOneVerdict (Makes machine p)
  made-once machine p l r (Ok m) (Ok n) h k =
      ap Ok (ap₂ (λ (i : Program) (s : Summary). record { image = i; summary = s }) (parts.inputs.image machine p m.image n.image l r.right r.nodes h.0.image_is k.0.image_is) (parts.summary machine p m.summary n.summary l r.right r.nodes h.1 k.1))
  made-once machine p l r (Ok m) (Err s) h k = absurd k
  made-once machine p l r (Err s) q h k = absurd h

  pub made-determined : (name : List ℕ) (machine : MachineOf) → IsDetermined (made_course name machine)
  made-determined name machine =
      then-determined-of IsReady (source_course name) (λ p. machine_course machine >>= (λ spec. judge (Makes spec p))) (parts.inputs.source name) (source-ready parts.inputs name)
      (λ p r. then-determined-of IsMachine (machine_course machine) (λ spec. judge (Makes spec p)) (parts.inputs.machine machine) (parts.inputs.lawful machine) (λ spec l. judge-determined (Makes spec p) (made-once spec p l r)))

  listed-once : (machine : Machine) (p : RProgram) → IsMachine machine → IsReady p → HasOneVerdict (Lists machine p)
  listed-once machine p l r (Ok m) (Ok n) h k =
      ap Ok (ap₂ (λ (x : List ShownBlock) (s : Summary). record { shown = x; summary = s }) (parts.shown machine p m.shown n.shown l r.right r.nodes h.0 k.0) (parts.summary machine p m.summary n.summary l r.right r.nodes h.1 k.1))
  listed-once machine p l r (Ok m) (Err s) h k = absurd k
  listed-once machine p l r (Err s) q h k = absurd h

  pub listed-determined : (name : List ℕ) (machine : MachineOf) → IsDetermined (listed_course name machine)
  listed-determined name machine =
      then-determined-of IsReady (source_course name) (λ p. machine_course machine >>= (λ spec. judge (Lists spec p))) (parts.inputs.source name) (source-ready parts.inputs name)
      (λ p r. then-determined-of IsMachine (machine_course machine) (λ spec. judge (Lists spec p)) (parts.inputs.machine machine) (parts.inputs.lawful machine) (λ spec l. judge-determined (Lists spec p) (listed-once spec p l r)))

  show-determined : (name : List ℕ) (machine : MachineOf) → IsDetermined (show_course name machine)
  show-determined name machine = then-determined (listed_course name machine) (λ l. give (text_only (text_of l.shown l.summary))) (listed-determined name machine) (λ l. give-determined (text_only (text_of l.shown l.summary)))

  compile-determined : (name : List ℕ) (machine : MachineOf) (out : List ℕ) → IsDetermined (compile_course name machine out)
  compile-determined name machine out = then-determined (made_course name machine) (λ made. give (product_of out made)) (made-determined name machine) (λ made. give-determined (product_of out made))

  go-determined : (name : List ℕ) (machine : MachineOf) (run : RunWordsOf) → IsDetermined (go_course name machine run)
  go-determined name machine run = then-determined (sourced_course name machine run) (λ b. judge (Runs run b)) (sourced-determined name machine run) (λ b. judge-determined (Runs run b) (run-once run b))

  run-determined : (name : List ℕ) (run : RunWordsOf) → IsDetermined (run_course name run)
  run-determined name run =
      then-determined (begun_course (loaded_course name) run) (λ b. judge (Runs run b)) (begun-determined run parts.begun (loaded_course name) (parts.loaded name) (parts.sound name))
      (λ b. judge-determined (Runs run b) (run-once run b))

  trace-determined : (name : List ℕ) (run : RunWordsOf) → IsDetermined (trace_course name run)
  trace-determined name run =
      then-determined (begun_course (loaded_course name) run) (λ b. judge (Traces run b)) (begun-determined run parts.begun (loaded_course name) (parts.loaded name) (parts.sound name))
      (λ b. judge-determined (Traces run b) (trace-once run b))

  check-determined : (name : List ℕ) → IsDetermined (check_course name)
  check-determined name = then-determined (loaded_course name) (λ image. give (text_only (counts_text image))) (parts.loaded name) (λ image. give-determined (text_only (counts_text image)))

  pub row-determined : (q : Option Request) → IsDetermined (course_by q)
  row-determined None = refuse-determined usage
  row-determined (Some (EvalOf name given turns)) = eval-determined name given turns
  row-determined (Some (GoOf name machine run)) = go-determined name machine run
  row-determined (Some (CompileOf name machine out)) = compile-determined name machine out
  row-determined (Some (ShowOf name machine)) = show-determined name machine
  row-determined (Some (RunOf name run)) = run-determined name run
  row-determined (Some (TraceOf name run)) = trace-determined name run
  row-determined (Some (CheckOf name)) = check-determined name
  row-determined (Some (SoakOf seed statements)) = parts.soaks seed statements
