-- Whatever the held files hold, they lead each row to a refusal or an output.
use Rattle.std.proofs.Common.{ℕ, List, Option, Some, None, Ok, refl}
use Rattle.std.specs.Prelude.{IfSome}
use Rattle.bm_io.specs.Files.{Held}
use Rattle.bm_base.specs.Machine.{Machine, IsMachine}
use Rattle.unit_law.specs.State.{Program}
use Rattle.unit_law.specs.Fit.{AllFit, AllStand, HasTimes}
use Rattle.timing_script.specs.declared.script.Script.{Script}
use Rattle.bm_words.specs.Table.{Request, MachineOf, DataOf, RunWordsOf, EvalOf, GoOf, CompileOf, ShowOf, RunOf, TraceOf, CheckOf, SoakOf}
use Rattle.bm_words.specs.Ranges.{IsInRange}
use Rattle.src_names.specs.RProgram.{RProgram}
use Rattle.src_names.specs.Right.{IsRight}
use Rattle.src_names.specs.Sizes.{AllFewNodes}
use Rattle.compiled_image.specs.Compiled.{IsCompiled}
use Rattle.run_text.specs.declared.kind.UnitKind.{UnitKind}
use Rattle.run_text.specs.RunText.{IsRunText}
use Rattle.bm_course.specs.Course.{Refused, Output, text_only, Gives, Course, ◌>>=◌, give, judge}
use Rattle.bm_course.specs.Lines.{usage}
use Rattle.bm_course.specs.Laws.{HasSomeVerdict, Settles, HasEnd, Bounds}
use Rattle.bm_course.proofs.Leading.{then-settles, judge-settles, give-settles, refuse-settles, ends_by}
use Rattle.bm_inputs.specs.Sources.{source_course}
use Rattle.bm_inputs.specs.Machines.{machine_course}
use Rattle.unit_law.proofs.SoundFits.{sound_fit, sound_stand}
use Rattle.bm_inputs.specs.Images.{loaded_course}
use Rattle.run_text.specs.EvalText.{eval_text}
use Rattle.bm_base.specs.Memory.{Content}
use Rattle.bm_base.specs.Memories.{IsMemoryOf}
use Rattle.bm_inputs.proofs.Courses.{refusal}
use Rattle.bm_inputs.proofs.ImageCourses.{loaded-bounds}
use Rattle.bm_inputs.specs.Memories.{memory_course}
use Rattle.bm_inputs.specs.Scripts.{script_course}
use Rattle.bm_inputs.specs.Beginning.{Beginning, beginning, begun_course}
use Rattle.bm_inputs.specs.BeginningLaws.{BeginningsSettle, MemoriesAreRight}
use Rattle.bm_inputs.proofs.Beginnings as begun
use Rattle.bmimd_top.specs.Evaluating.{ready_course, evaluated}
use Rattle.bmimd_top.specs.Running.{Begins, Runs, Traces, compiled_course, sourced_course, counts_text, kind_of}
use Rattle.run_text.specs.TraceLaws.{KindsHaveSomeTrace}
use Rattle.soak_text.specs.SoakCourse.{SoaksSettle, soak_course}
use Rattle.bmimd_top.proofs.Sourced.{behind_source, behind_script, sourced-right}
use Rattle.compiled_image.specs.Laws.{ProgramsHaveASummary}
use Rattle.show_text.specs.Laws.{ProgramsAreShown}
use Rattle.bmimd_top.specs.Listing.{Lists, listed_course, text_of}
use Rattle.bmimd_top.specs.Compiling.{Makes, made_course, product_of}
use Rattle.bmimd_top.specs.Command.{eval_course, go_course, compile_course, show_course, run_course, trace_course, check_course, course_by}

-- a program that can be compiled
record IsReady (p : RProgram) : Type 0 where
  right : IsRight p
  nodes : AllFewNodes p.body

-- the laws of the parts
pub record Parts : Type 0 where
  pub source : (held : Held) (name : List ℕ) → Settles held (source_course name)
  pub machine : (held : Held) (machine : MachineOf) → Settles held (machine_course machine)
  pub right : (name : List ℕ) (contents rest : List (List ℕ)) (p : RProgram) → source_course name contents (Gives p rest) → IsRight p
  pub nodes : (name : List ℕ) (contents rest : List (List ℕ)) (p : RProgram) → source_course name contents (Gives p rest) → AllFewNodes p.body
  pub lawful : (machine : MachineOf) (contents rest : List (List ℕ)) (m : Machine) → machine_course machine contents (Gives m rest) → IsMachine m
  pub image : (machine : Machine) (p : RProgram) → IsMachine machine → IsRight p → AllFewNodes p.body → (m : Program) × IsCompiled machine p m
  pub summary : ProgramsHaveASummary
  pub loaded : (held : Held) (name : List ℕ) → Settles held (loaded_course name)
  pub begun : BeginningsSettle
  pub memories : MemoriesAreRight
  pub shown : ProgramsAreShown
  pub trace : KindsHaveSomeTrace
  pub soaks : SoaksSettle
  pub text : (m : Program) (kind : UnitKind) (script : Script) (memory : List Content) (budget : ℕ) → AllFit m → AllStand m → HasTimes m → IsMemoryOf m.names memory → (text : Output) × IsRunText m kind script memory budget text

abbrev any : Refused → Type 0
any r = Unit {0}

module _ (parts : Parts) where
  begins-some : (machine : Machine) (p : RProgram) (script : Script) (memory : List Content) → IsMachine machine → IsReady p → HasSomeVerdict (Begins machine p script memory)
  begins-some machine p script memory l r = let h = parts.image machine p l r.right r.nodes in (Ok (beginning h.0 script memory), (h.0, h.1, refl))

  source-ready : (name : List ℕ) → Bounds any IsReady (source_course name)
  source-ready name = record { refuses = λ cs r h. tt; gives = λ cs rest p h. record { right = parts.right name cs rest p h; nodes = parts.nodes name cs rest p h } }

  machine-lawful : (machine : MachineOf) → Bounds any IsMachine (machine_course machine)
  machine-lawful machine = record { refuses = λ cs r h. tt; gives = parts.lawful machine }

  module _ (held : Held) where
    sourced-settles : (name : List ℕ) (machine : MachineOf) (run : RunWordsOf) → Settles held (sourced_course name machine run)
    sourced-settles name machine run =
        then-settles held IsReady (source_course name) (behind_source machine run) ((source-ready name).gives) (parts.source held name)
        (λ p r. then-settles held IsMachine (machine_course machine) (λ spec. compiled_course run spec p) (parts.lawful machine) (parts.machine held machine)
        (λ spec l. then-settles held (λ x. Unit {0}) (script_course run.script) (behind_script run spec p) (λ contents rest x h. tt) (parts.begun.script held run.script)
        (λ script t. then-settles held (λ x. Unit {0}) (memory_course p.names run.given) (λ memory. judge (Begins spec p script memory)) (λ contents rest m h. tt) (parts.begun.memory held p.names run.given r.right.names)
        (λ memory u. judge-settles held (Begins spec p script memory) (begins-some spec p script memory l r)))))

    run-some : (run : RunWordsOf) (b : Beginning) → begun.IsRight b → HasSomeVerdict (Runs run b)
    run-some run b k =
        let h = parts.text b.image (kind_of run.unit) b.script b.memory run.budget (sound_fit b.image k.image.sound) (sound_stand b.image k.image.sound) k.image.machine.times k.memory in
        (Ok (text_only h.0), (h.0, h.1, refl))

    trace-some : (run : RunWordsOf) (b : Beginning) → begun.IsRight b → HasSomeVerdict (Traces run b)
    trace-some run b k =
        let h = parts.trace b.image (kind_of run.unit) b.script b.memory run.budget (sound_fit b.image k.image.sound) (sound_stand b.image k.image.sound) k.image.machine.times k.memory in
        (Ok (text_only h.0), (h.0, h.1, refl))

    text-settles : (begins : Course Beginning) (run : RunWordsOf) → Bounds refusal begun.IsRight begins → Settles held begins → Settles held (begins >>= (λ b. judge (Runs run b)))
    text-settles begins run b s = then-settles held begun.IsRight begins (λ b. judge (Runs run b)) b.gives s (λ b k. judge-settles held (Runs run b) (run-some run b k))

    go-settles : (name : List ℕ) (machine : MachineOf) (run : RunWordsOf) → Settles held (go_course name machine run)
    go-settles name machine run = text-settles (sourced_course name machine run) run (sourced-right name machine run parts.right parts.memories) (sourced-settles name machine run)

    made-some : (machine : Machine) (p : RProgram) → IsMachine machine → IsReady p → HasSomeVerdict (Makes machine p)
    made-some machine p l r =
        let h = parts.image machine p l r.right r.nodes in
        let s = parts.summary machine p l r.right r.nodes in
        (Ok (record { image = h.0; summary = s.0 }), (h.1, s.1))

    made-settles : (name : List ℕ) (machine : MachineOf) → Settles held (made_course name machine)
    made-settles name machine =
        then-settles held IsReady (source_course name) (λ p. machine_course machine >>= (λ spec. judge (Makes spec p))) ((source-ready name).gives) (parts.source held name)
        (λ p r. then-settles held IsMachine (machine_course machine) (λ spec. judge (Makes spec p)) (parts.lawful machine) (parts.machine held machine)
        (λ spec l. judge-settles held (Makes spec p) (made-some spec p l r)))

    compile-settles : (name : List ℕ) (machine : MachineOf) (out : List ℕ) → Settles held (compile_course name machine out)
    compile-settles name machine out =
        then-settles held (λ m. Unit {0}) (made_course name machine) (λ made. give (product_of out made)) (λ contents rest m h. tt) (made-settles name machine) (λ made t. give-settles held (product_of out made))

    listed-some : (machine : Machine) (p : RProgram) → IsMachine machine → IsReady p → HasSomeVerdict (Lists machine p)
    listed-some machine p l r =
        let h = parts.shown machine p l r.right r.nodes in
        let s = parts.summary machine p l r.right r.nodes in
        (Ok (record { shown = h.0; summary = s.0 }), (h.1, s.1))

    listed-settles : (name : List ℕ) (machine : MachineOf) → Settles held (listed_course name machine)
    listed-settles name machine =
        then-settles held IsReady (source_course name) (λ p. machine_course machine >>= (λ spec. judge (Lists spec p))) ((source-ready name).gives) (parts.source held name)
        (λ p r. then-settles held IsMachine (machine_course machine) (λ spec. judge (Lists spec p)) (parts.lawful machine) (parts.machine held machine)
        (λ spec l. judge-settles held (Lists spec p) (listed-some spec p l r)))

    show-settles : (name : List ℕ) (machine : MachineOf) → Settles held (show_course name machine)
    show-settles name machine =
        then-settles held (λ l. Unit {0}) (listed_course name machine) (λ l. give (text_only (text_of l.shown l.summary))) (λ contents rest l h. tt) (listed-settles name machine)
        (λ l t. give-settles held (text_only (text_of l.shown l.summary)))

    run-settles : (name : List ℕ) (run : RunWordsOf) → Settles held (run_course name run)
    run-settles name run =
        text-settles (begun_course (loaded_course name) run) run (begun.begun-right run parts.memories (loaded_course name) (loaded-bounds name))
        (begun.begun-settles run parts.begun held (loaded_course name) (parts.loaded held name) (loaded-bounds name).gives)

    trace-settles : (name : List ℕ) (run : RunWordsOf) → Settles held (trace_course name run)
    trace-settles name run =
        then-settles held begun.IsRight (begun_course (loaded_course name) run) (λ b. judge (Traces run b)) ((begun.begun-right run parts.memories (loaded_course name) (loaded-bounds name)).gives)
        (begun.begun-settles run parts.begun held (loaded_course name) (parts.loaded held name) (loaded-bounds name).gives)
        (λ b k. judge-settles held (Traces run b) (trace-some run b k))

    check-settles : (name : List ℕ) → Settles held (check_course name)
    check-settles name =
        then-settles held (λ m. Unit {0}) (loaded_course name) (λ image. give (text_only (counts_text image))) (λ contents rest m h. tt) (parts.loaded held name) (λ image t. give-settles held (text_only (counts_text image)))

    ready-settles : (name : List ℕ) (given : DataOf) → Settles held (ready_course name given)
    ready-settles name given =
        then-settles held IsRight (source_course name) (λ p. memory_course p.names given >>= (λ memory. give (evaluated p memory))) (parts.right name) (parts.source held name)
        (λ p r. then-settles held (λ m. Unit {0}) (memory_course p.names given) (λ memory. give (evaluated p memory)) (λ contents rest m h. tt) (parts.begun.memory held p.names given r.names)
        (λ memory u. give-settles held (evaluated p memory)))

    eval-settles : (name : List ℕ) (given : DataOf) (turns : ℕ) → Settles held (eval_course name given turns)
    eval-settles name given turns =
        then-settles held (λ e. Unit {0}) (ready_course name given) (λ e. give (text_only (eval_text e.program e.memory turns))) (λ contents rest e h. tt) (ready-settles name given)
        (λ e t. give-settles held (text_only (eval_text e.program e.memory turns)))

    pub row-ends : (q : Option Request) → IfSome q IsInRange → HasEnd held (course_by q)
    row-ends None within = ends_by held (course_by None) (refuse-settles held usage)
    row-ends (Some (EvalOf name given turns)) within = ends_by held (eval_course name given turns) (eval-settles name given turns)
    row-ends (Some (GoOf name machine run)) within = ends_by held (go_course name machine run) (go-settles name machine run)
    row-ends (Some (CompileOf name machine out)) within = ends_by held (compile_course name machine out) (compile-settles name machine out)
    row-ends (Some (ShowOf name machine)) within = ends_by held (show_course name machine) (show-settles name machine)
    row-ends (Some (RunOf name run)) within = ends_by held (run_course name run) (run-settles name run)
    row-ends (Some (TraceOf name run)) within = ends_by held (trace_course name run) (trace-settles name run)
    row-ends (Some (CheckOf name)) within = ends_by held (check_course name) (check-settles name)
    row-ends (Some (SoakOf seed statements)) within = ends_by held (soak_course seed statements) (parts.soaks held seed statements within)
