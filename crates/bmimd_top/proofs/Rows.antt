-- What may be said of the course of each row: its refusals and outputs have their statuses.
use Rattle.std.proofs.Common.{◌≡◌, ℕ, Bool, true, false, List, Option, Some, None, if◌then◌else◌, refl, sym, ap, subst, ◌∙◌, inl, inr}
use Rattle.bm_words.specs.Table.{Request, MachineOf, DataOf, RunWordsOf, EvalOf, GoOf, CompileOf, ShowOf, RunOf, TraceOf, CheckOf, SoakOf}
use Rattle.bm_course.specs.Status.{OfWords, IsOfContent, IsRefusal, HasEnded, kind_of}
use Rattle.bm_course.specs.Course.{Refused, Product, text_only, Course, ◌>>=◌, give, refuse, judge}
use Rattle.bm_course.specs.Lines.{usage}
use Rattle.bm_course.specs.declared.status.TheConstants.{ENDED, GOING}
use Rattle.bm_course.specs.Laws.{IsDetermined, Bounds}
use Rattle.bm_course.specs.Seen.{Seen}
use Rattle.bm_course.specs.Goes.{Goes}
use Rattle.bm_course.specs.Clauses.{HasWritten, IsRefused}
use Rattle.bm_course.specs.Answers.{Answers}
use Rattle.bm_course.proofs.Bounds.{then-bounds, judge-bounds, give-bounds, refuse-bounds, wider-bounds}
use Rattle.bm_course.proofs.Statuses.{outcome, refused_only, refused_at_once}
use Rattle.bm_course.proofs.Answering.{answered}
use Rattle.src_meaning.specs.declared.evaluate.End as e
use Rattle.src_meaning.specs.declared.evaluate.End.TheVariants.{Done, More}
use Rattle.run_text.specs.RunUpTo.{End}
use Rattle.run_text.specs.RunText.{run_status}
use Rattle.bm_inputs.specs.Sources.{source_course}
use Rattle.bm_inputs.specs.Machines.{machine_course}
use Rattle.bm_inputs.proofs.Courses.{refusal, source-bounds, machine-bounds}
use Rattle.stream_image.specs.Image.{IsImage}
use Rattle.bm_inputs.specs.Images.{loaded_course}
use Rattle.bm_inputs.proofs.ImageCourses.{loaded-bounds}
use Rattle.run_text.specs.EvalText.{eval_text, end_status}
use Rattle.bmimd_top.specs.Running.{Runs, Traces, sourced_course, counts_text}
use Rattle.bmimd_top.specs.Listing.{Lists, listed_course, text_of}
use Rattle.bmimd_top.specs.Compiling.{Makes, made_course, product_of}
use Rattle.bmimd_top.specs.Command.{eval_course, go_course, compile_course, show_course, run_course, trace_course, check_course, course_by}
use Rattle.bmimd_top.specs.Evaluating.{ready_course, evaluated}
use Rattle.bm_inputs.specs.Memories.{memory_course}
use Rattle.bm_inputs.specs.Beginning.{Beginning, begun_course}
use Rattle.bm_inputs.proofs.Memories.{memory-bounds}
use Rattle.bm_inputs.proofs.Beginnings.{begun-bounds}
use Rattle.soak_text.specs.SoakCourse.{Soaks, soak_course}
use Rattle.bmimd_top.specs.Clauses.{IsUsage}
use Rattle.bmimd_top.proofs.Sourced.{sourced-bounds}

abbrev ended : Product → Type 0
ended p = HasEnded p.text.status

end_ended : (x : e.End) → HasEnded (end_status x)
end_ended Done = refl
end_ended More = refl

-- `eval`
ready-bounds : (name : List ℕ) (given : DataOf) → Bounds refusal (λ e. Unit {0}) (ready_course name given)
ready-bounds name given =
    then-bounds refusal (λ p. Unit {0}) (λ e. Unit {0}) (source_course name) (λ p. memory_course p.names given >>= (λ memory. give (evaluated p memory))) (source-bounds name)
    (λ p t. then-bounds refusal (λ m. Unit {0}) (λ e. Unit {0}) (memory_course p.names given) (λ memory. give (evaluated p memory)) (memory-bounds p.names given)
    (λ memory u. give-bounds refusal (λ e. Unit {0}) (evaluated p memory) tt))

eval-bounds : (name : List ℕ) (given : DataOf) (turns : ℕ) → Bounds refusal ended (eval_course name given turns)
eval-bounds name given turns =
    then-bounds refusal (λ e. Unit {0}) ended (ready_course name given) (λ e. give (text_only (eval_text e.program e.memory turns))) (ready-bounds name given)
    (λ e t. give-bounds refusal ended (text_only (eval_text e.program e.memory turns)) (end_ended _))

-- `go`
run_ended : (e : Option End) → HasEnded (run_status e)
run_ended (Some e) = refl
run_ended None = refl

text-bounds : (run : RunWordsOf) (b : Beginning) → Bounds refusal ended (judge (Runs run b))
text-bounds run b = judge-bounds refusal ended (Runs run b) (λ p h. subst ended (sym h.2) (subst (λ t. HasEnded t.status) (sym h.1.text_is) (run_ended h.1.end))) (λ r h. absurd h)

go-bounds : (name : List ℕ) (machine : MachineOf) (run : RunWordsOf) → Bounds refusal ended (go_course name machine run)
go-bounds name machine run =
    then-bounds refusal (λ b. Unit {0}) ended (sourced_course name machine run) (λ b. judge (Runs run b)) (sourced-bounds name machine run) (λ b t. text-bounds run b)

-- `compile`
made-bounds : (name : List ℕ) (machine : MachineOf) → Bounds refusal (λ m. Unit {0}) (made_course name machine)
made-bounds name machine =
    then-bounds refusal (λ p. Unit {0}) (λ m. Unit {0}) (source_course name) (λ p. machine_course machine >>= (λ spec. judge (Makes spec p))) (source-bounds name)
    (λ p t. then-bounds refusal (λ m. Unit {0}) (λ m. Unit {0}) (machine_course machine) (λ spec. judge (Makes spec p)) (machine-bounds machine)
    (λ spec u. judge-bounds refusal (λ m. Unit {0}) (Makes spec p) (λ m h. tt) (λ r h. absurd h)))

compile-bounds : (name : List ℕ) (machine : MachineOf) (out : List ℕ) → Bounds refusal ended (compile_course name machine out)
compile-bounds name machine out =
    then-bounds refusal (λ m. Unit {0}) ended (made_course name machine) (λ made. give (product_of out made)) (made-bounds name machine) (λ made t. give-bounds refusal ended (product_of out made) refl)

-- `show`
listed-bounds : (name : List ℕ) (machine : MachineOf) → Bounds refusal (λ l. Unit {0}) (listed_course name machine)
listed-bounds name machine =
    then-bounds refusal (λ p. Unit {0}) (λ l. Unit {0}) (source_course name) (λ p. machine_course machine >>= (λ spec. judge (Lists spec p))) (source-bounds name)
    (λ p t. then-bounds refusal (λ m. Unit {0}) (λ l. Unit {0}) (machine_course machine) (λ spec. judge (Lists spec p)) (machine-bounds machine)
    (λ spec u. judge-bounds refusal (λ l. Unit {0}) (Lists spec p) (λ l h. tt) (λ r h. absurd h)))

show-bounds : (name : List ℕ) (machine : MachineOf) → Bounds refusal ended (show_course name machine)
show-bounds name machine =
    then-bounds refusal (λ l. Unit {0}) ended (listed_course name machine) (λ l. give (text_only (text_of l.shown l.summary))) (listed-bounds name machine) (λ l t. give-bounds refusal ended (text_only (text_of l.shown l.summary)) refl)

-- `run`
run-bounds : (name : List ℕ) (run : RunWordsOf) → Bounds refusal ended (run_course name run)
run-bounds name run =
    then-bounds refusal (λ b. Unit {0}) ended (begun_course (loaded_course name) run) (λ b. judge (Runs run b)) (begun-bounds run (loaded_course name) IsImage (loaded-bounds name)) (λ b t. text-bounds run b)

-- `trace`
trace-bounds : (name : List ℕ) (run : RunWordsOf) → Bounds refusal ended (trace_course name run)
trace-bounds name run =
    then-bounds refusal (λ b. Unit {0}) ended (begun_course (loaded_course name) run) (λ b. judge (Traces run b)) (begun-bounds run (loaded_course name) IsImage (loaded-bounds name))
    (λ b t. judge-bounds refusal ended (Traces run b) (λ p h. subst ended (sym h.2) (subst (λ t. HasEnded t.status) (sym h.1.text_is) (run_ended h.1.end))) (λ r h. absurd h))

-- `check`
check-bounds : (name : List ℕ) → Bounds refusal ended (check_course name)
check-bounds name = then-bounds refusal IsImage ended (loaded_course name) (λ image. give (text_only (counts_text image))) (loaded-bounds name) (λ image t. give-bounds refusal ended (text_only (counts_text image)) refl)

-- `soak`
soak_ended : (going : Bool) → HasEnded (if going then GOING else ENDED)
soak_ended true = refl
soak_ended false = refl

soak-bounds : (seed statements : ℕ) → Bounds refusal ended (soak_course seed statements)
soak-bounds seed statements =
    judge-bounds refusal ended (Soaks seed statements) (λ p h. subst ended (sym h.2) (subst (λ t. HasEnded t.status) (sym h.1.text_is) (soak_ended _))) (λ r h. absurd h)

-- refusals of words too
abbrev refusals : Refused → Type 0
refusals r = IsRefusal r.status

usage-bounds : Bounds refusals ended (refuse usage)
usage-bounds = refuse-bounds refusals ended usage (inl refl)

all : (course : Course Product) → Bounds refusal ended course → Bounds refusals ended course
all course b = wider-bounds refusal refusals ended course (λ r h. inr h) b

-- each row
row-bounds : (q : Option Request) → Bounds refusals ended (course_by q)
row-bounds None = usage-bounds
row-bounds (Some (EvalOf name given turns)) = all (eval_course name given turns) (eval-bounds name given turns)
row-bounds (Some (GoOf name machine run)) = all (go_course name machine run) (go-bounds name machine run)
row-bounds (Some (CompileOf name machine out)) = all (compile_course name machine out) (compile-bounds name machine out)
row-bounds (Some (ShowOf name machine)) = all (show_course name machine) (show-bounds name machine)
row-bounds (Some (RunOf name run)) = all (run_course name run) (run-bounds name run)
row-bounds (Some (TraceOf name run)) = all (trace_course name run) (trace-bounds name run)
row-bounds (Some (CheckOf name)) = all (check_course name) (check-bounds name)
row-bounds (Some (SoakOf seed statements)) = all (soak_course seed statements) (soak-bounds seed statements)

module _ (before now : Seen) (status : ℕ) where
  pub row-answers : (q : Option Request) → IsDetermined (course_by q) → Goes before now (course_by q) status → Answers before now (course_by q) status
  row-answers q d g = answered before now (course_by q) status d (row-bounds q) g

  -- where it ends with status 0 or 8, its product was written
  pub row-written : (q r : Option Request) → IsDetermined (course_by q) → Goes before now (course_by q) status → q ≡ r → HasEnded status → HasWritten before now (course_by r) status
  row-written q r d g e h = subst (λ x. HasWritten before now (course_by x) status) e ((row-answers q d g).ended h)

  not_usage : (course : Course Product) → Bounds refusal ended course → Goes before now course status → status ≡ 1 → ⊥
  not_usage course b g e =
      let r : IsRefused before now course status = refused_only before now course status (all course b) (outcome before now course status g) (inl (ap kind_of e)) in
      let c : IsOfContent r.refusal.status = b.refuses r.contents r.refusal r.refuses in
      let w : kind_of r.refusal.status ≡ Some OfWords = ap kind_of (sym r.status_is ∙ e) in
      cc

  pub usage_only : (q : Option Request) → Goes before now (course_by q) status → status ≡ 1 → q ≡ None
  usage_only None g e = refl
  usage_only (Some (EvalOf name given turns)) g e = absurd (not_usage (eval_course name given turns) (eval-bounds name given turns) g e)
  usage_only (Some (GoOf name machine run)) g e = absurd (not_usage (go_course name machine run) (go-bounds name machine run) g e)
  usage_only (Some (CompileOf name machine out)) g e = absurd (not_usage (compile_course name machine out) (compile-bounds name machine out) g e)
  usage_only (Some (ShowOf name machine)) g e = absurd (not_usage (show_course name machine) (show-bounds name machine) g e)
  usage_only (Some (RunOf name run)) g e = absurd (not_usage (run_course name run) (run-bounds name run) g e)
  usage_only (Some (TraceOf name run)) g e = absurd (not_usage (trace_course name run) (trace-bounds name run) g e)
  usage_only (Some (CheckOf name)) g e = absurd (not_usage (check_course name) (check-bounds name) g e)
  usage_only (Some (SoakOf seed statements)) g e = absurd (not_usage (soak_course seed statements) (soak-bounds seed statements) g e)

  pub usage_else : (q : Option Request) → Goes before now (course_by q) status → q ≡ None → IsUsage before now status
  usage_else q g e = refused_at_once before now usage status (subst (λ r. Goes before now (course_by r) status) e g)
