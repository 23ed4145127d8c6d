-- What each row of the command table comes to.
use Rattle.std.specs.Prelude.{ℕ, List, Option, Some, None}
use Rattle.bm_words.specs.Table.{Request, MachineOf, DataOf, RunWordsOf, request_of}
use Rattle.bm_words.specs.Table.{EvalOf, GoOf, CompileOf, ShowOf, RunOf, TraceOf, CheckOf, SoakOf}
use Rattle.bm_course.specs.Course.{Course, Product, text_only, ◌>>=◌, give, refuse, judge}
use Rattle.bm_course.specs.Lines.{usage}
use Rattle.run_text.specs.EvalText.{eval_text}
use Rattle.bm_inputs.specs.Images.{loaded_course}
use Rattle.bm_inputs.specs.Beginning.{begun_course}
use Rattle.soak_text.specs.SoakCourse.{soak_course}
use Rattle.bmimd_top.specs.Evaluating.{ready_course}
use Rattle.bmimd_top.specs.Running.{sourced_course, Runs, Traces, counts_text}
use Rattle.bmimd_top.specs.Listing.{listed_course, text_of}
use Rattle.bmimd_top.specs.Compiling.{made_course, product_of}

-- the source and the data, and then the evaluation
abbrev pub eval_course : List ℕ → DataOf → ℕ → Course Product
eval_course name given turns = do
  e ← ready_course name given
  give (text_only (eval_text e.program e.memory turns))

-- the source, the machine, the script and the data, and then the run of what the first two are compiled to
abbrev pub go_course : List ℕ → MachineOf → RunWordsOf → Course Product
go_course name machine run = do
  b ← sourced_course name machine run
  judge (Runs run b)

-- the source and the machine, and then the file of what they are compiled to, and the summary
abbrev pub compile_course : List ℕ → MachineOf → List ℕ → Course Product
compile_course name machine out = do
  made ← made_course name machine
  give (product_of out made)

-- the source and the machine, and then what is shown of the one on the other
abbrev pub show_course : List ℕ → MachineOf → Course Product
show_course name machine = do
  l ← listed_course name machine
  give (text_only (text_of l.shown l.summary))

-- the image, the script and the data, and then the run
abbrev pub run_course : List ℕ → RunWordsOf → Course Product
run_course name run = do
  b ← begun_course (loaded_course name) run
  judge (Runs run b)

-- the image, the script and the data, and then the trace of the run
abbrev pub trace_course : List ℕ → RunWordsOf → Course Product
trace_course name run = do
  b ← begun_course (loaded_course name) run
  judge (Traces run b)

-- the image, and then what it has
abbrev pub check_course : List ℕ → Course Product
check_course name = do
  image ← loaded_course name
  give (text_only (counts_text image))

abbrev pub course_by : Option Request → Course Product
course_by None = refuse usage
course_by (Some (EvalOf name given turns)) = eval_course name given turns
course_by (Some (GoOf name machine run)) = go_course name machine run
course_by (Some (CompileOf name machine out)) = compile_course name machine out
course_by (Some (ShowOf name machine)) = show_course name machine
course_by (Some (RunOf name run)) = run_course name run
course_by (Some (TraceOf name run)) = trace_course name run
course_by (Some (CheckOf name)) = check_course name
course_by (Some (SoakOf seed statements)) = soak_course seed statements

abbrev pub course_of : List (List ℕ) → Course Product
course_of words = course_by (request_of words)
