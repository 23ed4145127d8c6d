-- What the commands promise of a call that ends with the status 0 or 8.
use Rattle.std.specs.Prelude.{ℕ, ◌≡◌, ◌+◌, ◌*◌, ◌≤◌, List, [], ◌∷◌, ◌++◌, length, Option, Some, None, Ok}
use Rattle.bm_base.specs.declared.limits.TheConstants.{MOST_SOURCE_BYTES, MOST_MACHINE_BYTES, MOST_IMAGE_BYTES}
use Rattle.bm_base.specs.declared.limits.TheConstants.{MOST_SCRIPT_BYTES, MOST_DATA_BYTES}
use Rattle.bm_base.specs.Entry.{Entry}
use Rattle.bm_base.specs.Machine.{Machine, IsMachine}
use Rattle.bm_base.specs.Spec.{standard}
use Rattle.bm_base.specs.Memory.{Content, initial}
use Rattle.bm_io.specs.Files.{Held, Reads, Keeps}
use Rattle.bm_io.specs.Sink.{Takes}
use Rattle.bm_words.specs.Table.{MachineOf, Default, MachineFile, ScriptOf, Least, Most, Seed, ScriptFile}
use Rattle.bm_words.specs.Table.{DataOf, Declared, DataFile, RunWordsOf}
use Rattle.timing_script.specs.declared.script.Script.{Script}
use Rattle.timing_script.specs.declared.script.Script.TheVariants as rule
use Rattle.timing_script.specs.Text.{IsScriptOf}
use Rattle.timing_script.specs.Data.{IsDataOf}
use Rattle.bm_inputs.specs.Beginning.{Beginning}
use Rattle.bm_course.specs.Course.{Output}
use Rattle.bm_course.specs.Seen.{Seen, holding}
use Rattle.machine_file.specs.MachineFile.{machine_of}
use Rattle.unit_law.specs.State.{Program}
use Rattle.unit_law.specs.Determinate.{IsDeterminate, StandsAtMost, pass_time}
use Rattle.tuple_ir.specs.Serial.{outcome}
use Rattle.stream_file.specs.Images.{IsTextOfImage}
use Rattle.bm_inputs.specs.Counts.{counts_line}
use Rattle.src_names.specs.RProgram.{RProgram}
use Rattle.src_front.specs.Reads as text
use Rattle.src_meaning.specs.declared.evaluate.End.TheVariants.{Done}
use Rattle.src_meaning.specs.Meaning.{meaning}
use Rattle.compiled_image.specs.Compiled.{IsImageOf}
use Rattle.compiled_image.specs.Faithful.{IsFaithful}
use Rattle.compiled_image.specs.Summarised.{IsSummaryOf}
use Rattle.bm_report.specs.declared.summary.Summary.{Summary}
use Rattle.bm_report.specs.Summary.{summary_lines}
use Rattle.tuple_lower.specs.Means.{blocks_of}
use Rattle.show_text.specs.declared.shown.ShownBlock.{ShownBlock}
use Rattle.show_text.specs.Shown.{AreShown}
use Rattle.show_text.specs.Listing.{listing}
use Rattle.run_text.specs.EvalText.{eval_text}
use Rattle.run_text.specs.RunText.{run_status}
use Rattle.run_text.specs.Serial.{MeansSerially}
use Rattle.run_text.specs.Told.{prints_of}
use Rattle.run_text.specs.declared.kind.UnitKind.{UnitKind}
use Rattle.soak_text.specs.declared.pace.Pace.{Pace}
use Rattle.soak_text.specs.Soak.{IsSoak, outcome_of}
use Rattle.bmimd_top.specs.Running.{IsRunBy, IsTraceBy}
use Rattle.bmimd_top.specs.Compiling.{image_file}

-- The whole content of the source's file was read, and it reads as this program.
pub record ReadsProgram (told : Option Held) (name : List ℕ) (program : RProgram) : Type 0 where
  pub bytes : List ℕ
  pub content : Reads told name MOST_SOURCE_BYTES bytes
  pub whole : length bytes ≤ MOST_SOURCE_BYTES
  pub means : text.Reads bytes program

-- The whole content of the machine's file was read, and it describes this machine.
pub record ReadsFile (told : Option Held) (name : List ℕ) (machine : Machine) : Type 0 where
  pub bytes : List ℕ
  pub content : Reads told name MOST_MACHINE_BYTES bytes
  pub whole : length bytes ≤ MOST_MACHINE_BYTES
  pub means : machine_of bytes ≡ Ok machine

-- the default machine, or the one that its file describes
abbrev pub ReadsMachine : Option Held → MachineOf → Machine → Type 0
ReadsMachine told Default machine = machine ≡ standard
ReadsMachine told (MachineFile name) machine = ReadsFile told name machine

-- The whole content of the script's file was read, and it is the text of this script.
pub record ReadsScriptFile (told : Option Held) (name : List ℕ) (script : Script) : Type 0 where
  pub bytes : List ℕ
  pub content : Reads told name MOST_SCRIPT_BYTES bytes
  pub whole : length bytes ≤ MOST_SCRIPT_BYTES
  pub means : IsScriptOf bytes script

-- the least times, the greatest ones, those of a seed, or those of the script in its file
abbrev pub ReadsScript : Option Held → ScriptOf → Script → Type 0
ReadsScript told Least script = script ≡ rule.Least
ReadsScript told Most script = script ≡ rule.Most
ReadsScript told (Seed n) script = script ≡ rule.Seed n
ReadsScript told (ScriptFile name) script = ReadsScriptFile told name script

-- The whole content of the data's file was read, and this is the memory that it gives these names.
pub record ReadsDataFile (told : Option Held) (names : List Entry) (name : List ℕ) (memory : List Content) : Type 0 where
  pub bytes : List ℕ
  pub content : Reads told name MOST_DATA_BYTES bytes
  pub whole : length bytes ≤ MOST_DATA_BYTES
  pub means : IsDataOf names bytes memory

-- the declared memory of these names, or the one that a file gives them
abbrev pub ReadsMemory : Option Held → List Entry → DataOf → List Content → Type 0
ReadsMemory told names Declared memory = memory ≡ initial names
ReadsMemory told names (DataFile name) memory = ReadsDataFile told names name memory

-- After `go` with status 0 or 8: the source reads as a program and the word names a lawful machine; the run begins with the image that the
-- one is compiled to on the other, which means what the program means in every run, with the durations of the script and with the memory
-- that the data give the image's names; the output took the text of its canonical run on this unit, one write a line, and nothing else was
-- written. The status is 0 where the source is done from this memory within n turns and the budget is n + 1 passes over the blocks or more.
pub record HasRun (before now : Seen) (name : List ℕ) (word : MachineOf) (run : RunWordsOf) (status : ℕ) : Type 0 where
  pub program : RProgram
  pub source : ReadsProgram before.files.held name program
  pub machine : Machine
  pub named : ReadsMachine before.files.held word machine
  pub lawful : IsMachine machine
  pub begins : Beginning
  pub compiled : IsImageOf machine program begins.image
  pub faithful : IsFaithful begins.image program
  pub timed : ReadsScript before.files.held run.script begins.script
  pub given : ReadsMemory before.files.held begins.image.names run.given begins.memory
  pub text : Output
  pub runs : IsRunBy run begins text
  pub out : Takes before.out.taken now.out.taken text.lines
  pub err : now.err ≡ before.err
  pub held : Keeps before.files.held now.files.held
  pub status_is : status ≡ text.status
  pub ends : (n : ℕ) → (meaning program begins.memory n).end ≡ Done → (n + 1) * pass_time begins.image ≤ run.budget → status ≡ 0

-- After `eval` with status 0 or 8: the source reads as a program, the data give its names a memory, and the output took the text of the
-- program's meaning from this memory within these turns, one write a line. Nothing else was written. The status is 0 exactly where the
-- source is done within them.
pub record HasEvaluated (before now : Seen) (name : List ℕ) (word : DataOf) (turns status : ℕ) : Type 0 where
  pub program : RProgram
  pub source : ReadsProgram before.files.held name program
  pub memory : List Content
  pub given : ReadsMemory before.files.held program.names word memory
  pub out : Takes before.out.taken now.out.taken (eval_text program memory turns).lines
  pub err : now.err ≡ before.err
  pub held : Keeps before.files.held now.files.held
  pub status_is : status ≡ (eval_text program memory turns).status
  pub done : (meaning program memory turns).end ≡ Done → status ≡ 0
  pub only : status ≡ 0 → (meaning program memory turns).end ≡ Done

-- The whole content of the image's file was read, and it is the text of this image.
pub record ReadsImage (told : Option Held) (name : List ℕ) (image : Program) : Type 0 where
  pub bytes : List ℕ
  pub content : Reads told name MOST_IMAGE_BYTES bytes
  pub whole : length bytes ≤ MOST_IMAGE_BYTES
  pub means : IsTextOfImage bytes image

-- The file is the text of an image, which is determinate; a run begins with it, with the durations of the script and with the memory that
-- the data give the image's names.
pub record ReadsBeginning (told : Option Held) (name : List ℕ) (run : RunWordsOf) (begins : Beginning) : Type 0 where
  pub loaded : ReadsImage told name begins.image
  pub determinate : IsDeterminate begins.image
  pub timed : ReadsScript told run.script begins.script
  pub given : ReadsMemory told begins.image.names run.given begins.memory

-- After `run` with status 0 or 8: the run begins so; the output took the text of its canonical run on this unit, one write a line, and
-- nothing else was written. The words that are printed are a prefix of those of its blocks' serial meaning from this memory; where the
-- run has ended, that has ended with these words and this memory. The status is 0 where it has ended by the budget, else 8; it is 0 where
-- k blocks have ended, none stands more than c times in their trail, and the budget is c passes over the blocks or more.
pub record HasRunImage (before now : Seen) (name : List ℕ) (run : RunWordsOf) (status : ℕ) : Type 0 where
  pub begins : Beginning
  pub begun : ReadsBeginning before.files.held name run begins
  pub text : Output
  pub runs : IsRunBy run begins text
  pub serial : MeansSerially begins.image begins.memory run.budget runs.output runs.end
  pub out : Takes before.out.taken now.out.taken text.lines
  pub err : now.err ≡ before.err
  pub held : Keeps before.files.held now.files.held
  pub status_is : status ≡ run_status runs.end
  pub ends : (c k : ℕ) → (outcome begins.image.blocks begins.memory k).next ≡ None
      → StandsAtMost c (outcome begins.image.blocks begins.memory k).trail → c * pass_time begins.image ≤ run.budget → status ≡ 0

-- After `trace` with status 0 or 8: the run begins so; the output took the trace of its canonical run on this unit, one write a line, and
-- nothing else was written. The words that it prints are a prefix of those of its blocks' serial meaning from this memory; where the run
-- has ended, that has ended with these words and this memory. The status is as after `run`.
pub record HasTraced (before now : Seen) (name : List ℕ) (run : RunWordsOf) (status : ℕ) : Type 0 where
  pub begins : Beginning
  pub begun : ReadsBeginning before.files.held name run begins
  pub text : Output
  pub traces : IsTraceBy run begins text
  pub serial : MeansSerially begins.image begins.memory run.budget (prints_of traces.events) traces.end
  pub out : Takes before.out.taken now.out.taken text.lines
  pub err : now.err ≡ before.err
  pub held : Keeps before.files.held now.files.held
  pub status_is : status ≡ run_status traces.end
  pub ends : (c k : ℕ) → (outcome begins.image.blocks begins.memory k).next ≡ None
      → StandsAtMost c (outcome begins.image.blocks begins.memory k).trail → c * pass_time begins.image ≤ run.budget → status ≡ 0

-- After `check` with status 0 or 8: the file is the text of an image, and the output took one line, of its counts. Nothing else was
-- written. The status is 0.
pub record HasChecked (before now : Seen) (name : List ℕ) (status : ℕ) : Type 0 where
  pub image : Program
  pub loaded : ReadsImage before.files.held name image
  pub out : Takes before.out.taken now.out.taken (counts_line image ∷ [])
  pub err : now.err ≡ before.err
  pub held : Keeps before.files.held now.files.held
  pub status_is : status ≡ 0

-- After `show` with status 0 or 8: the source reads as a program and the word names a lawful machine; the output took the listing of what
-- is shown of the program's blocks on the machine, and then the lines of its summary, one write each. Nothing else was written. The status
-- is 0.
pub record HasShown (before now : Seen) (name : List ℕ) (word : MachineOf) (status : ℕ) : Type 0 where
  pub program : RProgram
  pub source : ReadsProgram before.files.held name program
  pub machine : Machine
  pub named : ReadsMachine before.files.held word machine
  pub lawful : IsMachine machine
  pub shown : List ShownBlock
  pub lists : AreShown machine (blocks_of program) shown
  pub summary : Summary
  pub counted : IsSummaryOf machine program summary
  pub out : Takes before.out.taken now.out.taken (listing shown ++ summary_lines summary)
  pub err : now.err ≡ before.err
  pub held : Keeps before.files.held now.files.held
  pub status_is : status ≡ 0

-- After `compile` with status 0 or 8: the source reads as a program and the word names a lawful machine; the image that the one is
-- compiled to on the other means what the program means in every run. The file holds the text of that image, whole, by which `run` reads
-- it, and no other held file changed; the output took the lines of the program's summary, one write each, and nothing else was written. The status is 0.
pub record HasCompiled (before now : Seen) (name : List ℕ) (word : MachineOf) (file : List ℕ) (status : ℕ) : Type 0 where
  pub program : RProgram
  pub source : ReadsProgram before.files.held name program
  pub machine : Machine
  pub named : ReadsMachine before.files.held word machine
  pub lawful : IsMachine machine
  pub image : Program
  pub compiled : IsImageOf machine program image
  pub faithful : IsFaithful image program
  pub summary : Summary
  pub counted : IsSummaryOf machine program summary
  pub read_back : IsTextOfImage (image_file file image).bytes image
  pub held : Keeps (holding before.files.held (Some (image_file file image))) now.files.held
  pub out : Takes before.out.taken now.out.taken (summary_lines summary)
  pub err : now.err ≡ before.err
  pub status_is : status ≡ 0

-- After `soak` with status 0 or 8: the output took the text of the soak of this seed and this number of items, one write a line. No file
-- was asked for, and nothing else was written. The status is that of the text: 8 where the source or a run is still going, else 0; where it
-- is 0, each of the six runs has printed what the source has.
pub record HasSoaked (before now : Seen) (seed statements status : ℕ) : Type 0 where
  pub text : Output
  pub soaks : IsSoak seed statements text
  pub out : Takes before.out.taken now.out.taken text.lines
  pub err : now.err ≡ before.err
  pub asked : now.files.asked ≡ before.files.asked
  pub held : Keeps before.files.held now.files.held
  pub status_is : status ≡ text.status
  pub agree : status ≡ 0 → (kind : UnitKind) (pace : Pace) → (soaks.shown kind pace).output ≡ (outcome_of soaks.program).output
