-- What was read for each course, and what it gave.
use Rattle.std.proofs.Common.{◌≡◌, ℕ, List, [], Option, Ok, Result, sym, subst}
use Rattle.bm_base.specs.declared.limits.TheConstants.{MOST_SOURCE_BYTES, MOST_MACHINE_BYTES, MOST_IMAGE_BYTES, MOST_SCRIPT_BYTES, MOST_DATA_BYTES}
use Rattle.bm_base.specs.Entry.{Entry}
use Rattle.bm_base.specs.Memory.{Content, initial}
use Rattle.bm_base.specs.Machine.{Machine, IsMachine}
use Rattle.bm_base.specs.Spec.{standard}
use Rattle.bm_io.specs.Files.{Held}
use Rattle.bm_words.specs.Table.{MachineOf, Default, MachineFile, ScriptOf, Least, Most, Seed, ScriptFile, DataOf, Declared, DataFile, RunWordsOf}
use Rattle.timing_script.specs.declared.script.Script.{Script}
use Rattle.timing_script.specs.declared.script.Script.TheVariants as rule
use Rattle.bm_course.specs.Course.{Refused, Gives, Course, ◌>>=◌, give, judge}
use Rattle.bm_course.specs.Limited.{limited}
use Rattle.bm_course.specs.Laws.{IsDetermined}
use Rattle.bm_course.proofs.Halving.{Consumes, give-consumes, judge-consumes, then-consumes, limited-consumes, ReadTo, halve}
use Rattle.unit_law.specs.State.{Program}
use Rattle.stream_image.specs.Image.{IsImage}
use Rattle.src_names.specs.RProgram.{RProgram}
use Rattle.bm_inputs.specs.Sources.{ReadsSource, source_course}
use Rattle.bm_inputs.specs.Machines.{ReadsMachine, machine_course}
use Rattle.bm_inputs.specs.Images.{LoadsImage, loaded_course}
use Rattle.bm_inputs.specs.Scripts.{script_course}
use Rattle.bm_inputs.specs.Scripts as scripts
use Rattle.bm_inputs.specs.Memories.{ReadsData, memory_course}
use Rattle.bm_inputs.specs.Beginning.{Beginning, beginning, begins_course, begun_course}
use Rattle.bm_inputs.specs.BeginningLaws.{BeginningsHaveOneStep}
use Rattle.bm_inputs.proofs.Beginnings.{behind_script, GivesImages}
use Rattle.src_names.specs.Right.{IsRight}
use Rattle.bmimd_top.specs.Evaluating.{Evaluated, evaluated, ready_course}
use Rattle.bmimd_top.specs.Headline.{ReadsProgram, ReadsScript, ReadsMemory, ReadsImage}
use Rattle.bmimd_top.specs.Headline as says
use Rattle.compiled_image.specs.Compiled.{IsCompiled}
use Rattle.bmimd_top.specs.Running.{Begins, compiled_course, sourced_course}
use Rattle.bmimd_top.proofs.Sourced as sourced
use Rattle.bmimd_top.proofs.Sourced.{behind_source}
use Rattle.bmimd_top.proofs.Given.{judged, file-read}

-- ---- each course gives a value of the first contents, for which it asked

file-consumes : {A : Type 0} (name : List ℕ) (most : ℕ) (J : List ℕ → Result A Refused → Type 0) → Consumes (limited name most >>= (λ bytes. judge (J bytes)))
file-consumes name most J = then-consumes (limited name most) (λ bytes. judge (J bytes)) (limited-consumes name most) (λ bytes. judge-consumes (J bytes))

source-consumes : (name : List ℕ) → Consumes (source_course name)
source-consumes name = file-consumes name MOST_SOURCE_BYTES ReadsSource

machine-consumes : (word : MachineOf) → Consumes (machine_course word)
machine-consumes Default = give-consumes standard
machine-consumes (MachineFile name) = file-consumes name MOST_MACHINE_BYTES ReadsMachine

script-consumes : (word : ScriptOf) → Consumes (script_course word)
script-consumes Least = give-consumes rule.Least
script-consumes Most = give-consumes rule.Most
script-consumes (Seed n) = give-consumes (rule.Seed n)
script-consumes (ScriptFile name) = file-consumes name MOST_SCRIPT_BYTES scripts.ReadsScript

memory-consumes : (names : List Entry) (word : DataOf) → Consumes (memory_course names word)
memory-consumes names Declared = give-consumes (initial names)
memory-consumes names (DataFile name) = file-consumes name MOST_DATA_BYTES (ReadsData names)

pub loaded-consumes : (name : List ℕ) → Consumes (loaded_course name)
loaded-consumes name = file-consumes name MOST_IMAGE_BYTES LoadsImage

pub begun-consumes : (images : Course Program) (run : RunWordsOf) → Consumes images → Consumes (begun_course images run)
begun-consumes images run c =
    then-consumes images (begins_course run) c
    (λ image. then-consumes (script_course run.script) (behind_script run image) (script-consumes run.script)
    (λ script. then-consumes (memory_course image.names run.given) (λ memory. give (beginning image script memory)) (memory-consumes image.names run.given)
    (λ memory. give-consumes (beginning image script memory))))

pub sourced-consumes : (name : List ℕ) (word : MachineOf) (run : RunWordsOf) → Consumes (sourced_course name word run)
sourced-consumes name word run =
    then-consumes (source_course name) (behind_source word run) (source-consumes name)
    (λ p. then-consumes (machine_course word) (λ spec. compiled_course run spec p) (machine-consumes word)
    (λ spec. then-consumes (script_course run.script) (sourced.behind_script run spec p) (script-consumes run.script)
    (λ script. then-consumes (memory_course p.names run.given) (λ memory. judge (Begins spec p script memory)) (memory-consumes p.names run.given)
    (λ memory. judge-consumes (Begins spec p script memory)))))

module _ {A : Type 0} (J : Machine → RProgram → Result A Refused → Type 0) where
  -- a source and a machine, and what is judged of them
  abbrev pub both_course : List ℕ → MachineOf → Course A
  both_course name word = source_course name >>= (λ p. machine_course word >>= (λ spec. judge (J spec p)))

  pub both-consumes : (name : List ℕ) (word : MachineOf) → Consumes (both_course name word)
  both-consumes name word =
      then-consumes (source_course name) (λ p. machine_course word >>= (λ spec. judge (J spec p))) (source-consumes name)
      (λ p. then-consumes (machine_course word) (λ spec. judge (J spec p)) (machine-consumes word) (λ spec. judge-consumes (J spec p)))

pub ready-consumes : (name : List ℕ) (word : DataOf) → Consumes (ready_course name word)
ready-consumes name word =
    then-consumes (source_course name) (λ p. memory_course p.names word >>= (λ memory. give (evaluated p memory))) (source-consumes name)
    (λ p. then-consumes (memory_course p.names word) (λ memory. give (evaluated p memory)) (memory-consumes p.names word) (λ memory. give-consumes (evaluated p memory)))

-- ---- what was read

module _ (told : Option Held) where
  source-read : (name : List ℕ) (p : RProgram) → ReadTo told (source_course name) p → ReadsProgram told name p
  source-read name p r = let w = file-read told name MOST_SOURCE_BYTES ReadsSource p r in record { bytes = w.bytes; content = w.content; whole = w.whole; means = w.means }

  machine-read : (word : MachineOf) (m : Machine) → ReadTo told (machine_course word) m → says.ReadsMachine told word m
  machine-read Default m r = let e : Gives m [] ≡ Gives standard r.contents = r.gave in let v : m ≡ standard = cc in v
  machine-read (MachineFile name) m r = let w = file-read told name MOST_MACHINE_BYTES ReadsMachine m r in record { bytes = w.bytes; content = w.content; whole = w.whole; means = w.means }

  script-read : (word : ScriptOf) (s : Script) → ReadTo told (script_course word) s → ReadsScript told word s
  script-read Least s r = let e : Gives s [] ≡ Gives rule.Least r.contents = r.gave in let v : s ≡ rule.Least = cc in v
  script-read Most s r = let e : Gives s [] ≡ Gives rule.Most r.contents = r.gave in let v : s ≡ rule.Most = cc in v
  script-read (Seed n) s r = let e : Gives s [] ≡ Gives (rule.Seed n) r.contents = r.gave in let v : s ≡ rule.Seed n = cc in v
  script-read (ScriptFile name) s r = let w = file-read told name MOST_SCRIPT_BYTES scripts.ReadsScript s r in record { bytes = w.bytes; content = w.content; whole = w.whole; means = w.means }

  memory-read : (names : List Entry) (word : DataOf) (m : List Content) → ReadTo told (memory_course names word) m → ReadsMemory told names word m
  memory-read names Declared m r = let e : Gives m [] ≡ Gives (initial names) r.contents = r.gave in let v : m ≡ initial names = cc in v
  memory-read names (DataFile name) m r = let w = file-read told name MOST_DATA_BYTES (ReadsData names) m r in record { bytes = w.bytes; content = w.content; whole = w.whole; means = w.means }

  pub loaded-read : (name : List ℕ) (m : Program) → ReadTo told (loaded_course name) m → ReadsImage told name m
  loaded-read name m r = let w = file-read told name MOST_IMAGE_BYTES LoadsImage m r in record { bytes = w.bytes; content = w.content; whole = w.whole; means = w.means }

  -- what a run begins with
  pub record BegunRead (images : Course Program) (run : RunWordsOf) (b : Beginning) : Type 0 where
    pub image : ReadTo told images b.image
    pub timed : ReadsScript told run.script b.script
    pub given : ReadsMemory told b.image.names run.given b.memory

  pub begun-read : BeginningsHaveOneStep → (images : Course Program) (run : RunWordsOf) → IsDetermined images → Consumes images → GivesImages images → (b : Beginning) → ReadTo told (begun_course images run) b → BegunRead images run b
  begun-read one images run d c g b r =
      let h = halve told images (begins_course run) b d c r in
      let l : IsImage h.x = g h.first.contents [] h.x h.first.gave in
      let s = halve told (script_course run.script) (behind_script run h.x) b (one.script run.script) (script-consumes run.script) h.second in
      let m = halve told (memory_course h.x.names run.given) (λ memory. give (beginning h.x s.x memory)) b (one.memory h.x.names run.given l.names) (memory-consumes h.x.names run.given) s.second in
      let e : Gives b [] ≡ Gives (beginning h.x s.x m.x) m.second.contents = m.second.gave in
      let same : b ≡ beginning h.x s.x m.x = cc in
      let read : BegunRead images run (beginning h.x s.x m.x) = record { image = h.first; timed = script-read run.script s.x s.first; given = memory-read h.x.names run.given m.x m.first } in
      subst (BegunRead images run) (sym same) read

  -- what the run of a program begins with
  pub record SourcedRead (name : List ℕ) (word : MachineOf) (run : RunWordsOf) (b : Beginning) : Type 0 where
    pub program : RProgram
    pub source : ReadsProgram told name program
    pub machine : Machine
    pub named : says.ReadsMachine told word machine
    pub lawful : IsMachine machine
    pub compiled : IsCompiled machine program b.image
    pub timed : ReadsScript told run.script b.script
    pub given : ReadsMemory told b.image.names run.given b.memory

  pub sourced-read : BeginningsHaveOneStep → ((name : List ℕ) → IsDetermined (source_course name)) → ((word : MachineOf) → IsDetermined (machine_course word))
      → ((name : List ℕ) (contents rest : List (List ℕ)) (p : RProgram) → source_course name contents (Gives p rest) → IsRight p)
      → ((word : MachineOf) (contents rest : List (List ℕ)) (m : Machine) → machine_course word contents (Gives m rest) → IsMachine m) → (name : List ℕ) (word : MachineOf) (run : RunWordsOf) (b : Beginning)
      → ReadTo told (sourced_course name word run) b → SourcedRead name word run b
  sourced-read one sources machines right lawful name word run b r =
      let h = halve told (source_course name) (behind_source word run) b (sources name) (source-consumes name) r in
      let l : IsRight h.x = right name h.first.contents [] h.x h.first.gave in
      let k = halve told (machine_course word) (λ spec. compiled_course run spec h.x) b (machines word) (machine-consumes word) h.second in
      let s = halve told (script_course run.script) (sourced.behind_script run k.x h.x) b (one.script run.script) (script-consumes run.script) k.second in
      let m = halve told (memory_course h.x.names run.given) (λ memory. judge (Begins k.x h.x s.x memory)) b (one.memory h.x.names run.given l.names) (memory-consumes h.x.names run.given) s.second in
      let j = (judged (Begins k.x h.x s.x m.x) m.second.contents [] b m.second.gave).0 in
      let given : ReadsMemory told j.0.names run.given m.x = subst (λ names. ReadsMemory told names run.given m.x) (sym j.1.faithful.names) (memory-read h.x.names run.given m.x m.first) in
      record {
        program = h.x;
        source = source-read name h.x h.first;
        machine = k.x;
        named = machine-read word k.x k.first;
        lawful = lawful word k.first.contents [] k.x k.first.gave;
        compiled = subst (λ x. IsCompiled k.x h.x x.image) (sym j.2) j.1;
        timed = subst (λ x. ReadsScript told run.script x.script) (sym j.2) (script-read run.script s.x s.first);
        given = subst (λ x. ReadsMemory told x.image.names run.given x.memory) (sym j.2) given;
      }

  -- a source and data, with what comes of them
  pub record GivenRead (name : List ℕ) (word : DataOf) (e : Evaluated) : Type 0 where
    pub source : ReadsProgram told name e.program
    pub given : ReadsMemory told e.program.names word e.memory

  pub ready-read : BeginningsHaveOneStep → ((name : List ℕ) → IsDetermined (source_course name)) → ((name : List ℕ) (contents rest : List (List ℕ)) (p : RProgram) → source_course name contents (Gives p rest) → IsRight p) → (name : List ℕ) (word : DataOf) (e : Evaluated)
      → ReadTo told (ready_course name word) e → GivenRead name word e
  ready-read one sources right name word e r =
      let h = halve told (source_course name) (λ p. memory_course p.names word >>= (λ memory. give (evaluated p memory))) e (sources name) (source-consumes name) r in
      let l : IsRight h.x = right name h.first.contents [] h.x h.first.gave in
      let k = halve told (memory_course h.x.names word) (λ memory. give (evaluated h.x memory)) e (one.memory h.x.names word l.names) (memory-consumes h.x.names word) h.second in
      let g : Gives e [] ≡ Gives (evaluated h.x k.x) k.second.contents = k.second.gave in
      let same : e ≡ evaluated h.x k.x = cc in
      let read : GivenRead name word (evaluated h.x k.x) = record { source = source-read name h.x h.first; given = memory-read h.x.names word k.x k.first } in
      subst (GivenRead name word) (sym same) read

  -- a source and a machine
  pub record BothRead {A : Type 0} (J : Machine → RProgram → Result A Refused → Type 0) (name : List ℕ) (word : MachineOf) (x : A) : Type 0 where
    pub program : RProgram
    pub source : ReadsProgram told name program
    pub machine : Machine
    pub named : says.ReadsMachine told word machine
    pub lawful : IsMachine machine
    pub made : J machine program (Ok x)

  pub both-read : {A : Type 0} (J : Machine → RProgram → Result A Refused → Type 0) → ((name : List ℕ) → IsDetermined (source_course name)) → ((word : MachineOf) → IsDetermined (machine_course word))
      → ((word : MachineOf) (contents rest : List (List ℕ)) (m : Machine) → machine_course word contents (Gives m rest) → IsMachine m) → (name : List ℕ) (word : MachineOf) (x : A) → ReadTo told (both_course J name word) x → BothRead J name word x
  both-read J sources machines right name word x r =
      let h = halve told (source_course name) (λ p. machine_course word >>= (λ spec. judge (J spec p))) x (sources name) (source-consumes name) r in
      let k = halve told (machine_course word) (λ spec. judge (J spec h.x)) x (machines word) (machine-consumes word) h.second in
      record {
        program = h.x;
        source = source-read name h.x h.first;
        machine = k.x;
        named = machine-read word k.x k.first;
        lawful = right word k.first.contents [] k.x k.first.gave;
        made = (judged (J k.x h.x) k.second.contents [] x k.second.gave).0;
      }
