-- What the run of a program begins with.
use Rattle.std.proofs.Common.{ℕ, List, Ok, sym, subst}
use Rattle.bm_base.specs.Machine.{Machine}
use Rattle.bm_base.specs.Memory.{Content}
use Rattle.bm_base.specs.Memories.{IsMemoryOf}
use Rattle.timing_script.specs.declared.script.Script.{Script}
use Rattle.bm_words.specs.Table.{MachineOf, RunWordsOf}
use Rattle.bm_course.specs.Course.{Course, Gives, ◌>>=◌, judge}
use Rattle.bm_course.specs.Laws.{Bounds}
use Rattle.bm_course.proofs.Bounds.{then-bounds, judge-bounds}
use Rattle.src_names.specs.RProgram.{RProgram}
use Rattle.src_names.specs.Right as source
use Rattle.bm_inputs.specs.Sources.{source_course}
use Rattle.bm_inputs.specs.Machines.{machine_course}
use Rattle.bm_inputs.proofs.Courses.{refusal, source-bounds, machine-bounds}
use Rattle.bm_inputs.specs.Scripts.{script_course}
use Rattle.bm_inputs.specs.Memories.{memory_course}
use Rattle.bm_inputs.specs.Beginning.{Beginning}
use Rattle.bm_inputs.specs.BeginningLaws.{MemoriesAreRight}
use Rattle.bm_inputs.proofs.Scripts.{script-bounds}
use Rattle.bm_inputs.proofs.Memories.{memory-bounds}
use Rattle.bm_inputs.proofs.Beginnings.{IsRight}
use Rattle.bmimd_top.specs.Running.{Begins, compiled_course, sourced_course}

-- what comes behind the source, and behind the script
abbrev pub behind_source : MachineOf → RunWordsOf → RProgram → Course Beginning
behind_source word run p = machine_course word >>= (λ spec. compiled_course run spec p)

abbrev pub behind_script : RunWordsOf → Machine → RProgram → Script → Course Beginning
behind_script run spec p script = memory_course p.names run.given >>= (λ memory. judge (Begins spec p script memory))

module _ (name : List ℕ) (word : MachineOf) (run : RunWordsOf) where
  bounds-by : (N : RProgram → Type 0) (M : RProgram → List Content → Type 0) (Q : Beginning → Type 0) → Bounds refusal N (source_course name) → ((p : RProgram) → N p → Bounds refusal (M p) (memory_course p.names run.given))
      → ((spec : Machine) (p : RProgram) (script : Script) (memory : List Content) (b : Beginning) → M p memory → Begins spec p script memory (Ok b) → Q b) → Bounds refusal Q (sourced_course name word run)
  bounds-by N M Q s d q =
      then-bounds refusal N Q (source_course name) (behind_source word run) s
      (λ p n. then-bounds refusal (λ m. Unit {0}) Q (machine_course word) (λ spec. compiled_course run spec p) (machine-bounds word)
      (λ spec u. then-bounds refusal (λ x. Unit {0}) Q (script_course run.script) (behind_script run spec p) (script-bounds run.script)
      (λ script t. then-bounds refusal (M p) Q (memory_course p.names run.given) (λ memory. judge (Begins spec p script memory)) (d p n)
      (λ memory m. judge-bounds refusal Q (Begins spec p script memory) (λ b h. q spec p script memory b m h) (λ r h. absurd h)))))

  pub sourced-bounds : Bounds refusal (λ b. Unit {0}) (sourced_course name word run)
  sourced-bounds =
      bounds-by (λ p. Unit {0}) (λ p m. Unit {0}) (λ b. Unit {0}) (source-bounds name) (λ p n. memory-bounds p.names run.given) (λ spec p script memory b m h. tt)

  -- it is an image, with a memory of its names
  pub sourced-right : ((name : List ℕ) (contents rest : List (List ℕ)) (p : RProgram) → source_course name contents (Gives p rest) → source.IsRight p) → MemoriesAreRight → Bounds refusal IsRight (sourced_course name word run)
  sourced-right right memories =
      bounds-by source.IsRight (λ p memory. IsMemoryOf p.names memory) IsRight (record { refuses = (source-bounds name).refuses; gives = right name })
      (λ p n. record { refuses = (memory-bounds p.names run.given).refuses; gives = memories p.names run.given n.names })
      (λ spec p script memory b m h.
      subst IsRight (sym h.2) (record { image = h.1.lawful; memory = subst (λ names. IsMemoryOf names memory) (sym h.1.faithful.names) m }))
