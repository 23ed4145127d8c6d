-- What a run begins with, behind its image.
use Rattle.std.proofs.Common.{◌≡◌, ℕ, List, Result, subst}
use Rattle.bm_base.specs.Entry.{Entry}
use Rattle.bm_base.specs.Memory.{Content}
use Rattle.bm_base.specs.Memories.{IsMemoryOf}
use Rattle.bm_io.specs.Files.{Held}
use Rattle.unit_law.specs.State.{Program}
use Rattle.timing_script.specs.declared.script.Script.{Script}
use Rattle.stream_image.specs.Image.{IsImage}
use Rattle.bm_words.specs.Table.{RunWordsOf, DataOf}
use Rattle.bm_course.specs.declared.refusal.Stop.{Stop}
use Rattle.bm_course.specs.Course.{Course, Gives, ◌>>=◌, give}
use Rattle.bm_course.specs.Laws.{IsDetermined, Settles, Bounds}
use Rattle.bm_course.specs.Seen.{FilesSeen}
use Rattle.bm_course.specs.Ends.{Comes}
use Rattle.bm_course.proofs.Settling.{then-determined, then-determined-of, give-determined}
use Rattle.bm_course.proofs.Leading.{then-settles, give-settles}
use Rattle.bm_course.proofs.Bounds.{then-bounds, give-bounds}
use Rattle.bm_inputs.specs.Scripts.{script_course}
use Rattle.bm_inputs.specs.Memories.{memory_course, IsMemory}
use Rattle.bm_inputs.specs.Beginning.{Beginning, beginning, begins_course, begun_course}
use Rattle.bm_inputs.specs.BeginningLaws.{BeginningsHaveOneStep, BeginningsSettle, MemoriesAreRight}
use Rattle.bm_inputs.proofs.BeginningStatuses.{refusal}
use Rattle.bm_inputs.proofs.Scripts.{script-bounds}
use Rattle.bm_inputs.proofs.Memories.{memory-bounds}

-- the data, and then all
abbrev pub behind_script : RunWordsOf → Program → Script → Course Beginning
behind_script run image script = memory_course image.names run.given >>= (λ memory. give (beginning image script memory))

-- the memory of the same names
pub by_names : (before now : FilesSeen) (word : DataOf) (names others : List Entry) (r : Result (List Content) Stop) → names ≡ others → Comes IsMemory before now (memory_course names word) r → Comes IsMemory before now (memory_course others word) r
by_names before now word names others r e h = subst (λ n. Comes IsMemory before now (memory_course n word) r) e h

-- an image, and a memory of its names
pub record IsRight (b : Beginning) : Type 0 where
  pub image : IsImage b.image
  pub memory : IsMemoryOf b.image.names b.memory

-- what the course gives keeps what an image keeps
abbrev pub GivesImages : Course Program → Type 0
GivesImages images = (contents rest : List (List ℕ)) (m : Program) → images contents (Gives m rest) → IsImage m

module _ (run : RunWordsOf) where
  pub begun-determined : BeginningsHaveOneStep → (images : Course Program) → IsDetermined images → GivesImages images → IsDetermined (begun_course images run)
  begun-determined one images d g =
      then-determined-of IsImage images (begins_course run) d g
      (λ image l. then-determined (script_course run.script) (behind_script run image) (one.script run.script)
      (λ script. then-determined (memory_course image.names run.given) (λ memory. give (beginning image script memory)) (one.memory image.names run.given l.names) (λ memory. give-determined (beginning image script memory))))

  pub begun-settles : BeginningsSettle → (held : Held) (images : Course Program) → Settles held images → GivesImages images → Settles held (begun_course images run)
  begun-settles some held images s g =
      then-settles held IsImage images (begins_course run) g s
      (λ image l. then-settles held (λ x. Unit {0}) (script_course run.script) (behind_script run image) (λ contents rest x h. tt) (some.script held run.script)
      (λ script t. then-settles held (λ x. Unit {0}) (memory_course image.names run.given) (λ memory. give (beginning image script memory)) (λ contents rest m h. tt) (some.memory held image.names run.given l.names)
      (λ memory u. give-settles held (beginning image script memory))))

  pub begun-right : MemoriesAreRight → (images : Course Program) → Bounds refusal IsImage images → Bounds refusal IsRight (begun_course images run)
  begun-right right images b =
      then-bounds refusal IsImage IsRight images (begins_course run) b
      (λ image l. then-bounds refusal (λ x. Unit {0}) IsRight (script_course run.script) (behind_script run image) (script-bounds run.script)
      (λ script t. then-bounds refusal (IsMemoryOf image.names) IsRight (memory_course image.names run.given) (λ memory. give (beginning image script memory))
      (record { refuses = (memory-bounds image.names run.given).refuses; gives = right image.names run.given l.names })
      (λ memory m. give-bounds refusal IsRight (beginning image script memory) (record { image = l; memory = m }))))

  pub begun-bounds : (images : Course Program) (Q : Program → Type 0) → Bounds refusal Q images → Bounds refusal (λ b. Unit {0}) (begun_course images run)
  begun-bounds images Q b =
      then-bounds refusal Q (λ x. Unit {0}) images (begins_course run) b
      (λ image q. then-bounds refusal (λ x. Unit {0}) (λ x. Unit {0}) (script_course run.script) (behind_script run image) (script-bounds run.script)
      (λ script t. then-bounds refusal (λ x. Unit {0}) (λ x. Unit {0}) (memory_course image.names run.given) (λ memory. give (beginning image script memory)) (memory-bounds image.names run.given)
      (λ memory m. give-bounds refusal (λ x. Unit {0}) (beginning image script memory) tt)))
