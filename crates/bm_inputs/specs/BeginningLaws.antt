-- The laws of scripts and of data.
use Rattle.std.specs.Prelude.{ℕ, List}
use Rattle.bm_base.specs.Entry.{Entry}
use Rattle.bm_base.specs.Memory.{Content}
use Rattle.bm_base.specs.Memories.{IsMemoryOf}
use Rattle.bm_base.specs.Names.{AreNames}
use Rattle.bm_io.specs.Files.{Held}
use Rattle.bm_words.specs.Table.{ScriptOf, DataOf}
use Rattle.bm_course.specs.Course.{Gives}
use Rattle.bm_course.specs.Laws.{IsDetermined, Settles}
use Rattle.bm_inputs.specs.Scripts.{script_course}
use Rattle.bm_inputs.specs.Memories.{memory_course}

-- after the same contents each comes to at most one step
pub record BeginningsHaveOneStep : Type 0 where
  pub script : (word : ScriptOf) → IsDetermined (script_course word)
  pub memory : (names : List Entry) (word : DataOf) → AreNames names → IsDetermined (memory_course names word)

-- whatever the held files hold, they lead each to a refusal or a value
pub record BeginningsSettle : Type 0 where
  pub script : (held : Held) (word : ScriptOf) → Settles held (script_course word)
  pub memory : (held : Held) (names : List Entry) (word : DataOf) → AreNames names → Settles held (memory_course names word)

-- a memory that is given to lawful names is one of these names
abbrev pub MemoriesAreRight : Type 0
MemoriesAreRight = (names : List Entry) (word : DataOf) → AreNames names → (contents rest : List (List ℕ)) (memory : List Content)
    → memory_course names word contents (Gives memory rest) → IsMemoryOf names memory
