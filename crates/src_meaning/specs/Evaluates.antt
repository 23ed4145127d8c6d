-- What an evaluation answers and leaves.
use Rattle.std.specs.Prelude.{ℕ, ◌≡◌, ℤ, List, Bool, IsTrue, Result, IfOk, OnOk, IsOk}
use Rattle.bm_base.specs.Memory.{Content}
use Rattle.bm_base.specs.Entry.{Entry}
use Rattle.bm_io.specs.declared.sinks.SinkFault.{SinkFault}
use Rattle.bm_io.specs.declared.sinks.SinkFault.TheVariants.{Failed}
use Rattle.bm_io.specs.Causes.{HasCause}
use Rattle.bm_io.specs.Values.{Took}
use Rattle.bm_base.specs.Memories.{IsMemoryOf}
use Rattle.src_names.specs.Right.{RightExpr, RightStmt, RightBody}
use Rattle.src_names.specs.declared.resolved.RExpr.{RExpr}
use Rattle.src_names.specs.declared.resolved.RStmt.{RStmt}
use Rattle.src_meaning.specs.declared.evaluate.End.{End}
use Rattle.src_meaning.specs.Meaning.{Outcome}

-- what is seen before and after an evaluation: what the values hold and their faults, the turns that are left, and the memory
pub record View (Held : Type 0) : Type 0 where
  pub held : Held
  pub faults : ℕ
  pub turns : ℕ
  pub memory : List Content

abbrev pub seen : {Held : Type 0} → Held → ℕ → ℕ → List Content → View Held
seen held faults turns memory = record { held = held; faults = faults; turns = turns; memory = memory }

-- The words of the outcome were taken, up to the first that was refused. Where none was, the answer is how the outcome ends, with its
-- turns and its memory. A memory of some names stays one in every case.
pub record Evaluates {Held : Type 0} (next : Held → ℤ → Held) (leaves : SinkFault → Held → ℤ → Held
    → Type 0) (is_sure : Bool) (before now : View Held) (outcome : Outcome) (result : Result End SinkFault) : Type 0 where
  pub took : Took next leaves before.held now.held outcome.output result
  pub end : IfOk result (λ end. end ≡ outcome.end)
  pub turns : OnOk result (now.turns ≡ outcome.turns)
  pub memory : OnOk result (now.memory ≡ outcome.memory)
  pub names : (names : List Entry) → IsMemoryOf names before.memory → IsMemoryOf names now.memory
  pub cause : HasCause Failed before.faults now.faults result
  pub sure : IsTrue is_sure → IsOk result

-- the memory is of some names that an expression uses rightly
pub record SuitsExpr (x : RExpr) (memory : List Content) : Type 0 where
  pub names : List Entry
  pub right : RightExpr names x
  pub holds : IsMemoryOf names memory

-- the same of a statement
pub record SuitsStmt (z : RStmt) (memory : List Content) : Type 0 where
  pub names : List Entry
  pub right : RightStmt names z
  pub holds : IsMemoryOf names memory

-- the same of statements
pub record SuitsBody (body : List RStmt) (memory : List Content) : Type 0 where
  pub names : List Entry
  pub right : RightBody names body
  pub holds : IsMemoryOf names memory
