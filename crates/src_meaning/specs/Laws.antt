-- What more turns do to the outcome of a program.
use Rattle.std.specs.Prelude.{ℕ, ◌≡◌, ◌+◌, ◌≤◌, true, false, ℤ, List, ◌++◌}
use Rattle.bm_base.specs.Memory.{Content}
use Rattle.src_names.specs.RProgram.{RProgram}
use Rattle.src_names.specs.declared.resolved.RExpr.{RExpr}
use Rattle.src_names.specs.declared.resolved.RStmt.{RStmt}
use Rattle.src_names.specs.declared.resolved.RStmt.TheVariants.{While}
use Rattle.src_meaning.specs.declared.evaluate.End.TheVariants.{Done}
use Rattle.src_meaning.specs.Meaning.{Outcome, done, stopped, and_then, is_zero, value_of, statement, statements, meaning}

-- the words of the second outcome go on where those of the first end
pub record Prints (front whole : List ℤ) : Type 0 where
  pub rest : List ℤ
  pub whole_is : whole ≡ front ++ rest

-- done with the same memory and the same output
pub record IsDoneAs (o done : Outcome) : Type 0 where
  pub end : o.end ≡ Done
  pub memory : o.memory ≡ done.memory
  pub output : o.output ≡ done.output

-- with one turn more the output goes on
abbrev pub TurnsAddOutput : Type 0
TurnsAddOutput = (p : RProgram) (memory : List Content) (turns : ℕ)
    → Prints (meaning p memory turns).output (meaning p memory (turns + 1)).output

-- what is done stays so with more turns
abbrev pub DoneStays : Type 0
DoneStays = (p : RProgram) (memory : List Content) (turns more : ℕ) → (meaning p memory turns).end ≡ Done → turns ≤ more
    → IsDoneAs (meaning p memory more) (meaning p memory turns)

-- What a loop means. Where its test is 0 it is done. Where the test is not 0 and no turn is left, more is to come; otherwise one turn is
-- spent, the body runs, and then the same loop with the turns that are left.
pub record LoopsGoRound : Type 0 where
  pub ends : (c : RExpr) (body : List RStmt) (turns : ℕ) (memory : List Content) → is_zero (value_of c memory) ≡ true
      → statement (While c body) turns memory ≡ done turns memory
  pub stops : (c : RExpr) (body : List RStmt) (memory : List Content) → is_zero (value_of c memory) ≡ false
      → statement (While c body) 0 memory ≡ stopped 0 memory
  pub goes_on : (c : RExpr) (body : List RStmt) (turns : ℕ) (memory : List Content) → is_zero (value_of c memory) ≡ false
      → statement (While c body) (turns + 1) memory ≡ and_then (statements body turns memory) (statement (While c body))
