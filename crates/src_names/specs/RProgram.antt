-- What a resolved program is.
use Rattle.std.specs.Prelude.{List}
use Rattle.bm_base.specs.Entry.{Entry}
use Rattle.src_names.specs.declared.resolved.RStmt.{RStmt}

-- the declared names, by number, and the statements
pub record RProgram : Type 0 where
  pub names : List Entry
  pub body : List RStmt
