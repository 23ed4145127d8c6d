-- What the type of a resolved program keeps.
use Rattle.std.specs.Prelude.{◌≡◌, ℕ, ℤ, List, [], ◌∷◌, Some, slice_get}
use Rattle.bm_base.specs.declared.word.Un.{Un}
use Rattle.bm_base.specs.declared.word.Bin.{Bin}
use Rattle.bm_base.specs.Entry.{Entry}
use Rattle.bm_base.specs.Names.{AreNames, IsVariableOf, IsArrayOf}
use Rattle.src_names.specs.declared.resolved.RExpr.{RExpr}
use Rattle.src_names.specs.declared.resolved.RExpr.TheVariants as re
use Rattle.src_names.specs.declared.resolved.RStmt.{RStmt}
use Rattle.src_names.specs.declared.resolved.RStmt.TheVariants as rs
use Rattle.src_names.specs.RProgram.{RProgram}

module _ (names : List Entry) where
  -- each name number is declared, and of the right kind
  pub data RightExpr : RExpr → Type 0 where
    number : {v : ℤ} → RightExpr (re.Number v)
    var : {id : ℕ} → IsVariableOf names id → RightExpr (re.Var id)
    element : {id : ℕ} {i : RExpr} → IsArrayOf names id → RightExpr i → RightExpr (re.Element id i)
    one : {op : Un} {a : RExpr} → RightExpr a → RightExpr (re.One op a)
    two : {op : Bin} {a b : RExpr} → RightExpr a → RightExpr b → RightExpr (re.Two op a b)

  mutual
    pub data RightStmt : RStmt → Type 0 where
      assign : {id : ℕ} {x : RExpr} → IsVariableOf names id → RightExpr x → RightStmt (rs.Assign id x)
      set : {id : ℕ} {i x : RExpr} → IsArrayOf names id → RightExpr i → RightExpr x → RightStmt (rs.SetElement id i x)
      print : {x : RExpr} → RightExpr x → RightStmt (rs.Print x)
      choose : {x : RExpr} {ys ns : List RStmt} → RightExpr x → RightBody ys → RightBody ns → RightStmt (rs.If x ys ns)
      repeat : {x : RExpr} {ys : List RStmt} → RightExpr x → RightBody ys → RightStmt (rs.While x ys)

    pub data RightBody : List RStmt → Type 0 where
      none : RightBody []
      more : {z : RStmt} {zs : List RStmt} → RightStmt z → RightBody zs → RightBody (z ∷ zs)

-- lawful names, and each name number in the statements is declared and of the right kind
pub record IsRight (r : RProgram) : Type 0 where
  pub names : AreNames r.names
  pub body : RightBody r.names r.body
