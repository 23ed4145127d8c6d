-- Which resolved program a tree is named by.
use Rattle.std.specs.Prelude.{◌≡◌, ℕ, ◌≤◌, ℤ, List, [], ◌∷◌, Some, slice_get, length}
use Rattle.bm_base.specs.declared.limits.TheConstants.{MOST_NAMES}
use Rattle.bm_base.specs.declared.word.Un.{Un}
use Rattle.bm_base.specs.declared.word.Bin.{Bin}
use Rattle.bm_base.specs.declared.names.Kind.TheVariants as k
use Rattle.bm_base.specs.Entry.{Entry}
use Rattle.src_tree.specs.declared.tree.Ident.{Ident}
use Rattle.src_tree.specs.declared.tree.Expr.{Expr}
use Rattle.src_tree.specs.declared.tree.Expr.TheVariants as e
use Rattle.src_tree.specs.declared.tree.Stmt.{Stmt}
use Rattle.src_tree.specs.declared.tree.Stmt.TheVariants as s
use Rattle.src_tree.specs.declared.tree.Program.{Program}
use Rattle.src_names.specs.declared.resolved.RExpr.{RExpr}
use Rattle.src_names.specs.declared.resolved.RExpr.TheVariants as re
use Rattle.src_names.specs.declared.resolved.RStmt.{RStmt}
use Rattle.src_names.specs.declared.resolved.RStmt.TheVariants as rs
use Rattle.src_names.specs.RProgram.{RProgram}
use Rattle.src_names.specs.Declarations.{AreDeclared}
use Rattle.bm_base.specs.Names.{AreInRange}

-- the identifier is the variable of this number
pub record IsVar (names : List Entry) (n : Ident) (id : ℕ) : Type 0 where
  pub initial : ℤ
  pub here : slice_get names id ≡ Some (record { name = n.text; kind = k.Var initial })

-- the identifier is the array of this number
pub record IsArray (names : List Entry) (n : Ident) (id : ℕ) : Type 0 where
  pub len : ℕ
  pub here : slice_get names id ≡ Some (record { name = n.text; kind = k.Array len })

module _ (names : List Entry) where
  -- the same expression, with a number in the place of each identifier
  pub data NamedExpr : Expr → RExpr → Type 0 where
    number : {v : ℤ} → NamedExpr (e.Number v) (re.Number v)
    var : {n : Ident} {id : ℕ} → IsVar names n id → NamedExpr (e.Var n) (re.Var id)
    element : {n : Ident} {id : ℕ} {i : Expr} {j : RExpr} →
        IsArray names n id → NamedExpr i j → NamedExpr (e.Element n i) (re.Element id j)
    one : {op : Un} {a : Expr} {x : RExpr} → NamedExpr a x → NamedExpr (e.One op a) (re.One op x)
    two : {op : Bin} {a b : Expr} {x z : RExpr} → NamedExpr a x → NamedExpr b z → NamedExpr (e.Two op a b) (re.Two op x z)

  mutual
    pub data NamedStmt : Stmt → RStmt → Type 0 where
      assign : {n : Ident} {id : ℕ} {a : Expr} {x : RExpr} →
          IsVar names n id → NamedExpr a x → NamedStmt (s.Assign n a) (rs.Assign id x)
      set : {n : Ident} {id : ℕ} {i a : Expr} {j x : RExpr} →
          IsArray names n id → NamedExpr i j → NamedExpr a x → NamedStmt (s.SetElement n i a) (rs.SetElement id j x)
      print : {a : Expr} {x : RExpr} → NamedExpr a x → NamedStmt (s.Print a) (rs.Print x)
      choose : {a : Expr} {x : RExpr} {us ws : List Stmt} {ys ns : List RStmt} →
          NamedExpr a x → NamedBody us ys → NamedBody ws ns → NamedStmt (s.If a us ws) (rs.If x ys ns)
      repeat : {a : Expr} {x : RExpr} {us : List Stmt} {ys : List RStmt} →
          NamedExpr a x → NamedBody us ys → NamedStmt (s.While a us) (rs.While x ys)

    pub data NamedBody : List Stmt → List RStmt → Type 0 where
      none : NamedBody [] []
      more : {u : Stmt} {z : RStmt} {us : List Stmt} {zs : List RStmt} →
          NamedStmt u z → NamedBody us zs → NamedBody (u ∷ us) (z ∷ zs)

-- The tree is named by the resolved program: at most 1024 declarations, no name twice, sizes of arrays in range, and each use declared,
-- of the right kind, and replaced by its number.
pub record IsNamed (p : Program) (r : RProgram) : Type 0 where
  pub few : length r.names ≤ MOST_NAMES
  pub declared : AreDeclared p.decls r.names
  pub range : AreInRange r.names
  pub body : NamedBody r.names p.body r.body
