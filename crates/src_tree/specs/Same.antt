-- Trees that are the same, places aside.
use Rattle.std.specs.Prelude.{◌≡◌, ℤ, List, [], ◌∷◌}
use Rattle.bm_base.specs.declared.word.Un.{Un}
use Rattle.bm_base.specs.declared.word.Bin.{Bin}
use Rattle.src_tree.specs.declared.tree.Ident.{Ident}
use Rattle.src_tree.specs.declared.tree.Expr.{Expr}
use Rattle.src_tree.specs.declared.tree.Expr.TheVariants as e
use Rattle.src_tree.specs.declared.tree.Stmt.{Stmt}
use Rattle.src_tree.specs.declared.tree.Stmt.TheVariants as s
use Rattle.src_tree.specs.declared.tree.Decl.{Decl}
use Rattle.src_tree.specs.declared.tree.Decl.TheVariants as d
use Rattle.src_tree.specs.declared.tree.Program.{Program}

-- the same name
pub record SameName (m n : Ident) : Type 0 where
  pub text : m.text ≡ n.text

pub data SameExpr : Expr → Expr → Type 0 where
  number : {v : ℤ} → SameExpr (e.Number v) (e.Number v)
  var : {m n : Ident} → SameName m n → SameExpr (e.Var m) (e.Var n)
  element : {m n : Ident} {i j : Expr} → SameName m n → SameExpr i j → SameExpr (e.Element m i) (e.Element n j)
  one : {op : Un} {a b : Expr} → SameExpr a b → SameExpr (e.One op a) (e.One op b)
  two : {op : Bin} {a b c d : Expr} → SameExpr a c → SameExpr b d → SameExpr (e.Two op a b) (e.Two op c d)

mutual
  pub data SameStmt : Stmt → Stmt → Type 0 where
    assign : {m n : Ident} {x z : Expr} → SameName m n → SameExpr x z → SameStmt (s.Assign m x) (s.Assign n z)
    set : {m n : Ident} {i j x z : Expr} → SameName m n → SameExpr i j → SameExpr x z → SameStmt (s.SetElement m i x) (s.SetElement n j z)
    print : {x z : Expr} → SameExpr x z → SameStmt (s.Print x) (s.Print z)
    choose : {x z : Expr} {ks ms us vs : List Stmt} → SameExpr x z → SameBody ks us → SameBody ms vs
        → SameStmt (s.If x ks ms) (s.If z us vs)
    repeat : {x z : Expr} {us vs : List Stmt} → SameExpr x z → SameBody us vs → SameStmt (s.While x us) (s.While z vs)

  pub data SameBody : List Stmt → List Stmt → Type 0 where
    none : SameBody [] []
    more : {x z : Stmt} {us vs : List Stmt} → SameStmt x z → SameBody us vs → SameBody (x ∷ us) (z ∷ vs)

abbrev pub SameDecl : Decl → Decl → Type 0
SameDecl (d.Var m v) (d.Var n w) = SameName m n × (v ≡ w)
SameDecl (d.Array m v) (d.Array n w) = SameName m n × (v ≡ w)
SameDecl _ _ = ⊥

abbrev pub SameDecls : List Decl → List Decl → Type 0
SameDecls [] [] = Unit {0}
SameDecls (x ∷ us) (z ∷ vs) = SameDecl x z × SameDecls us vs
SameDecls _ _ = ⊥

-- the same declarations and statements
pub record IsSame (p q : Program) : Type 0 where
  pub decls : SameDecls p.decls q.decls
  pub body : SameBody p.body q.body
