-- The ranges of the numbers in a resolved program.
use Rattle.std.specs.Prelude.{ℕ, ◌≤◌, ℤ, List, [], ◌∷◌}
use Rattle.std.specs.List.{AllByRecursion}
use Rattle.std.specs.Int.{w64}
use Rattle.std.specs.Int.RustNames.{FitsSigned}
use Rattle.bm_base.specs.declared.word.Un.{Un}
use Rattle.bm_base.specs.declared.word.Bin.{Bin}
use Rattle.bm_base.specs.declared.names.Kind.{Kind}
use Rattle.bm_base.specs.declared.names.Kind.TheVariants.{Var, Array}
use Rattle.bm_base.specs.Entry.{Entry}
use Rattle.src_names.specs.declared.resolved.RExpr.{RExpr}
use Rattle.src_names.specs.declared.resolved.RExpr.TheVariants as re
use Rattle.src_names.specs.declared.resolved.RStmt.{RStmt}
use Rattle.src_names.specs.declared.resolved.RStmt.TheVariants as rs
use Rattle.src_names.specs.RProgram.{RProgram}

-- an initial value is a word, a length is below 2^32
abbrev pub KindInRange : Kind → Type 0
KindInRange (Var initial) = FitsSigned w64 initial
KindInRange (Array len) = len ≤ 4294967295

-- each number is a word
pub data ExprInRange : RExpr → Type 0 where
  number : {v : ℤ} → FitsSigned w64 v → ExprInRange (re.Number v)
  var : {id : ℕ} → ExprInRange (re.Var id)
  element : {id : ℕ} {i : RExpr} → ExprInRange i → ExprInRange (re.Element id i)
  one : {op : Un} {a : RExpr} → ExprInRange a → ExprInRange (re.One op a)
  two : {op : Bin} {a b : RExpr} → ExprInRange a → ExprInRange b → ExprInRange (re.Two op a b)

mutual
  pub data StmtInRange : RStmt → Type 0 where
    assign : {id : ℕ} {x : RExpr} → ExprInRange x → StmtInRange (rs.Assign id x)
    set : {id : ℕ} {i x : RExpr} → ExprInRange i → ExprInRange x → StmtInRange (rs.SetElement id i x)
    print : {x : RExpr} → ExprInRange x → StmtInRange (rs.Print x)
    choose : {x : RExpr} {ys ns : List RStmt} → ExprInRange x → BodyInRange ys → BodyInRange ns → StmtInRange (rs.If x ys ns)
    repeat : {x : RExpr} {ys : List RStmt} → ExprInRange x → BodyInRange ys → StmtInRange (rs.While x ys)

  pub data BodyInRange : List RStmt → Type 0 where
    none : BodyInRange []
    more : {z : RStmt} {zs : List RStmt} → StmtInRange z → BodyInRange zs → BodyInRange (z ∷ zs)

-- each declared kind is in range, and each number in the statements is a word
pub record IsInRange (r : RProgram) : Type 0 where
  pub kinds : AllByRecursion (λ (e : Entry). KindInRange e.kind) r.names
  pub body : BodyInRange r.body
