-- How many nodes and statements there are.
use Rattle.std.specs.Prelude.{ℕ, ◌+◌, ◌≤◌, List, [], ◌∷◌, map}
use Rattle.bm_base.specs.declared.limits.TheConstants.{MOST_NODES}
use Rattle.src_names.specs.declared.resolved.RExpr.{RExpr, RExpr-F}
use Rattle.src_names.specs.declared.resolved.RExpr.TheFolds.{fold-RExpr}
use Rattle.src_names.specs.declared.resolved.RStmt.{RStmt, RStmt-F}
use Rattle.src_names.specs.declared.resolved.RStmt.TheFolds.{fold-RStmt}
use Rattle.src_names.specs.declared.resolved.RStmt.TheVariants as rs

abbrev pub nodes_step : RExpr-F ℕ → ℕ
nodes_step (RExpr-F.Number v) = 1
nodes_step (RExpr-F.Var id) = 1
nodes_step (RExpr-F.Element id i) = 1 + i
nodes_step (RExpr-F.One op a) = 1 + a
nodes_step (RExpr-F.Two op a b) = 1 + (a + b)

-- a number, a variable, an element and an operator are a node each
unfoldable pub nodes : RExpr → ℕ
nodes = fold-RExpr ℕ nodes_step

mutual
  -- The statement has at most 120 nodes, and so has each in its bodies. An assigned variable or element is none.
  pub data FewNodes : RStmt → Type 0 where
    assign : {id : ℕ} {x : RExpr} → nodes x ≤ MOST_NODES → FewNodes (rs.Assign id x)
    set : {id : ℕ} {i x : RExpr} → nodes i + nodes x ≤ MOST_NODES → FewNodes (rs.SetElement id i x)
    print : {x : RExpr} → nodes x ≤ MOST_NODES → FewNodes (rs.Print x)
    choose : {x : RExpr} {ys ns : List RStmt} → nodes x ≤ MOST_NODES → AllFewNodes ys → AllFewNodes ns → FewNodes (rs.If x ys ns)
    repeat : {x : RExpr} {ys : List RStmt} → nodes x ≤ MOST_NODES → AllFewNodes ys → FewNodes (rs.While x ys)

  pub data AllFewNodes : List RStmt → Type 0 where
    none : AllFewNodes []
    more : {z : RStmt} {zs : List RStmt} → FewNodes z → AllFewNodes zs → AllFewNodes (z ∷ zs)

abbrev pub total : List ℕ → ℕ
total [] = 0
total (n ∷ ns) = n + total ns

abbrev pub count_step : RStmt-F ℕ → ℕ
count_step (RStmt-F.Assign id x) = 1
count_step (RStmt-F.SetElement id i x) = 1
count_step (RStmt-F.Print x) = 1
count_step (RStmt-F.If c ys ns) = 1 + (total ys + total ns)
count_step (RStmt-F.While c ss) = 1 + total ss

-- a statement and those in its bodies
unfoldable pub count_of : RStmt → ℕ
count_of = fold-RStmt ℕ count_step

-- the statements of a body, and those in their bodies
abbrev pub statements : List RStmt → ℕ
statements body = total (map count_of body)
