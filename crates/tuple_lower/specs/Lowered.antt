-- The tuples of expressions and of statements without bodies. Each tuple is numbered by its place in its block.
use Rattle.std.specs.Prelude.{ℕ, ◌+◌, ◌-◌, List, [], ◌∷◌, ◌++◌, length}
use Rattle.src_names.specs.declared.resolved.RExpr.{RExpr, RExpr-F}
use Rattle.src_names.specs.declared.resolved.RExpr.TheFolds.{fold-RExpr}
use Rattle.src_names.specs.declared.resolved.RStmt.{RStmt, RStmt-F}
use Rattle.src_names.specs.declared.resolved.RStmt.TheFolds.{fold-RStmt}
use Rattle.tuple_ir.specs.declared.tuple.Tuple as t
use Rattle.tuple_ir.specs.declared.tuple.Tuple.TheVariants as tuple

-- tuples that stand from a number on
abbrev pub Row : Type 0
Row = ℕ → List t.Tuple

-- the number of the last of these tuples, which stand from number n on
abbrev pub last_of : ℕ → List t.Tuple → ℕ
last_of n ts = n + length ts - 1

-- One tuple a node, in the order operand, second operand, operator; an index comes before its element. The last tuple gives the value.
abbrev pub expr_step : RExpr-F Row → Row
expr_step (RExpr-F.Number v) n = tuple.Const v ∷ []
expr_step (RExpr-F.Var x) n = tuple.Load x ∷ []
expr_step (RExpr-F.Element x i) n = i n ++ tuple.LoadEl x (last_of n (i n)) ∷ []
expr_step (RExpr-F.One op a) n = a n ++ tuple.One op (last_of n (a n)) ∷ []
expr_step (RExpr-F.Two op a b) n = a n
    ++ (b (n + length (a n)) ++ tuple.Two op (last_of n (a n)) (last_of (n + length (a n)) (b (n + length (a n)))) ∷ [])

-- the tuples of an expression
unfoldable pub expr_tuples : RExpr → Row
expr_tuples = fold-RExpr Row expr_step

-- The tuples of the value, and then `store` or `print`; for an element those of the index, those of the value, and `storeel`. A statement
-- with bodies has no tuples of its own here.
abbrev pub stmt_step : RStmt-F Row → Row
stmt_step (RStmt-F.Assign x e) n = expr_tuples e n ++ tuple.Store x (last_of n (expr_tuples e n)) ∷ []
stmt_step (RStmt-F.SetElement x i e) n =
    expr_tuples i n ++ (expr_tuples e (n + length (expr_tuples i n))
    ++ tuple.StoreEl x (last_of n (expr_tuples i n)) (last_of (n
    + length (expr_tuples i n)) (expr_tuples e (n + length (expr_tuples i n)))) ∷ [])
stmt_step (RStmt-F.Print e) n = expr_tuples e n ++ tuple.Print (last_of n (expr_tuples e n)) ∷ []
stmt_step (RStmt-F.If c ones others) n = []
stmt_step (RStmt-F.While c body) n = []

-- the tuples of a statement
unfoldable pub stmt_tuples : RStmt → Row
stmt_tuples = fold-RStmt Row stmt_step
