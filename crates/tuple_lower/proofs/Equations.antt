-- The tuples and the blocks of each kind of expression and statement.
use Rattle.std.proofs.Common.{◌≡◌, ℕ, ℤ, List, ap, sym, ◌∙◌}
use Rattle.bm_base.specs.declared.word.Un.{Un}
use Rattle.bm_base.specs.declared.word.Bin.{Bin}
use Rattle.src_names.specs.declared.resolved.RExpr.{RExpr, RExpr-F}
use Rattle.src_names.specs.declared.resolved.RExpr.TheFolds.{fold-roll-RExpr}
use Rattle.src_names.specs.declared.resolved.RExpr.TheVariants as e
use Rattle.src_names.specs.declared.resolved.RStmt.{RStmt, RStmt-F}
use Rattle.src_names.specs.declared.resolved.RStmt.TheFolds.{fold-roll-RStmt}
use Rattle.src_names.specs.declared.resolved.RStmt.TheVariants as s
use Rattle.tuple_lower.specs.Blocks.{Lowering, put, choice, repetition, lower_step, lower_stmt, lower_body}
use Rattle.tuple_lower.specs.Lowered.{Row, expr_tuples, expr_step, stmt_tuples, stmt_step}

pub tuples-number : (v : ℤ) → expr_tuples (e.Number v) ≡ expr_step (RExpr-F.Number v)
unfolding expr_tuples
tuples-number v = ap expr_tuples (sym (e.rolls-Number v)) ∙ fold-roll-RExpr Row expr_step _

pub tuples-var : (x : ℕ) → expr_tuples (e.Var x) ≡ expr_step (RExpr-F.Var x)
unfolding expr_tuples
tuples-var x = ap expr_tuples (sym (e.rolls-Var x)) ∙ fold-roll-RExpr Row expr_step _

pub tuples-element : (x : ℕ) (i : RExpr) → expr_tuples (e.Element x i) ≡ expr_step (RExpr-F.Element x (expr_tuples i))
unfolding expr_tuples
tuples-element x i = ap expr_tuples (sym (e.rolls-Element x i)) ∙ fold-roll-RExpr Row expr_step _

pub tuples-one : (op : Un) (a : RExpr) → expr_tuples (e.One op a) ≡ expr_step (RExpr-F.One op (expr_tuples a))
unfolding expr_tuples
tuples-one op a = ap expr_tuples (sym (e.rolls-One op a)) ∙ fold-roll-RExpr Row expr_step _

pub tuples-two : (op : Bin) (a b : RExpr) → expr_tuples (e.Two op a b) ≡ expr_step (RExpr-F.Two op (expr_tuples a) (expr_tuples b))
unfolding expr_tuples
tuples-two op a b = ap expr_tuples (sym (e.rolls-Two op a b)) ∙ fold-roll-RExpr Row expr_step _

pub tuples-assign : (x : ℕ) (v : RExpr) → stmt_tuples (s.Assign x v) ≡ stmt_step (RStmt-F.Assign x v)
unfolding stmt_tuples
tuples-assign x v = ap stmt_tuples (sym (s.rolls-Assign x v)) ∙ fold-roll-RStmt Row stmt_step _

pub tuples-set : (x : ℕ) (i v : RExpr) → stmt_tuples (s.SetElement x i v) ≡ stmt_step (RStmt-F.SetElement x i v)
unfolding stmt_tuples
tuples-set x i v = ap stmt_tuples (sym (s.rolls-SetElement x i v)) ∙ fold-roll-RStmt Row stmt_step _

pub tuples-print : (v : RExpr) → stmt_tuples (s.Print v) ≡ stmt_step (RStmt-F.Print v)
unfolding stmt_tuples
tuples-print v = ap stmt_tuples (sym (s.rolls-Print v)) ∙ fold-roll-RStmt Row stmt_step _

pub lower-assign : (x : ℕ) (v : RExpr) → lower_stmt (s.Assign x v) ≡ put (stmt_step (RStmt-F.Assign x v))
unfolding lower_stmt
lower-assign x v = ap lower_stmt (sym (s.rolls-Assign x v)) ∙ fold-roll-RStmt Lowering lower_step _

pub lower-set : (x : ℕ) (i v : RExpr) → lower_stmt (s.SetElement x i v) ≡ put (stmt_step (RStmt-F.SetElement x i v))
unfolding lower_stmt
lower-set x i v = ap lower_stmt (sym (s.rolls-SetElement x i v)) ∙ fold-roll-RStmt Lowering lower_step _

pub lower-print : (v : RExpr) → lower_stmt (s.Print v) ≡ put (stmt_step (RStmt-F.Print v))
unfolding lower_stmt
lower-print v = ap lower_stmt (sym (s.rolls-Print v)) ∙ fold-roll-RStmt Lowering lower_step _

pub lower-if : (c : RExpr) (ones others : List RStmt) → lower_stmt (s.If c ones others) ≡ choice (expr_tuples c) (lower_body ones) (lower_body others)
unfolding lower_stmt
lower-if c ones others = ap lower_stmt (sym (s.rolls-If c ones others)) ∙ fold-roll-RStmt Lowering lower_step _

pub lower-while : (c : RExpr) (body : List RStmt) → lower_stmt (s.While c body) ≡ repetition (expr_tuples c) (lower_body body)
unfolding lower_stmt
lower-while c body = ap lower_stmt (sym (s.rolls-While c body)) ∙ fold-roll-RStmt Lowering lower_step _
