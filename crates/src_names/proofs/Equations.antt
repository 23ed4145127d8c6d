-- The uses of names in each kind of expression and statement.
use Rattle.std.proofs.Common.{◌≡◌, ℤ, ap, sym, ◌∙◌, List, map}
use Rattle.bm_base.specs.declared.word.Un.{Un}
use Rattle.bm_base.specs.declared.word.Bin.{Bin}
use Rattle.src_tree.specs.declared.tree.Ident.{Ident}
use Rattle.src_tree.specs.declared.tree.Expr.{Expr, Expr-F}
use Rattle.src_tree.specs.declared.tree.Expr.TheFolds.{fold-roll-Expr}
use Rattle.src_tree.specs.declared.tree.Expr.TheVariants as e
use Rattle.src_tree.specs.declared.tree.Stmt.{Stmt, Stmt-F}
use Rattle.src_tree.specs.declared.tree.Stmt.TheFolds.{fold-roll-Stmt}
use Rattle.src_tree.specs.declared.tree.Stmt.TheVariants as s
use Rattle.src_names.specs.Fault.{Use, uses, uses_step, stmt_uses, stmt_step}

pub uses-number : (v : ℤ) → uses (e.Number v) ≡ uses_step (Expr-F.Number v)
unfolding uses
uses-number v = ap uses (sym (e.rolls-Number v)) ∙ fold-roll-Expr (List Use) uses_step _

pub uses-var : (n : Ident) → uses (e.Var n) ≡ uses_step (Expr-F.Var n)
unfolding uses
uses-var n = ap uses (sym (e.rolls-Var n)) ∙ fold-roll-Expr (List Use) uses_step _

pub uses-element : (n : Ident) (i : Expr) → uses (e.Element n i) ≡ uses_step (Expr-F.Element n (uses i))
unfolding uses
uses-element n i = ap uses (sym (e.rolls-Element n i)) ∙ fold-roll-Expr (List Use) uses_step _

pub uses-one : (op : Un) (a : Expr) → uses (e.One op a) ≡ uses_step (Expr-F.One op (uses a))
unfolding uses
uses-one op a = ap uses (sym (e.rolls-One op a)) ∙ fold-roll-Expr (List Use) uses_step _

pub uses-two : (op : Bin) (a b : Expr) → uses (e.Two op a b) ≡ uses_step (Expr-F.Two op (uses a) (uses b))
unfolding uses
uses-two op a b = ap uses (sym (e.rolls-Two op a b)) ∙ fold-roll-Expr (List Use) uses_step _

pub uses-assign : (n : Ident) (x : Expr) → stmt_uses (s.Assign n x) ≡ stmt_step (Stmt-F.Assign n x)
unfolding stmt_uses
uses-assign n x = ap stmt_uses (sym (s.rolls-Assign n x)) ∙ fold-roll-Stmt (List Use) stmt_step _

pub uses-set : (n : Ident) (i x : Expr) → stmt_uses (s.SetElement n i x) ≡ stmt_step (Stmt-F.SetElement n i x)
unfolding stmt_uses
uses-set n i x = ap stmt_uses (sym (s.rolls-SetElement n i x)) ∙ fold-roll-Stmt (List Use) stmt_step _

pub uses-print : (x : Expr) → stmt_uses (s.Print x) ≡ stmt_step (Stmt-F.Print x)
unfolding stmt_uses
uses-print x = ap stmt_uses (sym (s.rolls-Print x)) ∙ fold-roll-Stmt (List Use) stmt_step _

pub uses-if : (c : Expr) (ys ns : List Stmt) → stmt_uses (s.If c ys ns) ≡ stmt_step (Stmt-F.If c (map stmt_uses ys) (map stmt_uses ns))
unfolding stmt_uses
uses-if c ys ns = ap stmt_uses (sym (s.rolls-If c ys ns)) ∙ fold-roll-Stmt (List Use) stmt_step _

pub uses-while : (c : Expr) (ss : List Stmt) → stmt_uses (s.While c ss) ≡ stmt_step (Stmt-F.While c (map stmt_uses ss))
unfolding stmt_uses
uses-while c ss = ap stmt_uses (sym (s.rolls-While c ss)) ∙ fold-roll-Stmt (List Use) stmt_step _
