-- The text of each kind of expression and statement.
use Rattle.std.proofs.Common.{◌≡◌, ℤ, ap, sym, ◌∙◌, List, map}
use Rattle.bm_base.specs.declared.word.Un.{Un}
use Rattle.bm_base.specs.declared.word.Bin.{Bin}
use Rattle.std.specs.Prelude.{ℕ}
use Rattle.src_tree.specs.declared.tree.Ident.{Ident}
use Rattle.src_tree.specs.declared.tree.Expr.{Expr, Expr-F}
use Rattle.src_tree.specs.declared.tree.Expr.TheFolds.{fold-roll-Expr}
use Rattle.src_tree.specs.declared.tree.Expr.TheVariants as e
use Rattle.src_tree.specs.declared.tree.Stmt.{Stmt, Stmt-F}
use Rattle.src_tree.specs.declared.tree.Stmt.TheFolds.{fold-roll-Stmt}
use Rattle.src_tree.specs.declared.tree.Stmt.TheVariants as s
use Rattle.src_tree.specs.Text.{Text, text_of, text_step, stmt_text, stmt_step}

pub text-number : (v : ℤ) → text_of (e.Number v) ≡ text_step (Expr-F.Number v)
unfolding text_of
text-number v = ap text_of (sym (e.rolls-Number v)) ∙ fold-roll-Expr Text text_step _

pub text-var : (n : Ident) → text_of (e.Var n) ≡ text_step (Expr-F.Var n)
unfolding text_of
text-var n = ap text_of (sym (e.rolls-Var n)) ∙ fold-roll-Expr Text text_step _

pub text-element : (n : Ident) (i : Expr) → text_of (e.Element n i) ≡ text_step (Expr-F.Element n (text_of i))
unfolding text_of
text-element n i = ap text_of (sym (e.rolls-Element n i)) ∙ fold-roll-Expr Text text_step _

pub text-one : (op : Un) (a : Expr) → text_of (e.One op a) ≡ text_step (Expr-F.One op (text_of a))
unfolding text_of
text-one op a = ap text_of (sym (e.rolls-One op a)) ∙ fold-roll-Expr Text text_step _

pub text-two : (op : Bin) (a b : Expr) → text_of (e.Two op a b) ≡ text_step (Expr-F.Two op (text_of a) (text_of b))
unfolding text_of
text-two op a b = ap text_of (sym (e.rolls-Two op a b)) ∙ fold-roll-Expr Text text_step _

pub text-assign : (n : Ident) (x : Expr) → stmt_text (s.Assign n x) ≡ stmt_step (Stmt-F.Assign n x)
unfolding stmt_text
text-assign n x = ap stmt_text (sym (s.rolls-Assign n x)) ∙ fold-roll-Stmt (List ℕ) stmt_step _

pub text-set : (n : Ident) (i x : Expr) → stmt_text (s.SetElement n i x) ≡ stmt_step (Stmt-F.SetElement n i x)
unfolding stmt_text
text-set n i x = ap stmt_text (sym (s.rolls-SetElement n i x)) ∙ fold-roll-Stmt (List ℕ) stmt_step _

pub text-print : (x : Expr) → stmt_text (s.Print x) ≡ stmt_step (Stmt-F.Print x)
unfolding stmt_text
text-print x = ap stmt_text (sym (s.rolls-Print x)) ∙ fold-roll-Stmt (List ℕ) stmt_step _

pub text-if : (c : Expr) (ys ns : List Stmt) → stmt_text (s.If c ys ns) ≡ stmt_step (Stmt-F.If c (map stmt_text ys) (map stmt_text ns))
unfolding stmt_text
text-if c ys ns = ap stmt_text (sym (s.rolls-If c ys ns)) ∙ fold-roll-Stmt (List ℕ) stmt_step _

pub text-while : (c : Expr) (ss : List Stmt) → stmt_text (s.While c ss) ≡ stmt_step (Stmt-F.While c (map stmt_text ss))
unfolding stmt_text
text-while c ss = ap stmt_text (sym (s.rolls-While c ss)) ∙ fold-roll-Stmt (List ℕ) stmt_step _

pub ruleset texts = (text-number, text-var, text-element, text-one, text-two)

pub ruleset statement_texts = (text-assign, text-set, text-print, text-if, text-while)
