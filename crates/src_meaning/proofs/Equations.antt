-- What each kind of expression and statement means.
use Rattle.std.proofs.Common.{◌≡◌, ℕ, ℤ, List, map, ap, sym, ◌∙◌}
use Rattle.bm_base.specs.declared.word.Un.{Un}
use Rattle.bm_base.specs.declared.word.Bin.{Bin}
use Rattle.bm_base.specs.Memory.{Content}
use Rattle.src_names.specs.declared.resolved.RExpr.{RExpr, RExpr-F}
use Rattle.src_names.specs.declared.resolved.RExpr.TheFolds.{fold-roll-RExpr}
use Rattle.src_names.specs.declared.resolved.RExpr.TheVariants as e
use Rattle.src_names.specs.declared.resolved.RStmt.{RStmt, RStmt-F}
use Rattle.src_names.specs.declared.resolved.RStmt.TheFolds.{fold-roll-RStmt}
use Rattle.src_names.specs.declared.resolved.RStmt.TheVariants as s
use Rattle.src_meaning.specs.Meaning.{value_of, value_step, statement, statement_step, Action}

pub value-number : (v : ℤ) → value_of (e.Number v) ≡ value_step (RExpr-F.Number v)
unfolding value_of
value-number v = ap value_of (sym (e.rolls-Number v)) ∙ fold-roll-RExpr (List Content → ℤ) value_step _

pub value-var : (x : ℕ) → value_of (e.Var x) ≡ value_step (RExpr-F.Var x)
unfolding value_of
value-var x = ap value_of (sym (e.rolls-Var x)) ∙ fold-roll-RExpr (List Content → ℤ) value_step _

pub value-element : (x : ℕ) (i : RExpr) → value_of (e.Element x i) ≡ value_step (RExpr-F.Element x (value_of i))
unfolding value_of
value-element x i = ap value_of (sym (e.rolls-Element x i)) ∙ fold-roll-RExpr (List Content → ℤ) value_step _

pub value-one : (op : Un) (a : RExpr) → value_of (e.One op a) ≡ value_step (RExpr-F.One op (value_of a))
unfolding value_of
value-one op a = ap value_of (sym (e.rolls-One op a)) ∙ fold-roll-RExpr (List Content → ℤ) value_step _

pub value-two : (op : Bin) (a b : RExpr) → value_of (e.Two op a b) ≡ value_step (RExpr-F.Two op (value_of a) (value_of b))
unfolding value_of
value-two op a b = ap value_of (sym (e.rolls-Two op a b)) ∙ fold-roll-RExpr (List Content → ℤ) value_step _

pub statement-assign : (x : ℕ) (v : RExpr) → statement (s.Assign x v) ≡ statement_step (RStmt-F.Assign x v)
unfolding statement
statement-assign x v = ap statement (sym (s.rolls-Assign x v)) ∙ fold-roll-RStmt Action statement_step _

pub statement-set : (x : ℕ) (i v : RExpr) → statement (s.SetElement x i v) ≡ statement_step (RStmt-F.SetElement x i v)
unfolding statement
statement-set x i v = ap statement (sym (s.rolls-SetElement x i v)) ∙ fold-roll-RStmt Action statement_step _

pub statement-print : (v : RExpr) → statement (s.Print v) ≡ statement_step (RStmt-F.Print v)
unfolding statement
statement-print v = ap statement (sym (s.rolls-Print v)) ∙ fold-roll-RStmt Action statement_step _

pub statement-if : (c : RExpr) (ones others : List RStmt) → statement (s.If c ones others) ≡ statement_step (RStmt-F.If c (map statement ones) (map statement others))
unfolding statement
statement-if c ones others = ap statement (sym (s.rolls-If c ones others)) ∙ fold-roll-RStmt Action statement_step _

pub statement-while : (c : RExpr) (body : List RStmt) → statement (s.While c body) ≡ statement_step (RStmt-F.While c (map statement body))
unfolding statement
statement-while c body = ap statement (sym (s.rolls-While c body)) ∙ fold-roll-RStmt Action statement_step _

pub ruleset values = (value-number, value-var, value-element, value-one, value-two)

pub ruleset actions = (statement-assign, statement-set, statement-print, statement-if, statement-while)
