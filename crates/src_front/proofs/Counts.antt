-- A resolved program has as many statements as its tree.
use Rattle.std.proofs.Common.{◌≡◌, ℕ, ◌+◌, List, refl, ap, sym, ◌∙◌}
use Rattle.bm_base.specs.Entry.{Entry}
use Rattle.src_tree.specs.declared.tree.Ident.{Ident}
use Rattle.src_tree.specs.declared.tree.Expr.{Expr}
use Rattle.src_tree.specs.declared.tree.Stmt.{Stmt}
use Rattle.src_tree.specs.declared.tree.Stmt.TheFolds.{fold-roll-Stmt}
use Rattle.src_tree.specs.declared.tree.Stmt.TheVariants as s
use Rattle.src_parser.specs.Statements as t
use Rattle.src_names.specs.declared.resolved.RExpr.{RExpr}
use Rattle.src_names.specs.declared.resolved.RStmt.{RStmt}
use Rattle.src_names.specs.declared.resolved.RStmt.TheFolds.{fold-roll-RStmt}
use Rattle.src_names.specs.declared.resolved.RStmt.TheVariants as rs
use Rattle.src_names.specs.Named.{NamedStmt, NamedBody}
use Rattle.src_names.specs.Named as n
use Rattle.src_names.specs.Sizes as z

tree-assign : (m : Ident) (x : Expr) → t.count_of (s.Assign m x) ≡ 1
unfolding t.count_of
tree-assign m x = ap t.count_of (sym (s.rolls-Assign m x)) ∙ fold-roll-Stmt ℕ t.count_step _

tree-set : (m : Ident) (i x : Expr) → t.count_of (s.SetElement m i x) ≡ 1
unfolding t.count_of
tree-set m i x = ap t.count_of (sym (s.rolls-SetElement m i x)) ∙ fold-roll-Stmt ℕ t.count_step _

tree-print : (x : Expr) → t.count_of (s.Print x) ≡ 1
unfolding t.count_of
tree-print x = ap t.count_of (sym (s.rolls-Print x)) ∙ fold-roll-Stmt ℕ t.count_step _

tree-if : (x : Expr) (us ws : List Stmt) → t.count_of (s.If x us ws) ≡ 1 + (t.statements us + t.statements ws)
unfolding t.count_of
tree-if x us ws = ap t.count_of (sym (s.rolls-If x us ws)) ∙ fold-roll-Stmt ℕ t.count_step _

tree-while : (x : Expr) (us : List Stmt) → t.count_of (s.While x us) ≡ 1 + t.statements us
unfolding t.count_of
tree-while x us = ap t.count_of (sym (s.rolls-While x us)) ∙ fold-roll-Stmt ℕ t.count_step _

named-assign : (id : ℕ) (x : RExpr) → z.count_of (rs.Assign id x) ≡ 1
unfolding z.count_of
named-assign id x = ap z.count_of (sym (rs.rolls-Assign id x)) ∙ fold-roll-RStmt ℕ z.count_step _

named-set : (id : ℕ) (i x : RExpr) → z.count_of (rs.SetElement id i x) ≡ 1
unfolding z.count_of
named-set id i x = ap z.count_of (sym (rs.rolls-SetElement id i x)) ∙ fold-roll-RStmt ℕ z.count_step _

named-print : (x : RExpr) → z.count_of (rs.Print x) ≡ 1
unfolding z.count_of
named-print x = ap z.count_of (sym (rs.rolls-Print x)) ∙ fold-roll-RStmt ℕ z.count_step _

named-if : (x : RExpr) (us ws : List RStmt) → z.count_of (rs.If x us ws) ≡ 1 + (z.statements us + z.statements ws)
unfolding z.count_of
named-if x us ws = ap z.count_of (sym (rs.rolls-If x us ws)) ∙ fold-roll-RStmt ℕ z.count_step _

named-while : (x : RExpr) (us : List RStmt) → z.count_of (rs.While x us) ≡ 1 + z.statements us
unfolding z.count_of
named-while x us = ap z.count_of (sym (rs.rolls-While x us)) ∙ fold-roll-RStmt ℕ z.count_step _

module _ (es : List Entry) where
  mutual
    count_stmt : {a : Stmt} {x : RStmt} → NamedStmt es a x → z.count_of x ≡ t.count_of a
    count_stmt (n.assign {n = m} {id = id} {a = a} {x = x} v h) = named-assign id x ∙ sym (tree-assign m a)
    count_stmt (n.set {n = m} {id = id} {i = i} {a = a} {j = j} {x = x} v h k) = named-set id j x ∙ sym (tree-set m i a)
    count_stmt (n.print {a = a} {x = x} h) = named-print x ∙ sym (tree-print a)
    count_stmt (n.choose {a = a} {x = x} {us = us} {ws = ws} {ys = ys} {ns = ns} h k l) =
        named-if x ys ns ∙ ap (λ i. 1 + (i + z.statements ns)) (count_body k) ∙ ap (λ i. 1 + (t.statements us + i)) (count_body l) ∙ sym (tree-if a us ws)
    count_stmt (n.repeat {a = a} {x = x} {us = us} {ys = ys} h k) = named-while x ys ∙ ap (λ i. 1 + i) (count_body k) ∙ sym (tree-while a us)

    pub count_body : {us : List Stmt} {zs : List RStmt} → NamedBody es us zs → z.statements zs ≡ t.statements us
    count_body n.none = refl
    count_body (n.more {u = u} {z = x} {us = us} {zs = zs} h k) = ap (λ i. i + z.statements zs) (count_stmt h) ∙ ap (λ i. t.count_of u + i) (count_body k)
