-- Lowered statements do what the statements mean.
use Rattle.std.proofs.Common.{◌≡◌, ◌≤◌, ◌+◌, ◌-◌, ℕ, List, [], ◌∷◌, ◌++◌, length, refl, sym, ap, subst, arith, append-nil, length-append}
use Rattle.src_names.specs.declared.resolved.RExpr.{RExpr}
use Rattle.src_names.specs.declared.resolved.RStmt.{RStmt, RStmt-F}
use Rattle.src_names.specs.declared.resolved.RStmt.TheVariants as s
use Rattle.src_names.specs.Sizes.{nodes, FewNodes, AllFewNodes}
use Rattle.src_names.specs.Sizes as z
use Rattle.src_meaning.specs.Meaning.{in_order, statement, statements}
use Rattle.src_meaning.proofs.Equations.{statement-assign, statement-set, statement-print, statement-if, statement-while}
use Rattle.src_meaning.proofs.Lawful.{lawful}
use Rattle.tuple_ir.specs.declared.tuple.Tuple.TheVariants as tuple
use Rattle.tuple_lower.specs.Lowered.{last_of, expr_tuples, stmt_step}
use Rattle.tuple_lower.specs.Blocks.{choice, repetition, in_turn, lower_stmt, lower_body}
use Rattle.tuple_lower.proofs.Equations.{tuples-assign, tuples-set, tuples-print, lower-assign, lower-set, lower-print, lower-if, lower-while}
use Rattle.tuple_lower.proofs.Sizes.{row_length}
use Rattle.tuple_lower.proofs.Count.{within-nil}
use Rattle.tuple_lower.proofs.Does.{RowDoes, assign_row, set_row, print_row}
use Rattle.tuple_lower.proofs.Placed.{Performs, Tidy, HasSize, Puts, put_performs, put_tidy, then_performs, then_tidy}
use Rattle.tuple_lower.proofs.Branches.{choice_performs, choice_tidy}
use Rattle.tuple_lower.proofs.Loops.{repetition_performs, repetition_tidy}

-- ---- statements without bodies

pub assign_size : (x : ℕ) (v : RExpr) → nodes v ≤ 120 → HasSize (stmt_step (RStmt-F.Assign x v)) (nodes v + 1)
assign_size x v few = record {
  size_is = λ n. let l = length-append (expr_tuples v n) (tuple.Store x (last_of n (expr_tuples v n)) ∷ []) in let r = row_length v n in omega (arith, l, r);
  few = omega (arith, few);
}

pub set_size : (x : ℕ) (i v : RExpr) → nodes i + nodes v ≤ 120 → HasSize (stmt_step (RStmt-F.SetElement x i v)) (nodes i + nodes v + 1)
set_size x i v few = record {
  size_is = λ n.
      let us = expr_tuples i n in
      let m = n + length us in
      let vs = expr_tuples v m in
      let u = tuple.StoreEl x (last_of n us) (last_of m vs) in
      let l1 = length-append us (vs ++ u ∷ []) in
      let l2 = length-append vs (u ∷ []) in
      let r1 = row_length i n in
      let r2 = row_length v m in
      omega (arith, l1, l2, r1, r2);
  few = omega (arith, few);
}

pub print_size : (v : RExpr) → nodes v ≤ 120 → HasSize (stmt_step (RStmt-F.Print v)) (nodes v + 1)
print_size v few = record {
  size_is = λ n. let l = length-append (expr_tuples v n) (tuple.Print (last_of n (expr_tuples v n)) ∷ []) in let r = row_length v n in omega (arith, l, r);
  few = omega (arith, few);
}

assign_puts : (x : ℕ) (v : RExpr) → nodes v ≤ 120 → Puts (stmt_step (RStmt-F.Assign x v)) (nodes v + 1) (statement (s.Assign x v))
assign_puts x v few = record {
  has_size = assign_size x v few;
  does = subst (λ row. RowDoes row (statement (s.Assign x v))) (tuples-assign x v) (assign_row x v);
  spends = λ n m. ap (λ f. (f n m).turns) (statement-assign x v);
}

set_puts : (x : ℕ) (i v : RExpr) → nodes i + nodes v ≤ 120 → Puts (stmt_step (RStmt-F.SetElement x i v)) (nodes i + nodes v + 1) (statement (s.SetElement x i v))
set_puts x i v few = record {
  has_size = set_size x i v few;
  does = subst (λ row. RowDoes row (statement (s.SetElement x i v))) (tuples-set x i v) (set_row x i v);
  spends = λ n m. ap (λ f. (f n m).turns) (statement-set x i v);
}

print_puts : (v : RExpr) → nodes v ≤ 120 → Puts (stmt_step (RStmt-F.Print v)) (nodes v + 1) (statement (s.Print v))
print_puts v few = record {
  has_size = print_size v few;
  does = subst (λ row. RowDoes row (statement (s.Print v))) (tuples-print v) (print_row v);
  spends = λ n m. ap (λ f. (f n m).turns) (statement-print v);
}

-- ---- all statements

pub nothing_tidy : Tidy (in_turn [])
nothing_tidy = record { fits = λ b ts l. l; begins = λ b ts. ([], sym (append-nil ts)) }

nothing_performs : Performs (in_turn []) (in_order [])
nothing_performs blocks b ts e n room few holds = record {
  trail = [];
  here = e;
  reaches = (let p : b ≡ b + 0 = omega arith in p, refl);
  room = room;
  memory = refl;
  output = sym (append-nil _);
  left = omega arith;
  within = within-nil b (b + 0) (n - n + 1);
  long = omega arith;
}

pub stmt_tidy : {x : RStmt} → FewNodes x → Tidy (lower_stmt x)
stmt_tidy (z.assign {id = x} {x = v} h) = subst Tidy (sym (lower-assign x v)) (put_tidy (stmt_step (RStmt-F.Assign x v)) (nodes v + 1) (assign_size x v h))
stmt_tidy (z.set {id = x} {i = i} {x = v} h) = subst Tidy (sym (lower-set x i v)) (put_tidy (stmt_step (RStmt-F.SetElement x i v)) (nodes i + nodes v + 1) (set_size x i v h))
stmt_tidy (z.print {x = v} h) = subst Tidy (sym (lower-print v)) (put_tidy (stmt_step (RStmt-F.Print v)) (nodes v + 1) (print_size v h))
stmt_tidy (z.choose {x = c} {ys = ys} {ns = ns} h k l) = subst Tidy (sym (lower-if c ys ns)) (choice_tidy (expr_tuples c) (lower_body ys) (lower_body ns))
stmt_tidy (z.repeat {x = c} {ys = ys} h k) = subst Tidy (sym (lower-while c ys)) (repetition_tidy (expr_tuples c) (lower_body ys))

pub body_tidy : {xs : List RStmt} → AllFewNodes xs → Tidy (lower_body xs)
body_tidy z.none = nothing_tidy
body_tidy (z.more {z = x} {zs = xs} h k) = then_tidy (lower_stmt x) (lower_body xs) (stmt_tidy h) (body_tidy k)

mutual
  pub stmt_performs : {x : RStmt} → FewNodes x → Performs (lower_stmt x) (statement x)
  stmt_performs (z.assign {id = x} {x = v} h) = subst (λ l. Performs l (statement (s.Assign x v))) (sym (lower-assign x v)) (put_performs (stmt_step (RStmt-F.Assign x v)) (nodes v + 1) (statement (s.Assign x v)) (assign_puts x v h))
  stmt_performs (z.set {id = x} {i = i} {x = v} h) =
      subst (λ l. Performs l (statement (s.SetElement x i v))) (sym (lower-set x i v)) (put_performs (stmt_step (RStmt-F.SetElement x i v)) (nodes i + nodes v + 1) (statement (s.SetElement x i v)) (set_puts x i v h))
  stmt_performs (z.print {x = v} h) = subst (λ l. Performs l (statement (s.Print v))) (sym (lower-print v)) (put_performs (stmt_step (RStmt-F.Print v)) (nodes v + 1) (statement (s.Print v)) (print_puts v h))
  stmt_performs (z.choose {x = c} {ys = ys} {ns = ns} h k l) =
      subst (λ y. Performs y (statement (s.If c ys ns))) (sym (lower-if c ys ns))
      (subst (λ a. Performs (choice (expr_tuples c) (lower_body ys) (lower_body ns)) a) (sym (statement-if c ys ns)) (choice_performs c h (lower_body ys) (lower_body ns) (statements ys) (statements ns) (body_performs k) (body_performs l)))
  stmt_performs (z.repeat {x = c} {ys = ys} h k) =
      subst (λ y. Performs y (statement (s.While c ys))) (sym (lower-while c ys))
      (subst (λ a. Performs (repetition (expr_tuples c) (lower_body ys)) a) (sym (statement-while c ys)) (repetition_performs c (lower_body ys) (statements ys) h (lawful ys).spends (body_performs k)))

  pub body_performs : {xs : List RStmt} → AllFewNodes xs → Performs (lower_body xs) (statements xs)
  body_performs z.none = nothing_performs
  body_performs (z.more {z = x} {zs = xs} h k) = then_performs (lower_stmt x) (lower_body xs) (statement x) (statements xs) (stmt_tidy h) (body_tidy k) (stmt_performs h) (body_performs k)
