-- What is named uses its names rightly, and the first wrong use of a whole is that of a part.
use Rattle.std.proofs.Common.{ℕ, List, [], ◌∷◌, ◌++◌, refl, ap, sym, ◌∙◌, append_assoc}
use Rattle.bm_base.specs.Entry.{Entry}
use Rattle.src_tree.specs.declared.tree.Ident.{Ident}
use Rattle.src_tree.specs.declared.tree.Expr.{Expr}
use Rattle.src_tree.specs.declared.tree.Stmt.{Stmt}
use Rattle.src_names.specs.declared.resolved.RExpr.{RExpr}
use Rattle.src_names.specs.declared.resolved.RStmt.{RStmt}
use Rattle.src_names.specs.declared.fault.NameFault.{NameFault}
use Rattle.src_names.specs.Named.{IsVar, IsArray, NamedExpr, NamedStmt, NamedBody}
use Rattle.src_names.specs.Named as n
use Rattle.src_names.specs.Right.{RightExpr, RightStmt, RightBody}
use Rattle.bm_base.specs.Names.{IsVariableOf, IsArrayOf}
use Rattle.src_names.specs.Right as r
use Rattle.src_names.specs.Fault.{Use, uses, stmt_uses, body_uses, AsVar, AsArray, AreRightUses, UseFault, UsesFault}
use Rattle.src_names.proofs.Equations.{uses-number, uses-var, uses-element, uses-one, uses-two, uses-assign, uses-set, uses-print, uses-if, uses-while}

module _ (es : List Entry) where
  right_append : (us vs : List Use) → AreRightUses es us → AreRightUses es vs → AreRightUses es (us ++ vs)
  right_append [] vs a b = b
  right_append (u ∷ us) vs a b = (a.0, right_append us vs a.1 b)

  pub as_var : {m : Ident} {id : ℕ} → IsVar es m id → AsVar es m
  as_var {id = id} v = record { id = id; initial = v.initial; here = v.here }

  pub as_array : {m : Ident} {id : ℕ} → IsArray es m id → AsArray es m
  as_array {id = id} v = record { id = id; len = v.len; here = v.here }

  -- the uses in what is named are right
  pub right_expr : {a : Expr} {x : RExpr} → NamedExpr es a x → AreRightUses es (uses a)
  right_expr (n.number {v = v}) = rw (uses-number v) tt
  right_expr (n.var {n = m} v) = rw (uses-var m) (as_var v, tt)
  right_expr (n.element {n = m} {i = i} v h) = rw (uses-element m i) (as_array v, right_expr h)
  right_expr (n.one {op = op} {a = a} h) = rw (uses-one op a) (right_expr h)
  right_expr (n.two {op = op} {a = a} {b = b} h k) = rw (uses-two op a b) (right_append (uses a) (uses b) (right_expr h) (right_expr k))

  mutual
    pub right_stmt : {a : Stmt} {x : RStmt} → NamedStmt es a x → AreRightUses es (stmt_uses a)
    right_stmt (n.assign {n = m} {a = a} v h) = rw (uses-assign m a) (as_var v, right_expr h)
    right_stmt (n.set {n = m} {i = i} {a = a} v h k) = rw (uses-set m i a) (as_array v, right_append (uses i) (uses a) (right_expr h) (right_expr k))
    right_stmt (n.print {a = a} h) = rw (uses-print a) (right_expr h)
    right_stmt (n.choose {a = a} {us = us} {ws = ws} h k l) =
        rw (uses-if a us ws) (right_append (uses a) (body_uses us ++ body_uses ws) (right_expr h) (right_append (body_uses us) (body_uses ws) (right_body k) (right_body l)))
    right_stmt (n.repeat {a = a} {us = us} h k) = rw (uses-while a us) (right_append (uses a) (body_uses us) (right_expr h) (right_body k))

    pub right_body : {a : List Stmt} {x : List RStmt} → NamedBody es a x → AreRightUses es (body_uses a)
    right_body n.none = tt
    right_body (n.more {u = u} {us = us} h k) = right_append (stmt_uses u) (body_uses us) (right_stmt h) (right_body k)

  variable_of : {m : Ident} {id : ℕ} → IsVar es m id → IsVariableOf es id
  variable_of {m = m} v = record { name = m.text; initial = v.initial; here = v.here }

  array_of : {m : Ident} {id : ℕ} → IsArray es m id → IsArrayOf es id
  array_of {m = m} v = record { name = m.text; len = v.len; here = v.here }

  -- the numbers in what is named are right
  numbers_expr : {a : Expr} {x : RExpr} → NamedExpr es a x → RightExpr es x
  numbers_expr (n.number) = r.number
  numbers_expr (n.var v) = r.var (variable_of v)
  numbers_expr (n.element v h) = r.element (array_of v) (numbers_expr h)
  numbers_expr (n.one h) = r.one (numbers_expr h)
  numbers_expr (n.two h k) = r.two (numbers_expr h) (numbers_expr k)

  mutual
    numbers_stmt : {a : Stmt} {x : RStmt} → NamedStmt es a x → RightStmt es x
    numbers_stmt (n.assign v h) = r.assign (variable_of v) (numbers_expr h)
    numbers_stmt (n.set v h k) = r.set (array_of v) (numbers_expr h) (numbers_expr k)
    numbers_stmt (n.print h) = r.print (numbers_expr h)
    numbers_stmt (n.choose h k l) = r.choose (numbers_expr h) (numbers_body k) (numbers_body l)
    numbers_stmt (n.repeat h k) = r.repeat (numbers_expr h) (numbers_body k)

    pub numbers_body : {a : List Stmt} {x : List RStmt} → NamedBody es a x → RightBody es x
    numbers_body n.none = r.none
    numbers_body (n.more h k) = r.more (numbers_stmt h) (numbers_body k)

  -- where the first wrong use stands
  pub wrong_here : (u : Use) (us : List Use) (fault : NameFault) → UseFault es u fault → UsesFault es (u ∷ us) fault
  wrong_here u us fault w = record { front = []; here = u; back = us; split = refl; right = tt; wrong = w }

  pub wrong_left : (us vs : List Use) (fault : NameFault) → UsesFault es us fault → UsesFault es (us ++ vs) fault
  wrong_left us vs fault w = record {
    front = w.front;
    here = w.here;
    back = w.back ++ vs;
    split = ap (λ l. l ++ vs) w.split ∙ append_assoc w.front (w.here ∷ w.back) vs;
    right = w.right;
    wrong = w.wrong;
  }

  pub wrong_right : (us vs : List Use) (fault : NameFault) → AreRightUses es us → UsesFault es vs fault → UsesFault es (us ++ vs) fault
  wrong_right us vs fault a w = record {
    front = us ++ w.front;
    here = w.here;
    back = w.back;
    split = ap (λ l. us ++ l) w.split ∙ sym (append_assoc us w.front (w.here ∷ w.back));
    right = right_append us w.front a w.right;
    wrong = w.wrong;
  }
