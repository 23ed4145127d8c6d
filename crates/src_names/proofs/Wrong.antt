-- The first fault of a part is that of the whole where what stands before it is right.
use Rattle.std.proofs.Common.{◌≡◌, ℕ, suc, ◌+◌, ◌<◌, ℤ, List, [], ◌∷◌, ◌++◌, length, drop, ap, sym, ◌∙◌, add-one, append_assoc}
use Rattle.std.specs.Prelude.{get_or}
use Rattle.std.proofs.Math.Seq.{drop-cons}
use Rattle.bm_base.specs.declared.word.Un.{Un}
use Rattle.bm_base.specs.declared.word.Bin.{Bin}
use Rattle.bm_base.specs.Entry.{Entry}
use Rattle.src_tree.specs.declared.tree.Ident.{Ident}
use Rattle.src_tree.specs.declared.tree.Expr.{Expr}
use Rattle.src_tree.specs.declared.tree.Expr.TheVariants as e
use Rattle.src_tree.specs.declared.tree.Stmt.{Stmt}
use Rattle.src_tree.specs.declared.tree.Stmt.TheVariants as s
use Rattle.src_names.specs.declared.resolved.RExpr.{RExpr}
use Rattle.src_names.specs.declared.resolved.RExpr.TheVariants as re
use Rattle.src_names.specs.declared.resolved.RStmt.{RStmt}
use Rattle.src_names.specs.declared.resolved.RStmt.TheVariants as rs
use Rattle.src_names.specs.declared.fault.NameFault.{NameFault}
use Rattle.src_names.specs.declared.fault.NameFault.TheVariants as m
use Rattle.src_names.specs.Named as n
use Rattle.src_names.specs.Named.{IsVar, IsArray, NamedExpr, NamedStmt, NamedBody}
use Rattle.src_names.specs.Fault.{Use, Plain, Indexed, uses, stmt_uses, body_uses, AreRightUses, UseFault}
use Rattle.src_names.specs.Stops.{Stops}
use Rattle.src_names.specs.Stops as t
use Rattle.src_names.proofs.Equations.{uses-var, uses-element, uses-one, uses-two, uses-assign, uses-set, uses-print, uses-if, uses-while}
use Rattle.src_names.proofs.Uses.{as_var, as_array, right_expr, right_stmt, right_body, wrong_here, wrong_left, wrong_right}

module _ (es : List Entry) where
  stops_here : (u : Use) (us : List Use) (f : NameFault) → UseFault es u f → Stops es (u ∷ us) f
  stops_here u us f w = t.wrong (wrong_here es u us f w)

  stops_left : (us vs : List Use) (f : NameFault) → Stops es us f → Stops es (us ++ vs) f
  stops_left us vs f (t.wrong w) = t.wrong (wrong_left es us vs f w)
  stops_left us vs f t.starved = t.starved

  stops_right : (us vs : List Use) (f : NameFault) → AreRightUses es us → Stops es vs f → Stops es (us ++ vs) f
  stops_right us vs f a (t.wrong w) = t.wrong (wrong_right es us vs f a w)
  stops_right us vs f a t.starved = t.starved

  pub var_name : (m : Ident) (f : NameFault) → UseFault es (Plain m) f → Stops es (uses (e.Var m)) f
  var_name m f w = rw (uses-var m) (stops_here (Plain m) [] f w)

  pub element_name : (m : Ident) (i : Expr) (f : NameFault) → UseFault es (Indexed m) f → Stops es (uses (e.Element m i)) f
  element_name m i f w = rw (uses-element m i) (stops_here (Indexed m) (uses i) f w)

  pub element_index : (m : Ident) (id : ℕ) (i : Expr) (f : NameFault) → IsArray es m id → Stops es (uses i) f → Stops es (uses (e.Element m i)) f
  element_index m id i f v w = rw (uses-element m i) (stops_right (Indexed m ∷ []) (uses i) f (as_array es v, tt) w)

  pub one_operand : (op : Un) (a : Expr) (f : NameFault) → Stops es (uses a) f → Stops es (uses (e.One op a)) f
  one_operand op a f w = rw (uses-one op a) w

  pub two_left : (op : Bin) (a b : Expr) (f : NameFault) → Stops es (uses a) f → Stops es (uses (e.Two op a b)) f
  two_left op a b f w = rw (uses-two op a b) (stops_left (uses a) (uses b) f w)

  pub two_right : (op : Bin) (a b : Expr) (x : RExpr) (f : NameFault) → NamedExpr es a x → Stops es (uses b) f → Stops es (uses (e.Two op a b)) f
  two_right op a b x f h w = rw (uses-two op a b) (stops_right (uses a) (uses b) f (right_expr es h) w)

  pub assign_name : (m : Ident) (a : Expr) (f : NameFault) → UseFault es (Plain m) f → Stops es (stmt_uses (s.Assign m a)) f
  assign_name m a f w = rw (uses-assign m a) (stops_here (Plain m) (uses a) f w)

  pub assign_value : (m : Ident) (id : ℕ) (a : Expr) (f : NameFault) → IsVar es m id → Stops es (uses a) f → Stops es (stmt_uses (s.Assign m a)) f
  assign_value m id a f v w = rw (uses-assign m a) (stops_right (Plain m ∷ []) (uses a) f (as_var es v, tt) w)

  pub set_name : (m : Ident) (i a : Expr) (f : NameFault) → UseFault es (Indexed m) f → Stops es (stmt_uses (s.SetElement m i a)) f
  set_name m i a f w = rw (uses-set m i a) (stops_here (Indexed m) (uses i ++ uses a) f w)

  pub set_index : (m : Ident) (id : ℕ) (i a : Expr) (f : NameFault) → IsArray es m id → Stops es (uses i) f → Stops es (stmt_uses (s.SetElement m i a)) f
  set_index m id i a f v w = rw (uses-set m i a) (stops_right (Indexed m ∷ []) (uses i ++ uses a) f (as_array es v, tt) (stops_left (uses i) (uses a) f w))

  pub set_value : (m : Ident) (id : ℕ) (i a : Expr) (x : RExpr) (f : NameFault) → IsArray es m id → NamedExpr es i x → Stops es (uses a) f → Stops es (stmt_uses (s.SetElement m i a)) f
  set_value m id i a x f v h w = rw (uses-set m i a) (stops_right (Indexed m ∷ []) (uses i ++ uses a) f (as_array es v, tt) (stops_right (uses i) (uses a) f (right_expr es h) w))

  pub print_value : (a : Expr) (f : NameFault) → Stops es (uses a) f → Stops es (stmt_uses (s.Print a)) f
  print_value a f w = rw (uses-print a) w

  pub if_cond : (a : Expr) (us vs : List Stmt) (f : NameFault) → Stops es (uses a) f → Stops es (stmt_uses (s.If a us vs)) f
  if_cond a us vs f w = rw (uses-if a us vs) (stops_left (uses a) (body_uses us ++ body_uses vs) f w)

  pub if_yes : (a : Expr) (us vs : List Stmt) (x : RExpr) (f : NameFault) → NamedExpr es a x → Stops es (body_uses us) f → Stops es (stmt_uses (s.If a us vs)) f
  if_yes a us vs x f h w = rw (uses-if a us vs) (stops_right (uses a) (body_uses us ++ body_uses vs) f (right_expr es h) (stops_left (body_uses us) (body_uses vs) f w))

  pub if_no : (a : Expr) (us vs : List Stmt) (x : RExpr) (zs : List RStmt) (f : NameFault) → NamedExpr es a x → NamedBody es us zs → Stops es (body_uses vs) f → Stops es (stmt_uses (s.If a us vs)) f
  if_no a us vs x zs f h k w =
      rw (uses-if a us vs) (stops_right (uses a) (body_uses us ++ body_uses vs) f (right_expr es h) (stops_right (body_uses us) (body_uses vs) f (right_body es k) w))

  pub while_cond : (a : Expr) (us : List Stmt) (f : NameFault) → Stops es (uses a) f → Stops es (stmt_uses (s.While a us)) f
  while_cond a us f w = rw (uses-while a us) (stops_left (uses a) (body_uses us) f w)

  pub while_body : (a : Expr) (us : List Stmt) (x : RExpr) (f : NameFault) → NamedExpr es a x → Stops es (body_uses us) f → Stops es (stmt_uses (s.While a us)) f
  while_body a us x f h w = rw (uses-while a us) (stops_right (uses a) (body_uses us) f (right_expr es h) w)

  -- a statement, and the statements behind it
  pub body_first : (u : Stmt) (us : List Stmt) (f : NameFault) → Stops es (stmt_uses u) f → Stops es (body_uses (u ∷ us)) f
  body_first u us f w = stops_left (stmt_uses u) (body_uses us) f w

  pub body_rest : (u : Stmt) (z : RStmt) (us : List Stmt) (f : NameFault) → NamedStmt es u z → Stops es (body_uses us) f → Stops es (body_uses (u ∷ us)) f
  body_rest u z us f h w = stops_right (stmt_uses u) (body_uses us) f (right_stmt es h) w

-- in a body, at the place that has been reached
module _ (es : List Entry) (body : List Stmt) (i : ℕ) (u : Stmt) (below : i < length body) (at : u ≡ get_or body i u) where
  rest_is : drop i body ≡ u ∷ drop (i + 1) body
  rest_is = drop-cons body i u below ∙ (rw add-one (ap (λ x. x ∷ drop (suc i) body) (sym at)))

  pub body_here : (f : NameFault) → ((g : NameFault) → Stops es (body_uses (drop i body)) g → Stops es (body_uses body) g) → Stops es (stmt_uses u) f → Stops es (body_uses body) f
  body_here f so_far w = so_far f (rw rest_is (body_first es u (drop (i + 1) body) f w))

  pub body_next : (z : RStmt) → NamedStmt es u z → ((g : NameFault) → Stops es (body_uses (drop i body)) g → Stops es (body_uses body) g) →
      (f : NameFault) → Stops es (body_uses (drop (i + 1) body)) f → Stops es (body_uses body) f
  body_next z h so_far f w = so_far f (rw rest_is (body_rest es u z (drop (i + 1) body) f h w))

  pub named_next : (z : RStmt) (named : List RStmt) → NamedStmt es u z → ((zs : List RStmt) → NamedBody es (drop i body) zs → NamedBody es body (named ++ zs)) →
      (zs : List RStmt) → NamedBody es (drop (i + 1) body) zs → NamedBody es body ((named ++ z ∷ []) ++ zs)
  named_next z named h so_far zs k = rw append_assoc (so_far (z ∷ zs) (rw rest_is (n.more h k)))

-- no memory
pub starved : (es : List Entry) (us : List Use) (f : NameFault) → f ≡ m.Memory → Stops es us f
starved es us f e = rw e t.starved

-- what is named, by its parts
module _ (es : List Entry) where
  pub number : (x : Expr) (v : ℤ) → x ≡ e.Number v → NamedExpr es x (re.Number v)
  number x v h = rw h n.number

  pub var : (x : Expr) (i : Ident) (id : ℕ) → x ≡ e.Var i → IsVar es i id → NamedExpr es x (re.Var id)
  var x i id h v = rw h (n.var v)

  pub element : (x : Expr) (i : Ident) (id : ℕ) (a : Expr) (z : RExpr) → x ≡ e.Element i a → IsArray es i id → NamedExpr es a z → NamedExpr es x (re.Element id z)
  element x i id a z h v k = rw h (n.element v k)

  pub one : (x : Expr) (op : Un) (a : Expr) (z : RExpr) → x ≡ e.One op a → NamedExpr es a z → NamedExpr es x (re.One op z)
  one x op a z h k = rw h (n.one k)

  pub two : (x : Expr) (op : Bin) (a b : Expr) (y z : RExpr) → x ≡ e.Two op a b → NamedExpr es a y → NamedExpr es b z → NamedExpr es x (re.Two op y z)
  two x op a b y z h k l = rw h (n.two k l)

  pub assign : (x : Stmt) (i : Ident) (id : ℕ) (a : Expr) (z : RExpr) → x ≡ s.Assign i a → IsVar es i id → NamedExpr es a z → NamedStmt es x (rs.Assign id z)
  assign x i id a z h v k = rw h (n.assign v k)

  pub set : (x : Stmt) (i : Ident) (id : ℕ) (a b : Expr) (y z : RExpr) → x ≡ s.SetElement i a b → IsArray es i id → NamedExpr es a y → NamedExpr es b z → NamedStmt es x (rs.SetElement id y z)
  set x i id a b y z h v k l = rw h (n.set v k l)

  pub print : (x : Stmt) (a : Expr) (z : RExpr) → x ≡ s.Print a → NamedExpr es a z → NamedStmt es x (rs.Print z)
  print x a z h k = rw h (n.print k)

  pub choose : (x : Stmt) (a : Expr) (us ws : List Stmt) (z : RExpr) (ks ls : List RStmt) → x ≡ s.If a us ws → NamedExpr es a z → NamedBody es us ks → NamedBody es ws ls → NamedStmt es x (rs.If z ks ls)
  choose x a us ws z ks ls h k l m = rw h (n.choose k l m)

  pub repeat : (x : Stmt) (a : Expr) (us : List Stmt) (z : RExpr) (ks : List RStmt) → x ≡ s.While a us → NamedExpr es a z → NamedBody es us ks → NamedStmt es x (rs.While z ks)
  repeat x a us z ks h k l = rw h (n.repeat k l)

pub ruleset of_expressions = (starved, number, var, element, one, two, var_name, element_name, element_index, one_operand, two_left, two_right)

pub ruleset of_statements = (starved, assign, set, print, choose, repeat, assign_name, assign_value, set_name, set_index, set_value, print_value, if_cond, if_yes, if_no, while_cond, while_body)

pub ruleset of_bodies = (starved, body_here)
