-- A tree is named by at most one resolved program.
use Rattle.std.proofs.Common.{◌≡◌, ℕ, ◌<◌, pos, List, [], ◌∷◌, refl, ap, sym, subst, ◌∙◌}
use Rattle.bm_base.specs.declared.names.Kind.TheVariants as k
use Rattle.bm_base.specs.Entry.{Entry}
use Rattle.src_tree.specs.declared.tree.Ident.{Ident}
use Rattle.src_tree.specs.declared.tree.Decl.{Decl}
use Rattle.src_tree.specs.declared.tree.Decl.TheVariants as d
use Rattle.src_tree.specs.declared.tree.Expr.{Expr, Expr-F}
use Rattle.src_tree.specs.declared.tree.Expr.TheViews.{out-Expr}
use Rattle.src_tree.specs.declared.tree.Expr.TheVariants as e
use Rattle.src_tree.specs.declared.tree.Stmt.{Stmt, Stmt-F}
use Rattle.src_tree.specs.declared.tree.Stmt.TheViews.{out-Stmt}
use Rattle.src_tree.specs.declared.tree.Stmt.TheVariants as s
use Rattle.src_tree.specs.declared.tree.Program.{Program}
use Rattle.src_names.specs.declared.resolved.RExpr.{RExpr}
use Rattle.src_names.specs.declared.resolved.RExpr.TheVariants as re
use Rattle.src_names.specs.declared.resolved.RStmt.{RStmt}
use Rattle.src_names.specs.declared.resolved.RStmt.TheVariants as rs
use Rattle.src_names.specs.RProgram.{RProgram}
use Rattle.src_names.specs.Declarations.{AreDeclared}
use Rattle.bm_base.specs.Names.{AreInRange}
use Rattle.src_names.specs.Declarations as a
use Rattle.src_names.specs.Named.{IsVar, IsArray, NamedExpr, NamedStmt, NamedBody, IsNamed}
use Rattle.src_names.specs.Named as n

-- the declared names
abbrev pub Declared : List Decl → List Entry → Type 0
Declared [] fs = fs ≡ []
Declared (d.Var m v ∷ ds) fs = (gs : List Entry) × AreDeclared ds gs × (fs ≡ record { name = m.text; kind = k.Var v } ∷ gs)
Declared (d.Array m (pos len) ∷ ds) fs = (gs : List Entry) × AreDeclared ds gs × (fs ≡ record { name = m.text; kind = k.Array len } ∷ gs) × (0 < len)
Declared (d.Array m v ∷ ds) fs = ⊥

pub declared : {ds : List Decl} {fs : List Entry} → AreDeclared ds fs → Declared ds fs
declared a.none = refl
declared (a.var {es = es} h) = (es, h, refl)
declared (a.array {es = es} p h) = (es, h, refl, p)

pub one_declared : {ds : List Decl} {es fs : List Entry} → AreDeclared ds es → AreDeclared ds fs → es ≡ fs
one_declared a.none h = sym (declared h)
one_declared (a.var h) l = let v = declared l in let same = one_declared h v.1 in cc (v.2)
one_declared (a.array p h) l = let v = declared l in let same = one_declared h v.1 in cc (v.2)

module _ (es : List Entry) (range : AreInRange es) where
  one_var : {m : Ident} {i j : ℕ} → IsVar es m i → IsVar es m j → i ≡ j
  one_var {m = m} {i = i} {j = j} v w = range.once i j (record { name = m.text; kind = k.Var v.initial }) (record { name = m.text; kind = k.Var w.initial }) v.here w.here refl

  one_array : {m : Ident} {i j : ℕ} → IsArray es m i → IsArray es m j → i ≡ j
  one_array {m = m} {i = i} {j = j} v w = range.once i j (record { name = m.text; kind = k.Array v.len }) (record { name = m.text; kind = k.Array w.len }) v.here w.here refl

  -- what the layer of an expression is named by
  abbrev pub Layer : Expr-F Expr → RExpr → Type 0
  Layer (Expr-F.Number v) z = z ≡ re.Number v
  Layer (Expr-F.Var m) z = (id : ℕ) × IsVar es m id × (z ≡ re.Var id)
  Layer (Expr-F.Element m i) z = (id : ℕ) × (j : RExpr) × IsArray es m id × NamedExpr es i j × (z ≡ re.Element id j)
  Layer (Expr-F.One op a) z = (x : RExpr) × NamedExpr es a x × (z ≡ re.One op x)
  Layer (Expr-F.Two op a b) z = (x : RExpr) × (y : RExpr) × NamedExpr es a x × NamedExpr es b y × (z ≡ re.Two op x y)

  layer : {x : Expr} {z : RExpr} → NamedExpr es x z → Layer (out-Expr x) z
  layer (n.number {v = v}) = rw (e.outs-Number v) refl
  layer (n.var {n = m} {id = id} v) = rw (e.outs-Var m) (id, v, refl)
  layer (n.element {n = m} {id = id} {i = i} {j = j} v h) = rw (e.outs-Element m i) (id, j, v, h, refl)
  layer (n.one {op = op} {a = x} {x = z} h) = rw (e.outs-One op x) (z, h, refl)
  layer (n.two {op = op} {a = x} {b = y} {x = z} {z = w} h l) = rw (e.outs-Two op x y) (z, w, h, l, refl)

  pub layer_of : (x : Expr) (z : RExpr) (y : Expr-F Expr) → out-Expr x ≡ y → NamedExpr es x z → Layer y z
  layer_of x z y e h = let P : Expr-F Expr → Type 0 = λ w. Layer w z in subst P e (layer h)

  one_expr : {x : Expr} {z q : RExpr} → NamedExpr es x z → NamedExpr es x q → z ≡ q
  one_expr {q = q} (n.number {v = v}) l = sym (layer_of (e.Number v) q (Expr-F.Number v) (e.outs-Number v) l)
  one_expr {q = q} (n.var {n = m} {id = id} v) l =
      let o = layer_of (e.Var m) q (Expr-F.Var m) (e.outs-Var m) l in
      ap re.Var (one_var v o.1) ∙ sym o.2
  one_expr {q = q} (n.element {n = m} {id = id} {i = i} {j = j} v h) l =
      let o = layer_of (e.Element m i) q (Expr-F.Element m i) (e.outs-Element m i) l in
      let p = one_array v o.2 in
      let q = one_expr h o.3 in
      ap (λ y. re.Element y j) p ∙ ap (λ y. re.Element o.0 y) q ∙ sym o.4
  one_expr {q = q} (n.one {op = op} {a = x} h) l =
      let o = layer_of (e.One op x) q (Expr-F.One op x) (e.outs-One op x) l in
      ap (λ y. re.One op y) (one_expr h o.1) ∙ sym o.2
  one_expr {q = q} (n.two {op = op} {a = x} {b = y} {x = z} {z = w} h k) l =
      let o = layer_of (e.Two op x y) q (Expr-F.Two op x y) (e.outs-Two op x y) l in
      ap (λ u. re.Two op u w) (one_expr h o.2) ∙ ap (λ u. re.Two op o.0 u) (one_expr k o.3) ∙ sym o.4

  -- what the layer of a statement is named by
  abbrev pub StmtLayer : Stmt-F Stmt → RStmt → Type 0
  StmtLayer (Stmt-F.Assign m x) z = (id : ℕ) × (y : RExpr) × IsVar es m id × NamedExpr es x y × (z ≡ rs.Assign id y)
  StmtLayer (Stmt-F.SetElement m i x) z = (id : ℕ) × (j : RExpr) × (y : RExpr) × IsArray es m id × NamedExpr es i j × NamedExpr es x y × (z ≡ rs.SetElement id j y)
  StmtLayer (Stmt-F.Print x) z = (y : RExpr) × NamedExpr es x y × (z ≡ rs.Print y)
  StmtLayer (Stmt-F.If x us ws) z = (y : RExpr) × (ks : List RStmt) × (ls : List RStmt) × NamedExpr es x y × NamedBody es us ks × NamedBody es ws ls × (z ≡ rs.If y ks ls)
  StmtLayer (Stmt-F.While x us) z = (y : RExpr) × (ks : List RStmt) × NamedExpr es x y × NamedBody es us ks × (z ≡ rs.While y ks)

  stmt_layer : {x : Stmt} {z : RStmt} → NamedStmt es x z → StmtLayer (out-Stmt x) z
  stmt_layer (n.assign {n = m} {id = id} {a = x} {x = y} v h) = rw (s.outs-Assign m x) (id, y, v, h, refl)
  stmt_layer (n.set {n = m} {id = id} {i = i} {a = x} {j = j} {x = y} v h l) = rw (s.outs-SetElement m i x) (id, j, y, v, h, l, refl)
  stmt_layer (n.print {a = x} {x = y} h) = rw (s.outs-Print x) (y, h, refl)
  stmt_layer (n.choose {a = x} {x = y} {us = us} {ws = ws} {ys = ks} {ns = ls} h l o) = rw (s.outs-If x us ws) (y, ks, ls, h, l, o, refl)
  stmt_layer (n.repeat {a = x} {x = y} {us = us} {ys = ks} h l) = rw (s.outs-While x us) (y, ks, h, l, refl)

  pub stmt_layer_of : (x : Stmt) (z : RStmt) (y : Stmt-F Stmt) → out-Stmt x ≡ y → NamedStmt es x z → StmtLayer y z
  stmt_layer_of x z y e h = let P : Stmt-F Stmt → Type 0 = λ w. StmtLayer w z in subst P e (stmt_layer h)

  abbrev pub BodyLayer : List Stmt → List RStmt → Type 0
  BodyLayer [] zs = zs ≡ []
  BodyLayer (u ∷ us) zs = (y : RStmt) × (ys : List RStmt) × NamedStmt es u y × NamedBody es us ys × (zs ≡ y ∷ ys)

  body_layer : {us : List Stmt} {zs : List RStmt} → NamedBody es us zs → BodyLayer us zs
  body_layer n.none = refl
  body_layer (n.more {z = z} {zs = zs} h l) = (z, zs, h, l, refl)

  pub body_layer_of : (us : List Stmt) (zs : List RStmt) → NamedBody es us zs → BodyLayer us zs
  body_layer_of us zs h = body_layer h

  mutual
    one_stmt : {x : Stmt} {z q : RStmt} → NamedStmt es x z → NamedStmt es x q → z ≡ q
    one_stmt {q = q} (n.assign {n = m} {id = id} {a = x} {x = y} v h) l =
        let o = stmt_layer_of (s.Assign m x) q (Stmt-F.Assign m x) (s.outs-Assign m x) l in
        ap (λ u. rs.Assign u y) (one_var v o.2) ∙ ap (λ u. rs.Assign o.0 u) (one_expr h o.3) ∙ sym o.4
    one_stmt {q = q} (n.set {n = m} {id = id} {i = i} {a = x} {j = j} {x = y} v h g) l =
        let o = stmt_layer_of (s.SetElement m i x) q (Stmt-F.SetElement m i x) (s.outs-SetElement m i x) l in
        ap (λ u. rs.SetElement u j y) (one_array v o.3) ∙ ap (λ u. rs.SetElement o.0 u y) (one_expr h o.4) ∙ ap (λ u. rs.SetElement o.0 o.1 u) (one_expr g o.5) ∙ sym o.6
    one_stmt {q = q} (n.print {a = x} h) l =
        let o = stmt_layer_of (s.Print x) q (Stmt-F.Print x) (s.outs-Print x) l in
        ap rs.Print (one_expr h o.1) ∙ sym o.2
    one_stmt {q = q} (n.choose {a = x} {x = y} {us = us} {ws = ws} {ys = ks} {ns = ls} h f g) l =
        let o = stmt_layer_of (s.If x us ws) q (Stmt-F.If x us ws) (s.outs-If x us ws) l in
        ap (λ u. rs.If u ks ls) (one_expr h o.3) ∙ ap (λ u. rs.If o.0 u ls) (one_body f o.4) ∙ ap (λ u. rs.If o.0 o.1 u) (one_body g o.5) ∙ sym o.6
    one_stmt {q = q} (n.repeat {a = x} {x = y} {us = us} {ys = ks} h f) l =
        let o = stmt_layer_of (s.While x us) q (Stmt-F.While x us) (s.outs-While x us) l in
        ap (λ u. rs.While u ks) (one_expr h o.2) ∙ ap (λ u. rs.While o.0 u) (one_body f o.3) ∙ sym o.4

    pub one_body : {us : List Stmt} {zs ws : List RStmt} → NamedBody es us zs → NamedBody es us ws → zs ≡ ws
    one_body {ws = q} n.none l = sym (body_layer_of [] q l)
    one_body {ws = q} (n.more {u = u} {z = z} {us = us} {zs = zs} h f) l =
        let o = body_layer_of (u ∷ us) q l in
        ap (λ u. u ∷ zs) (one_stmt h o.2) ∙ ap (λ u. o.0 ∷ u) (one_body f o.3) ∙ sym o.4

pub one_program : (p : Program) (r q : RProgram) → IsNamed p r → IsNamed p q → r ≡ q
one_program p r q f g =
    let names : r.names ≡ q.names = one_declared f.declared g.declared in
    let P : List Entry → Type 0 = λ es. NamedBody es p.body q.body in
    let body : r.body ≡ q.body = one_body r.names f.range f.body (rw names g.body) in
    let first : r ≡ record { names = q.names; body = r.body } = ap (λ x. record { names = x; body = r.body }) names in
    first ∙ ap (λ x. record { names = q.names; body = x }) body
