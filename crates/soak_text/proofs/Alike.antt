-- A tree that is the same, places aside, is named by the same program.
use Rattle.std.proofs.Common.{◌≡◌, ℕ, ℤ, pos, List, [], ◌∷◌, Some, refl, ap, sym, subst, ◌∙◌}
use Rattle.bm_base.specs.declared.names.Kind.{Kind}
use Rattle.bm_base.specs.declared.names.Kind.TheVariants as k
use Rattle.bm_base.specs.Entry.{Entry}
use Rattle.src_tree.specs.declared.tree.Ident.{Ident}
use Rattle.src_tree.specs.declared.tree.Decl.{Decl}
use Rattle.src_tree.specs.declared.tree.Decl.TheVariants as d
use Rattle.src_tree.specs.declared.tree.Expr.{Expr, Expr-F}
use Rattle.src_tree.specs.declared.tree.Expr.TheViews.{out-Expr}
use Rattle.src_tree.specs.declared.tree.Expr.TheVariants as e
use Rattle.src_tree.specs.declared.tree.Stmt.{Stmt, Stmt-F}
use Rattle.src_tree.specs.declared.tree.Stmt.TheViews.{out-Stmt}
use Rattle.src_tree.specs.declared.tree.Stmt.TheVariants as s
use Rattle.src_tree.specs.declared.tree.Program.{Program}
use Rattle.src_tree.specs.Same.{SameName, SameExpr, SameStmt, SameBody, SameDecls, IsSame}
use Rattle.src_tree.specs.Same as z
use Rattle.src_names.specs.declared.resolved.RExpr.{RExpr}
use Rattle.src_names.specs.declared.resolved.RStmt.{RStmt}
use Rattle.src_names.specs.RProgram.{RProgram}
use Rattle.src_names.specs.Declarations.{AreDeclared}
use Rattle.src_names.specs.Declarations as a
use Rattle.src_names.specs.Named.{IsVar, IsArray, NamedExpr, NamedStmt, NamedBody, IsNamed}
use Rattle.src_names.specs.Named as n

module _ (es : List Entry) where
  same_var : {m l : Ident} {id : ℕ} → SameName m l → IsVar es m id → IsVar es l id
  same_var s i = record { initial = i.initial; here = i.here ∙ ap (λ (t : List ℕ). Some (record { name = t; kind = k.Var i.initial })) s.text }

  same_array : {m l : Ident} {id : ℕ} → SameName m l → IsArray es m id → IsArray es l id
  same_array s i = record { len = i.len; here = i.here ∙ ap (λ (t : List ℕ). Some (record { name = t; kind = k.Array i.len })) s.text }

  -- to what an expression, by its layer, is the same
  abbrev Layer : Expr-F Expr → Expr → Type 0
  Layer (Expr-F.Number v) y = y ≡ e.Number v
  Layer (Expr-F.Var m) y = (l : Ident) × SameName m l × (y ≡ e.Var l)
  Layer (Expr-F.Element m i) y = (l : Ident) × (j : Expr) × SameName m l × SameExpr i j × (y ≡ e.Element l j)
  Layer (Expr-F.One op b) y = (c : Expr) × SameExpr b c × (y ≡ e.One op c)
  Layer (Expr-F.Two op b c) y = (u : Expr) × (w : Expr) × SameExpr b u × SameExpr c w × (y ≡ e.Two op u w)

  layer : {x y : Expr} → SameExpr x y → Layer (out-Expr x) y
  layer (z.number {v = v}) = rw (e.outs-Number v) refl
  layer (z.var {m = m} {n = l} h) = rw (e.outs-Var m) (l, h, refl)
  layer (z.element {m = m} {n = l} {i = i} {j = j} h t) = rw (e.outs-Element m i) (l, j, h, t, refl)
  layer (z.one {op = op} {a = b} {b = c} h) = rw (e.outs-One op b) (c, h, refl)
  layer (z.two {op = op} {a = b} {b = c} {c = u} {d = w} h t) = rw (e.outs-Two op b c) (u, w, h, t, refl)

  layer_of : (x y : Expr) (w : Expr-F Expr) → out-Expr x ≡ w → SameExpr x y → Layer w y
  layer_of x y w q h = let P : Expr-F Expr → Type 0 = λ u. Layer u y in subst P q (layer h)

  same_expr : {x : Expr} {r : RExpr} → NamedExpr es x r → (y : Expr) → SameExpr x y → NamedExpr es y r
  same_expr {r = r} (n.number {v = v}) y h =
      let P : Expr → Type 0 = λ u. NamedExpr es u r in
      subst P (sym (layer_of (e.Number v) y (Expr-F.Number v) (e.outs-Number v) h)) n.number
  same_expr {r = r} (n.var {n = m} i) y h =
      let P : Expr → Type 0 = λ u. NamedExpr es u r in
      let o = layer_of (e.Var m) y (Expr-F.Var m) (e.outs-Var m) h in
      subst P (sym o.2) (n.var (same_var o.1 i))
  same_expr {r = r} (n.element {n = m} {i = x} i j) y h =
      let P : Expr → Type 0 = λ u. NamedExpr es u r in
      let o = layer_of (e.Element m x) y (Expr-F.Element m x) (e.outs-Element m x) h in
      subst P (sym o.4) (n.element (same_array o.2 i) (same_expr j o.1 o.3))
  same_expr {r = r} (n.one {op = op} {a = b} i) y h =
      let P : Expr → Type 0 = λ u. NamedExpr es u r in
      let o = layer_of (e.One op b) y (Expr-F.One op b) (e.outs-One op b) h in
      subst P (sym o.2) (n.one (same_expr i o.0 o.1))
  same_expr {r = r} (n.two {op = op} {a = b} {b = c} i j) y h =
      let P : Expr → Type 0 = λ u. NamedExpr es u r in
      let o = layer_of (e.Two op b c) y (Expr-F.Two op b c) (e.outs-Two op b c) h in
      subst P (sym o.4) (n.two (same_expr i o.0 o.2) (same_expr j o.1 o.3))

  abbrev StmtLayer : Stmt-F Stmt → Stmt → Type 0
  StmtLayer (Stmt-F.Assign m x) y = (l : Ident) × (v : Expr) × SameName m l × SameExpr x v × (y ≡ s.Assign l v)
  StmtLayer (Stmt-F.SetElement m i x) y = (l : Ident) × (j : Expr) × (v : Expr) × SameName m l × SameExpr i j × SameExpr x v × (y ≡ s.SetElement l j v)
  StmtLayer (Stmt-F.Print x) y = (v : Expr) × SameExpr x v × (y ≡ s.Print v)
  StmtLayer (Stmt-F.If x us ws) y = (v : Expr) × (ks : List Stmt) × (ls : List Stmt) × SameExpr x v × SameBody us ks × SameBody ws ls × (y ≡ s.If v ks ls)
  StmtLayer (Stmt-F.While x us) y = (v : Expr) × (ks : List Stmt) × SameExpr x v × SameBody us ks × (y ≡ s.While v ks)

  stmt_layer : {x y : Stmt} → SameStmt x y → StmtLayer (out-Stmt x) y
  stmt_layer (z.assign {m = m} {n = l} {x = x} {z = v} h t) = rw (s.outs-Assign m x) (l, v, h, t, refl)
  stmt_layer (z.set {m = m} {n = l} {i = i} {j = j} {x = x} {z = v} h t u) = rw (s.outs-SetElement m i x) (l, j, v, h, t, u, refl)
  stmt_layer (z.print {x = x} {z = v} h) = rw (s.outs-Print x) (v, h, refl)
  stmt_layer (z.choose {x = x} {z = v} {ks = ks} {ms = ms} {us = us} {vs = ls} h t u) = rw (s.outs-If x ks ms) (v, us, ls, h, t, u, refl)
  stmt_layer (z.repeat {x = x} {z = v} {us = us} {vs = ks} h t) = rw (s.outs-While x us) (v, ks, h, t, refl)

  stmt_layer_of : (x y : Stmt) (w : Stmt-F Stmt) → out-Stmt x ≡ w → SameStmt x y → StmtLayer w y
  stmt_layer_of x y w q h = let P : Stmt-F Stmt → Type 0 = λ u. StmtLayer u y in subst P q (stmt_layer h)

  abbrev BodyLayer : List Stmt → List Stmt → Type 0
  BodyLayer [] ys = ys ≡ []
  BodyLayer (u ∷ us) ys = (v : Stmt) × (vs : List Stmt) × SameStmt u v × SameBody us vs × (ys ≡ v ∷ vs)

  body_layer : {xs ys : List Stmt} → SameBody xs ys → BodyLayer xs ys
  body_layer z.none = refl
  body_layer (z.more {z = v} {vs = vs} h t) = (v, vs, h, t, refl)

  body_layer_of : (xs ys : List Stmt) → SameBody xs ys → BodyLayer xs ys
  body_layer_of xs ys h = body_layer h

  mutual
    same_stmt : {x : Stmt} {r : RStmt} → NamedStmt es x r → (y : Stmt) → SameStmt x y → NamedStmt es y r
    same_stmt {r = r} (n.assign {n = m} {a = x} i j) y h =
        let P : Stmt → Type 0 = λ u. NamedStmt es u r in
        let o = stmt_layer_of (s.Assign m x) y (Stmt-F.Assign m x) (s.outs-Assign m x) h in
        subst P (sym o.4) (n.assign (same_var o.2 i) (same_expr j o.1 o.3))
    same_stmt {r = r} (n.set {n = m} {i = x} {a = w} i j l) y h =
        let P : Stmt → Type 0 = λ u. NamedStmt es u r in
        let o = stmt_layer_of (s.SetElement m x w) y (Stmt-F.SetElement m x w) (s.outs-SetElement m x w) h in
        subst P (sym o.6) (n.set (same_array o.3 i) (same_expr j o.1 o.4) (same_expr l o.2 o.5))
    same_stmt {r = r} (n.print {a = x} i) y h =
        let P : Stmt → Type 0 = λ u. NamedStmt es u r in
        let o = stmt_layer_of (s.Print x) y (Stmt-F.Print x) (s.outs-Print x) h in
        subst P (sym o.2) (n.print (same_expr i o.0 o.1))
    same_stmt {r = r} (n.choose {a = x} {us = us} {ws = ws} i j l) y h =
        let P : Stmt → Type 0 = λ u. NamedStmt es u r in
        let o = stmt_layer_of (s.If x us ws) y (Stmt-F.If x us ws) (s.outs-If x us ws) h in
        subst P (sym o.6) (n.choose (same_expr i o.0 o.3) (same_body j o.1 o.4) (same_body l o.2 o.5))
    same_stmt {r = r} (n.repeat {a = x} {us = us} i j) y h =
        let P : Stmt → Type 0 = λ u. NamedStmt es u r in
        let o = stmt_layer_of (s.While x us) y (Stmt-F.While x us) (s.outs-While x us) h in
        subst P (sym o.4) (n.repeat (same_expr i o.0 o.2) (same_body j o.1 o.3))

    same_body : {xs : List Stmt} {rs : List RStmt} → NamedBody es xs rs → (ys : List Stmt) → SameBody xs ys → NamedBody es ys rs
    same_body n.none ys h =
        let P : List Stmt → Type 0 = λ us. NamedBody es us [] in
        subst P (sym (body_layer_of [] ys h)) n.none
    same_body {rs = rs} (n.more {u = u} {us = us} i j) ys h =
        let P : List Stmt → Type 0 = λ us. NamedBody es us rs in
        let o = body_layer_of (u ∷ us) ys h in
        subst P (sym o.4) (n.more (same_stmt i o.0 o.2) (same_body j o.1 o.3))

abbrev entry : List ℕ → Kind → Entry
entry name kind = record { name = name; kind = kind }

same_decls : {ds : List Decl} {es : List Entry} → AreDeclared ds es → (fs : List Decl) → SameDecls ds fs → AreDeclared fs es
same_decls a.none [] h = a.none
same_decls a.none (f ∷ fs) h = absurd h
same_decls (a.var i) [] h = absurd h
same_decls (a.var {n = m} {v = v} {es = es} i) (d.Var l w ∷ fs) h =
    let P : Entry → Type 0 = λ x. AreDeclared (d.Var l w ∷ fs) (x ∷ es) in
    let name : entry l.text (k.Var w) ≡ entry m.text (k.Var w) = ap (λ (t : List ℕ). entry t (k.Var w)) (sym (h.0).0.text) in
    let value : entry m.text (k.Var w) ≡ entry m.text (k.Var v) = ap (λ (u : ℤ). entry m.text (k.Var u)) (sym (h.0).1) in
    subst P (name ∙ value) (a.var (same_decls i fs h.1))
same_decls (a.var i) (d.Array l w ∷ fs) h = absurd h.0
same_decls (a.array p i) [] h = absurd h
same_decls (a.array p i) (d.Var l w ∷ fs) h = absurd h.0
same_decls (a.array {n = m} {len = len} {es = es} p i) (d.Array l w ∷ fs) h =
    let P : Entry → Type 0 = λ x. AreDeclared (d.Array l (pos len) ∷ fs) (x ∷ es) in
    let Q : ℤ → Type 0 = λ u. AreDeclared (d.Array l u ∷ fs) (record { name = m.text; kind = k.Array len } ∷ es) in
    let name : entry l.text (k.Array len) ≡ entry m.text (k.Array len) = ap (λ (t : List ℕ). entry t (k.Array len)) (sym (h.0).0.text) in
    subst Q (h.0).1 (subst P name (a.array p (same_decls i fs h.1)))

-- a tree that is the same, places aside, is named by the same program
pub same : (p q : Program) (r : RProgram) → IsSame p q → IsNamed p r → IsNamed q r
same p q r s i = record { few = i.few; declared = same_decls i.declared q.decls s.decls; range = i.range; body = same_body r.names i.body q.body s.body }
