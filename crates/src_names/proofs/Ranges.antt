-- What names a tree with plain parts is in range.
use Rattle.std.proofs.Common.{◌≡◌, ◌+◌, ◌≤◌, ℤ, pos, negsuc, List, [], ◌∷◌, sym, subst, arith, w64, FitsSigned}
use Rattle.std.proofs.lemmas.List.Sums.{sum_by-cons}
use Rattle.std.specs.List.{AllByRecursion}
use Rattle.bm_base.specs.declared.names.Kind.TheVariants as k
use Rattle.bm_base.specs.Entry.{Entry}
use Rattle.bm_base.specs.Names.{AreInRange, elements_of, element_total}
use Rattle.src_tree.specs.declared.tree.Decl.{Decl}
use Rattle.src_tree.specs.declared.tree.Expr.{Expr, Expr-F}
use Rattle.src_tree.specs.declared.tree.Expr.TheVariants as e
use Rattle.src_tree.specs.declared.tree.Stmt.{Stmt, Stmt-F}
use Rattle.src_tree.specs.declared.tree.Stmt.TheVariants as s
use Rattle.src_tree.specs.declared.tree.Program.{Program}
use Rattle.src_tree.specs.Plain.{IsCount, IsInitial, IsPlainExpr, IsPlainStmt, IsPlainBody, ArePlainDecls}
use Rattle.src_tree.specs.Plain as p
use Rattle.src_tree.specs.Laws.{HasPlainParts}
use Rattle.src_names.specs.declared.resolved.RExpr.{RExpr}
use Rattle.src_names.specs.declared.resolved.RStmt.{RStmt}
use Rattle.src_names.specs.RProgram.{RProgram}
use Rattle.src_names.specs.Declarations.{AreDeclared}
use Rattle.src_names.specs.Declarations as a
use Rattle.src_names.specs.Named.{NamedExpr, NamedStmt, NamedBody, IsNamed}
use Rattle.src_names.specs.Ranges.{KindInRange, ExprInRange, StmtInRange, BodyInRange, IsInRange}
use Rattle.src_names.specs.Ranges as g
use Rattle.src_names.proofs.Unique.{layer_of, stmt_layer_of, body_layer_of}

count_fits : (v : ℤ) → IsCount v → FitsSigned w64 v
count_fits (pos n) h = record { sfits = omega (arith, h) }
count_fits (negsuc n) h = absurd h

initial_fits : (v : ℤ) → IsInitial v → FitsSigned w64 v
initial_fits (pos n) h = record { sfits = omega (arith, h) }
initial_fits (negsuc n) h = record { sfits = omega (arith, h) }

more_elements : (x : Entry) (es : List Entry) → element_total (x ∷ es) ≡ elements_of x.kind + element_total es
more_elements x es = sum_by-cons (λ (y : Entry). elements_of y.kind) x es

kinds_in_range : {ds : List Decl} {es : List Entry} → AreDeclared ds es → ArePlainDecls ds → element_total es ≤ 4294967295 → AllByRecursion (λ (x : Entry). KindInRange x.kind) es
kinds_in_range a.none w h = tt
kinds_in_range (a.var {n = n} {v = v} {es = es} d) w h =
    let m = more_elements (record { name = n.text; kind = k.Var v }) es in
    (initial_fits v (w.0).1, kinds_in_range d w.1 (omega (arith, m, h)))
kinds_in_range (a.array {n = n} {len = len} {es = es} l d) w h =
    let m = more_elements (record { name = n.text; kind = k.Array len }) es in
    (omega (arith, m, h), kinds_in_range d w.1 (omega (arith, m, h)))

module _ (es : List Entry) (range : AreInRange es) where
  expr_in_range : {x : Expr} → IsPlainExpr x → (z : RExpr) → NamedExpr es x z → ExprInRange z
  expr_in_range (p.number {v = v} h) z n =
      let o = layer_of es range (e.Number v) z (Expr-F.Number v) (e.outs-Number v) n in
      subst ExprInRange (sym o) (g.number (count_fits v h))
  expr_in_range (p.var {n = m} h) z n =
      let o = layer_of es range (e.Var m) z (Expr-F.Var m) (e.outs-Var m) n in
      subst ExprInRange (sym o.2) g.var
  expr_in_range (p.element {n = m} {i = i} h k) z n =
      let o = layer_of es range (e.Element m i) z (Expr-F.Element m i) (e.outs-Element m i) n in
      subst ExprInRange (sym o.4) (g.element (expr_in_range k o.1 o.3))
  expr_in_range (p.one {op = op} {a = x} h) z n =
      let o = layer_of es range (e.One op x) z (Expr-F.One op x) (e.outs-One op x) n in
      subst ExprInRange (sym o.2) (g.one (expr_in_range h o.0 o.1))
  expr_in_range (p.two {op = op} {a = x} {b = y} h k) z n =
      let o = layer_of es range (e.Two op x y) z (Expr-F.Two op x y) (e.outs-Two op x y) n in
      subst ExprInRange (sym o.4) (g.two (expr_in_range h o.0 o.2) (expr_in_range k o.1 o.3))

  mutual
    stmt_in_range : {x : Stmt} → IsPlainStmt x → (z : RStmt) → NamedStmt es x z → StmtInRange z
    stmt_in_range (p.assign {n = m} {x = x} h k) z n =
        let o = stmt_layer_of es range (s.Assign m x) z (Stmt-F.Assign m x) (s.outs-Assign m x) n in
        subst StmtInRange (sym o.4) (g.assign (expr_in_range k o.1 o.3))
    stmt_in_range (p.set {n = m} {i = i} {x = x} h k l) z n =
        let o = stmt_layer_of es range (s.SetElement m i x) z (Stmt-F.SetElement m i x) (s.outs-SetElement m i x) n in
        subst StmtInRange (sym o.6) (g.set (expr_in_range k o.1 o.4) (expr_in_range l o.2 o.5))
    stmt_in_range (p.print {x = x} h) z n =
        let o = stmt_layer_of es range (s.Print x) z (Stmt-F.Print x) (s.outs-Print x) n in
        subst StmtInRange (sym o.2) (g.print (expr_in_range h o.0 o.1))
    stmt_in_range (p.choose {c = x} {ys = us} {ns = ws} h k l) z n =
        let o = stmt_layer_of es range (s.If x us ws) z (Stmt-F.If x us ws) (s.outs-If x us ws) n in
        subst StmtInRange (sym o.6) (g.choose (expr_in_range h o.0 o.3) (body_in_range k o.1 o.4) (body_in_range l o.2 o.5))
    stmt_in_range (p.repeat {c = x} {body = us} h k) z n =
        let o = stmt_layer_of es range (s.While x us) z (Stmt-F.While x us) (s.outs-While x us) n in
        subst StmtInRange (sym o.4) (g.repeat (expr_in_range h o.0 o.2) (body_in_range k o.1 o.3))

    body_in_range : {us : List Stmt} → IsPlainBody us → (zs : List RStmt) → NamedBody es us zs → BodyInRange zs
    body_in_range p.none zs n = subst BodyInRange (sym (body_layer_of es range [] zs n)) g.none
    body_in_range (p.more {st = u} {body = us} h k) zs n =
        let o = body_layer_of es range (u ∷ us) zs n in
        subst BodyInRange (sym o.4) (g.more (stmt_in_range h o.0 o.2) (body_in_range k o.1 o.3))

pub is_in_range : (p : Program) (r : RProgram) → HasPlainParts p → IsNamed p r → IsInRange r
is_in_range p r w n = record {
  kinds = kinds_in_range n.declared w.decls (let h = n.range.room in omega (arith, h));
  body = body_in_range r.names n.range w.body r.body n.body;
}
