-- Generated programs have names for identifiers and numbers that are 0 or more.
use Rattle.std.proofs.Common.{◌≡◌, ℕ, zero, suc, ◌+◌, ◌<◌, Bool, true, false, ◌&&◌, ◌||◌, List, [], ◌∷◌, ◌++◌, refl, All, arith, lit<}
use Rattle.bm_base.specs.Names.{goes_on_name}
use Rattle.src_tree.specs.declared.tree.Expr.{Expr}
use Rattle.src_tree.specs.declared.tree.Stmt.{Stmt}
use Rattle.src_tree.specs.Plain.{IsName, IsPlainExpr, IsPlainStmt, IsPlainBody, ArePlainDecls}
use Rattle.src_tree.specs.Plain as l
use Rattle.soak_text.specs.Generator as g
use Rattle.soak_text.proofs.Shapes.{IsIndex, IsDrawn, IsItem, AreItems}
use Rattle.soak_text.proofs.Shapes as h

digit : (k : ℕ) → k < 10 → goes_on_name (48 + k) ≡ true
digit zero b = refl
digit (suc zero) b = refl
digit (suc (suc zero)) b = refl
digit (suc (suc (suc zero))) b = refl
digit (suc (suc (suc (suc zero)))) b = refl
digit (suc (suc (suc (suc (suc zero))))) b = refl
digit (suc (suc (suc (suc (suc (suc zero)))))) b = refl
digit (suc (suc (suc (suc (suc (suc (suc zero))))))) b = refl
digit (suc (suc (suc (suc (suc (suc (suc (suc zero)))))))) b = refl
digit (suc (suc (suc (suc (suc (suc (suc (suc (suc zero))))))))) b = refl
digit (suc (suc (suc (suc (suc (suc (suc (suc (suc (suc k)))))))))) b = absurd (omega (arith, b))

-- a letter and a digit, which are no reserved word
each : (letter k : ℕ) → goes_on_name letter ≡ true → k < 10 → All (λ c. goes_on_name c ≡ true) (letter ∷ (48 + k) ∷ [])
each letter k a b zero c n = a
each letter k a b (suc zero) c n = digit k b
each letter k a b (suc (suc i)) c n = absurd (omega (arith, n))

never : (b : Bool) → (b && false) || false ≡ false
never true = refl
never false = refl

pub v_name : (k : ℕ) → k < 10 → IsName (g.v k)
v_name k b = record { text = record { begins = refl; goes_on = each 118 k refl b; free = never _ }; short = omega arith }

pub a_name : (k : ℕ) → k < 10 → IsName (g.a k)
a_name k b = record { text = record { begins = refl; goes_on = each 97 k refl b; free = never _ }; short = omega arith }

pub l_name : (k : ℕ) → k < 10 → IsName (g.l k)
l_name k b = record { text = record { begins = refl; goes_on = each 108 k refl b; free = refl }; short = omega arith }

plain_index : {x : Expr} → IsIndex x → IsPlainExpr x
plain_index (h.number b) = l.number (omega (arith, b))
plain_index (h.var {k = k} b) = l.var (v_name k (omega (arith, b)))

pub plain_expr : {n : ℕ} {x : Expr} → IsDrawn n x → IsPlainExpr x
plain_expr (h.number b) = l.number (omega (arith, b))
plain_expr (h.var {k = k} b) = l.var (v_name k (omega (arith, b)))
plain_expr (h.element {k = k} b i) = l.element (a_name k (omega (arith, b))) (plain_index i)
plain_expr (h.one x) = l.one (plain_expr x)
plain_expr (h.two x z) = l.two (plain_expr x) (plain_expr z)

append : {xs ys : List Stmt} → IsPlainBody xs → IsPlainBody ys → IsPlainBody (xs ++ ys)
append l.none q = q
append (l.more s p) q = l.more s (append p q)

mutual
  plain_item : {m : ℕ} {xs : List Stmt} → IsItem m xs → IsPlainBody xs
  plain_item (h.assign {k = k} b x) = l.more (l.assign (v_name k (omega (arith, b))) (plain_expr x)) l.none
  plain_item (h.set {k = k} b i x) = l.more (l.set (a_name k (omega (arith, b))) (plain_index i) (plain_expr x)) l.none
  plain_item (h.print x) = l.more (l.print (plain_expr x)) l.none
  plain_item (h.choose c a us b vs) = l.more (l.choose (plain_expr c) (plain_items us) (plain_items vs)) l.none
  plain_item (h.repeat {k = k} b a c us) =
      let i : IsName (g.l k) = l_name k (omega (arith, b)) in
      l.more (l.assign i (l.number (lit< tt)))
      (l.more (l.repeat (l.two (l.var i) (l.number (omega (arith, a)))) (append (plain_items us) (l.more (l.assign i (l.two (l.var i) (l.number (lit< tt)))) l.none))) l.none)

  pub plain_items : {m k : ℕ} {xs : List Stmt} → AreItems m k xs → IsPlainBody xs
  plain_items h.none = l.none
  plain_items (h.more us x) = append (plain_items us) (plain_item x)

pub plain_decls : ArePlainDecls g.decls
plain_decls =
    ((v_name 0 (omega arith), lit< tt), ((v_name 1 (omega arith), lit< tt), ((v_name 2 (omega arith), lit< tt), ((v_name 3 (omega arith), lit< tt), ((v_name 4 (omega arith), lit< tt), ((v_name 5 (omega arith), lit< tt), ((v_name 6 (omega arith), lit< tt), ((v_name 7 (omega arith), lit< tt), ((a_name 0 (omega arith), lit< tt), ((a_name 1 (omega arith), lit< tt), ((l_name 0 (omega arith), lit< tt), ((l_name 1 (omega arith), lit< tt), tt))))))))))))
