-- Generated statements keep the limits, line by line.
use Rattle.std.proofs.Common.{◌≡◌, ℕ, zero, suc, ◌+◌, ◌*◌, ◌≤◌, pos, true, false, List, [], ◌∷◌, ◌++◌, length, refl, ap, sym, subst, ◌∙◌, arith, append_assoc}
use Rattle.std.specs.Prelude.{codes}
use Rattle.src_lexer.specs.declared.token.Keyword.TheVariants as w
use Rattle.src_lexer.specs.declared.token.Symbol.TheVariants as y
use Rattle.src_lexer.specs.declared.token.TokenKind.{TokenKind}
use Rattle.src_lexer.specs.declared.token.TokenKind.TheVariants.{Name, Word, Sym}
use Rattle.src_tree.specs.declared.tree.Ident.{Ident}
use Rattle.src_tree.specs.declared.tree.Expr.{Expr}
use Rattle.src_tree.specs.declared.tree.Stmt.{Stmt}
use Rattle.src_tree.specs.declared.tree.Stmt.TheVariants as s
use Rattle.src_tree.specs.Limits.{Mark, Bracket, without_signs, outside}
use Rattle.src_tree.specs.Plain.{IsName}
use Rattle.src_tree.specs.Text.{Text, text_of, expr_text, stmt_text, body_text}
use Rattle.src_tree.proofs.Equations.{text-number, text-var, text-element, text-one, text-two, text-assign, text-set, text-print, text-if, text-while}
use Rattle.soak_text.specs.Generator as g
use Rattle.soak_text.proofs.Shapes.{IsIndex, IsDrawn, IsItem, AreItems, test_of, next_of, body_drawn}
use Rattle.soak_text.proofs.Shapes as h
use Rattle.soak_text.proofs.PlainParts.{v_name, a_name}
use Rattle.soak_text.proofs.GeneratedRows.{Free, free_free, free_runs, runs_free, nothing, word, assigns, set_assigns, semi, array_ends, opens_body, closes_body, otherwise, lbracket, a_number}
use Rattle.soak_text.proofs.GeneratedRows as r
use Rattle.soak_text.proofs.Courses.{At, at, Leads, onward, one, end_fine, Walks, Fits, fits_number, fits_name, fits_element, fits_one, fits_two}

-- how deep an expression is, and of how many tokens, at most
abbrev pub deep : ℕ → ℕ
deep zero = 1
deep (suc n) = deep n + 2

abbrev pub long : ℕ → ℕ
long zero = 4
long (suc n) = long n * 2 + 5

long_some : (n : ℕ) → 4 ≤ long n
long_some zero = omega arith
long_some (suc n) = omega (arith, long_some n)

deep_some : (n : ℕ) → 1 ≤ deep n
deep_some zero = omega arith
deep_some (suc n) = omega (arith, deep_some n)

-- a wider bound
pub wider : {d t : ℕ} {bs : List ℕ} (e u : ℕ) → d ≤ e → t ≤ u → Fits d t bs → Fits e u bs
wider e u a b f = record {
  kinds = f.kinds;
  runs = f.runs;
  walks = λ ms n p q.
      let v = f.walks ms n (omega (arith, a, p)) (omega (arith, b, q)) in
      record { marks = v.marks; count = v.count; same = v.same; few = omega (arith, v.few, b); leads = v.leads };
}

pub by_text : {d t : ℕ} (x : Expr) (text : Text) → text_of x ≡ text → Fits d t text.bytes → Fits d t (expr_text x)
by_text {d} {t} x text q f = subst (λ (u : Text). Fits d t u.bytes) (sym q) f

pub fits_index : {x : Expr} → IsIndex x → Fits 0 1 (expr_text x)
fits_index (h.number {k = k} b) = by_text (g.number k) _ (text-number (pos k)) (fits_number 0 1 k (omega (arith, b)) (omega arith))
fits_index (h.var {k = k} b) = by_text _ _ (text-var (g.v k)) (fits_name 0 1 (g.v k) (v_name k (omega (arith, b))) (omega arith))

pub fits_expr : {n : ℕ} {x : Expr} → IsDrawn n x → Fits (deep n) (long n) (expr_text x)
fits_expr (h.number {n = n} {k = k} b) = by_text (g.number k) _ (text-number (pos k)) (fits_number (deep n) (long n) k (omega (arith, b)) (omega (arith, long_some n)))
fits_expr (h.var {n = n} {k = k} b) = by_text _ _ (text-var (g.v k)) (fits_name (deep n) (long n) (g.v k) (v_name k (omega (arith, b))) (omega (arith, long_some n)))
fits_expr (h.element {n = n} {k = k} {i = i} b j) =
    by_text _ _ (text-element (g.a k) i) (wider (deep n) (long n) (deep_some n) (long_some n) (fits_element 0 1 (g.a k) (expr_text i) (a_name k (omega (arith, b))) (fits_index j)))
fits_expr (h.one {n = n} {op = op} {x = x} j) = by_text _ _ (text-one op x) (fits_one (deep n) (long n) op (text_of x) (fits_expr j))
fits_expr (h.two {n = n} {op = op} {x = x} {z = z} j k) = by_text _ _ (text-two op x z) (fits_two (deep n) (long n) op (text_of x) (text_of z) (fits_expr j) (fits_expr k))

abbrev pub braces : ℕ → List Mark
braces zero = []
braces (suc b) = Bracket ∷ braces b

braces_long : (b : ℕ) → length (braces b) ≡ b
braces_long zero = refl
braces_long (suc b) = ap suc (braces_long b)

braces_stay : (b : ℕ) → without_signs (braces b) ≡ braces b
braces_stay zero = refl
braces_stay (suc b) = refl

-- between two statements, in so many bodies
abbrev pub base : ℕ → At
base b = at (braces b) false 0

inside : (b n : ℕ) → b ≤ 50 → n ≤ 120 → (length (braces b) ≤ 64) × (n ≤ 120)
inside b n p q = (omega (arith, p, braces_long b), q)

-- bytes of whole statements, with bodies in them to so many levels
pub record Stands (m : ℕ) (bs : List ℕ) : Type 0 where
  pub kinds : List TokenKind
  pub free : Free bs kinds
  pub leads : (b : ℕ) → b + m ≤ 50 → Leads (base b) kinds (base b)

pub stands_as : {m : ℕ} {bs cs : List ℕ} → bs ≡ cs → Stands m bs → Stands m cs
stands_as {m} q f = subst (Stands m) q f

pub stands_both : (m : ℕ) (bs cs : List ℕ) → Stands m bs → Stands m cs → Stands m (bs ++ cs)
stands_both m bs cs f k = record {
  kinds = f.kinds ++ k.kinds;
  free = free_free bs cs f.kinds k.kinds f.free k.free;
  leads = λ b p. onward (f.leads b p) (k.leads b p);
}

pub stands_none : (m : ℕ) → Stands m []
stands_none m = record { kinds = []; free = nothing; leads = λ b p. record { within = inside b 0 (omega (arith, p)) (omega arith); ends = refl } }

pub stands_one : (m : ℕ) (x : Stmt) → Stands m (stmt_text x) → Stands m (body_text (x ∷ []))
stands_one m x f = stands_both m (stmt_text x) [] f (stands_none m)

-- the end of a statement, and the start of a body, behind an expression
ends_line : {t n : ℕ} {ks : List TokenKind} (b : ℕ) → b ≤ 50 → Walks t ks (braces b) n → Leads (at (braces b) false n) (ks ++ Sym y.Semi ∷ []) (base b)
ends_line b p v = onward v.leads
    (one (Sym y.Semi) (at v.marks true v.count) (base b) (ap (λ (ms : List Mark). at ms false 0) (v.same ∙ braces_stay b)) (end_fine v.leads) (inside b 0 p (omega arith)))

starts_body : {t n : ℕ} {ks : List TokenKind} (b : ℕ) → b + 1 ≤ 50 → Walks t ks (braces b) n → Leads (at (braces b) false n) (ks ++ Sym y.LBrace ∷ []) (base (suc b))
starts_body b p v = onward v.leads
    (one (Sym y.LBrace) (at v.marks true v.count) (base (suc b)) (ap (λ (ms : List Mark). at (Bracket ∷ ms) false 0) (v.same ∙ braces_stay b)) (end_fine v.leads)
    (inside (suc b) 0 (omega (arith, p)) (omega arith)))

ends_body : (b : ℕ) → b + 1 ≤ 50 → Leads (base (suc b)) (Sym y.RBrace ∷ []) (base b)
ends_body b p = one (Sym y.RBrace) (base (suc b)) (base b) refl (inside (suc b) 0 (omega (arith, p)) (omega arith)) (inside b 0 (omega (arith, p)) (omega arith))

else_body : (b : ℕ) → b + 1 ≤ 50 → Leads (base (suc b)) (Sym y.RBrace ∷ Word w.Else ∷ Sym y.LBrace ∷ []) (base (suc b))
else_body b p = onward (ends_body b p)
    (onward
    (one (Word w.Else) (base b) (at (braces b) false 1) refl (inside b 0 (omega (arith, p)) (omega arith)) (inside b 1 (omega (arith, p)) (omega arith)))
    (one (Sym y.LBrace) (at (braces b) false 1) (base (suc b)) (ap (λ (ms : List Mark). at (Bracket ∷ ms) false 0) (braces_stay b))
    (inside b 1 (omega (arith, p)) (omega arith)) (inside (suc b) 0 (omega (arith, p)) (omega arith))))

leads_as : {a b : At} {ks js : List TokenKind} → ks ≡ js → Leads a ks b → Leads a js b
leads_as {a} {b} q v = let P : List TokenKind → Type 0 = λ ks. Leads a ks b in subst P q v

-- an assignment's first tokens
names_it : (b : ℕ) → b ≤ 50 → Leads (base b) (Name ∷ []) (at (braces b) true 1)
names_it b p = one Name (base b) (at (braces b) true 1) refl (inside b 0 p (omega arith)) (inside b 1 p (omega arith))

assigns_it : (b n : ℕ) → b ≤ 50 → n ≤ 100 → Leads (at (braces b) true n) (Sym y.Assign ∷ []) (at (braces b) false (suc n))
assigns_it b n p q = one (Sym y.Assign) (at (braces b) true n) (at (braces b) false (suc n)) (ap (λ (ms : List Mark). at ms false (suc n)) (braces_stay b))
    (inside b n p (omega (arith, q))) (inside b (suc n) p (omega (arith, q)))

walks_in : {d t : ℕ} {bs : List ℕ} (f : Fits d t bs) (b n : ℕ) → b ≤ 50 → d ≤ 10 → n + t ≤ 120 → Walks t f.kinds (braces b) n
walks_in f b n p q c = f.walks (braces b) n (omega (arith, p, q, braces_long b)) c

pub stands_assign : (m : ℕ) (i : Ident) (x : Expr) → IsName i → Fits 7 67 (expr_text x) → Stands m (stmt_text (s.Assign i x))
stands_assign m i x k f = stands_as (sym (text-assign i x))
    (record {
      kinds = (Name ∷ []) ++ (Sym y.Assign ∷ []) ++ f.kinds ++ (Sym y.Semi ∷ []);
      free = runs_free (i.text ++ codes " = " ++ expr_text x) (codes ";\n") ((Name ∷ []) ++ (Sym y.Assign ∷ []) ++ f.kinds) (Sym y.Semi ∷ [])
          (free_runs (i.text ++ codes " = ") (expr_text x) ((Name ∷ []) ++ (Sym y.Assign ∷ [])) f.kinds
          (runs_free i.text (codes " = ") (Name ∷ []) (Sym y.Assign ∷ []) (r.a_name i k) (λ rest. refl) assigns) f.runs) (λ rest. refl) semi;
      leads = λ b p. onward (names_it b (omega (arith, p))) (onward (assigns_it b 1 (omega (arith, p)) (omega arith))
          (ends_line b (omega (arith, p)) (walks_in f b 2 (omega (arith, p)) (omega arith) (omega arith))));
    })

pub stands_print : (m : ℕ) (x : Expr) → Fits 7 67 (expr_text x) → Stands m (stmt_text (s.Print x))
stands_print m x f = stands_as (sym (text-print x))
    (record {
      kinds = (Word w.Print ∷ []) ++ f.kinds ++ (Sym y.Semi ∷ []);
      free = runs_free (codes "print " ++ expr_text x) (codes ";\n") ((Word w.Print ∷ []) ++ f.kinds) (Sym y.Semi ∷ [])
          (free_runs (codes "print ") (expr_text x) (Word w.Print ∷ []) f.kinds (word w.Print) f.runs) (λ rest. refl) semi;
      leads = λ b p. onward
          (one (Word w.Print) (base b) (at (braces b) false 1) refl (inside b 0 (omega (arith, p)) (omega arith)) (inside b 1 (omega (arith, p)) (omega arith)))
          (ends_line b (omega (arith, p)) (walks_in f b 1 (omega (arith, p)) (omega arith) (omega arith)));
    })

pub stands_set : (m : ℕ) (i : Ident) (j x : Expr) → IsName i → Fits 0 1 (expr_text j) → Fits 7 67 (expr_text x) → Stands m (stmt_text (s.SetElement i j x))
stands_set m i j x k e f = stands_as (sym (text-set i j x))
    (record {
      kinds = (Name ∷ []) ++ (Sym y.LBracket ∷ []) ++ e.kinds ++ (Sym y.RBracket ∷ Sym y.Assign ∷ []) ++ f.kinds ++ (Sym y.Semi ∷ []);
      free = runs_free (i.text ++ codes "[" ++ expr_text j ++ codes "] = " ++ expr_text x) (codes ";\n")
          ((Name ∷ []) ++ (Sym y.LBracket ∷ []) ++ e.kinds ++ (Sym y.RBracket ∷ Sym y.Assign ∷ []) ++ f.kinds) (Sym y.Semi ∷ [])
          (free_runs (i.text ++ codes "[" ++ expr_text j ++ codes "] = ") (expr_text x)
          ((Name ∷ []) ++ (Sym y.LBracket ∷ []) ++ e.kinds ++ (Sym y.RBracket ∷ Sym y.Assign ∷ [])) f.kinds
          (runs_free (i.text ++ codes "[" ++ expr_text j) (codes "] = ") ((Name ∷ []) ++ (Sym y.LBracket ∷ []) ++ e.kinds) (Sym y.RBracket ∷ Sym y.Assign ∷ [])
          (free_runs (i.text ++ codes "[") (expr_text j) ((Name ∷ []) ++ (Sym y.LBracket ∷ [])) e.kinds
          (runs_free i.text (codes "[") (Name ∷ []) (Sym y.LBracket ∷ []) (r.a_name i k) (λ rest. refl) lbracket) e.runs) (λ rest. refl) set_assigns)
          f.runs) (λ rest. refl) semi;
      leads = λ b p.
          let v : Walks 1 e.kinds (braces (suc b)) 2 = e.walks (braces (suc b)) 2 (omega (arith, p, braces_long b)) (omega arith) in
          let open_it : Leads (at (braces b) true 1) (Sym y.LBracket ∷ []) (at (braces (suc b)) false 2) =
          one (Sym y.LBracket) (at (braces b) true 1) (at (braces (suc b)) false 2) refl (inside b 1 (omega (arith, p)) (omega arith)) (omega (arith, p, braces_long b), omega arith) in
          let close_it : Leads (at v.marks true v.count) (Sym y.RBracket ∷ []) (at (braces b) true (suc v.count)) =
          one (Sym y.RBracket) (at v.marks true v.count) (at (braces b) true (suc v.count)) (ap (λ (ms : List Mark). at (outside ms) true (suc v.count)) v.same) (end_fine v.leads)
          (inside b (suc v.count) (omega (arith, p)) (omega (arith, v.few))) in
          leads_as (sym (append_assoc ((Name ∷ []) ++ (Sym y.LBracket ∷ []) ++ e.kinds ++ (Sym y.RBracket ∷ Sym y.Assign ∷ [])) f.kinds (Sym y.Semi ∷ [])))
          (onward (onward (onward (onward (names_it b (omega (arith, p))) open_it) v.leads)
          (onward close_it (assigns_it b (suc v.count) (omega (arith, p)) (omega (arith, v.few)))))
          (ends_line b (omega (arith, p)) (walks_in f b (suc (suc v.count)) (omega (arith, p)) (omega arith) (omega (arith, v.few)))));
    })

pub stands_if : (m : ℕ) (c : Expr) (xs ys : List Stmt) → Fits 7 67 (expr_text c) → Stands m (body_text xs) → Stands m (body_text ys) → Stands (suc m) (stmt_text (s.If c xs ys))
stands_if m c xs ys f u v = stands_as (sym (text-if c xs ys))
    (record {
      kinds = (Word w.If ∷ []) ++ f.kinds ++ (Sym y.LBrace ∷ []) ++ u.kinds ++ (Sym y.RBrace ∷ Word w.Else ∷ Sym y.LBrace ∷ []) ++ v.kinds ++ (Sym y.RBrace ∷ []);
      free = free_free (codes "if " ++ expr_text c ++ codes " {\n" ++ body_text xs ++ codes "} else {\n" ++ body_text ys) (codes "}\n")
          ((Word w.If ∷ []) ++ f.kinds ++ (Sym y.LBrace ∷ []) ++ u.kinds ++ (Sym y.RBrace ∷ Word w.Else ∷ Sym y.LBrace ∷ []) ++ v.kinds) (Sym y.RBrace ∷ [])
          (free_free (codes "if " ++ expr_text c ++ codes " {\n" ++ body_text xs ++ codes "} else {\n") (body_text ys)
          ((Word w.If ∷ []) ++ f.kinds ++ (Sym y.LBrace ∷ []) ++ u.kinds ++ (Sym y.RBrace ∷ Word w.Else ∷ Sym y.LBrace ∷ [])) v.kinds
          (free_free (codes "if " ++ expr_text c ++ codes " {\n" ++ body_text xs) (codes "} else {\n")
          ((Word w.If ∷ []) ++ f.kinds ++ (Sym y.LBrace ∷ []) ++ u.kinds) (Sym y.RBrace ∷ Word w.Else ∷ Sym y.LBrace ∷ [])
          (free_free (codes "if " ++ expr_text c ++ codes " {\n") (body_text xs) ((Word w.If ∷ []) ++ f.kinds ++ (Sym y.LBrace ∷ [])) u.kinds
          (runs_free (codes "if " ++ expr_text c) (codes " {\n") ((Word w.If ∷ []) ++ f.kinds) (Sym y.LBrace ∷ [])
          (free_runs (codes "if ") (expr_text c) (Word w.If ∷ []) f.kinds (word w.If) f.runs) (λ rest. refl) opens_body)
          u.free) otherwise) v.free) closes_body;
      leads = λ b p. onward (onward (onward (onward (onward
          (one (Word w.If) (base b) (at (braces b) false 1) refl (inside b 0 (omega (arith, p)) (omega arith)) (inside b 1 (omega (arith, p)) (omega arith)))
          (starts_body b (omega (arith, p)) (walks_in f b 1 (omega (arith, p)) (omega arith) (omega arith))))
          (u.leads (suc b) (omega (arith, p)))) (else_body b (omega (arith, p)))) (v.leads (suc b) (omega (arith, p)))) (ends_body b (omega (arith, p)));
    })

pub stands_while : (m : ℕ) (c : Expr) (xs : List Stmt) → Fits 7 67 (expr_text c) → Stands m (body_text xs) → Stands (suc m) (stmt_text (s.While c xs))
stands_while m c xs f u = stands_as (sym (text-while c xs))
    (record {
      kinds = (Word w.While ∷ []) ++ f.kinds ++ (Sym y.LBrace ∷ []) ++ u.kinds ++ (Sym y.RBrace ∷ []);
      free = free_free (codes "while " ++ expr_text c ++ codes " {\n" ++ body_text xs) (codes "}\n")
          ((Word w.While ∷ []) ++ f.kinds ++ (Sym y.LBrace ∷ []) ++ u.kinds) (Sym y.RBrace ∷ [])
          (free_free (codes "while " ++ expr_text c ++ codes " {\n") (body_text xs) ((Word w.While ∷ []) ++ f.kinds ++ (Sym y.LBrace ∷ [])) u.kinds
          (runs_free (codes "while " ++ expr_text c) (codes " {\n") ((Word w.While ∷ []) ++ f.kinds) (Sym y.LBrace ∷ [])
          (free_runs (codes "while ") (expr_text c) (Word w.While ∷ []) f.kinds (word w.While) f.runs) (λ rest. refl) opens_body) u.free) closes_body;
      leads = λ b p. onward (onward (onward
          (one (Word w.While) (base b) (at (braces b) false 1) refl (inside b 0 (omega (arith, p)) (omega arith)) (inside b 1 (omega (arith, p)) (omega arith)))
          (starts_body b (omega (arith, p)) (walks_in f b 1 (omega (arith, p)) (omega arith) (omega arith))))
          (u.leads (suc b) (omega (arith, p)))) (ends_body b (omega (arith, p)));
    })
