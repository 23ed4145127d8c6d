-- How long the text of a generated program is.
use Rattle.std.proofs.Common.{◌≡◌, ℕ, zero, suc, ◌+◌, ◌*◌, ◌<◌, ◌≤◌, pos, List, [], ◌∷◌, ◌++◌, length, map, refl, ap, sym, ◌∙◌, arith, lit<, append_assoc, subst}
use Rattle.std.proofs.lemmas.List.{length-append}
use Rattle.std.proofs.lemmas.Fmt.{length-decimal-le}
use Rattle.std.proofs.lemmas.Nat.{mul-le}
use Rattle.std.specs.Prelude.{nat_lt, codes}
use Rattle.std.specs.Fmt.{decimal, signed_decimal}
use Rattle.bm_base.specs.declared.word.Un.{Un}
use Rattle.bm_base.specs.declared.word.Un.TheVariants as un
use Rattle.bm_base.specs.declared.word.Bin.{Bin}
use Rattle.bm_base.specs.declared.word.Bin.TheVariants as bin
use Rattle.src_lexer.specs.Symbols.{spelling}
use Rattle.src_lexer.proofs.SymbolFacts.{short}
use Rattle.src_tree.specs.declared.tree.Expr.{Expr, Expr-F}
use Rattle.src_tree.specs.declared.tree.Expr.TheVariants as e
use Rattle.src_tree.specs.declared.tree.Stmt.{Stmt}
use Rattle.src_tree.specs.declared.tree.Stmt.TheVariants as s
use Rattle.src_tree.specs.Operators.{level, operand, bin_symbol, un_symbol}
use Rattle.src_tree.specs.Text.{Text, tight, spaced, text_of, text_step, expr_text, joined, stmt_text, body_text, decl_text, program_text}
use Rattle.src_tree.proofs.Equations.{text-number, text-var, text-element, text-one, text-two, text-assign, text-set, text-print, text-if, text-while}
use Rattle.soak_text.specs.Generator as g
use Rattle.soak_text.proofs.Shapes.{IsIndex, IsDrawn, IsItem, AreItems, test_of, next_of, by_test, body_drawn}
use Rattle.soak_text.proofs.Shapes as h

-- the most bytes of an expression
abbrev pub size : ℕ → ℕ
size zero = 6
size (suc n) = size n * 2 + 8

size_some : (n : ℕ) → 6 ≤ size n
size_some zero = omega arith
size_some (suc n) = omega (arith, size_some n)

decimal_short : (k : ℕ) → k < 100 → length (decimal k) ≤ 2
decimal_short k b = length-decimal-le 2 k (lit< tt) b (omega (arith, b))

digit_short : (k : ℕ) → k < 10 → length (decimal k) ≤ 1
digit_short k b = length-decimal-le 1 k (lit< tt) b (omega (arith, b))

tight_short : (least : ℕ) (t : Text) (n : ℕ) → length t.bytes ≤ n → length (tight least t) ≤ n + 2
tight_short least t n b = by_test (λ (bs : List ℕ). length bs ≤ n + 2) (nat_lt t.level least) (codes "(" ++ t.bytes ++ codes ")") t.bytes
    (simp (length-append) (omega (arith, b))) (omega (arith, b))

un_short : (op : Un) → length (spelling (un_symbol op)) ≤ 1
un_short un.Neg = omega arith
un_short un.Not = omega arith

by_text : (x : Expr) {t : Text} {n : ℕ} → text_of x ≡ t → length t.bytes ≤ n → length (expr_text x) ≤ n
by_text x {n = n} q b = subst (λ (t : Text). length t.bytes ≤ n) (sym q) b

index_short : {i : Expr} → IsIndex i → length (expr_text i) ≤ 2
index_short (h.number {k = k} b) = by_text _ (text-number (pos k)) (decimal_short k (omega (arith, b)))
index_short (h.var {k = k} b) = by_text _ (text-var (g.v k)) (omega arith)

pub expr_short : {n : ℕ} {x : Expr} → IsDrawn n x → length (expr_text x) ≤ size n
expr_short (h.number {n = n} {k = k} b) = by_text _ (text-number (pos k)) (omega (arith, decimal_short k b, size_some n))
expr_short (h.var {n = n} {k = k} b) = by_text _ (text-var (g.v k)) (omega (arith, size_some n))
expr_short (h.element {n = n} {k = k} {i = i} b d) =
    let t : length (text_of i).bytes ≤ 2 = index_short d in
    by_text _ (text-element (g.a k) i) (simp (length-append) (omega (arith, t, size_some n)))
expr_short (h.one {n = n} {op = op} {x = x} d) =
    let t : length (tight operand (text_of x)) ≤ size n + 2 = tight_short operand (text_of x) (size n) (expr_short d) in
    by_text _ (text-one op x) (simp (length-append) (omega (arith, t, un_short op)))
expr_short (h.two {n = n} {op = op} {x = x} {z = z} d k) =
    let t : length (tight (level op) (text_of x)) ≤ size n + 2 = tight_short (level op) (text_of x) (size n) (expr_short d) in
    let u : length (tight (suc (level op)) (text_of z)) ≤ size n + 2 = tight_short (suc (level op)) (text_of z) (size n) (expr_short k) in
    by_text _ (text-two op x z) (simp (length-append) (omega (arith, t, u, short (bin_symbol op))))

-- the most bytes of an item
abbrev pub item_size : ℕ → ℕ
item_size zero = 115
item_size (suc m) = item_size m * 6 + 65

pub body_text-append : (xs ys : List Stmt) → body_text (xs ++ ys) ≡ body_text xs ++ body_text ys
body_text-append [] ys = refl
body_text-append (x ∷ xs) ys = ap (λ (bs : List ℕ). stmt_text x ++ bs) (body_text-append xs ys) ∙ sym (append_assoc (stmt_text x) (body_text xs) (body_text ys))

one_short : (x : Stmt) (n : ℕ) → length (stmt_text x) ≤ n → length (body_text (x ∷ [])) ≤ n
one_short x n b = simp (length-append) (omega (arith, b))

item_some : (m : ℕ) → 115 ≤ item_size m
item_some zero = omega arith
item_some (suc m) = omega (arith, item_some m)

times : (j n : ℕ) → j ≤ 3 → j * n ≤ 3 * n
times j n b = mul-le j n 3 n b (omega arith)

decls_short : length (joined (map decl_text g.decls)) ≤ 200
decls_short =
    let n0 : length (signed_decimal (pos (1 + 0))) ≤ 1 = digit_short 1 (omega arith) in
    let n1 : length (signed_decimal (pos (1 + 1))) ≤ 1 = digit_short 2 (omega arith) in
    let n2 : length (signed_decimal (pos (1 + 2))) ≤ 1 = digit_short 3 (omega arith) in
    let n3 : length (signed_decimal (pos (1 + 3))) ≤ 1 = digit_short 4 (omega arith) in
    let n4 : length (signed_decimal (pos (1 + 4))) ≤ 1 = digit_short 5 (omega arith) in
    let n5 : length (signed_decimal (pos (1 + 5))) ≤ 1 = digit_short 6 (omega arith) in
    let n6 : length (signed_decimal (pos (1 + 6))) ≤ 1 = digit_short 7 (omega arith) in
    let n7 : length (signed_decimal (pos (1 + 7))) ≤ 1 = digit_short 8 (omega arith) in
    let b : length (signed_decimal (pos 16)) ≤ 2 = decimal_short 16 (omega arith) in
    let c : length (signed_decimal (pos 0)) ≤ 1 = digit_short 0 (omega arith) in
    simp (length-append) (omega (arith, n0, n1, n2, n3, n4, n5, n6, n7, b, c))

by_stmt : (x : Stmt) {bs : List ℕ} {n : ℕ} → stmt_text x ≡ bs → length bs ≤ n → length (stmt_text x) ≤ n
by_stmt x {n = n} q b = subst (λ (t : List ℕ). length t ≤ n) (sym q) b

assign_short : (letter k : ℕ) (x : Expr) (n : ℕ) → length (expr_text x) ≤ n → length (stmt_text (s.Assign (g.named letter k) x)) ≤ n + 7
assign_short letter k x n b = by_stmt _ (text-assign (g.named letter k) x) (simp (length-append) (omega (arith, b)))

-- an operator between a count and a digit
count_short : (op : Bin) (k j : ℕ) → j < 10 → length (spelling (bin_symbol op)) ≤ 1 → length (expr_text (e.Two op (e.Var (g.l k)) (g.number j))) ≤ 6
count_short op k j b o =
    let q : text_of (e.Two op (e.Var (g.l k)) (g.number j)) ≡ text_step (Expr-F.Two op (text_step (Expr-F.Var (g.l k))) (text_step (Expr-F.Number (pos j)))) =
    text-two op (e.Var (g.l k)) (g.number j)
    ∙ ap (λ (t : Text). text_step (Expr-F.Two op t (text_of (g.number j)))) (text-var (g.l k))
    ∙ ap (λ (t : Text). text_step (Expr-F.Two op (text_step (Expr-F.Var (g.l k))) t)) (text-number (pos j)) in
    by_text _ q (untied op (48 + k) (decimal j) (digit_short j b) o)
  where
    untied : (op : Bin) (d : ℕ) (bs : List ℕ) → length bs ≤ 1 → length (spelling (bin_symbol op)) ≤ 1 →
        length (tight (level op) (record { level = operand; bytes = 108 ∷ d ∷ [] }) ++ spaced (bin_symbol op) ++ tight (suc (level op)) (record { level = operand; bytes = bs })) ≤ 6
    untied bin.Or d bs b o = simp (length-append) (omega (arith, b))
    untied bin.Xor d bs b o = simp (length-append) (omega (arith, b))
    untied bin.And d bs b o = simp (length-append) (omega (arith, b))
    untied bin.Eq d bs b o = absurd (omega (arith, o))
    untied bin.Ne d bs b o = absurd (omega (arith, o))
    untied bin.Lt d bs b o = simp (length-append) (omega (arith, b))
    untied bin.Le d bs b o = absurd (omega (arith, o))
    untied bin.Gt d bs b o = simp (length-append) (omega (arith, b))
    untied bin.Ge d bs b o = absurd (omega (arith, o))
    untied bin.Shl d bs b o = absurd (omega (arith, o))
    untied bin.Shr d bs b o = absurd (omega (arith, o))
    untied bin.Add d bs b o = simp (length-append) (omega (arith, b))
    untied bin.Sub d bs b o = simp (length-append) (omega (arith, b))
    untied bin.Mul d bs b o = simp (length-append) (omega (arith, b))
    untied bin.Div d bs b o = simp (length-append) (omega (arith, b))
    untied bin.Rem d bs b o = simp (length-append) (omega (arith, b))

mutual
  item_short : {m : ℕ} {xs : List Stmt} → IsItem m xs → length (body_text xs) ≤ item_size m
  item_short (h.assign {m = m} {k = k} {x = x} b d) =
      one_short (s.Assign (g.v k) x) (item_size m) (omega (arith, assign_short 118 k x 104 (expr_short d), item_some m))
  item_short (h.set {m = m} {k = k} {i = i} {x = x} b j d) =
      one_short (s.SetElement (g.a k) i x) (item_size m)
      (by_stmt _ (text-set (g.a k) i x) (simp (length-append) (omega (arith, index_short j, expr_short d, item_some m))))
  item_short (h.print {m = m} {x = x} d) =
      one_short (s.Print x) (item_size m) (by_stmt _ (text-print x) (simp (length-append) (omega (arith, expr_short d, item_some m))))
  item_short (h.choose {m = m} {j = j} {k = k} {c = c} {xs = xs} {ys = ys} d a u b w) =
      let p : j * item_size m ≤ 3 * item_size m = times j (item_size m) a in
      let q : k * item_size m ≤ 3 * item_size m = times k (item_size m) b in
      one_short (s.If c xs ys) (item_size (suc m))
      (by_stmt _ (text-if c xs ys) (simp (length-append) (omega (arith, expr_short d, items_short u, items_short w, p, q))))
  item_short (h.repeat {m = m} {i = i} {j = j} {k = k} {xs = xs} b a c u) =
      let p : i * item_size m ≤ 3 * item_size m = times i (item_size m) c in
      let test : length (expr_text (test_of k j)) ≤ 6 = count_short bin.Lt k j (omega (arith, a)) (omega arith) in
      let first : length (stmt_text (s.Assign (g.l k) (g.number 0))) ≤ 8 = assign_short 108 k (g.number 0) 1 (by_text _ (text-number (pos 0)) (digit_short 0 (omega arith))) in
      let next : length (stmt_text (next_of k)) ≤ 13 = assign_short 108 k (e.Two bin.Add (e.Var (g.l k)) (g.number 1)) 6 (count_short bin.Add k 1 (omega arith) (omega arith)) in
      let inner : length (body_text (xs ++ next_of k ∷ [])) ≤ i * item_size m + 13 =
      rw (body_text-append xs (next_of k ∷ [])) (simp (length-append) (omega (arith, items_short u, one_short (next_of k) 13 next))) in
      let loop : length (stmt_text (s.While (test_of k j) (xs ++ next_of k ∷ []))) ≤ i * item_size m + 30 =
      by_stmt _ (text-while (test_of k j) (xs ++ next_of k ∷ [])) (simp (length-append) (omega (arith, test, inner))) in
      simp (length-append) (omega (arith, first, loop, p))

  items_short : {m n : ℕ} {xs : List Stmt} → AreItems m n xs → length (body_text xs) ≤ n * item_size m
  items_short (h.none {m = m}) = omega arith
  items_short (h.more {m = m} {n = n} {xs = xs} {ys = ys} u x) =
      rw (body_text-append xs ys) (simp (length-append) (omega (arith, items_short u, item_short x)))

-- at most 4600 bytes an item, and 200 for the declarations
pub text_short : (seed statements : ℕ) → length (program_text (g.generated seed statements)) ≤ 4600 * statements + 200
text_short seed statements =
    let d : length (joined (map decl_text g.decls)) ≤ 200 = decls_short in
    let b : length (body_text (g.generated seed statements).body) ≤ statements * item_size 2 = items_short (body_drawn seed statements) in
    let q : length (program_text (g.generated seed statements)) ≡ length (joined (map decl_text g.decls)) + length (body_text (g.generated seed statements).body) =
    length-append (joined (map decl_text g.decls)) (body_text (g.generated seed statements).body) in
    omega (arith, d, b, q)
