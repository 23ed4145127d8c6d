-- Generated programs keep the limits.
use Rattle.std.proofs.Common.{◌≡◌, ℕ, suc, ◌^◌, ◌<◌, ◌≤◌, pos, Bool, true, false, List, [], ◌∷◌, ◌++◌, length, map, refl, ap, sym, subst, ◌∙◌, arith, lit<, if◌then◌else◌}
use Rattle.std.proofs.lemmas.List.{append-nil, length-append}
use Rattle.std.specs.Prelude.{codes}
use Rattle.std.specs.Fmt.{signed_decimal}
use Rattle.bm_base.specs.declared.word.Bin.{Bin}
use Rattle.bm_base.specs.declared.word.Bin.TheVariants as bin
use Rattle.src_lexer.specs.declared.token.Keyword.TheVariants as w
use Rattle.src_lexer.specs.declared.token.Symbol.TheVariants as y
use Rattle.src_lexer.specs.declared.token.TokenKind.{TokenKind}
use Rattle.src_lexer.specs.declared.token.TokenKind.TheVariants.{Name, Number, Word, Sym}
use Rattle.src_lexer.specs.declared.token.Token.{Token}
use Rattle.src_lexer.specs.Spell.{Spells, done}
use Rattle.src_lexer.specs.Laws.{HasOneSpelling}
use Rattle.src_tree.specs.declared.tree.Ident.{Ident}
use Rattle.src_tree.specs.declared.tree.Expr.{Expr}
use Rattle.src_tree.specs.declared.tree.Expr.TheVariants as e
use Rattle.src_tree.specs.declared.tree.Stmt.{Stmt}
use Rattle.src_tree.specs.declared.tree.Stmt.TheVariants as s
use Rattle.src_tree.specs.declared.tree.Decl.{Decl}
use Rattle.src_tree.specs.declared.tree.Decl.TheVariants as d
use Rattle.src_tree.specs.Limits.{Open, opens, open_from, is_border, current_from, current, node, nodes_in, behind_first, KeepsLimits}
use Rattle.src_tree.specs.Plain.{IsName, IsPlain}
use Rattle.src_tree.specs.Text.{text_of, expr_text, joined, stmt_text, body_text, decl_text, program_text}
use Rattle.src_tree.proofs.Equations.{text-number, text-var, text-two}
use Rattle.soak_text.specs.Generator as g
use Rattle.soak_text.proofs.Shapes.{IsIndex, IsDrawn, IsItem, AreItems, test_of, next_of, body_drawn}
use Rattle.soak_text.proofs.Shapes as h
use Rattle.soak_text.proofs.Shortness.{body_text-append, text_short}
use Rattle.soak_text.proofs.PlainParts.{v_name, a_name, l_name, plain_items, plain_decls}
use Rattle.soak_text.proofs.GeneratedRows.{kinds, kinds-append, Spelled, Free, free_free, free_runs, runs_free, word, assigns, semi, array_ends, lbracket, a_number}
use Rattle.soak_text.proofs.GeneratedRows as r
use Rattle.soak_text.proofs.Courses.{At, step, walk, Fine, Within, Leads, onward, Fits, fits_number, fits_name, fits_two}
use Rattle.soak_text.proofs.GeneratedLines.{fits_expr, fits_index, wider, by_text, base, Stands, stands_as, stands_both, stands_none, stands_one, stands_assign, stands_set, stands_print, stands_if, stands_while}

-- an operator between a count and a number
counts : (op : Bin) (k j : ℕ) → k < 2 → j < 10 → Fits 7 67 (expr_text (e.Two op (e.Var (g.l k)) (g.number j)))
counts op k j a b = by_text _ _ (text-two op (e.Var (g.l k)) (g.number j))
    (wider 7 67 (omega arith) (omega arith)
    (fits_two 0 1 op (text_of (e.Var (g.l k))) (text_of (g.number j))
    (by_text _ _ (text-var (g.l k)) (fits_name 0 1 (g.l k) (l_name k (omega (arith, a))) (omega arith)))
    (by_text (g.number j) _ (text-number (pos j)) (fits_number 0 1 j (omega (arith, b)) (omega arith)))))

stands_count : (m k : ℕ) (x : Expr) → k < 2 → Fits 7 67 (expr_text x) → Stands m (stmt_text (s.Assign (g.l k) x))
stands_count m k x a f = stands_assign m (g.l k) x (l_name k (omega (arith, a))) f

mutual
  stands_item : {m : ℕ} {xs : List Stmt} → IsItem m xs → Stands m (body_text xs)
  stands_item (h.assign {m = m} {k = k} {x = x} b j) = stands_one m (s.Assign (g.v k) x) (stands_assign m (g.v k) x (v_name k (omega (arith, b))) (fits_expr j))
  stands_item (h.set {m = m} {k = k} {i = i} {x = x} b n j) =
      stands_one m (s.SetElement (g.a k) i x) (stands_set m (g.a k) i x (a_name k (omega (arith, b))) (fits_index n) (fits_expr j))
  stands_item (h.print {m = m} {x = x} j) = stands_one m (s.Print x) (stands_print m x (fits_expr j))
  stands_item (h.choose {m = m} {c = c} {xs = xs} {ys = ys} j a us b ws) =
      stands_one (suc m) (s.If c xs ys) (stands_if m c xs ys (wider 7 67 (omega arith) (omega arith) (fits_expr j)) (stands_items us) (stands_items ws))
  stands_item (h.repeat {m = m} {j = j} {k = k} {xs = xs} b a c us) =
      let next : Stands m (stmt_text (next_of k)) = stands_count m k (e.Two bin.Add (e.Var (g.l k)) (g.number 1)) b (counts bin.Add k 1 b (omega arith)) in
      let inner : Stands m (body_text (xs ++ next_of k ∷ [])) =
      stands_as (sym (body_text-append xs (next_of k ∷ []))) (stands_both m (body_text xs) (body_text (next_of k ∷ [])) (stands_items us) (stands_one m (next_of k) next)) in
      let loop : Stands (suc m) (stmt_text (s.While (test_of k j) (xs ++ next_of k ∷ []))) =
      stands_while m (test_of k j) (xs ++ next_of k ∷ []) (counts bin.Lt k j b (omega (arith, a))) inner in
      let first : Stands (suc m) (stmt_text (s.Assign (g.l k) (g.number 0))) =
      stands_count (suc m) k (g.number 0) b (by_text (g.number 0) _ (text-number (pos 0)) (fits_number 7 67 0 (lit< tt) (omega arith))) in
      stands_both (suc m) (stmt_text (s.Assign (g.l k) (g.number 0))) (body_text (s.While (test_of k j) (xs ++ next_of k ∷ []) ∷ [])) first (stands_one (suc m) (s.While (test_of k j) (xs ++ next_of k ∷ [])) loop)

  stands_items : {m n : ℕ} {xs : List Stmt} → AreItems m n xs → Stands m (body_text xs)
  stands_items (h.none {m = m}) = stands_none m
  stands_items (h.more {m = m} {xs = xs} {ys = ys} us x) =
      stands_as (sym (body_text-append xs ys)) (stands_both m (body_text xs) (body_text ys) (stands_items us) (stands_item x))

-- declarations, which stand in no body
record Declares (bs : List ℕ) : Type 0 where
  kinds : List TokenKind
  free : Free bs kinds
  leads : Leads (base 0) kinds (base 0)

stands_var : (i : Ident) (n : ℕ) → IsName i → n < 2 ^ 63 → Declares (decl_text (d.Var i (pos n)))
stands_var i n k b = record {
  kinds = (Word w.Var ∷ []) ++ (Name ∷ []) ++ (Sym y.Assign ∷ []) ++ (Number (pos n) ∷ []) ++ (Sym y.Semi ∷ []);
  free = runs_free (codes "var " ++ i.text ++ codes " = " ++ signed_decimal (pos n)) (codes ";\n") _ (Sym y.Semi ∷ [])
      (free_runs (codes "var " ++ i.text ++ codes " = ") (signed_decimal (pos n)) _ (Number (pos n) ∷ [])
      (runs_free (codes "var " ++ i.text) (codes " = ") ((Word w.Var ∷ []) ++ (Name ∷ [])) (Sym y.Assign ∷ [])
      (free_runs (codes "var ") i.text (Word w.Var ∷ []) (Name ∷ []) (word w.Var) (r.a_name i k)) (λ rest. refl) assigns)
      (a_number n b)) (λ rest. refl) semi;
  leads = record { within = ((omega arith, omega arith), ((omega arith, omega arith), ((omega arith, omega arith), ((omega arith, omega arith), ((omega arith, omega arith), (omega arith, omega arith)))))); ends = refl };
}

stands_array : (i : Ident) (n : ℕ) → IsName i → n < 2 ^ 63 → Declares (decl_text (d.Array i (pos n)))
stands_array i n k b = record {
  kinds = (Word w.Array ∷ []) ++ (Name ∷ []) ++ (Sym y.LBracket ∷ []) ++ (Number (pos n) ∷ []) ++ (Sym y.RBracket ∷ Sym y.Semi ∷ []);
  free = runs_free (codes "array " ++ i.text ++ codes "[" ++ signed_decimal (pos n)) (codes "];\n") _ (Sym y.RBracket ∷ Sym y.Semi ∷ [])
      (free_runs (codes "array " ++ i.text ++ codes "[") (signed_decimal (pos n)) _ (Number (pos n) ∷ [])
      (runs_free (codes "array " ++ i.text) (codes "[") ((Word w.Array ∷ []) ++ (Name ∷ [])) (Sym y.LBracket ∷ [])
      (free_runs (codes "array ") i.text (Word w.Array ∷ []) (Name ∷ []) (word w.Array) (r.a_name i k)) (λ rest. refl) lbracket)
      (a_number n b)) (λ rest. refl) array_ends;
  leads = record { within = ((omega arith, omega arith), ((omega arith, omega arith), ((omega arith, omega arith), ((omega arith, omega arith), ((omega arith, omega arith), ((omega arith, omega arith), (omega arith, omega arith))))))); ends = refl };
}

declares_both : (bs cs : List ℕ) → Declares bs → Declares cs → Declares (bs ++ cs)
declares_both bs cs f k = record { kinds = f.kinds ++ k.kinds; free = free_free bs cs f.kinds k.kinds f.free k.free; leads = onward f.leads k.leads }

declares_none : Declares []
declares_none = record { kinds = []; free = r.nothing; leads = record { within = (omega arith, omega arith); ends = refl } }

abbrev Each : List Decl → Type 0
Each [] = Unit {0}
Each (x ∷ ds) = Declares (decl_text x) × Each ds

all_declare : (ds : List Decl) → Each ds → Declares (joined (map decl_text ds))
all_declare [] h = declares_none
all_declare (x ∷ ds) h = declares_both (decl_text x) (joined (map decl_text ds)) h.0 (all_declare ds h.1)

declares : Declares (joined (map decl_text g.decls))
declares = all_declare g.decls (
  stands_var (g.v 0) 1 (v_name 0 (omega arith)) (lit< tt),
  (
    stands_var (g.v 1) 2 (v_name 1 (omega arith)) (lit< tt),
    (
      stands_var (g.v 2) 3 (v_name 2 (omega arith)) (lit< tt),
      (
        stands_var (g.v 3) 4 (v_name 3 (omega arith)) (lit< tt),
        (
          stands_var (g.v 4) 5 (v_name 4 (omega arith)) (lit< tt),
          (
            stands_var (g.v 5) 6 (v_name 5 (omega arith)) (lit< tt),
            (
              stands_var (g.v 6) 7 (v_name 6 (omega arith)) (lit< tt),
              (
                stands_var (g.v 7) 8 (v_name 7 (omega arith)) (lit< tt),
                (
                  stands_array (g.a 0) 16 (a_name 0 (omega arith)) (lit< tt),
                  (
                    stands_array (g.a 1) 16 (a_name 1 (omega arith)) (lit< tt),
                    (
                      stands_var (g.l 0) 0 (l_name 0 (omega arith)) (lit< tt),
                      (
                        stands_var (g.l 1) 0 (l_name 1 (omega arith)) (lit< tt),
                        tt,
                      ),
                    ),
                  ),
                ),
              ),
            ),
          ),
        ),
      ),
    ),
  ),
)

either : (P : Bool → Type 0) (b : Bool) → P true → P false → P b
either P true h k = h
either P false h k = k

-- the count of tokens, by their kinds
count_is : (now ts : List Token) (o : Open) → length (current_from now ts) ≡ (walk (record { now = o; count = length now }) (kinds ts)).count
count_is now [] o = refl
count_is now (t ∷ ts) o =
    let P : Bool → Type 0 = λ b. length (current_from (if b then [] else now ++ t ∷ []) ts) ≡ (walk (record { now = opens t.kind o; count = if b then 0 else suc (length now) }) (kinds ts)).count in
    let n : length (now ++ t ∷ []) ≡ suc (length now) = omega (arith, length-append now (t ∷ [])) in
    either P (is_border t.kind) (count_is [] ts (opens t.kind o))
    (count_is (now ++ t ∷ []) ts (opens t.kind o) ∙ ap (λ (c : ℕ). (walk (record { now = opens t.kind o; count = c }) (kinds ts)).count) n)

open_is : (ts : List Token) (o : Open) (n : ℕ) → open_from o ts ≡ (walk (record { now = o; count = n }) (kinds ts)).now
open_is [] o n = refl
open_is (t ∷ ts) o n = open_is ts (opens t.kind o) (if is_border t.kind then 0 else suc n)

node_small : (k : TokenKind) → node k ≤ 1
node_small Name = omega arith
node_small (Number v) = omega arith
node_small (Word k) = omega arith
node_small (Sym y.Semi) = omega arith
node_small (Sym y.Assign) = omega arith
node_small (Sym y.LBracket) = omega arith
node_small (Sym y.RBracket) = omega arith
node_small (Sym y.LBrace) = omega arith
node_small (Sym y.RBrace) = omega arith
node_small (Sym y.LParen) = omega arith
node_small (Sym y.RParen) = omega arith
node_small (Sym y.Or) = omega arith
node_small (Sym y.Xor) = omega arith
node_small (Sym y.And) = omega arith
node_small (Sym y.Eq) = omega arith
node_small (Sym y.Ne) = omega arith
node_small (Sym y.Lt) = omega arith
node_small (Sym y.Le) = omega arith
node_small (Sym y.Gt) = omega arith
node_small (Sym y.Ge) = omega arith
node_small (Sym y.Shl) = omega arith
node_small (Sym y.Shr) = omega arith
node_small (Sym y.Add) = omega arith
node_small (Sym y.Sub) = omega arith
node_small (Sym y.Mul) = omega arith
node_small (Sym y.Div) = omega arith
node_small (Sym y.Rem) = omega arith
node_small (Sym y.Not) = omega arith

nodes_small : (ts : List Token) → nodes_in ts ≤ length ts
nodes_small [] = omega arith
nodes_small (t ∷ ts) = omega (arith, node_small t.kind, nodes_small ts)

behind_small : (ts : List Token) → behind_first ts ≤ length ts
behind_small [] = omega arith
behind_small (t ∷ ts) = omega (arith, nodes_small ts)

front_fine : (a : At) (ks js : List TokenKind) → Within a (ks ++ js) → Fine (walk a ks)
front_fine a [] [] h = h
front_fine a [] (j ∷ js) h = h.0
front_fine a (k ∷ ks) js h = front_fine (step k a) ks js h.1

-- tokens whose kinds lead somewhere within the limits keep the limits
keeps : (ts : List Token) (b : At) → Leads (base 0) (kinds ts) b → KeepsLimits ts
keeps ts b l front back q =
    let W : List TokenKind → Type 0 = Within (base 0) in
    let f : Fine (walk (base 0) (kinds front)) = front_fine (base 0) (kinds front) (kinds back) (subst W (ap kinds q ∙ kinds-append front back) l.within) in
    let o : length (open_from (base 0).now front).marks ≡ length (walk (base 0) (kinds front)).now.marks = ap (λ (x : Open). length x.marks) (open_is front (base 0).now 0) in
    let c : length (current front) ≡ (walk (base 0) (kinds front)).count = count_is [] front (base 0).now in
    (omega (arith, f.0, o), omega (arith, f.1, c, behind_small (current front)))

pub plain : (seed statements : ℕ) → HasOneSpelling → statements ≤ 10000 → IsPlain (g.generated seed statements)
plain seed statements once few =
    let p = g.generated seed statements in
    let src : List ℕ = program_text p in
    let ds : List ℕ = joined (map decl_text g.decls) in
    let b : Stands 2 (body_text p.body) = stands_items (body_drawn seed statements) in
    let v : Spelled src [] src (declares.kinds ++ b.kinds) = free_free ds (body_text p.body) declares.kinds b.kinds declares.free b.free src [] [] (sym (append-nil src)) in
    let P : List Token → Type 0 = Spells src 0 in
    let spells : Spells src 0 v.tokens = subst P (append-nil v.tokens) (v.way.leads [] done) in
    let L : List TokenKind → Type 0 = λ ks. Leads (base 0) ks (base 0) in
    let leads : Leads (base 0) (kinds v.tokens) (base 0) = subst L (sym v.are) (onward declares.leads (b.leads 0 (omega arith))) in
    record {
      decls = plain_decls;
      body = plain_items (body_drawn seed statements);
      short = omega (arith, few, text_short seed statements);
      limits = λ ts t.
          let K : List Token → Type 0 = KeepsLimits in
          subst K (once src v.tokens ts spells t) (keeps v.tokens (base 0) leads);
    }
