-- The text of a plain tree is read as the same tree: expressions.
use Rattle.std.proofs.Common.{◌≡◌, ℕ, zero, suc, ◌+◌, ◌-◌, ◌<◌, ◌≤◌, ℤ, pos, negsuc, Bool, true, false, cond, ◌||◌, List, [], ◌∷◌, ◌++◌, length, Some, None, refl, ap, sym, subst, ◌∙◌, arith, append_assoc}
use Rattle.std.proofs.lemmas.Bool.{ltb-false}
use Rattle.std.specs.Prelude.{nat_lt, codes}
use Rattle.std.specs.Char.{is_ascii_digit}
use Rattle.bm_base.specs.declared.word.Un.{Un}
use Rattle.bm_base.specs.declared.word.Un.TheVariants as un
use Rattle.bm_base.specs.declared.word.Bin.{Bin}
use Rattle.bm_base.specs.declared.word.Bin.TheVariants as bin
use Rattle.src_lexer.specs.declared.token.Symbol.{Symbol}
use Rattle.src_lexer.specs.declared.token.Symbol.TheVariants as y
use Rattle.src_lexer.specs.declared.token.TokenKind.{TokenKind}
use Rattle.src_lexer.specs.declared.token.TokenKind.TheVariants.{Name, Sym}
use Rattle.src_lexer.specs.declared.token.Token.{Token}
use Rattle.src_lexer.specs.Symbols.{spelling}
use Rattle.src_lexer.proofs.SymbolFacts.{symbol_of}
use Rattle.bm_base.specs.Names.{begins_name, goes_on_name}
use Rattle.src_lexer.proofs.Words.{is_name}
use Rattle.src_tree.specs.declared.tree.Ident.{Ident}
use Rattle.src_tree.specs.declared.tree.Expr.{Expr, Expr-F}
use Rattle.src_tree.specs.declared.tree.Expr.TheVariants as e
use Rattle.src_tree.specs.Operators.{level, operand, binary, unary, bin_symbol, un_symbol}
use Rattle.src_tree.specs.Text.{Text, tight, spaced, text_step, text_of}
use Rattle.src_tree.specs.Grammar.{Is, IsExpr, ident}
use Rattle.src_tree.specs.Grammar as g
use Rattle.src_tree.specs.Plain.{IsName, IsCount, IsPlainExpr}
use Rattle.src_tree.specs.Plain as l
use Rattle.src_tree.specs.Same.{SameName, SameExpr}
use Rattle.src_tree.specs.Same as z
use Rattle.src_tree.proofs.Equations.{text-number, text-var, text-element, text-one, text-two}
use Rattle.src_tree.proofs.Way.{Way, follows, blank, one_symbol, one_word, one_number, Stops, Quiet, slice, end}

-- what is no name byte is no digit
no_digit_of : (a d : Bool) → a || d ≡ false → d ≡ false
no_digit_of true true h = cc
no_digit_of false true h = cc
no_digit_of a false h = refl

pub no_digit : (rest : List ℕ) → Stops goes_on_name rest → Stops is_ascii_digit rest
no_digit [] s = tt
no_digit (r ∷ rs) s = no_digit_of (begins_name r) (is_ascii_digit r) s

binary-bin_symbol : (op : Bin) → binary (bin_symbol op) ≡ Some op
binary-bin_symbol bin.Or = refl
binary-bin_symbol bin.Xor = refl
binary-bin_symbol bin.And = refl
binary-bin_symbol bin.Eq = refl
binary-bin_symbol bin.Ne = refl
binary-bin_symbol bin.Lt = refl
binary-bin_symbol bin.Le = refl
binary-bin_symbol bin.Gt = refl
binary-bin_symbol bin.Ge = refl
binary-bin_symbol bin.Shl = refl
binary-bin_symbol bin.Shr = refl
binary-bin_symbol bin.Add = refl
binary-bin_symbol bin.Sub = refl
binary-bin_symbol bin.Mul = refl
binary-bin_symbol bin.Div = refl
binary-bin_symbol bin.Rem = refl

unary-un_symbol : (op : Un) → unary (un_symbol op) ≡ Some op
unary-un_symbol un.Neg = refl
unary-un_symbol un.Not = refl

bin_quiet : (op : Bin) (rest : List ℕ) → Quiet (spelling (bin_symbol op)) (32 ∷ rest)
bin_quiet bin.Or rest = refl
bin_quiet bin.Xor rest = refl
bin_quiet bin.And rest = refl
bin_quiet bin.Eq rest = tt
bin_quiet bin.Ne rest = tt
bin_quiet bin.Lt rest = refl
bin_quiet bin.Le rest = tt
bin_quiet bin.Gt rest = refl
bin_quiet bin.Ge rest = tt
bin_quiet bin.Shl rest = tt
bin_quiet bin.Shr rest = tt
bin_quiet bin.Add rest = refl
bin_quiet bin.Sub rest = refl
bin_quiet bin.Mul rest = refl
bin_quiet bin.Div rest = refl
bin_quiet bin.Rem rest = refl

un_quiet : (op : Un) (rest : List ℕ) → Quiet (spelling (un_symbol op)) rest
un_quiet un.Neg [] = tt
un_quiet un.Neg (r ∷ rs) = refl
un_quiet un.Not [] = tt
un_quiet un.Not (r ∷ rs) = refl

-- no symbol goes on behind a byte with which no pair begins
pub quiet : (b : ℕ) (rest : List ℕ) → ((r : ℕ) → symbol_of (b ∷ r ∷ []) ≡ None) → Quiet (b ∷ []) rest
quiet b [] h = tt
quiet b (r ∷ rs) h = h r

level_below : (op : Bin) → level op < operand
level_below bin.Or = omega arith
level_below bin.Xor = omega arith
level_below bin.And = omega arith
level_below bin.Eq = omega arith
level_below bin.Ne = omega arith
level_below bin.Lt = omega arith
level_below bin.Le = omega arith
level_below bin.Gt = omega arith
level_below bin.Ge = omega arith
level_below bin.Shl = omega arith
level_below bin.Shr = omega arith
level_below bin.Add = omega arith
level_below bin.Sub = omega arith
level_below bin.Mul = omega arith
level_below bin.Div = omega arith
level_below bin.Rem = omega arith

-- from texts as they are written to one part behind the other
pub open3 : (a b c r : List ℕ) → a ++ b ++ c ++ r ≡ a ++ (b ++ (c ++ r))
open3 a b c r = simp append_assoc refl

pub open4 : (a b c d r : List ℕ) → a ++ b ++ c ++ d ++ r ≡ a ++ (b ++ (c ++ (d ++ r)))
open4 a b c d r = simp append_assoc refl

module _ (src : List ℕ) where
  -- a place moves over bytes
  pub move : (front bs rest : List ℕ) → src ≡ front ++ (bs ++ rest) → src ≡ (front ++ bs) ++ rest
  move front bs rest e = e ∙ sym (append_assoc front bs rest)

  -- the same bytes, written in another way
  pub rewritten : {front bs cs : List ℕ} {ts : List Token} → bs ≡ cs → Way src front bs ts → Way src front cs ts
  rewritten {front} {ts = ts} h w = let P : List ℕ → Type 0 = λ z. Way src front z ts in subst P h w

  pub retold : {front bs : List ℕ} {ts us : List Token} → ts ≡ us → Way src front bs ts → Way src front bs us
  retold {front} {bs} h w = let P : List Token → Type 0 = λ z. Way src front bs z in subst P h w

  -- bytes that spell one token
  pub record Over (front bs : List ℕ) (k : TokenKind) : Type 0 where
    pub token : Token
    pub is : Is token k
    pub way : Way src front bs (token ∷ [])

  pub over_symbol : (front : List ℕ) (k : Symbol) (rest : List ℕ) → src ≡ front ++ (spelling k ++ rest) → Quiet (spelling k) rest → Over front (spelling k) (Sym k)
  over_symbol front k rest e q = record { token = _; is = record { kind = refl }; way = one_symbol src front k rest e q }

  -- a symbol between blanks
  pub over_spaced : (front : List ℕ) (k : Symbol) (rest : List ℕ) → src ≡ front ++ (spaced k ++ rest) → Quiet (spelling k) (32 ∷ rest) → Over front (spaced k) (Sym k)
  over_spaced front k rest e q =
      let e0 : src ≡ front ++ ((32 ∷ []) ++ (spelling k ++ ((32 ∷ []) ++ rest))) = e ∙ ap (λ (x : List ℕ). front ++ x) (open3 (32 ∷ []) (spelling k) (32 ∷ []) rest) in
      let e1 = move front (32 ∷ []) (spelling k ++ ((32 ∷ []) ++ rest)) e0 in
      let e2 = move (front ++ 32 ∷ []) (spelling k) ((32 ∷ []) ++ rest) e1 in
      let o : Over (front ++ 32 ∷ []) (spelling k) (Sym k) = over_symbol (front ++ 32 ∷ []) k ((32 ∷ []) ++ rest) e1 q in
      record {
        token = o.token;
        is = o.is;
        way = follows (blank src front 32 _ e0 refl) (follows o.way (blank src ((front ++ 32 ∷ []) ++ spelling k) 32 rest e2 refl));
      }

  -- a name, which is the slice that its token stands for
  pub record Named (n : Ident) (front : List ℕ) : Type 0 where
    pub token : Token
    pub is : Is token Name
    pub way : Way src front n.text (token ∷ [])
    pub same : SameName n (ident src token)

  pub named : (n : Ident) → IsName n → (front rest : List ℕ) → src ≡ front ++ (n.text ++ rest) → Stops goes_on_name rest → Named n front
  named n h front rest e s = record {
    token = record { kind = Name; at = length front; end = length (front ++ n.text) };
    is = record { kind = refl };
    way = one_word src front n.text rest e (h.text).begins (h.text).goes_on s Name (is_name n.text (h.text).free) (omega (arith, h.short, end src front n.text rest e));
    same = record { text = sym (slice src front n.text rest e) };
  }

  pub level_small : {m : ℕ} {ts : List Token} {a : Expr} → IsExpr src m ts a → m ≤ operand
  level_small (g.number i) = omega arith
  level_small (g.name i) = omega arith
  level_small (g.element i o x c) = omega arith
  level_small (g.paren o x c) = omega arith
  level_small (g.one i u x) = omega arith
  level_small (g.two {op = op} x i b w) = omega (arith, level_below op)
  level_small (g.tighter h x) = omega (arith, h)

  -- what binds tightly may stand where less is asked for
  pub loosen : (k : ℕ) {m n : ℕ} {ts : List Token} {a : Expr} → m + k ≡ n → n ≤ operand → IsExpr src n ts a → IsExpr src m ts a
  loosen zero {m} {n} {ts} {a} h b x = let P : ℕ → Type 0 = λ v. IsExpr src v ts a in let q : n ≡ m = omega (arith, h) in subst P q x
  loosen (suc k) {m} {n} h b x = g.tighter (omega (arith, h, b)) (loosen k {m = suc m} {n = n} (omega (arith, h)) b x)

  -- the bytes behind the front are read as a tree that is the same
  pub record Read (x : Expr) (front bs : List ℕ) (m : ℕ) : Type 0 where
    pub tokens : List Token
    pub tree : Expr
    pub way : Way src front bs tokens
    pub is : IsExpr src m tokens tree
    pub same : SameExpr x tree

  unfoldable pub Readable : Expr → Text → Type 0
  Readable x t = (front rest : List ℕ) → src ≡ front ++ (t.bytes ++ rest) → Stops goes_on_name rest → Read x front t.bytes t.level

  read_number : (v : ℤ) → IsCount v → Readable (e.Number v) (text_step (Expr-F.Number v))
  unfolding Readable
  read_number (pos n) h front rest f s = record {
    tokens = _;
    tree = e.Number (pos n);
    way = one_number src front n rest f h (no_digit rest s);
    is = g.number (record { kind = refl });
    same = z.number;
  }
  read_number (negsuc n) h front rest f s = absurd h

  read_var : (n : Ident) → IsName n → Readable (e.Var n) (text_step (Expr-F.Var n))
  unfolding Readable
  read_var n h front rest f s =
      let w : Named n front = named n h front rest f s in
      record { tokens = w.token ∷ []; tree = e.Var (ident src w.token); way = w.way; is = g.name w.is; same = z.var w.same }

  read_element : (n : Ident) (i : Expr) (t : Text) → IsName n → Readable i t → Readable (e.Element n i) (text_step (Expr-F.Element n t))
  unfolding Readable
  read_element n i t h r front rest f s =
      let e0 : src ≡ front ++ (n.text ++ ((91 ∷ []) ++ (t.bytes ++ ((93 ∷ []) ++ rest)))) = f ∙ ap (λ (x : List ℕ). front ++ x) (open4 n.text (91 ∷ []) t.bytes (93 ∷ []) rest) in
      let p1 : List ℕ = front ++ n.text in
      let e1 : src ≡ p1 ++ ((91 ∷ []) ++ (t.bytes ++ ((93 ∷ []) ++ rest))) = move front n.text _ e0 in
      let p2 : List ℕ = p1 ++ 91 ∷ [] in
      let e2 : src ≡ p2 ++ (t.bytes ++ ((93 ∷ []) ++ rest)) = move p1 (91 ∷ []) _ e1 in
      let p3 : List ℕ = p2 ++ t.bytes in
      let e3 : src ≡ p3 ++ ((93 ∷ []) ++ rest) = move p2 t.bytes _ e2 in
      let w : Named n front = named n h front _ e0 refl in
      let o : Over p1 (91 ∷ []) (Sym y.LBracket) = over_symbol p1 y.LBracket _ e1 (quiet 91 _ (λ r. refl)) in
      let x : Read i p2 t.bytes t.level = r p2 _ e2 refl in
      let c : Over p3 (93 ∷ []) (Sym y.RBracket) = over_symbol p3 y.RBracket _ e3 (quiet 93 _ (λ r. refl)) in
      record {
        tokens = w.token ∷ o.token ∷ (x.tokens ++ c.token ∷ []);
        tree = e.Element (ident src w.token) x.tree;
        way = rewritten (sym (open3 n.text (91 ∷ []) t.bytes (93 ∷ []))) (follows w.way (follows o.way (follows x.way c.way)));
        is = g.element w.is o.is (loosen t.level {m = 0} {n = t.level} (omega arith) (level_small x.is) x.is) c.is;
        same = z.element w.same x.same;
      }

  -- an operand, in parentheses where it is looser
  tight_at : (b : Bool) (x : Expr) (t : Text) (least : ℕ) → nat_lt t.level least ≡ b → least ≤ operand → Readable x t →
      (front rest : List ℕ) → src ≡ front ++ (cond b (codes "(" ++ t.bytes ++ codes ")") t.bytes ++ rest) → Stops goes_on_name rest →
      Read x front (cond b (codes "(" ++ t.bytes ++ codes ")") t.bytes) least
  unfolding Readable
  tight_at true x t least h small r front rest f s =
      let e0 : src ≡ front ++ ((40 ∷ []) ++ (t.bytes ++ ((41 ∷ []) ++ rest))) = f ∙ ap (λ (v : List ℕ). front ++ v) (open3 (40 ∷ []) t.bytes (41 ∷ []) rest) in
      let p1 : List ℕ = front ++ 40 ∷ [] in
      let e1 : src ≡ p1 ++ (t.bytes ++ ((41 ∷ []) ++ rest)) = move front (40 ∷ []) _ e0 in
      let p2 : List ℕ = p1 ++ t.bytes in
      let e2 : src ≡ p2 ++ ((41 ∷ []) ++ rest) = move p1 t.bytes _ e1 in
      let o : Over front (40 ∷ []) (Sym y.LParen) = over_symbol front y.LParen _ e0 (quiet 40 _ (λ r. refl)) in
      let v : Read x p1 t.bytes t.level = r p1 _ e1 refl in
      let c : Over p2 (41 ∷ []) (Sym y.RParen) = over_symbol p2 y.RParen _ e2 (quiet 41 _ (λ r. refl)) in
      record {
        tokens = o.token ∷ (v.tokens ++ c.token ∷ []);
        tree = v.tree;
        way = follows o.way (follows v.way c.way);
        is = loosen (operand - least) (omega (arith, small)) (omega arith) (g.paren o.is (loosen t.level {m = 0} {n = t.level} (omega arith) (level_small v.is) v.is) c.is);
        same = v.same;
      }
  tight_at false x t least h small r front rest f s =
      let v : Read x front t.bytes t.level = r front rest f s in
      let n : least ≤ t.level = ltb-false t.level least h in
      record { tokens = v.tokens; tree = v.tree; way = v.way; is = loosen (t.level - least) (omega (arith, n)) (level_small v.is) v.is; same = v.same }

  read_tight : (x : Expr) (t : Text) (least : ℕ) → least ≤ operand → Readable x t → (front rest : List ℕ) → src ≡ front ++ (tight least t ++ rest) →
      Stops goes_on_name rest → Read x front (tight least t) least
  read_tight x t least small r front rest f s = tight_at (nat_lt t.level least) x t least refl small r front rest f s

  read_one : (op : Un) (a : Expr) (t : Text) → Readable a t → Readable (e.One op a) (text_step (Expr-F.One op t))
  unfolding Readable
  read_one op a t r front rest f s =
      let e0 : src ≡ front ++ (spelling (un_symbol op) ++ (tight operand t ++ rest)) = f ∙ ap (λ (v : List ℕ). front ++ v) (append_assoc (spelling (un_symbol op)) (tight operand t) rest) in
      let p1 : List ℕ = front ++ spelling (un_symbol op) in
      let e1 : src ≡ p1 ++ (tight operand t ++ rest) = move front (spelling (un_symbol op)) _ e0 in
      let o : Over front (spelling (un_symbol op)) (Sym (un_symbol op)) = over_symbol front (un_symbol op) _ e0 (un_quiet op _) in
      let v : Read a p1 (tight operand t) operand = read_tight a t operand (omega arith) r p1 rest e1 s in
      record {
        tokens = o.token ∷ v.tokens;
        tree = e.One op v.tree;
        way = follows o.way v.way;
        is = g.one o.is (unary-un_symbol op) v.is;
        same = z.one v.same;
      }

  read_two : (op : Bin) (a b : Expr) (t u : Text) → Readable a t → Readable b u → Readable (e.Two op a b) (text_step (Expr-F.Two op t u))
  unfolding Readable
  read_two op a b t u r q front rest f s =
      let m : ℕ = level op in
      let as' : List ℕ = tight m t in
      let ss : List ℕ = spaced (bin_symbol op) in
      let bs : List ℕ = tight (suc m) u in
      let e0 : src ≡ front ++ (as' ++ (ss ++ (bs ++ rest))) = f ∙ ap (λ (v : List ℕ). front ++ v) (open3 as' ss bs rest) in
      let p1 : List ℕ = front ++ as' in
      let e1 : src ≡ p1 ++ (ss ++ (bs ++ rest)) = move front as' _ e0 in
      let p2 : List ℕ = p1 ++ ss in
      let e2 : src ≡ p2 ++ (bs ++ rest) = move p1 ss _ e1 in
      let x : Read a front as' m = read_tight a t m (omega (arith, level_below op)) r front _ e0 refl in
      let o : Over p1 ss (Sym (bin_symbol op)) = over_spaced p1 (bin_symbol op) _ e1 (bin_quiet op _) in
      let v : Read b p2 bs (suc m) = read_tight b u (suc m) (level_below op) q p2 rest e2 s in
      record {
        tokens = x.tokens ++ (o.token ∷ v.tokens);
        tree = e.Two op x.tree v.tree;
        way = rewritten (sym (append_assoc as' ss bs)) (follows x.way (follows o.way v.way));
        is = g.two x.is o.is (binary-bin_symbol op) v.is;
        same = z.two x.same v.same;
      }

  pub read_expr : {x : Expr} → IsPlainExpr x → Readable x (text_of x)
  read_expr (l.number {v = v} h) = let P : Text → Type 0 = Readable (e.Number v) in subst P (sym (text-number v)) (read_number v h)
  read_expr (l.var {n = n} h) = let P : Text → Type 0 = Readable (e.Var n) in subst P (sym (text-var n)) (read_var n h)
  read_expr (l.element {n = n} {i = i} h k) = let P : Text → Type 0 = Readable (e.Element n i) in subst P (sym (text-element n i)) (read_element n i (text_of i) h (read_expr k))
  read_expr (l.one {op = op} {a = a} k) = let P : Text → Type 0 = Readable (e.One op a) in subst P (sym (text-one op a)) (read_one op a (text_of a) (read_expr k))
  read_expr (l.two {op = op} {a = a} {b = b} j k) = let P : Text → Type 0 = Readable (e.Two op a b) in subst P (sym (text-two op a b)) (read_two op a b (text_of a) (text_of b) (read_expr j) (read_expr k))
