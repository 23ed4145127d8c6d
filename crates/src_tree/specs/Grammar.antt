-- The grammar: which tokens spell which tree. A derivation says nothing of how a parser finds it.
use Rattle.std.specs.Prelude.{◌≡◌, ℕ, suc, ◌<◌, ℤ, pos, neg_ℤ, List, [], ◌∷◌, ◌++◌, Some, slice_range}
use Rattle.bm_base.specs.declared.word.Un.{Un}
use Rattle.bm_base.specs.declared.word.Bin.{Bin}
use Rattle.src_lexer.specs.declared.token.Keyword.TheVariants as w
use Rattle.src_lexer.specs.declared.token.Symbol.{Symbol}
use Rattle.src_lexer.specs.declared.token.Symbol.TheVariants as y
use Rattle.src_lexer.specs.declared.token.TokenKind.{TokenKind}
use Rattle.src_lexer.specs.declared.token.TokenKind.TheVariants.{Name, Number, Word, Sym}
use Rattle.src_lexer.specs.declared.token.Token.{Token}
use Rattle.src_tree.specs.declared.tree.Ident.{Ident}
use Rattle.src_tree.specs.declared.tree.Expr.{Expr}
use Rattle.src_tree.specs.declared.tree.Expr.TheVariants as e
use Rattle.src_tree.specs.declared.tree.Stmt.{Stmt}
use Rattle.src_tree.specs.declared.tree.Stmt.TheVariants as s
use Rattle.src_tree.specs.declared.tree.Decl.{Decl}
use Rattle.src_tree.specs.declared.tree.Decl.TheVariants as d
use Rattle.src_tree.specs.declared.tree.Program.{Program}
use Rattle.src_tree.specs.Operators.{level, operand, binary, unary}

-- the name that a token spells, and its place
abbrev pub ident : List ℕ → Token → Ident
ident src t = record { text = slice_range src t.at t.end; at = t.at }

-- the token is of this kind
pub record Is (t : Token) (k : TokenKind) : Type 0 where
  pub kind : t.kind ≡ k

module _ (src : List ℕ) where
  -- The tokens spell an expression whose binary operators, those in parentheses and in indices aside, bind at least as tightly as the
  -- level. The left operand of an operator is of its own level, the right one is tighter: so equal levels join from the left.
  pub data IsExpr : ℕ → List Token → Expr → Type 0 where
    number : {t : Token} {v : ℤ} → Is t (Number v) → IsExpr operand (t ∷ []) (e.Number v)
    name : {t : Token} → Is t Name → IsExpr operand (t ∷ []) (e.Var (ident src t))
    element : {t o c : Token} {ts : List Token} {i : Expr} →
        Is t Name → Is o (Sym y.LBracket) → IsExpr 0 ts i → Is c (Sym y.RBracket) →
        IsExpr operand (t ∷ o ∷ (ts ++ c ∷ [])) (e.Element (ident src t) i)
    paren : {o c : Token} {ts : List Token} {a : Expr} →
        Is o (Sym y.LParen) → IsExpr 0 ts a → Is c (Sym y.RParen) → IsExpr operand (o ∷ (ts ++ c ∷ [])) a
    one : {t : Token} {x : Symbol} {op : Un} {ts : List Token} {a : Expr} →
        Is t (Sym x) → unary x ≡ Some op → IsExpr operand ts a → IsExpr operand (t ∷ ts) (e.One op a)
    two : {t : Token} {x : Symbol} {op : Bin} {ts us : List Token} {a b : Expr} →
        IsExpr (level op) ts a → Is t (Sym x) → binary x ≡ Some op → IsExpr (suc (level op)) us b →
        IsExpr (level op) (ts ++ (t ∷ us)) (e.Two op a b)
    tighter : {l : ℕ} {ts : List Token} {a : Expr} → l < operand → IsExpr (suc l) ts a → IsExpr l ts a

  mutual
    pub data IsStmt : List Token → Stmt → Type 0 where
      assign : {t o c : Token} {ts : List Token} {x : Expr} →
          Is t Name → Is o (Sym y.Assign) → IsExpr 0 ts x → Is c (Sym y.Semi) →
          IsStmt (t ∷ o ∷ (ts ++ c ∷ [])) (s.Assign (ident src t) x)
      set : {t o c m f : Token} {ts us : List Token} {i x : Expr} →
          Is t Name → Is o (Sym y.LBracket) → IsExpr 0 ts i → Is c (Sym y.RBracket) →
          Is m (Sym y.Assign) → IsExpr 0 us x → Is f (Sym y.Semi) →
          IsStmt (t ∷ o ∷ (ts ++ (c ∷ m ∷ (us ++ f ∷ [])))) (s.SetElement (ident src t) i x)
      print : {t c : Token} {ts : List Token} {x : Expr} →
          Is t (Word w.Print) → IsExpr 0 ts x → Is c (Sym y.Semi) → IsStmt (t ∷ (ts ++ c ∷ [])) (s.Print x)
      choose : {t : Token} {ts us vs : List Token} {x : Expr} {ys ns : List Stmt} →
          Is t (Word w.If) → IsExpr 0 ts x → IsBlock us ys → IsElse vs ns →
          IsStmt (t ∷ (ts ++ (us ++ vs))) (s.If x ys ns)
      repeat : {t : Token} {ts us : List Token} {x : Expr} {body : List Stmt} →
          Is t (Word w.While) → IsExpr 0 ts x → IsBlock us body → IsStmt (t ∷ (ts ++ us)) (s.While x body)

    -- statements in braces
    pub data IsBlock : List Token → List Stmt → Type 0 where
      braces : {o c : Token} {ts : List Token} {body : List Stmt} →
          Is o (Sym y.LBrace) → IsBody ts body → Is c (Sym y.RBrace) → IsBlock (o ∷ (ts ++ c ∷ [])) body

    -- an omitted `else` is an empty body
    pub data IsElse : List Token → List Stmt → Type 0 where
      omitted : IsElse [] []
      otherwise : {t : Token} {ts : List Token} {body : List Stmt} → Is t (Word w.Else) → IsBlock ts body → IsElse (t ∷ ts) body

    pub data IsBody : List Token → List Stmt → Type 0 where
      none : IsBody [] []
      more : {ts us : List Token} {st : Stmt} {body : List Stmt} → IsStmt ts st → IsBody us body → IsBody (ts ++ us) (st ∷ body)

  -- an omitted initial value is 0
  pub data IsDecl : List Token → Decl → Type 0 where
    plain : {t n f : Token} → Is t (Word w.Var) → Is n Name → Is f (Sym y.Semi) →
        IsDecl (t ∷ n ∷ f ∷ []) (d.Var (ident src n) (pos 0))
    initial : {t n o m f : Token} {v : ℤ} → Is t (Word w.Var) → Is n Name → Is o (Sym y.Assign) →
        Is m (Number v) → Is f (Sym y.Semi) → IsDecl (t ∷ n ∷ o ∷ m ∷ f ∷ []) (d.Var (ident src n) v)
    minus : {t n o g m f : Token} {v : ℤ} → Is t (Word w.Var) → Is n Name → Is o (Sym y.Assign) →
        Is g (Sym y.Sub) → Is m (Number v) → Is f (Sym y.Semi) →
        IsDecl (t ∷ n ∷ o ∷ g ∷ m ∷ f ∷ []) (d.Var (ident src n) (neg_ℤ v))
    array : {t n o m c f : Token} {v : ℤ} → Is t (Word w.Array) → Is n Name → Is o (Sym y.LBracket) →
        Is m (Number v) → Is c (Sym y.RBracket) → Is f (Sym y.Semi) →
        IsDecl (t ∷ n ∷ o ∷ m ∷ c ∷ f ∷ []) (d.Array (ident src n) v)

  pub data AreDecls : List Token → List Decl → Type 0 where
    none : AreDecls [] []
    more : {ts us : List Token} {x : Decl} {ds : List Decl} → IsDecl ts x → AreDecls us ds → AreDecls (ts ++ us) (x ∷ ds)

  -- the tokens spell the program: its declarations, then its statements
  pub record Derives (ts : List Token) (p : Program) : Type 0 where
    pub front : List Token
    pub back : List Token
    pub split : ts ≡ front ++ back
    pub decls : AreDecls front p.decls
    pub body : IsBody back p.body
