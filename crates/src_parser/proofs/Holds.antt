-- What the state says of the tokens so far, and that each step keeps it.
use Rattle.std.proofs.Common.{◌≡◌, ℕ, ℤ, List, [], ◌∷◌, ◌++◌, Option, Some, None, refl, ap, sym, subst, ◌∙◌, arith, append_assoc}
use Rattle.std.proofs.lemmas.List.{append-nil}
use Rattle.src_tree.specs.declared.tree.Expr.{Expr}
use Rattle.src_tree.specs.declared.tree.Stmt.{Stmt}
use Rattle.src_tree.specs.declared.tree.Stmt.TheVariants as s
use Rattle.src_tree.specs.declared.tree.Decl.{Decl}
use Rattle.bm_base.specs.declared.word.Un.TheVariants as un
use Rattle.bm_base.specs.declared.word.Bin.{Bin}
use Rattle.src_lexer.specs.declared.token.Keyword.TheVariants as w
use Rattle.src_lexer.specs.declared.token.Symbol.{Symbol}
use Rattle.src_lexer.specs.declared.token.Symbol.TheVariants as y
use Rattle.src_lexer.specs.declared.token.TokenKind.{TokenKind}
use Rattle.src_lexer.specs.declared.token.TokenKind.TheVariants.{Name, Number, Word, Sym}
use Rattle.src_lexer.specs.declared.token.Token.{Token}
use Rattle.src_parser.specs.declared.machine.Goal.{Goal}
use Rattle.src_parser.specs.declared.machine.Goal.TheVariants as g
use Rattle.src_parser.specs.declared.machine.Part.{Part}
use Rattle.src_parser.specs.declared.machine.Head.{Head}
use Rattle.src_parser.specs.declared.machine.Head.TheVariants as hd
use Rattle.src_parser.specs.declared.machine.OpenBody.{OpenBody}
use Rattle.src_parser.specs.declared.machine.Mode.{Mode}
use Rattle.src_parser.specs.declared.machine.Mode.TheVariants as m
use Rattle.src_parser.specs.declared.machine.State.{State}
use Rattle.src_tree.specs.Grammar as gr
use Rattle.src_tree.specs.Operators.{binary, level, operand}
use Rattle.src_tree.specs.Grammar.{ident, Is, IsExpr, IsStmt, IsBlock, IsBody, IsDecl, AreDecls}
use Rattle.src_parser.specs.Machine.{reduce, operand_at, closed, ended, operated, value_at, named_at, name_at, item, fixed_at, begin, close, closed_by, act, apply, behind, after, after_if}
use Rattle.src_parser.proofs.Complete.{Stops-operand, level_low}
use Rattle.src_parser.proofs.Sound.{Opens, nothing, bracket, index, before, between, Splits, reduced}
use Rattle.src_parser.proofs.Steps.{in_mode, after_apply, items_of}

-- what stands between the statements before an open body and the body
pub data Headed (src : List ℕ) : Head → List Token → Type 0 where
  of_while : {t o : Token} {vs : List Token} {c : Expr} → Is t (Word w.While) → IsExpr src 0 vs c → Is o (Sym y.LBrace) →
      Headed src (hd.While c) (t ∷ (vs ++ o ∷ []))
  of_if : {t o : Token} {vs : List Token} {c : Expr} → Is t (Word w.If) → IsExpr src 0 vs c → Is o (Sym y.LBrace) →
      Headed src (hd.If c) (t ∷ (vs ++ o ∷ []))
  of_else : {t z o : Token} {vs us : List Token} {c : Expr} {ys : List Stmt} → Is t (Word w.If) → IsExpr src 0 vs c → IsBlock src us ys →
      Is z (Word w.Else) → Is o (Sym y.LBrace) → Headed src (hd.Else c ys) (t ∷ (vs ++ (us ++ (z ∷ o ∷ []))))

-- the bodies that are open
pub data Encloses (src : List ℕ) : List OpenBody → List Token → Type 0 where
  top : Encloses src [] []
  inside : {bs : List OpenBody} {ts us hs : List Token} {body : List Stmt} {head : Head} →
      Encloses src bs ts → IsBody src us body → Headed src head hs → Encloses src (record { before = body; head = head } ∷ bs) (ts ++ (us ++ hs))

-- what stands before an expression, in its statement
pub data Begun (src : List ℕ) : Goal → List Token → Type 0 where
  assign : {t o : Token} → Is t Name → Is o (Sym y.Assign) → Begun src (g.Assign (ident src t)) (t ∷ o ∷ [])
  set_index : {t o : Token} → Is t Name → Is o (Sym y.LBracket) → Begun src (g.SetIndex (ident src t)) (t ∷ o ∷ [])
  set_value : {t o c n : Token} {us : List Token} {i : Expr} → Is t Name → Is o (Sym y.LBracket) → IsExpr src 0 us i → Is c (Sym y.RBracket) →
      Is n (Sym y.Assign) → Begun src (g.SetValue (ident src t) i) (t ∷ o ∷ (us ++ (c ∷ n ∷ [])))
  print : {t : Token} → Is t (Word w.Print) → Begun src g.Print (t ∷ [])
  choose : {t : Token} → Is t (Word w.If) → Begun src g.If (t ∷ [])
  repeat : {t : Token} → Is t (Word w.While) → Begun src g.While (t ∷ [])

-- before the first statement
pub record Fresh (bodies : List OpenBody) (body : List Stmt) : Type 0 where
  pub no_body : bodies ≡ []
  pub no_stmt : body ≡ []

-- what has been read of a declaration or a statement
pub data Half (src : List ℕ) (bodies : List OpenBody) (body : List Stmt) : Mode → List Token → Type 0 where
  items : Half src bodies body m.Item []
  var : {t : Token} → Fresh bodies body → Is t (Word w.Var) → Half src bodies body m.Var (t ∷ [])
  var_name : {t n : Token} → Fresh bodies body → Is t (Word w.Var) → Is n Name → Half src bodies body (m.VarName (ident src n)) (t ∷ n ∷ [])
  var_assign : {t n o : Token} → Fresh bodies body → Is t (Word w.Var) → Is n Name → Is o (Sym y.Assign) → Half src bodies body (m.VarAssign (ident src n)) (t ∷ n ∷ o ∷ [])
  var_minus : {t n o b : Token} → Fresh bodies body → Is t (Word w.Var) → Is n Name → Is o (Sym y.Assign) → Is b (Sym y.Sub) →
      Half src bodies body (m.VarMinus (ident src n)) (t ∷ n ∷ o ∷ b ∷ [])
  array_word : {t : Token} → Fresh bodies body → Is t (Word w.Array) → Half src bodies body m.Array (t ∷ [])
  array_name : {t n : Token} → Fresh bodies body → Is t (Word w.Array) → Is n Name → Half src bodies body (m.ArrayName (ident src n)) (t ∷ n ∷ [])
  array_open : {t n o : Token} → Fresh bodies body → Is t (Word w.Array) → Is n Name → Is o (Sym y.LBracket) →
      Half src bodies body (m.ArrayOpen (ident src n)) (t ∷ n ∷ o ∷ [])
  array_len : {t n o b : Token} {v : ℤ} → Fresh bodies body → Is t (Word w.Array) → Is n Name → Is o (Sym y.LBracket) → Is b (Number v) →
      Half src bodies body (m.ArrayLen (ident src n) v) (t ∷ n ∷ o ∷ b ∷ [])
  declared : {ts : List Token} {x : Decl} → Fresh bodies body → ((f : Token) → Is f (Sym y.Semi) → IsDecl src (ts ++ f ∷ []) x) →
      Half src bodies body (m.Declared x) ts
  name : {t : Token} → Is t Name → Half src bodies body (m.Name (ident src t)) (t ∷ [])
  target : {t o c : Token} {us : List Token} {i : Expr} → Is t Name → Is o (Sym y.LBracket) → IsExpr src 0 us i → Is c (Sym y.RBracket) →
      Half src bodies body (m.Target (ident src t) i) (t ∷ o ∷ (us ++ c ∷ []))
  awaits : {goal : Goal} {ps : List Part} {ts us : List Token} → Begun src goal ts → Opens src ps us → Half src bodies body (m.Operand goal ps) (ts ++ us)
  named : {goal : Goal} {ps : List Part} {ts us : List Token} {t : Token} → Begun src goal ts → Opens src ps us → Is t Name →
      Half src bodies body (m.Named goal ps (ident src t)) (ts ++ (us ++ t ∷ []))
  value : {goal : Goal} {ps : List Part} {ts us vs : List Token} {x : Expr} → Begun src goal ts → Opens src ps us → IsExpr src operand vs x →
      Half src bodies body (m.Value goal ps x) (ts ++ (us ++ vs))
  chosen : {t : Token} {vs us : List Token} {c : Expr} {ys : List Stmt} → Is t (Word w.If) → IsExpr src 0 vs c → IsBlock src us ys →
      Half src bodies body (m.AfterIf c ys) (t ∷ (vs ++ us))
  else_word : {t z : Token} {vs us : List Token} {c : Expr} {ys : List Stmt} → Is t (Word w.If) → IsExpr src 0 vs c → IsBlock src us ys →
      Is z (Word w.Else) → Half src bodies body (m.Else c ys) (t ∷ (vs ++ (us ++ z ∷ [])))

pub record Holds (src : List ℕ) (ts : List Token) (st : State) : Type 0 where
  pub declaring : List Token
  pub enclosing : List Token
  pub done : List Token
  pub last : List Token
  pub split : ts ≡ declaring ++ (enclosing ++ (done ++ last))
  pub decls : AreDecls src declaring st.decls
  pub bodies : Encloses src st.bodies enclosing
  pub body : IsBody src done st.body
  pub mode : Half src st.bodies st.body st.mode last

abbrev pub Keeps : List ℕ → List Token → Option State → Type 0
Keeps src ts None = Unit {0}
Keeps src ts (Some st) = Holds src ts st

-- what stands before the part that is read now
pub record Around (src : List ℕ) (st : State) : Type 0 where
  pub declaring : List Token
  pub enclosing : List Token
  pub done : List Token
  pub decls : AreDecls src declaring st.decls
  pub bodies : Encloses src st.bodies enclosing
  pub body : IsBody src done st.body

abbrev pub all : {src : List ℕ} {st : State} → Around src st → List Token → List Token
all a last = a.declaring ++ (a.enclosing ++ (a.done ++ last))

-- one more statement
pub body_append : {src : List ℕ} {ts us : List Token} {xs : List Stmt} {x : Stmt} → IsBody src ts xs → IsStmt src us x → IsBody src (ts ++ us) (xs ++ x ∷ [])
body_append {src} {us = us} {x = x} gr.IsBody.none h = let P : List Token → Type 0 = λ z. IsBody src z (x ∷ []) in subst P (append-nil us) (gr.IsBody.more h gr.IsBody.none)
body_append {src} {us = us} {xs = xs} {x = x} (gr.IsBody.more {ts = fs} {us = bs} {st = z} {body = zs} f r) h =
    let P : List Token → Type 0 = λ ts. IsBody src ts (z ∷ (zs ++ x ∷ [])) in subst P (sym (append_assoc fs bs us)) (gr.IsBody.more f (body_append r h))

decls_append : {src : List ℕ} {ts us : List Token} {xs : List Decl} {x : Decl} → AreDecls src ts xs → IsDecl src us x → AreDecls src (ts ++ us) (xs ++ x ∷ [])
decls_append {src} {us = us} {x = x} gr.AreDecls.none h = let P : List Token → Type 0 = λ z. AreDecls src z (x ∷ []) in subst P (append-nil us) (gr.AreDecls.more h gr.AreDecls.none)
decls_append {src} {us = us} {xs = xs} {x = x} (gr.AreDecls.more {ts = fs} {us = bs} {x = z} {ds = zs} f r) h =
    let P : List Token → Type 0 = λ ts. AreDecls src ts (z ∷ (zs ++ x ∷ [])) in subst P (sym (append_assoc fs bs us)) (gr.AreDecls.more f (decls_append r h))

pub no_bodies : {src : List ℕ} {bs : List OpenBody} {ts : List Token} → Encloses src bs ts → bs ≡ [] → ts ≡ []
no_bodies top e = refl
no_bodies (inside b u t) e = cc

pub no_body : {src : List ℕ} {xs : List Stmt} {ts : List Token} → IsBody src ts xs → xs ≡ [] → ts ≡ []
no_body gr.IsBody.none e = refl
no_body (gr.IsBody.more f r) e = cc

-- an `if` without an `else`
pub omitted_else : {src : List ℕ} {n : Token} {vs us : List Token} {c : Expr} {ys : List Stmt} → Is n (Word w.If) → IsExpr src 0 vs c → IsBlock src us ys →
    IsStmt src (n ∷ (vs ++ us)) (s.If c ys [])
omitted_else {src} {n} {vs} {us} {c} {ys} i x b =
    let P : List Token → Type 0 = λ z. IsStmt src (n ∷ (vs ++ z)) (s.If c ys []) in subst P (append-nil us) (gr.IsStmt.choose i x b gr.IsElse.omitted)

module _ (src : List ℕ) (st : State) (a : Around src st) where
  -- the mode alone changes
  moves : {mode : Mode} {last : List Token} (ts : List Token) → ts ≡ all a last → Half src st.bodies st.body mode last → Holds src ts (in_mode st mode)
  moves {mode} {last} ts e h = record {
    declaring = a.declaring;
    enclosing = a.enclosing;
    done = a.done;
    last = last;
    split = e;
    decls = a.decls;
    bodies = a.bodies;
    body = a.body;
    mode = h;
  }

  -- a statement is complete
  finishes : {x : Stmt} {last : List Token} (ts : List Token) → ts ≡ all a last → IsStmt src last x →
      Holds src ts (record st { body = st.body ++ x ∷ []; mode = m.Item })
  finishes {x} {last} ts e h = record {
    declaring = a.declaring;
    enclosing = a.enclosing;
    done = a.done ++ last;
    last = [];
    split = e ∙ simp (append_assoc, append-nil);
    decls = a.decls;
    bodies = a.bodies;
    body = body_append a.body h;
    mode = items;
  }

  operand_keeps : {goal : Goal} {ps : List Part} {gs os : List Token} → Begun src goal gs → Opens src ps os → (t : Token) (k : TokenKind) → Is t k →
      Keeps src (all a (gs ++ os) ++ t ∷ []) (apply st (operand_at src goal ps t k))
  operand_keeps {gs = gs} {os = os} b o t (Number v) h = moves _ (simp append_assoc) (value b o (gr.number h))
  operand_keeps {gs = gs} {os = os} b o t Name h = moves _ (simp append_assoc) (named b o h)
  operand_keeps {gs = gs} {os = os} b o t (Sym y.LParen) h = moves _ (simp append_assoc) (awaits b (bracket o h))
  operand_keeps {gs = gs} {os = os} b o t (Sym y.Sub) h = moves _ (simp append_assoc) (awaits b (before {op = un.Neg} o h refl))
  operand_keeps {gs = gs} {os = os} b o t (Sym y.Not) h = moves _ (simp append_assoc) (awaits b (before {op = un.Not} o h refl))
  operand_keeps b o t _ h = tt

  -- a body begins
  opens : {head : Head} {last : List Token} (ts : List Token) → ts ≡ all a last → Headed src head last →
      Holds src ts (record st { bodies = record { before = st.body; head = head } ∷ st.bodies; body = []; mode = m.Item })
  opens {head} {last} ts e h = record {
    declaring = a.declaring;
    enclosing = a.enclosing ++ (a.done ++ last);
    done = [];
    last = [];
    split = e ∙ simp (append_assoc, append-nil);
    decls = a.decls;
    bodies = inside a.bodies a.body h;
    body = gr.IsBody.none;
    mode = items;
  }

  -- the symbol that ends a whole expression
  ended_keeps : {goal : Goal} {gs us : List Token} {x : Expr} → Begun src goal gs → IsExpr src 0 us x → (t : Token) (k : Symbol) → Is t (Sym k) →
      Keeps src (all a (gs ++ us) ++ t ∷ []) (apply st (ended goal x k))
  ended_keeps (assign n o) x t y.Semi h = finishes _ (simp append_assoc) (gr.IsStmt.assign n o x h)
  ended_keeps (set_value n o i c e) x t y.Semi h = finishes _ (simp append_assoc) (gr.IsStmt.set n o i c e x h)
  ended_keeps (print n) x t y.Semi h = finishes _ (simp append_assoc) (gr.IsStmt.print n x h)
  ended_keeps (set_index n o) x t y.RBracket h = moves _ (simp append_assoc) (target n o x h)
  ended_keeps (choose i) x t y.LBrace h = opens _ (simp append_assoc) (of_if i x h)
  ended_keeps (repeat i) x t y.LBrace h = opens _ (simp append_assoc) (of_while i x h)
  ended_keeps _ x t _ h = tt

  closed_keeps : {goal : Goal} {qs : List Part} {gs os us : List Token} {x : Expr} → Begun src goal gs → Opens src qs os → IsExpr src 0 us x →
      (t : Token) (k : Symbol) → Is t (Sym k) → Keeps src (all a (gs ++ (os ++ us)) ++ t ∷ []) (apply st (closed goal (qs, x) k))
  closed_keeps b nothing x t k h = ended_keeps b x t k h
  closed_keeps {us = us} b (bracket {ts = ts} {o = o} os i) x t y.RParen h = moves _ (simp append_assoc) (value b os (gr.paren i x h))
  closed_keeps {us = us} b (index {ts = ts} {t = n} {o = o} os i j) x t y.RBracket h = moves _ (simp append_assoc) (value b os (gr.element i j x h))
  closed_keeps b _ x t _ h = tt

  operated_keeps : {goal : Goal} {ps : List Part} {gs os us : List Token} {x : Expr} → Begun src goal gs → Opens src ps os → IsExpr src operand us x →
      (t : Token) (k : Symbol) → Is t (Sym k) → (r : Option Bin) → binary k ≡ r →
      Keeps src (all a (gs ++ (os ++ us)) ++ t ∷ []) (apply st (operated goal ps x k r))
  operated_keeps {ps = ps} {gs = gs} {us = us} {x = v} b o x t k h (Some op) e =
      let r : Splits src (_ ++ us) (level op) (reduce (level op) ps v) = reduced src o (level op) operand us v (omega (arith, level_low op)) (level_low op) x (Stops-operand ps) in
      moves _ (ap (λ z. all a (gs ++ z) ++ t ∷ []) r.split ∙ simp append_assoc) (awaits b (between r.opens r.stops r.expr h e))
  operated_keeps {goal = goal} {ps = ps} {gs = gs} {us = us} {x = v} b o x t k h None e =
      let r : Splits src (_ ++ us) 0 (reduce 0 ps v) = reduced src o 0 operand us v (omega arith) (omega arith) x (Stops-operand ps) in
      let P : List Token → Type 0 = λ z. Keeps src (all a (gs ++ z) ++ t ∷ []) (apply st (closed goal (reduce 0 ps v) k)) in
      subst P (sym r.split) (closed_keeps b r.opens r.expr t k h)

  value_keeps : {goal : Goal} {ps : List Part} {gs os us : List Token} {x : Expr} → Begun src goal gs → Opens src ps os → IsExpr src operand us x →
      (t : Token) (k : TokenKind) → Is t k → Keeps src (all a (gs ++ (os ++ us)) ++ t ∷ []) (apply st (value_at goal ps x k))
  value_keeps b o x t (Sym k) h = operated_keeps b o x t k h (binary k) refl
  value_keeps b o x t _ h = tt

  bracket_keeps : {goal : Goal} {ps : List Part} {gs os : List Token} {n : Token} → Begun src goal gs → Opens src ps os → Is n Name →
      (t : Token) (k : Symbol) → Is t (Sym k) → Keeps src (all a (gs ++ (os ++ n ∷ [])) ++ t ∷ []) (apply st (named_at goal ps (ident src n) (Sym k)))
  bracket_keeps b o i t y.LBracket h = moves _ (simp append_assoc) (awaits b (index o i h))
  bracket_keeps b o i t k h = value_keeps b o (gr.name i) t (Sym k) h

  named_keeps : {goal : Goal} {ps : List Part} {gs os : List Token} {n : Token} → Begun src goal gs → Opens src ps os → Is n Name →
      (t : Token) (k : TokenKind) → Is t k → Keeps src (all a (gs ++ (os ++ n ∷ [])) ++ t ∷ []) (apply st (named_at goal ps (ident src n) k))
  named_keeps b o i t (Sym k) h = bracket_keeps b o i t k h
  named_keeps b o i t _ h = tt

  name_keeps : {n : Token} → Is n Name → (t : Token) (k : TokenKind) → Is t k → Keeps src (all a (n ∷ []) ++ t ∷ []) (apply st (name_at (ident src n) k))
  name_keeps i t (Sym y.Assign) h = moves _ (simp append_assoc) (awaits (assign i h) nothing)
  name_keeps i t (Sym y.LBracket) h = moves _ (simp append_assoc) (awaits (set_index i h) nothing)
  name_keeps i t _ h = tt

  declares : {x : Decl} {last : List Token} (ts : List Token) → ts ≡ all a last → Fresh st.bodies st.body → IsDecl src last x →
      Holds src ts (record st { decls = st.decls ++ x ∷ []; mode = m.Item })
  declares {last = last} ts e fresh h =
      let none_open : a.enclosing ≡ [] = no_bodies a.bodies fresh.no_body in
      let none_done : a.done ≡ [] = no_body a.body fresh.no_stmt in
      record {
        declaring = a.declaring ++ last;
        enclosing = a.enclosing;
        done = a.done;
        last = [];
        split = e ∙ ap (λ z. a.declaring ++ (z ++ (a.done ++ last))) none_open ∙ ap (λ z. a.declaring ++ (z ++ last)) none_done ∙ sym (append_assoc a.declaring last (a.enclosing ++ (a.done ++ [])) ∙ ap (λ z. a.declaring ++ (last ++ (z ++ (a.done ++ [])))) none_open ∙ ap (λ z. a.declaring ++ (last ++ (z ++ []))) none_done ∙ ap (λ z. a.declaring ++ z) (append-nil last));
        decls = decls_append a.decls h;
        bodies = a.bodies;
        body = a.body;
        mode = items;
      }

  fixed_keeps : {mode : Mode} {last : List Token} → Half src st.bodies st.body mode last → (t : Token) (k : TokenKind) → Is t k →
      Keeps src (all a last ++ t ∷ []) (apply st (fixed_at src mode t k))
  fixed_keeps (var f i) t Name h = moves _ (simp append_assoc) (var_name f i h)
  fixed_keeps (var_name f i j) t (Sym y.Semi) h = declares _ (simp append_assoc) f (gr.IsDecl.plain i j h)
  fixed_keeps (var_name f i j) t (Sym y.Assign) h = moves _ (simp append_assoc) (var_assign f i j h)
  fixed_keeps (var_assign f i j k) t (Sym y.Sub) h = moves _ (simp append_assoc) (var_minus f i j k h)
  fixed_keeps (var_assign {t = b} {n = n} {o = o} f i j k) t (Number v) h = moves {last = b ∷ n ∷ o ∷ t ∷ []} _ (simp append_assoc) (declared f (λ c e. gr.IsDecl.initial i j k h e))
  fixed_keeps (var_minus {t = b} {n = n} {o = o} {b = c} f i j k l) t (Number v) h = moves {last = b ∷ n ∷ o ∷ c ∷ t ∷ []} _ (simp append_assoc) (declared f (λ c e. gr.IsDecl.minus i j k l h e))
  fixed_keeps (array_word f i) t Name h = moves _ (simp append_assoc) (array_name f i h)
  fixed_keeps (array_name f i j) t (Sym y.LBracket) h = moves _ (simp append_assoc) (array_open f i j h)
  fixed_keeps (array_open f i j k) t (Number v) h = moves _ (simp append_assoc) (array_len f i j k h)
  fixed_keeps (array_len {t = b} {n = n} {o = o} {b = c} f i j k l) t (Sym y.RBracket) h = moves {last = b ∷ n ∷ o ∷ c ∷ t ∷ []} _ (simp append_assoc) (declared f (λ c e. gr.IsDecl.array i j k l h e))
  fixed_keeps (declared f make) t (Sym y.Semi) h = declares _ (simp append_assoc) f (make t h)
  fixed_keeps (target n o i c) t (Sym y.Assign) h = moves _ (simp append_assoc) (awaits (set_value n o i c h) nothing)
  fixed_keeps (else_word i x b z) t (Sym y.LBrace) h = opens _ (simp append_assoc) (of_else i x b z h)
  fixed_keeps _ t _ h = tt

  -- a statement whose last part is a body
  ends_body : {bs : List OpenBody} {ts us last : List Token} {past : List Stmt} {x : Stmt} (all_of : List Token) →
      all_of ≡ a.declaring ++ (ts ++ (us ++ last)) → Encloses src bs ts → IsBody src us past → IsStmt src last x →
      Holds src all_of (record st { bodies = bs; body = past ++ x ∷ []; mode = m.Item })
  ends_body {bs} {ts} {us} {last} all_of e around past h = record {
    declaring = a.declaring;
    enclosing = ts;
    done = us ++ last;
    last = [];
    split = e ∙ simp (append_assoc, append-nil);
    decls = a.decls;
    bodies = around;
    body = body_append past h;
    mode = items;
  }

  closed_by_keeps : {bs : List OpenBody} {ts us hs : List Token} {past : List Stmt} {head : Head} → Encloses src bs ts → IsBody src us past → Headed src head hs →
      ts ++ (us ++ hs) ≡ a.enclosing → (t : Token) → Is t (Sym y.RBrace) → Holds src (all a [] ++ t ∷ []) (closed_by st bs past head)
  closed_by_keeps {ts = ts} {us = us} around past (of_while {t = n} {o = o} {vs = vs} i c j) e t h =
      ends_body {ts = ts} {us = us} {last = n ∷ (vs ++ (o ∷ (a.done ++ t ∷ [])))} _
      (ap (λ z. (a.declaring ++ (z ++ (a.done ++ []))) ++ t ∷ []) (sym e) ∙ simp (append_assoc, append-nil)) around past (gr.IsStmt.repeat i c (gr.IsBlock.braces j a.body h))
  closed_by_keeps {ts = ts} {us = us} around past (of_if {t = n} {o = o} {vs = vs} i c j) e t h = record {
    declaring = a.declaring;
    enclosing = ts;
    done = us;
    last = n ∷ (vs ++ (o ∷ (a.done ++ t ∷ [])));
    split = ap (λ z. (a.declaring ++ (z ++ (a.done ++ []))) ++ t ∷ []) (sym e) ∙ simp (append_assoc, append-nil);
    decls = a.decls;
    bodies = around;
    body = past;
    mode = chosen i c (gr.IsBlock.braces j a.body h);
  }
  closed_by_keeps {ts = ts} {us = us} around past (of_else {t = n} {z = z} {o = o} {vs = vs} {us = ws} i c b k j) e t h =
      ends_body {ts = ts} {us = us} {last = n ∷ (vs ++ (ws ++ (z ∷ (o ∷ (a.done ++ t ∷ [])))))} _
      (ap (λ z. (a.declaring ++ (z ++ (a.done ++ []))) ++ t ∷ []) (sym e) ∙ simp (append_assoc, append-nil)) around past
      (gr.IsStmt.choose i c b (gr.IsElse.otherwise k (gr.IsBlock.braces j a.body h)))

  close_keeps : {bs : List OpenBody} {enclosing : List Token} → Encloses src bs enclosing → enclosing ≡ a.enclosing → (t : Token) → Is t (Sym y.RBrace) →
      Keeps src (all a [] ++ t ∷ []) (close st bs)
  close_keeps top e t h = tt
  close_keeps (inside around past head) e t h = closed_by_keeps around past head e t h

  begin_keeps : {mode : Mode} (t : Token) → (Fresh st.bodies st.body → Half src st.bodies st.body mode (t ∷ [])) →
      (bs : List OpenBody) → st.bodies ≡ bs → (xs : List Stmt) → st.body ≡ xs → Keeps src (all a [] ++ t ∷ []) (begin st mode bs xs)
  begin_keeps t h [] e [] f = moves _ (simp append_assoc) (h (record { no_body = e; no_stmt = f }))
  begin_keeps t h _ e _ f = tt

  pub item_keeps : (t : Token) (k : TokenKind) → Is t k → Keeps src (all a [] ++ t ∷ []) (apply st (item src t k))
  item_keeps t (Word w.Var) h = begin_keeps t (λ f. var f h) st.bodies refl st.body refl
  item_keeps t (Word w.Array) h = begin_keeps t (λ f. array_word f h) st.bodies refl st.body refl
  item_keeps t (Word w.Print) h = moves _ (simp append_assoc) (awaits (print h) nothing)
  item_keeps t (Word w.If) h = moves _ (simp append_assoc) (awaits (choose h) nothing)
  item_keeps t (Word w.While) h = moves _ (simp append_assoc) (awaits (repeat h) nothing)
  item_keeps t Name h = moves _ (simp append_assoc) (name h)
  item_keeps t (Sym y.RBrace) h = close_keeps a.bodies refl t h
  item_keeps t _ h = tt

module _ (src : List ℕ) (st : State) (a : Around src st) where
  -- behind an `if`: it is complete where the token is not `else`
  complete_keeps : {last : List Token} {x : Stmt} → IsStmt src last x → (t : Token) (k : TokenKind) → Is t k →
      Keeps src (all a last ++ t ∷ []) (apply st (after x (item src t k)))
  complete_keeps {last} {x} s t k h =
      let b : Around src (behind st x) = record {
        declaring = a.declaring;
        enclosing = a.enclosing;
        done = a.done ++ last;
        decls = a.decls;
        bodies = a.bodies;
        body = body_append a.body s;
      } in
      let P : List Token → Type 0 = λ z. Keeps src (z ++ t ∷ []) (apply st (after x (item src t k))) in
      let Q : Option State → Type 0 = Keeps src (all b [] ++ t ∷ []) in
      let e : all b [] ≡ all a last = simp (append_assoc, append-nil) in
      subst P e (subst Q (sym (after_apply st x (item src t k) (items_of src t k))) (item_keeps src (behind st x) b t k h))

  after_keeps : {n : Token} {vs us : List Token} {c : Expr} {ys : List Stmt} → Is n (Word w.If) → IsExpr src 0 vs c → IsBlock src us ys →
      (t : Token) (k : TokenKind) → Is t k → Keeps src (all a (n ∷ (vs ++ us)) ++ t ∷ []) (apply st (after_if src c ys t k))
  after_keeps i x b t (Word w.Else) h = moves src st a _ (simp append_assoc) (else_word i x b h)
  after_keeps {n = n} {vs = vs} {us = us} {c = c} {ys = ys} i x b t k h =
      complete_keeps (omitted_else i x b) t k h

  pub step_keeps : {mode : Mode} {last : List Token} → Half src st.bodies st.body mode last → (t : Token) → Keeps src (all a last ++ t ∷ []) (apply st (act src mode t))
  step_keeps items t = item_keeps src st a t t.kind (record { kind = refl })
  step_keeps (name n) t = name_keeps src st a n t t.kind (record { kind = refl })
  step_keeps (awaits b o) t = operand_keeps src st a b o t t.kind (record { kind = refl })
  step_keeps (named b o n) t = named_keeps src st a b o n t t.kind (record { kind = refl })
  step_keeps (value b o x) t = value_keeps src st a b o x t t.kind (record { kind = refl })
  step_keeps (chosen i x b) t = after_keeps i x b t t.kind (record { kind = refl })
  step_keeps h t = fixed_keeps src st a h t t.kind (record { kind = refl })
