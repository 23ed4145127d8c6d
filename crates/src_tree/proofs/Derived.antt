-- What the tokens of a text derive has names and numbers as they are read.
use Rattle.std.proofs.Common.{◌≡◌, ℕ, zero, suc, ◌-◌, ◌≤◌, ℤ, pos, negsuc, List, [], ◌∷◌, ◌++◌, length, length-take, lit<, subst, arith}
use Rattle.std.specs.Prelude.{slice_range, neg_ℤ}
use Rattle.src_lexer.specs.declared.token.TokenKind.{TokenKind}
use Rattle.src_lexer.specs.declared.token.TokenKind.TheVariants.{Name, Number}
use Rattle.src_lexer.specs.declared.token.Token.{Token}
use Rattle.src_lexer.specs.Spell.{Allowed, AreAllowed, value_of}
use Rattle.src_lexer.specs.Laws.{IsTextOf, AreSlices}
use Rattle.src_tree.specs.declared.tree.Expr.{Expr}
use Rattle.src_tree.specs.declared.tree.Stmt.{Stmt}
use Rattle.src_tree.specs.declared.tree.Decl.{Decl}
use Rattle.src_tree.specs.declared.tree.Program.{Program}
use Rattle.src_tree.specs.Grammar.{Is, IsExpr, IsStmt, IsBlock, IsElse, IsBody, IsDecl, AreDecls, Derives, ident}
use Rattle.src_tree.specs.Grammar as g
use Rattle.src_tree.specs.Plain.{IsName, IsCount, IsInitial, IsPlainExpr, IsPlainStmt, IsPlainBody, IsPlainDecl, ArePlainDecls}
use Rattle.src_tree.specs.Plain as l
use Rattle.src_tree.specs.Laws.{HasPlainParts}

module _ (src : List ℕ) where
  -- the token is its slice, and allowed
  record IsFine (t : Token) (k : TokenKind) : Type 0 where
    pub text : IsTextOf k (slice_range src t.at t.end)
    pub allowed : Allowed src t k

  abbrev AreFine : List Token → Type 0
  AreFine [] = Unit {0}
  AreFine (t ∷ ts) = IsFine t t.kind × AreFine ts

  fine : (ts : List Token) → AreSlices src ts → AreAllowed src ts → AreFine ts
  fine [] s a = tt
  fine (t ∷ ts) s a = (record { text = s.0; allowed = a.0 }, fine ts s.1 a.1)

  front_of : (ts us : List Token) → AreFine (ts ++ us) → AreFine ts
  front_of [] us f = tt
  front_of (t ∷ ts) us f = (f.0, front_of ts us f.1)

  back_of : (ts us : List Token) → AreFine (ts ++ us) → AreFine us
  back_of [] us f = f
  back_of (t ∷ ts) us f = back_of ts us f.1

  slice_short : (t : Token) → length (slice_range src t.at t.end) ≤ t.end - t.at
  slice_short t = simp (length-take) (omega arith)

  name_of : {t : Token} → Is t Name → IsFine t t.kind → IsName (ident src t)
  name_of {t} i f =
      let P : TokenKind → Type 0 = IsFine t in
      let n : IsFine t Name = subst P i.kind f in
      record { text = n.text; short = omega (arith, slice_short t, n.allowed) }

  count_at : (t : Token) (v : ℤ) → IsFine t (Number v) → IsCount v
  count_at t (pos n) f = f.allowed
  count_at t (negsuc n) f = absurd (let x : negsuc n ≡ pos (value_of (slice_range src t.at t.end)) = (f.text).value in cc)

  count_of : {t : Token} {v : ℤ} → Is t (Number v) → IsFine t t.kind → IsCount v
  count_of {t} {v} i f = let P : TokenKind → Type 0 = IsFine t in count_at t v (subst P i.kind f)

  plain_expr : {m : ℕ} {ts : List Token} {x : Expr} → IsExpr src m ts x → AreFine ts → IsPlainExpr x
  plain_expr (g.number i) f = l.number (count_of i f.0)
  plain_expr (g.name i) f = l.var (name_of i f.0)
  plain_expr (g.element {c = c} {ts = ts} i o x k) f = l.element (name_of i f.0) (plain_expr x (front_of ts (c ∷ []) ((f.1).1)))
  plain_expr (g.paren {c = c} {ts = ts} o x k) f = plain_expr x (front_of ts (c ∷ []) f.1)
  plain_expr (g.one i u x) f = l.one (plain_expr x f.1)
  plain_expr (g.two {t = t} {ts = ts} {us = us} x i b w) f = l.two (plain_expr x (front_of ts (t ∷ us) f)) (plain_expr w ((back_of ts (t ∷ us) f).1))
  plain_expr (g.tighter h x) f = plain_expr x f

  mutual
    plain_stmt : {ts : List Token} {x : Stmt} → IsStmt src ts x → AreFine ts → IsPlainStmt x
    plain_stmt (g.assign {c = c} {ts = ts} i o x k) f = l.assign (name_of i f.0) (plain_expr x (front_of ts (c ∷ []) ((f.1).1)))
    plain_stmt (g.set {c = c} {m = m} {f = q} {ts = ts} {us = us} i o x k n w e) f =
        let rest : AreFine (c ∷ m ∷ (us ++ q ∷ [])) = back_of ts (c ∷ m ∷ (us ++ q ∷ [])) ((f.1).1) in
        l.set (name_of i f.0) (plain_expr x (front_of ts (c ∷ m ∷ (us ++ q ∷ [])) ((f.1).1))) (plain_expr w (front_of us (q ∷ []) ((rest.1).1)))
    plain_stmt (g.print {c = c} {ts = ts} i x k) f = l.print (plain_expr x (front_of ts (c ∷ []) f.1))
    plain_stmt (g.choose {ts = ts} {us = us} {vs = vs} i x b e) f =
        let rest : AreFine (us ++ vs) = back_of ts (us ++ vs) f.1 in
        l.choose (plain_expr x (front_of ts (us ++ vs) f.1)) (plain_block b (front_of us vs rest)) (plain_else e (back_of us vs rest))
    plain_stmt (g.repeat {ts = ts} {us = us} i x b) f = l.repeat (plain_expr x (front_of ts us f.1)) (plain_block b (back_of ts us f.1))

    plain_block : {ts : List Token} {body : List Stmt} → IsBlock src ts body → AreFine ts → IsPlainBody body
    plain_block (g.braces {c = c} {ts = ts} o b k) f = plain_body b (front_of ts (c ∷ []) f.1)

    plain_else : {ts : List Token} {body : List Stmt} → IsElse src ts body → AreFine ts → IsPlainBody body
    plain_else g.omitted f = l.none
    plain_else (g.otherwise i b) f = plain_block b f.1

    plain_body : {ts : List Token} {body : List Stmt} → IsBody src ts body → AreFine ts → IsPlainBody body
    plain_body g.none f = l.none
    plain_body (g.more {ts = ts} {us = us} s b) f = l.more (plain_stmt s (front_of ts us f)) (plain_body b (back_of ts us f))

  initial_of : (v : ℤ) → IsCount v → IsInitial v
  initial_of (pos n) h = h
  initial_of (negsuc n) h = absurd h

  minus_of : (v : ℤ) → IsCount v → IsInitial (neg_ℤ v)
  minus_of (pos zero) h = h
  minus_of (pos (suc n)) h = omega (arith, h)
  minus_of (negsuc n) h = absurd h

  plain_decl : {ts : List Token} {x : Decl} → IsDecl src ts x → AreFine ts → IsPlainDecl x
  plain_decl (g.plain t n q) f = (name_of n (f.1).0, lit< tt)
  plain_decl (g.initial {v = v} t n o m q) f = (name_of n (f.1).0, initial_of v (count_of m (((f.1).1).1).0))
  plain_decl (g.minus {v = v} t n o s m q) f = (name_of n (f.1).0, minus_of v (count_of m ((((f.1).1).1).1).0))
  plain_decl (g.array {v = v} t n o m c q) f = (name_of n (f.1).0, count_of m (((f.1).1).1).0)

  plain_decls : {ts : List Token} {xs : List Decl} → AreDecls src ts xs → AreFine ts → ArePlainDecls xs
  plain_decls g.none f = tt
  plain_decls (g.more {ts = ts} {us = us} d r) f = (plain_decl d (front_of ts us f), plain_decls r (back_of ts us f))

pub derived : (src : List ℕ) (ts : List Token) (p : Program) → AreSlices src ts → AreAllowed src ts → Derives src ts p → HasPlainParts p
derived src ts p s a d =
    let P : List Token → Type 0 = AreFine src in
    let f : AreFine src (d.front ++ d.back) = subst P d.split (fine src ts s a) in
    record { decls = plain_decls src d.decls (front_of src d.front d.back f); body = plain_body src d.body (back_of src d.front d.back f) }
