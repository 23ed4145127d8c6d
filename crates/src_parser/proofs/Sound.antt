-- What is read, the grammar derives: between two tokens the open parts are spelled by the tokens so far.
use Rattle.std.proofs.Common.{◌≡◌, ℕ, zero, suc, ◌+◌, ◌-◌, ◌<◌, ◌≤◌, List, [], ◌∷◌, ◌++◌, Bool, true, false, cond, Some, refl, ap, subst, ◌∙◌, arith, append_assoc}
use Rattle.std.proofs.lemmas.Bool.{leb-true, leb-false}
use Rattle.std.specs.Prelude.{nat_le}
use Rattle.src_tree.specs.declared.tree.Expr.{Expr}
use Rattle.src_tree.specs.declared.tree.Expr.TheVariants as e
use Rattle.bm_base.specs.declared.word.Un.{Un}
use Rattle.bm_base.specs.declared.word.Bin.{Bin}
use Rattle.src_lexer.specs.declared.token.Symbol.{Symbol}
use Rattle.src_lexer.specs.declared.token.Symbol.TheVariants as y
use Rattle.src_lexer.specs.declared.token.TokenKind.TheVariants.{Name, Sym}
use Rattle.src_lexer.specs.declared.token.Token.{Token}
use Rattle.src_parser.specs.declared.machine.Part.{Part}
use Rattle.src_parser.specs.declared.machine.Part.TheVariants as p
use Rattle.src_tree.specs.Operators.{binary, unary, level, operand}
use Rattle.src_tree.specs.Grammar.{ident, Is, IsExpr, number, name, element, paren, one, two, tighter}
use Rattle.src_parser.specs.Machine.{reduce}
use Rattle.src_parser.proofs.Complete.{Stops, Stops-operand, level_low}

-- Since an expression began, these tokens have opened these parts.
pub data Opens (src : List ℕ) : List Part → List Token → Type 0 where
  nothing : Opens src [] []
  bracket : {ps : List Part} {ts : List Token} {o : Token} → Opens src ps ts → Is o (Sym y.LParen) → Opens src (p.Paren ∷ ps) (ts ++ o ∷ [])
  index : {ps : List Part} {ts : List Token} {t o : Token} → Opens src ps ts → Is t Name → Is o (Sym y.LBracket) →
      Opens src (p.Index (ident src t) ∷ ps) (ts ++ (t ∷ o ∷ []))
  before : {ps : List Part} {ts : List Token} {t : Token} {x : Symbol} {op : Un} → Opens src ps ts → Is t (Sym x) → unary x ≡ Some op →
      Opens src (p.Unary op ∷ ps) (ts ++ t ∷ [])
  between : {ps : List Part} {ts us : List Token} {t : Token} {x : Symbol} {op : Bin} {a : Expr} →
      Opens src ps ts → Stops (level op) ps → IsExpr src (level op) us a → Is t (Sym x) → binary x ≡ Some op →
      Opens src (p.Binary op a ∷ ps) (ts ++ (us ++ t ∷ []))

-- The tokens open the parts, and then spell an expression of the level, which none of the parts takes in.
pub record Splits (src : List ℕ) (ts : List Token) (k : ℕ) (r : List Part × Expr) : Type 0 where
  pub front : List Token
  pub back : List Token
  pub split : ts ≡ front ++ back
  pub opens : Opens src r.0 front
  pub expr : IsExpr src k back r.1
  pub stops : Stops k r.0

pub level_most : {src : List ℕ} {l : ℕ} {ts : List Token} {x : Expr} → IsExpr src l ts x → l ≤ operand
level_most (number h) = omega arith
level_most (name h) = omega arith
level_most (element h k i c) = omega arith
level_most (paren h i c) = omega arith
level_most (one h u i) = omega arith
level_most (two {op = op} a h u b) = omega (arith, level_low op)
level_most (tighter low i) = omega arith

-- an expression of a tighter level is one of a looser
pub looser : {src : List ℕ} {ts : List Token} {x : Expr} (d k : ℕ) → IsExpr src (d + k) ts x → IsExpr src k ts x
looser {src} {ts} {x} zero k h = let P : ℕ → Type 0 = λ l. IsExpr src l ts x in subst P (omega arith) h
looser {src} {ts} {x} (suc d) k h =
    let P : ℕ → Type 0 = λ l. IsExpr src l ts x in
    let e : suc d + k ≡ suc (d + k) = omega arith in
    let here : IsExpr src (suc (d + k)) ts x = subst P e h in
    looser d k (tighter (omega (arith, level_most here)) here)

pub loosen : {src : List ℕ} {l k : ℕ} {ts : List Token} {x : Expr} → IsExpr src l ts x → k ≤ l → IsExpr src k ts x
loosen {src} {l} {k} {ts} {x} h low =
    let P : ℕ → Type 0 = λ l. IsExpr src l ts x in
    let e : l ≡ (l - k) + k = omega arith in
    looser (l - k) k (subst P e h)

-- an operator's left operand, the operator, and its right operand or what comes of it
record Operated (src : List ℕ) (ts vs us : List Token) (t : Token) (k : ℕ) (ps : List Part) (op : Bin) (a x : Expr) : Type 0 where
  taken : k ≤ level op → Splits src (ts ++ (vs ++ (t ∷ us))) k (reduce k ps (e.Two op a x))
  kept : level op < k → Splits src ((ts ++ (vs ++ t ∷ [])) ++ us) k (p.Binary op a ∷ ps, x)

regroup : (ts vs us : List Token) (t : Token) → (ts ++ (vs ++ t ∷ [])) ++ us ≡ ts ++ (vs ++ (t ∷ us))
regroup ts vs us t = append_assoc ts (vs ++ t ∷ []) us ∙ ap (λ z. ts ++ z) (append_assoc vs (t ∷ []) us)

operated : {src : List ℕ} {ts vs us : List Token} {t : Token} {k : ℕ} {ps : List Part} {op : Bin} {a x : Expr} →
    Operated src ts vs us t k ps op a x → (b : Bool) → nat_le k (level op) ≡ b →
    Splits src ((ts ++ (vs ++ t ∷ [])) ++ us) k (cond b (reduce k ps (e.Two op a x)) (p.Binary op a ∷ ps, x))
operated {ts = ts} {vs = vs} {us = us} {t = t} {k = k} {op = op} c true h =
    let r = c.taken (leb-true k (level op) h) in
    record { front = r.front; back = r.back; split = regroup ts vs us t ∙ r.split; opens = r.opens; expr = r.expr; stops = r.stops }
operated {k = k} {op = op} c false h = c.kept (leb-false k (level op) h)

module _ (src : List ℕ) where
  pub reduced : {ps : List Part} {ts : List Token} → Opens src ps ts → (k l : ℕ) (us : List Token) (x : Expr) → k ≤ l → k < operand →
      IsExpr src l us x → Stops l ps → Splits src (ts ++ us) k (reduce k ps x)
  reduced nothing k l us x low small h stops = record { front = []; back = us; split = refl; opens = nothing; expr = loosen h low; stops = tt }
  reduced (bracket {ts = ts} {o = o} os i) k l us x low small h stops = record { front = ts ++ o ∷ []; back = us; split = refl; opens = bracket os i; expr = loosen h low; stops = tt }
  reduced (index {ts = ts} {t = t} {o = o} os i j) k l us x low small h stops = record { front = ts ++ (t ∷ o ∷ []); back = us; split = refl; opens = index os i j; expr = loosen h low; stops = tt }
  reduced (before {ps = ps} {ts = ts} {t = t} {x = s} {op = op} os i u) k l us x low small h stops =
      let r : Splits src (ts ++ (t ∷ us)) k (reduce k ps (e.One op x)) =
      reduced os k operand (t ∷ us) (e.One op x) (omega arith) small (one i u (loosen h stops)) (Stops-operand ps) in
      record { front = r.front; back = r.back; split = append_assoc ts (t ∷ []) us ∙ r.split; opens = r.opens; expr = r.expr; stops = r.stops }
  reduced (between {ps = ps} {ts = ts} {us = vs} {t = t} {x = s} {op = op} {a = a} os st left i b) k l us x low small h stops =
      let c : Operated src ts vs us t k ps op a x = record {
        taken = λ fits. reduced os k (level op) (vs ++ (t ∷ us)) (e.Two op a x) fits small (two left i b (loosen h stops)) st;
        kept = λ apart. record { front = ts ++ (vs ++ t ∷ []); back = us; split = refl; opens = between os st left i b; expr = loosen h low; stops = apart };
      } in
      operated c (nat_le k (level op)) refl
