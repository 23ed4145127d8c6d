-- What the grammar derives is read.
use Rattle.std.proofs.Common.{◌≡◌, ℕ, suc, ◌<◌, ◌≤◌, ℤ, List, [], ◌∷◌, ◌++◌, cond, Some, None, refl, ap, sym, subst, ◌∙◌, arith, append_assoc}
use Rattle.std.proofs.lemmas.List.{append-nil}
use Rattle.std.proofs.lemmas.Bool.{lt-leb, le-leb}
use Rattle.src_tree.specs.declared.tree.Ident.{Ident}
use Rattle.src_tree.specs.declared.tree.Expr.{Expr}
use Rattle.src_tree.specs.declared.tree.Expr.TheVariants as e
use Rattle.bm_base.specs.declared.word.Bin.{Bin}
use Rattle.bm_base.specs.declared.word.Bin.TheVariants as bin
use Rattle.src_lexer.specs.declared.token.Symbol.{Symbol}
use Rattle.src_lexer.specs.declared.token.Symbol.TheVariants as y
use Rattle.src_tree.specs.declared.tree.Stmt.{Stmt}
use Rattle.src_lexer.specs.declared.token.Keyword.TheVariants as w
use Rattle.src_lexer.specs.declared.token.TokenKind.{TokenKind}
use Rattle.src_lexer.specs.declared.token.TokenKind.TheVariants.{Name, Number, Word, Sym}
use Rattle.src_lexer.specs.declared.token.Token.{Token}
use Rattle.src_parser.specs.declared.machine.Goal.{Goal}
use Rattle.src_parser.specs.declared.machine.Goal.TheVariants as g
use Rattle.src_parser.specs.declared.machine.Part.{Part}
use Rattle.src_parser.specs.declared.machine.Part.TheVariants as p
use Rattle.src_parser.specs.declared.machine.Mode.{Mode}
use Rattle.src_parser.specs.declared.machine.Mode.TheVariants as m
use Rattle.src_parser.specs.declared.machine.State.{State}
use Rattle.src_parser.specs.declared.machine.Head.{Head}
use Rattle.src_parser.specs.declared.machine.Head.TheVariants as hd
use Rattle.src_tree.specs.Operators.{binary, level, operand}
use Rattle.src_tree.specs.Grammar.{ident, Is, IsExpr, number, name, element, paren, one, two, tighter, IsStmt, assign, set, print, choose, repeat, braces, omitted, otherwise, IsBody, none, more}
use Rattle.src_parser.specs.Machine.{reduce, operand_at, named_at, item, name_at, fixed_at, after_if, closed, apply, behind}
use Rattle.src_parser.proofs.Steps.{in_mode, IsValue, value, named, Leads, Steps, run_append, run_then, run_one, run_none, step_unary, step_binary, step_closed, by_action, Rests, settled, open_if, leads_rested, IsOther}

-- An expression of this level may begin behind these open parts: none of them takes in its operands.
abbrev pub Stops : ℕ → List Part → Type 0
Stops l [] = Unit {0}
Stops l (p.Paren ∷ ps) = Unit {0}
Stops l (p.Index n ∷ ps) = Unit {0}
Stops l (p.Unary op ∷ ps) = operand ≤ l
Stops l (p.Binary op a ∷ ps) = level op < l

pub Stops-suc : (l : ℕ) (ps : List Part) → Stops l ps → Stops (suc l) ps
Stops-suc l [] h = tt
Stops-suc l (p.Paren ∷ ps) h = tt
Stops-suc l (p.Index n ∷ ps) h = tt
Stops-suc l (p.Unary op ∷ ps) h = omega arith
Stops-suc l (p.Binary op a ∷ ps) h = omega arith

-- nothing of them is taken in at this level
pub reduce_stops : (l : ℕ) (ps : List Part) (x : Expr) → l < operand → Stops l ps → reduce l ps x ≡ (ps, x)
reduce_stops l [] x low h = refl
reduce_stops l (p.Paren ∷ ps) x low h = refl
reduce_stops l (p.Index n ∷ ps) x low h = refl
reduce_stops l (p.Unary op ∷ ps) x low h = absurd (omega arith)
reduce_stops l (p.Binary op a ∷ ps) x low h = ap (λ b. cond b (reduce l ps (e.Two op a x)) (p.Binary op a ∷ ps, x)) (lt-leb l (level op) h)

-- an operator takes in its right operand
pub reduce_two : (k : ℕ) (op : Bin) (a : Expr) (ps : List Part) (x : Expr) → k ≤ level op → reduce k (p.Binary op a ∷ ps) x ≡ reduce k ps (e.Two op a x)
reduce_two k op a ps x h = ap (λ b. cond b (reduce k ps (e.Two op a x)) (p.Binary op a ∷ ps, x)) (le-leb k (level op) h)

pub level_low : (op : Bin) → level op < operand
level_low bin.Or = omega arith
level_low bin.Xor = omega arith
level_low bin.And = omega arith
level_low bin.Eq = omega arith
level_low bin.Ne = omega arith
level_low bin.Lt = omega arith
level_low bin.Le = omega arith
level_low bin.Gt = omega arith
level_low bin.Ge = omega arith
level_low bin.Shl = omega arith
level_low bin.Shr = omega arith
level_low bin.Add = omega arith
level_low bin.Sub = omega arith
level_low bin.Mul = omega arith
level_low bin.Div = omega arith
level_low bin.Rem = omega arith

-- an operand may begin behind any open parts
pub Stops-operand : (ps : List Part) → Stops operand ps
Stops-operand [] = tt
Stops-operand (p.Paren ∷ ps) = tt
Stops-operand (p.Index n ∷ ps) = tt
Stops-operand (p.Unary op ∷ ps) = omega arith
Stops-operand (p.Binary op a ∷ ps) = level_low op

-- The tokens lead from an operand's place to behind a complete operand, and there the open parts take in
-- the operands as they would the whole expression.
pub record Arrives (src : List ℕ) (st : State) (goal : Goal) (ps : List Part) (ts : List Token) (l : ℕ) (x : Expr) : Type 0 where
  pub parts : List Part
  pub last : Expr
  pub mode : Mode
  pub is : IsValue goal parts last mode
  pub leads : Leads src (in_mode st (m.Operand goal ps)) ts (in_mode st mode)
  pub same : (k : ℕ) → k ≤ l → reduce k parts last ≡ reduce k ps x

module _ (src : List ℕ) where
  -- an operand of one token
  number_leads : (st : State) (goal : Goal) (ps : List Part) (t : Token) (v : ℤ) → Is t (Number v) →
      Leads src (in_mode st (m.Operand goal ps)) (t ∷ []) (in_mode st (m.Value goal ps (e.Number v)))
  number_leads st goal ps t v h = run_one (by_action src st (m.Operand goal ps) t _ (ap (operand_at src goal ps t) h.kind) refl)

  name_leads : (st : State) (goal : Goal) (ps : List Part) (t : Token) → Is t Name →
      Steps src (in_mode st (m.Operand goal ps)) t (in_mode st (m.Named goal ps (ident src t)))
  name_leads st goal ps t h = by_action src st (m.Operand goal ps) t _ (ap (operand_at src goal ps t) h.kind) refl

  index_leads : (st : State) (goal : Goal) (ps : List Part) (n : Ident) (t : Token) → Is t (Sym y.LBracket) →
      Steps src (in_mode st (m.Named goal ps n)) t (in_mode st (m.Operand goal (p.Index n ∷ ps)))
  index_leads st goal ps n t h = by_action src st (m.Named goal ps n) t _ (ap (named_at goal ps n) h.kind) refl

  paren_leads : (st : State) (goal : Goal) (ps : List Part) (t : Token) → Is t (Sym y.LParen) →
      Steps src (in_mode st (m.Operand goal ps)) t (in_mode st (m.Operand goal (p.Paren ∷ ps)))
  paren_leads st goal ps t h = by_action src st (m.Operand goal ps) t _ (ap (operand_at src goal ps t) h.kind) refl

  zero_low : 0 < operand
  zero_low = omega arith

  -- a whole expression leads to where the innermost open part can end
  pub at_end : {st : State} {goal : Goal} {ps : List Part} {ts : List Token} {x : Expr} →
      Stops 0 ps → (r : Arrives src st goal ps ts 0 x) → reduce 0 r.parts r.last ≡ (ps, x)
  at_end {ps = ps} {x = x} h r = r.same 0 (omega arith) ∙ reduce_stops 0 ps x zero_low h

  pub complete : {l : ℕ} {ts : List Token} {x : Expr} → IsExpr src l ts x →
      (st : State) (goal : Goal) (ps : List Part) → Stops l ps → Arrives src st goal ps ts l x
  complete (number {t = t} {v = v} h) st goal ps stops = record {
    parts = ps;
    last = e.Number v;
    mode = _;
    is = value;
    leads = number_leads st goal ps t v h;
    same = λ k low. refl;
  }
  complete (name {t = t} h) st goal ps stops = record {
    parts = ps;
    last = e.Var (ident src t);
    mode = _;
    is = named;
    leads = run_one (name_leads st goal ps t h);
    same = λ k low. refl;
  }
  complete (element {t = t} {o = o} {c = c} {ts = ts} {i = i} h k inner f) st goal ps stops =
      let r : Arrives src st goal (p.Index (ident src t) ∷ ps) ts 0 i = complete inner st goal (p.Index (ident src t) ∷ ps) tt in
      record {
        parts = ps;
        last = e.Element (ident src t) i;
        mode = _;
        is = value;
        leads = run_then (name_leads st goal ps t h) (run_then (index_leads st goal ps (ident src t) o k)
            (run_append r.leads (run_one (step_closed src st goal r.parts _ r.last _ r.mode c y.RBracket _ r.is f (λ e. cc) refl (at_end tt r) refl))));
        same = λ k low. refl;
      }
  complete (paren {o = o} {c = c} {ts = ts} {a = a} h inner f) st goal ps stops =
      let r : Arrives src st goal (p.Paren ∷ ps) ts 0 a = complete inner st goal (p.Paren ∷ ps) tt in
      record {
        parts = ps;
        last = a;
        mode = _;
        is = value;
        leads = run_then (paren_leads st goal ps o h)
            (run_append r.leads (run_one (step_closed src st goal r.parts _ r.last _ r.mode c y.RParen _ r.is f (λ e. cc) refl (at_end tt r) refl)));
        same = λ k low. refl;
      }
  complete (one {t = t} {x = x} {op = op} {ts = ts} {a = a} h u inner) st goal ps stops =
      let r : Arrives src st goal (p.Unary op ∷ ps) ts operand a = complete inner st goal (p.Unary op ∷ ps) (Stops-operand (p.Unary op ∷ ps)) in
      record {
        parts = r.parts;
        last = r.last;
        mode = r.mode;
        is = r.is;
        leads = run_then (step_unary src st goal ps t x op h u) r.leads;
        same = λ k low. r.same k low;
      }
  complete (two {t = t} {x = x} {op = op} {ts = ts} {us = us} {a = a} {b = b} left h u right) st goal ps stops =
      let r : Arrives src st goal ps ts (level op) a = complete left st goal ps stops in
      let q : Arrives src st goal (p.Binary op a ∷ ps) us (suc (level op)) b = complete right st goal (p.Binary op a ∷ ps) (omega arith) in
      let here : reduce (level op) r.parts r.last ≡ (ps, a) = r.same (level op) (omega arith) ∙ reduce_stops (level op) ps a (level_low op) stops in
      record {
        parts = q.parts;
        last = q.last;
        mode = q.mode;
        is = q.is;
        leads = run_append r.leads (run_then (step_binary src st goal r.parts ps r.last a r.mode t x op r.is h u here) q.leads);
        same = λ k low. q.same k (omega arith) ∙ reduce_two k op a ps b low;
      }
  complete (tighter {l = l} {ts = ts} {a = a} low inner) st goal ps stops =
      let r : Arrives src st goal ps ts (suc l) a = complete inner st goal ps (Stops-suc l ps stops) in
      record { parts = r.parts; last = r.last; mode = r.mode; is = r.is; leads = r.leads; same = λ k low. r.same k (omega arith) }

  -- the state behind a body
  abbrev pub behind_all : State → List Stmt → State
  behind_all st xs = record st { body = st.body ++ xs; mode = m.Item }

  -- a step that the kind alone decides
  item_leads : (st : State) (t : Token) (k : TokenKind) (next : State) → Is t k → apply (in_mode st m.Item) (item src t k) ≡ Some next →
      Steps src (in_mode st m.Item) t next
  item_leads st t k next h e = by_action src st m.Item t _ (ap (item src t) h.kind) e

  name_at_leads : (st : State) (n : Ident) (t : Token) (k : TokenKind) (next : State) → Is t k → apply (in_mode st (m.Name n)) (name_at n k) ≡ Some next →
      Steps src (in_mode st (m.Name n)) t next
  name_at_leads st n t k next h e = by_action src st (m.Name n) t _ (ap (name_at n) h.kind) e

  target_leads : (st : State) (n : Ident) (i : Expr) (t : Token) → Is t (Sym y.Assign) →
      Steps src (in_mode st (m.Target n i)) t (in_mode st (m.Operand (g.SetValue n i) []))
  target_leads st n i t h = by_action src st (m.Target n i) t _ (ap (fixed_at src (m.Target n i) t) h.kind) refl

  -- an expression, and the symbol that ends it
  whole : {ts : List Token} {x : Expr} → IsExpr src 0 ts x → (st : State) (goal : Goal) (c : Token) (sym : Symbol) (next : State) →
      Is c (Sym sym) → (sym ≡ y.LBracket → ⊥) → binary sym ≡ None →
      ((mode : Mode) → apply (in_mode st mode) (closed goal ([], x) sym) ≡ Some next) →
      Leads src (in_mode st (m.Operand goal [])) (ts ++ c ∷ []) next
  whole {ts = ts} {x = x} inner st goal c sym next h other k e =
      let r : Arrives src st goal [] ts 0 x = complete inner st goal [] tt in
      run_append r.leads (run_one (step_closed src st goal r.parts [] r.last x r.mode c sym next r.is h other k (at_end tt r) (e r.mode)))

  whole_then : {ts us : List Token} {x : Expr} → IsExpr src 0 ts x → (st : State) (goal : Goal) (c : Token) (sym : Symbol) (next last : State) →
      Is c (Sym sym) → (sym ≡ y.LBracket → ⊥) → binary sym ≡ None →
      ((mode : Mode) → apply (in_mode st mode) (closed goal ([], x) sym) ≡ Some next) → Leads src next us last →
      Leads src (in_mode st (m.Operand goal [])) (ts ++ (c ∷ us)) last
  whole_then {ts = ts} {x = x} inner st goal c sym next last h other k e after =
      let r : Arrives src st goal [] ts 0 x = complete inner st goal [] tt in
      run_append r.leads (run_then (step_closed src st goal r.parts [] r.last x r.mode c sym next r.is h other k (at_end tt r) (e r.mode)) after)

  abbrev pub opened : State → Head → State
  opened st head = record st { bodies = record { before = st.body; head = head } ∷ st.bodies; body = []; mode = m.Item }

  -- The tokens lead behind what is complete then, be it an `if` that may still get its `else`.
  pub record Ends (a : State) (ts : List Token) (b : State) : Type 0 where
    pub last : State
    pub leads : Leads src a ts last
    pub rests : Rests src b last

  pub ends_at : {a b : State} {ts : List Token} → Leads src a ts (in_mode b m.Item) → Ends a ts b
  ends_at {b = b} l = record { last = in_mode b m.Item; leads = l; rests = settled }

  -- a statement begins with a token other than `else`
  pub record Starts (ts : List Token) : Type 0 where
    pub first : Token
    pub kind : TokenKind
    pub others : List Token
    pub split : ts ≡ first ∷ others
    pub is : Is first kind
    pub free : IsOther src kind

  pub starts : {ts : List Token} {x : Stmt} → IsStmt src ts x → Starts ts
  starts (assign h k x f) = record { first = _; kind = _; others = _; split = refl; is = h; free = tt }
  starts (set h k ix cl eq v se) = record { first = _; kind = _; others = _; split = refl; is = h; free = tt }
  starts (print h x f) = record { first = _; kind = _; others = _; split = refl; is = h; free = tt }
  starts (choose h c y n) = record { first = _; kind = _; others = _; split = refl; is = h; free = tt }
  starts (repeat h c b) = record { first = _; kind = _; others = _; split = refl; is = h; free = tt }

  -- what leads on from behind a complete statement leads on from behind it in either state
  pub resume : {b here last : State} {ts : List Token} → Rests src b here → Starts ts → Leads src (in_mode b m.Item) ts last → Leads src here ts last
  resume {b} {here} {last} {ts} r h l =
      let P : List Token → Type 0 = λ z. Leads src (in_mode b m.Item) z last in
      let Q : List Token → Type 0 = λ z. Leads src here z last in
      subst Q (sym h.split) (leads_rested src h.kind r h.is h.free (subst P h.split l))

  brace_leads : (st : State) (t : Token) (k : TokenKind) (c : Expr) (ys : List Stmt) (next : State) → Is t k →
      apply (in_mode st (m.Else c ys)) (fixed_at src (m.Else c ys) t k) ≡ Some next → Steps src (in_mode st (m.Else c ys)) t next
  brace_leads st t k c ys next h e = by_action src st (m.Else c ys) t _ (ap (fixed_at src (m.Else c ys) t) h.kind) e

  else_leads : (st : State) (t : Token) (c : Expr) (ys : List Stmt) → Is t (Word w.Else) →
      Steps src (in_mode st (m.AfterIf c ys)) t (in_mode st (m.Else c ys))
  else_leads st t c ys h = by_action src st (m.AfterIf c ys) t _ (ap (after_if src c ys t) h.kind) refl

  -- the `}` behind a body
  closing : {a b : State} {ts : List Token} → Ends a ts b → (c : Token) (next : State) → Is c (Sym y.RBrace) →
      apply (in_mode b m.Item) (item src c (Sym y.RBrace)) ≡ Some next → Leads src a (ts ++ c ∷ []) next
  closing {b = b} r c next h e = run_append r.leads (leads_rested src (Sym y.RBrace) r.rests h tt (run_one (item_leads b c (Sym y.RBrace) next h e)))

  no_else : {a b : State} {ts : List Token} → Leads src a ts b → Leads src a (ts ++ []) b
  no_else {a} {b} {ts} l = let P : List Token → Type 0 = λ z. Leads src a z b in subst P (sym (append-nil ts)) l

  still : {st here : State} → Rests src st here → Rests src (in_mode st m.Item) here
  still settled = settled
  still (open_if before c ys e) = open_if before c ys (ap (λ (z : State). in_mode z m.Item) e)

  nothing_more : {st here : State} → Rests src st here → Rests src (behind_all st []) here
  nothing_more {st} {here} r =
      let P : List Stmt → Type 0 = λ z. Rests src (record st { body = z; mode = m.Item }) here in subst P (sym (append-nil st.body)) (still r)

  mutual
    pub complete_stmt : {ts : List Token} {x : Stmt} → IsStmt src ts x → (st : State) → Ends (in_mode st m.Item) ts (behind st x)
    complete_stmt (assign {t = t} {o = o} {c = c} h k x f) st = ends_at
        (run_then (item_leads st t Name _ h refl) (run_then (name_at_leads st (ident src t) o (Sym y.Assign) _ k refl)
        (whole x st (g.Assign (ident src t)) c y.Semi _ f (λ e. cc) refl (λ mode. refl))))
    complete_stmt (set {t = t} {o = o} {c = c} {m = n} {f = f} {i = i} h k ix cl eq v se) st = ends_at
        (run_then (item_leads st t Name _ h refl) (run_then (name_at_leads st (ident src t) o (Sym y.LBracket) _ k refl)
        (whole_then ix st (g.SetIndex (ident src t)) c y.RBracket _ _ cl (λ e. cc) refl (λ mode. refl)
        (run_then (target_leads st (ident src t) i n eq)
        (whole v st (g.SetValue (ident src t) i) f y.Semi _ se (λ e. cc) refl (λ mode. refl))))))
    complete_stmt (print {t = t} {c = c} h x f) st = ends_at
        (run_then (item_leads st t (Word w.Print) _ h refl) (whole x st g.Print c y.Semi _ f (λ e. cc) refl (λ mode. refl)))
    complete_stmt (repeat {t = t} {x = x} {body = body} h k (braces {o = o} {c = c} ob inner cb)) st = ends_at
        (run_then (item_leads st t (Word w.While) _ h refl)
        (whole_then k st g.While o y.LBrace (opened st (hd.While x)) _ ob (λ e. cc) refl (λ mode. refl)
        (closing (complete_body inner (opened st (hd.While x)) _ settled) c _ cb refl)))
    complete_stmt (choose {t = t} {x = x} {ys = ys} h k (braces {o = o} {c = c} ob inner cb) omitted) st = record {
      last = in_mode st (m.AfterIf x ys);
      leads = run_then (item_leads st t (Word w.If) _ h refl)
          (whole_then k st g.If o y.LBrace (opened st (hd.If x)) _ ob (λ e. cc) refl (λ mode. refl)
          (no_else (closing (complete_body inner (opened st (hd.If x)) _ settled) c _ cb refl)));
      rests = open_if st x ys refl;
    }
    complete_stmt (choose {t = t} {x = x} {ys = ys} h k (braces {o = o} {c = c} ob inner cb) (otherwise {t = z} j (braces {o = p} {c = q} pb others cq))) st = ends_at
        (run_then (item_leads st t (Word w.If) _ h refl)
        (whole_then k st g.If o y.LBrace (opened st (hd.If x)) _ ob (λ e. cc) refl (λ mode. refl)
        (run_append (closing (complete_body inner (opened st (hd.If x)) _ settled) c _ cb refl)
        (run_then (else_leads st z x ys j)
        (run_then (brace_leads st p (Sym y.LBrace) x ys (opened st (hd.Else x ys)) pb refl)
        (closing (complete_body others (opened st (hd.Else x ys)) _ settled) q _ cq refl))))))

    -- from behind what is complete so far
    pub complete_body : {ts : List Token} {xs : List Stmt} → IsBody src ts xs → (st here : State) → Rests src st here → Ends here ts (behind_all st xs)
    complete_body none st here r = record { last = here; leads = run_none; rests = nothing_more r }
    complete_body (more {ts = ts} {us = us} {st = x} {body = xs} first rest) st here r =
        let f : Ends (in_mode st m.Item) ts (behind st x) = complete_stmt first st in
        let b : Ends f.last us (behind_all (behind st x) xs) = complete_body rest (behind st x) f.last f.rests in
        let P : List Stmt → Type 0 = λ z. Rests src (record st { body = z; mode = m.Item }) b.last in
        record { last = b.last; leads = run_append (resume r (starts first) f.leads) b.leads; rests = subst P (append_assoc st.body (x ∷ []) xs) b.rests }
