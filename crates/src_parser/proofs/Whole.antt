-- The machine reads exactly the programs of the grammar, and it goes on exactly where some program does.
use Rattle.std.proofs.Common.{◌≡◌, ℕ, ℤ, pos, neg_ℤ, List, [], ◌∷◌, ◌++◌, Option, Some, None, refl, ap, sym, subst, ◌∙◌, arith, append_assoc}
use Rattle.std.proofs.lemmas.List.{append-nil}
use Rattle.src_tree.specs.declared.tree.Ident.{Ident}
use Rattle.src_tree.specs.declared.tree.Expr.{Expr}
use Rattle.src_tree.specs.declared.tree.Expr.TheVariants as e
use Rattle.src_tree.specs.declared.tree.Stmt.{Stmt}
use Rattle.src_tree.specs.declared.tree.Stmt.TheVariants as s
use Rattle.src_tree.specs.declared.tree.Decl.{Decl}
use Rattle.src_tree.specs.declared.tree.Decl.TheVariants as d
use Rattle.src_tree.specs.declared.tree.Program.{Program}
use Rattle.src_lexer.specs.declared.token.Keyword.TheVariants as w
use Rattle.src_lexer.specs.declared.token.Symbol.{Symbol}
use Rattle.src_lexer.specs.declared.token.Symbol.TheVariants as y
use Rattle.src_lexer.specs.declared.token.TokenKind.{TokenKind}
use Rattle.src_lexer.specs.declared.token.TokenKind.TheVariants.{Name, Number, Word, Sym}
use Rattle.src_lexer.specs.declared.token.Token.{Token}
use Rattle.src_parser.specs.declared.machine.Goal.{Goal}
use Rattle.src_parser.specs.declared.machine.Goal.TheVariants as g
use Rattle.src_parser.specs.declared.machine.Part.{Part}
use Rattle.src_parser.specs.declared.machine.Part.TheVariants as p
use Rattle.src_parser.specs.declared.machine.Head.{Head}
use Rattle.src_parser.specs.declared.machine.Head.TheVariants as hd
use Rattle.src_parser.specs.declared.machine.OpenBody.{OpenBody}
use Rattle.src_parser.specs.declared.machine.Mode.{Mode}
use Rattle.src_parser.specs.declared.machine.Mode.TheVariants as m
use Rattle.src_parser.specs.declared.machine.State.{State}
use Rattle.src_tree.specs.Grammar as gr
use Rattle.src_tree.specs.Operators.{binary}
use Rattle.src_tree.specs.Grammar.{ident, Is, IsStmt, IsBody, IsDecl, AreDecls, Derives}
use Rattle.src_parser.specs.Fault.{Begins}
use Rattle.src_parser.specs.Machine.{step, run, run_from, start, reduce, operand_at, closed, name_at, item, fixed_at, closed_by, act, apply, after_if, whole, whole_in}
use Rattle.src_parser.proofs.Complete.{complete_body, reduce_two, behind_all}
use Rattle.src_parser.proofs.Holds.{Holds, Keeps, Around, Half, items, chosen, omitted_else, body_append, step_keeps, top, no_bodies}
use Rattle.src_parser.proofs.Steps.{in_mode, IsValue, value, named, Leads, Steps, append_from, run_append, run_then, run_one, run_none, step_closed, by_action, Rests, settled, open_if}

-- the state behind these declarations, and behind this program
abbrev pub declared : List Decl → State
declared ds = record { decls = ds; bodies = []; body = []; mode = m.Item }

-- before an item nothing is half read
none_left : {src : List ℕ} {bs : List OpenBody} {xs : List Stmt} {mode : Mode} {ts : List Token} → Half src bs xs mode ts → mode ≡ m.Item → ts ≡ []
none_left items e = refl
none_left _ e = cc

-- behind the `}` of an `if` it is read
if_left : {src : List ℕ} {bs : List OpenBody} {xs : List Stmt} {mode : Mode} {ts : List Token} {c : Expr} {ys : List Stmt} →
    Half src bs xs mode ts → mode ≡ m.AfterIf c ys → IsStmt src ts (s.If c ys [])
if_left {src} {ts = ts} {c = c} {ys = ys} (chosen {c = d} {ys = zs} i x b) e =
    let P : Expr → Type 0 = λ z. IsStmt src ts (s.If z ys []) in
    let Q : List Stmt → Type 0 = λ z. IsStmt src ts (s.If d z []) in
    let same_c : d ≡ c = cc in
    let same_ys : zs ≡ ys = cc in
    subst P same_c (subst Q same_ys (omitted_else i x b))
if_left _ e = cc

module _ (src : List ℕ) where
  -- a step that the kind alone decides, in a declaration
  by_kind : (st : State) (mode : Mode) (t : Token) (k : TokenKind) (next : State) → Is t k →
      ((k : TokenKind) → act src mode (record t { kind = k }) ≡ fixed_at src mode (record t { kind = k }) k) →
      apply (in_mode st mode) (fixed_at src mode t k) ≡ Some next → Steps src (in_mode st mode) t next
  by_kind st mode t k next h f e = by_action src st mode t _ (f t.kind ∙ ap (fixed_at src mode t) h.kind) e

  var_leads : (ds : List Decl) (t : Token) → Is t (Word w.Var) → Steps src (declared ds) t (in_mode (declared ds) m.Var)
  var_leads ds t h = by_action src (declared ds) m.Item t _ (ap (item src t) h.kind) refl

  array_leads : (ds : List Decl) (t : Token) → Is t (Word w.Array) → Steps src (declared ds) t (in_mode (declared ds) m.Array)
  array_leads ds t h = by_action src (declared ds) m.Item t _ (ap (item src t) h.kind) refl

  complete_decl : {ts : List Token} {x : Decl} → IsDecl src ts x → (ds : List Decl) → Leads src (declared ds) ts (declared (ds ++ x ∷ []))
  complete_decl (gr.IsDecl.plain {t = t} {n = n} {f = f} i j k) ds =
      run_then (var_leads ds t i) (run_then (by_kind (declared ds) m.Var n Name _ j (λ k. refl) refl)
      (run_one (by_kind (declared ds) (m.VarName (ident src n)) f (Sym y.Semi) _ k (λ k. refl) refl)))
  complete_decl (gr.IsDecl.initial {t = t} {n = n} {o = o} {m = c} {f = f} {v = v} i j k l z) ds =
      run_then (var_leads ds t i) (run_then (by_kind (declared ds) m.Var n Name _ j (λ k. refl) refl)
      (run_then (by_kind (declared ds) (m.VarName (ident src n)) o (Sym y.Assign) _ k (λ k. refl) refl)
      (run_then (by_kind (declared ds) (m.VarAssign (ident src n)) c (Number v) _ l (λ k. refl) refl)
      (run_one (by_kind (declared ds) (m.Declared (d.Var (ident src n) v)) f (Sym y.Semi) _ z (λ k. refl) refl)))))
  complete_decl (gr.IsDecl.minus {t = t} {n = n} {o = o} {g = b} {m = c} {f = f} {v = v} i j k u l z) ds =
      run_then (var_leads ds t i) (run_then (by_kind (declared ds) m.Var n Name _ j (λ k. refl) refl)
      (run_then (by_kind (declared ds) (m.VarName (ident src n)) o (Sym y.Assign) _ k (λ k. refl) refl)
      (run_then (by_kind (declared ds) (m.VarAssign (ident src n)) b (Sym y.Sub) _ u (λ k. refl) refl)
      (run_then (by_kind (declared ds) (m.VarMinus (ident src n)) c (Number v) _ l (λ k. refl) refl)
      (run_one (by_kind (declared ds) (m.Declared (d.Var (ident src n) (neg_ℤ v))) f (Sym y.Semi) _ z (λ k. refl) refl))))))
  complete_decl (gr.IsDecl.array {t = t} {n = n} {o = o} {m = b} {c = c} {f = f} {v = v} i j k u l z) ds =
      run_then (array_leads ds t i) (run_then (by_kind (declared ds) m.Array n Name _ j (λ k. refl) refl)
      (run_then (by_kind (declared ds) (m.ArrayName (ident src n)) o (Sym y.LBracket) _ k (λ k. refl) refl)
      (run_then (by_kind (declared ds) (m.ArrayOpen (ident src n)) b (Number v) _ u (λ k. refl) refl)
      (run_then (by_kind (declared ds) (m.ArrayLen (ident src n) v) c (Sym y.RBracket) _ l (λ k. refl) refl)
      (run_one (by_kind (declared ds) (m.Declared (d.Array (ident src n) v)) f (Sym y.Semi) _ z (λ k. refl) refl))))))

  complete_decls : {ts : List Token} {xs : List Decl} → AreDecls src ts xs → (ds : List Decl) → Leads src (declared ds) ts (declared (ds ++ xs))
  complete_decls gr.AreDecls.none ds = record { leads = ap (λ (z : List Decl). Some (declared z)) (sym (append-nil ds)) }
  complete_decls (gr.AreDecls.more {ts = ts} {us = us} {x = x} {ds = xs} f r) ds =
      run_append (complete_decl f ds) (record { leads = (complete_decls r (ds ++ x ∷ [])).leads ∙ ap (λ (z : List Decl). Some (declared z)) (append_assoc ds (x ∷ []) xs) })

  whole_rests : (st here : State) → Rests src st here → st.bodies ≡ [] → whole here ≡ Some (record { decls = st.decls; body = st.body })
  whole_rests st here settled e = ap (whole_in (in_mode st m.Item) m.Item) e
  whole_rests st here (open_if before c ys f) e =
      let none_open : before.bodies ≡ [] = ap (λ (z : State). z.bodies) (sym f) ∙ e in
      ap (whole_in (in_mode before (m.AfterIf c ys)) (m.AfterIf c ys)) none_open
      ∙ ap (λ (z : State). Some (record { decls = z.decls; body = z.body })) (sym f)

  -- the machine reads the tokens, and there the program is whole
  pub record Reads (ts : List Token) (p : Program) : Type 0 where
    pub last : State
    pub run : run src start ts ≡ Some last
    pub whole : whole last ≡ Some p

  -- what the grammar derives is read
  pub derived : {ts : List Token} {p : Program} → Derives src ts p → Reads ts p
  derived {ts} {p} h =
      let r = complete_body src h.body (declared p.decls) (declared p.decls) settled in
      record {
        last = r.last;
        run = ap (λ z. run src start z) h.split ∙ (run_append (complete_decls h.decls []) r.leads).leads;
        whole = whole_rests (behind_all src (declared p.decls) p.body) r.last r.rests refl;
      }

  step_holds : {st : State} (pre : List Token) → Holds src pre st → (t : Token) → Keeps src (pre ++ t ∷ []) (step src st t)
  step_holds {st} pre h t =
      let a : Around src st = record { declaring = h.declaring; enclosing = h.enclosing; done = h.done; decls = h.decls; bodies = h.bodies; body = h.body } in
      let P : List Token → Type 0 = λ z. Keeps src (z ++ t ∷ []) (step src st t) in
      subst P (sym h.split) (step_keeps src st a h.mode t)

  -- what holds after some tokens holds after more
  pub holds_run : (o : Option State) (pre : List Token) → Keeps src pre o → (ts : List Token) → Keeps src (pre ++ ts) (run_from src o ts)
  holds_run None pre h ts = tt
  holds_run (Some st) pre h [] = let P : List Token → Type 0 = λ z. Holds src z st in subst P (sym (append-nil pre)) h
  holds_run (Some st) pre h (t ∷ ts) =
      let P : List Token → Type 0 = λ z. Keeps src z (run_from src (step src st t) ts) in
      subst P (append_assoc pre (t ∷ []) ts) (holds_run (step src st t) (pre ++ t ∷ []) (step_holds pre h t) ts)

  pub holds : (ts : List Token) → Keeps src ts (run src start ts)
  holds ts = holds_run (Some start) [] (record { declaring = []; enclosing = []; done = []; last = []; split = refl; decls = gr.AreDecls.none; bodies = top; body = gr.IsBody.none; mode = items }) ts

  program_in : {st : State} {ts : List Token} {p : Program} → Holds src ts st → (mode : Mode) → st.mode ≡ mode → (bs : List OpenBody) → st.bodies ≡ bs →
      whole_in st mode bs ≡ Some p → Derives src ts p
  program_in h mode e (b ∷ bs) f w = cc
  program_in {st} {ts} {p} h m.Item e [] f w =
      let P : Program → Type 0 = Derives src ts in
      let same : record { decls = st.decls; body = st.body } ≡ p = cc in
      subst P same (record {
        front = h.declaring;
        back = h.done;
        split = h.split ∙ ap (λ z. h.declaring ++ (z ++ (h.done ++ h.last))) (no_bodies h.bodies f)
            ∙ ap (λ z. h.declaring ++ (h.done ++ z)) (none_left h.mode e) ∙ ap (λ z. h.declaring ++ z) (append-nil h.done);
        decls = h.decls;
        body = h.body;
      })
  program_in {st} {ts} {p} h (m.AfterIf c ys) e [] f w =
      let P : Program → Type 0 = Derives src ts in
      let same : record { decls = st.decls; body = st.body ++ s.If c ys [] ∷ [] } ≡ p = cc in
      subst P same (record {
        front = h.declaring;
        back = h.done ++ h.last;
        split = h.split ∙ ap (λ z. h.declaring ++ (z ++ (h.done ++ h.last))) (no_bodies h.bodies f);
        decls = h.decls;
        body = body_append h.body (if_left h.mode e);
      })
  program_in h _ e [] f w = cc

  -- what is read, the grammar derives
  pub read_derives : {st : State} {ts : List Token} {p : Program} → Holds src ts st → whole st ≡ Some p → Derives src ts p
  read_derives {st} h w = program_in h st.mode refl st.bodies refl w

  -- ---- some program goes on

  pub record Ends (st : State) : Type 0 where
    pub tokens : List Token
    pub last : State
    pub leads : Leads src st tokens last
    pub program : Program
    pub whole : whole last ≡ Some program

  ends_then : {st next : State} {ts : List Token} → Leads src st ts next → Ends next → Ends st
  ends_then {ts = ts} h r = record { tokens = ts ++ r.tokens; last = r.last; leads = run_append h r.leads; program = r.program; whole = r.whole }

  abbrev pub of_kind : TokenKind → Token
  of_kind k = record { kind = k; at = 0; end = 0 }

  pub is_kind : (k : TokenKind) → Is (of_kind k) k
  is_kind k = record { kind = refl }

  abbrev pub before_item : List Decl → List OpenBody → List Stmt → State
  before_item ds bs xs = record { decls = ds; bodies = bs; body = xs; mode = m.Item }

  abbrev pub behind_if : List Decl → List OpenBody → List Stmt → Expr → List Stmt → State
  behind_if ds bs past c ys = record { decls = ds; bodies = bs; body = past; mode = m.AfterIf c ys }

  closed_end : (st : State) (bs : List OpenBody) (past : List Stmt) (head : Head) → ((xs : List Stmt) → Ends (before_item st.decls bs xs)) →
      ((past : List Stmt) (c : Expr) (ys : List Stmt) → Ends (behind_if st.decls bs past c ys)) → Ends (closed_by st bs past head)
  closed_end st bs past (hd.While c) f k = f (past ++ s.While c st.body ∷ [])
  closed_end st bs past (hd.If c) f k = k past c st.body
  closed_end st bs past (hd.Else c ys) f k = f (past ++ s.If c ys st.body ∷ [])

  mutual
    bodies_end : (ds : List Decl) (bs : List OpenBody) (xs : List Stmt) → Ends (before_item ds bs xs)
    bodies_end ds [] xs = record { tokens = []; last = _; program = _; leads = run_none; whole = refl }
    bodies_end ds (b ∷ bs) xs = ends_then {ts = of_kind (Sym y.RBrace) ∷ []}
        (run_one (by_action src (before_item ds (b ∷ bs) xs) m.Item (of_kind (Sym y.RBrace)) _ (ap (item src (of_kind (Sym y.RBrace))) (is_kind (Sym y.RBrace)).kind) refl))
        (closed_end (before_item ds (b ∷ bs) xs) bs b.before b.head (bodies_end ds bs) (ifs_end ds bs))

    ifs_end : (ds : List Decl) (bs : List OpenBody) (past : List Stmt) (c : Expr) (ys : List Stmt) → Ends (behind_if ds bs past c ys)
    ifs_end ds [] past c ys = record { tokens = []; last = _; program = _; leads = run_none; whole = refl }
    ifs_end ds (b ∷ bs) past c ys = ends_then {ts = of_kind (Sym y.RBrace) ∷ []}
        (run_one (by_action src (behind_if ds (b ∷ bs) past c ys) (m.AfterIf c ys) (of_kind (Sym y.RBrace)) _ (ap (after_if src c ys (of_kind (Sym y.RBrace))) (is_kind (Sym y.RBrace)).kind) refl))
        (closed_end (before_item ds (b ∷ bs) (past ++ s.If c ys [] ∷ [])) bs b.before b.head (bodies_end ds bs) (ifs_end ds bs))

  item_ends : (st : State) → Ends (in_mode st m.Item)
  item_ends st = bodies_end st.decls st.bodies st.body

  closes_with : (st : State) (goal : Goal) (ps qs : List Part) (v x : Expr) (mode : Mode) (k : Symbol) (next : State) → IsValue goal ps v mode →
      (k ≡ y.LBracket → ⊥) → binary k ≡ None → reduce 0 ps v ≡ (qs, x) → apply (in_mode st mode) (closed goal (qs, x) k) ≡ Some next →
      Ends next → Ends (in_mode st mode)
  closes_with st goal ps qs v x mode k next h other b r c rest =
      ends_then {ts = of_kind (Sym k) ∷ []} (run_one (step_closed src st goal ps qs v x mode (of_kind (Sym k)) k next h (is_kind (Sym k)) other b r c)) rest

  number_ends : (st : State) (goal : Goal) (ps : List Part) → Ends (in_mode st (m.Value goal ps (e.Number (pos 0)))) → Ends (in_mode st (m.Operand goal ps))
  number_ends st goal ps rest = ends_then {ts = of_kind (Number (pos 0)) ∷ []}
      (run_one (by_action src st (m.Operand goal ps) (of_kind (Number (pos 0))) _ (ap (operand_at src goal ps (of_kind (Number (pos 0)))) (is_kind (Number (pos 0))).kind) refl)) rest

  target_ends : (st : State) (n : Ident) (i : Expr) → Ends (in_mode st (m.Target n i))
  target_ends st n i = ends_then {ts = of_kind (Sym y.Assign) ∷ []}
      (run_one (by_kind st (m.Target n i) (of_kind (Sym y.Assign)) (Sym y.Assign) _ (is_kind (Sym y.Assign)) (λ k. refl) refl))
      (number_ends st (g.SetValue n i) [] (closes_with st (g.SetValue n i) [] [] (e.Number (pos 0)) (e.Number (pos 0)) _ y.Semi _ value (λ e. cc) refl refl refl
      (item_ends (record st { body = st.body ++ s.SetElement n i (e.Number (pos 0)) ∷ [] }))))

  goal_ends : (st : State) (goal : Goal) (ps : List Part) (v x : Expr) (mode : Mode) → IsValue goal ps v mode → reduce 0 ps v ≡ ([], x) → Ends (in_mode st mode)
  goal_ends st (g.Assign n) ps v x mode h r = closes_with st (g.Assign n) ps [] v x mode y.Semi _ h (λ e. cc) refl r refl (item_ends (record st { body = st.body ++ s.Assign n x ∷ [] }))
  goal_ends st (g.SetIndex n) ps v x mode h r = closes_with st (g.SetIndex n) ps [] v x mode y.RBracket _ h (λ e. cc) refl r refl (target_ends st n x)
  goal_ends st (g.SetValue n i) ps v x mode h r = closes_with st (g.SetValue n i) ps [] v x mode y.Semi _ h (λ e. cc) refl r refl (item_ends (record st { body = st.body ++ s.SetElement n i x ∷ [] }))
  goal_ends st g.Print ps v x mode h r = closes_with st g.Print ps [] v x mode y.Semi _ h (λ e. cc) refl r refl (item_ends (record st { body = st.body ++ s.Print x ∷ [] }))
  goal_ends st g.If ps v x mode h r = closes_with st g.If ps [] v x mode y.LBrace _ h (λ e. cc) refl r refl
      (item_ends (record st { bodies = record { before = st.body; head = hd.If x } ∷ st.bodies; body = [] }))
  goal_ends st g.While ps v x mode h r = closes_with st g.While ps [] v x mode y.LBrace _ h (λ e. cc) refl r refl
      (item_ends (record st { bodies = record { before = st.body; head = hd.While x } ∷ st.bodies; body = [] }))

  parts_end : (st : State) (goal : Goal) (ps : List Part) (x : Expr) (qs : List Part) (v : Expr) (mode : Mode) →
      IsValue goal qs v mode → reduce 0 qs v ≡ reduce 0 ps x → Ends (in_mode st mode)
  parts_end st goal [] x qs v mode h r = goal_ends st goal qs v x mode h r
  parts_end st goal (p.Unary op ∷ ps) x qs v mode h r = parts_end st goal ps (e.One op x) qs v mode h r
  parts_end st goal (p.Binary op a ∷ ps) x qs v mode h r = parts_end st goal ps (e.Two op a x) qs v mode h (r ∙ reduce_two 0 op a ps x (omega arith))
  parts_end st goal (p.Paren ∷ ps) x qs v mode h r =
      closes_with st goal qs (p.Paren ∷ ps) v x mode y.RParen _ h (λ e. cc) refl r refl (parts_end st goal ps x ps x (m.Value goal ps x) value refl)
  parts_end st goal (p.Index n ∷ ps) x qs v mode h r =
      closes_with st goal qs (p.Index n ∷ ps) v x mode y.RBracket _ h (λ e. cc) refl r refl
      (parts_end st goal ps (e.Element n x) ps (e.Element n x) (m.Value goal ps (e.Element n x)) value refl)

  fixed_ends : (st : State) (mode : Mode) (k : TokenKind) (next : State) →
      ((k : TokenKind) (t : Token) → act src mode (record t { kind = k }) ≡ fixed_at src mode (record t { kind = k }) k) →
      apply (in_mode st mode) (fixed_at src mode (of_kind k) k) ≡ Some next → Ends next → Ends (in_mode st mode)
  fixed_ends st mode k next f e rest =
      ends_then {ts = of_kind k ∷ []} (run_one (by_kind st mode (of_kind k) k next (is_kind k) (λ z. f z (of_kind k)) e)) rest

  declared_ends : (st : State) (x : Decl) → Ends (in_mode st (m.Declared x))
  declared_ends st x = fixed_ends st (m.Declared x) (Sym y.Semi) _ (λ k t. refl) refl (item_ends (record st { decls = st.decls ++ x ∷ [] }))

  var_name_ends : (st : State) (n : Ident) → Ends (in_mode st (m.VarName n))
  var_name_ends st n = fixed_ends st (m.VarName n) (Sym y.Semi) _ (λ k t. refl) refl (item_ends (record st { decls = st.decls ++ d.Var n (pos 0) ∷ [] }))

  array_len_ends : (st : State) (n : Ident) (v : ℤ) → Ends (in_mode st (m.ArrayLen n v))
  array_len_ends st n v = fixed_ends st (m.ArrayLen n v) (Sym y.RBracket) _ (λ k t. refl) refl (declared_ends st (d.Array n v))

  array_open_ends : (st : State) (n : Ident) → Ends (in_mode st (m.ArrayOpen n))
  array_open_ends st n = fixed_ends st (m.ArrayOpen n) (Number (pos 0)) _ (λ k t. refl) refl (array_len_ends st n (pos 0))

  array_name_ends : (st : State) (n : Ident) → Ends (in_mode st (m.ArrayName n))
  array_name_ends st n = fixed_ends st (m.ArrayName n) (Sym y.LBracket) _ (λ k t. refl) refl (array_open_ends st n)

  -- from every state some tokens lead to a whole program
  pub ends : (st : State) (mode : Mode) → Ends (in_mode st mode)
  ends st m.Item = item_ends st
  ends st (m.Operand goal ps) = number_ends st goal ps (parts_end st goal ps (e.Number (pos 0)) ps (e.Number (pos 0)) _ value refl)
  ends st (m.Named goal ps n) = parts_end st goal ps (e.Var n) ps (e.Var n) _ named refl
  ends st (m.Value goal ps x) = parts_end st goal ps x ps x _ value refl
  ends st (m.Target n i) = target_ends st n i
  ends st (m.Name n) = ends_then {ts = of_kind (Sym y.Assign) ∷ []}
      (run_one (by_action src st (m.Name n) (of_kind (Sym y.Assign)) _ (ap (name_at n) (is_kind (Sym y.Assign)).kind) refl))
      (number_ends st (g.Assign n) [] (parts_end st (g.Assign n) [] (e.Number (pos 0)) [] (e.Number (pos 0)) _ value refl))
  ends st m.Var = fixed_ends st m.Var Name _ (λ k t. refl) refl (var_name_ends st _)
  ends st (m.VarName n) = var_name_ends st n
  ends st (m.VarAssign n) = fixed_ends st (m.VarAssign n) (Number (pos 0)) _ (λ k t. refl) refl (declared_ends st (d.Var n (pos 0)))
  ends st (m.VarMinus n) = fixed_ends st (m.VarMinus n) (Number (pos 0)) _ (λ k t. refl) refl (declared_ends st (d.Var n (neg_ℤ (pos 0))))
  ends st m.Array = fixed_ends st m.Array Name _ (λ k t. refl) refl (array_name_ends st _)
  ends st (m.ArrayName n) = array_name_ends st n
  ends st (m.ArrayOpen n) = array_open_ends st n
  ends st (m.ArrayLen n v) = array_len_ends st n v
  ends st (m.Declared x) = declared_ends st x
  ends st (m.AfterIf c ys) = ifs_end st.decls st.bodies st.body c ys
  ends st (m.Else c ys) = fixed_ends st (m.Else c ys) (Sym y.LBrace) _ (λ k t. refl) refl
      (item_ends (record st { bodies = record { before = st.body; head = hd.Else c ys } ∷ st.bodies; body = [] }))

  -- where the machine goes on, some program does
  pub goes_on : (st : State) (ts : List Token) → run src start ts ≡ Some st → Begins src ts
  goes_on st ts h =
      let r : Ends st = ends st st.mode in
      let at_last : run src start (ts ++ r.tokens) ≡ Some r.last = append_from src (Some start) ts r.tokens ∙ ap (λ o. run_from src o r.tokens) h ∙ r.leads.leads in
      let P : Option State → Type 0 = λ o. Keeps src (ts ++ r.tokens) o in
      let kept : Holds src (ts ++ r.tokens) r.last = subst P at_last (holds (ts ++ r.tokens)) in
      record { rest = r.tokens; program = _; derives = read_derives kept r.whole }

  stuck : (o : Option State) (ts : List Token) (st : State) → run_from src o ts ≡ Some st → (x : State) × (o ≡ Some x)
  stuck None ts st h = cc
  stuck (Some x) ts st h = (x, refl)

  -- and where some program goes on, the machine does
  pub goes_on_only : (ts : List Token) → Begins src ts → (st : State) × (run src start ts ≡ Some st)
  goes_on_only ts b =
      let r = derived b.derives in
      stuck (run src start ts) b.rest r.last (sym (append_from src (Some start) ts b.rest) ∙ r.run)
