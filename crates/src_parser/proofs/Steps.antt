-- Runs of the machine, one after another, and its steps.
use Rattle.std.proofs.Common.{◌≡◌, ℕ, List, [], ◌∷◌, ◌++◌, Option, Some, None, refl, ap, sym, ◌∙◌}
use Rattle.src_tree.specs.declared.tree.Ident.{Ident}
use Rattle.src_tree.specs.declared.tree.Expr.{Expr}
use Rattle.src_tree.specs.declared.tree.Expr.TheVariants as e
use Rattle.bm_base.specs.declared.word.Un.{Un}
use Rattle.bm_base.specs.declared.word.Un.TheVariants as un
use Rattle.bm_base.specs.declared.word.Bin.{Bin}
use Rattle.src_lexer.specs.declared.token.Symbol.{Symbol}
use Rattle.src_lexer.specs.declared.token.Symbol.TheVariants as y
use Rattle.src_lexer.specs.declared.token.TokenKind.{TokenKind}
use Rattle.src_lexer.specs.declared.token.TokenKind.TheVariants.{Name, Word, Sym}
use Rattle.src_lexer.specs.declared.token.Token.{Token}
use Rattle.src_parser.specs.declared.machine.Goal.{Goal}
use Rattle.src_parser.specs.declared.machine.Part.{Part}
use Rattle.src_parser.specs.declared.machine.Part.TheVariants as p
use Rattle.src_parser.specs.declared.machine.Mode.{Mode}
use Rattle.src_parser.specs.declared.machine.Mode.TheVariants as m
use Rattle.src_parser.specs.declared.machine.State.{State}
use Rattle.src_tree.specs.Operators.{binary, unary, level}
use Rattle.src_tree.specs.Grammar.{Is}
use Rattle.src_parser.specs.declared.machine.Action.{Action}
use Rattle.src_parser.specs.declared.machine.Action.TheVariants as a
use Rattle.src_parser.specs.Machine.{step, run, run_from, reduce, named_at, value_at, operated, operand_at, closed, apply, act, begin, close, closed_by, behind, after, after_if, item}
use Rattle.src_parser.specs.declared.machine.OpenBody.{OpenBody}
use Rattle.src_parser.specs.declared.machine.Head.{Head}
use Rattle.src_parser.specs.declared.machine.Head.TheVariants as h
use Rattle.src_tree.specs.declared.tree.Stmt.{Stmt}
use Rattle.src_tree.specs.declared.tree.Stmt.TheVariants as s
use Rattle.src_lexer.specs.declared.token.Keyword.TheVariants as w

abbrev pub in_mode : State → Mode → State
in_mode st mode = record st { mode = mode }

-- a complete operand, which may be a name
pub data IsValue (goal : Goal) (ps : List Part) : Expr → Mode → Type 0 where
  value : {x : Expr} → IsValue goal ps x (m.Value goal ps x)
  named : {n : Ident} → IsValue goal ps (e.Var n) (m.Named goal ps n)

-- the machine goes from a to b by these tokens; by this token
pub record Leads (src : List ℕ) (a : State) (ts : List Token) (b : State) : Type 0 where
  pub leads : run src a ts ≡ Some b

pub record Steps (src : List ℕ) (a : State) (t : Token) (b : State) : Type 0 where
  pub steps : step src a t ≡ Some b

pub append_from : (src : List ℕ) (o : Option State) (ts us : List Token) → run_from src o (ts ++ us) ≡ run_from src (run_from src o ts) us
append_from src None ts us = refl
append_from src (Some st) [] us = refl
append_from src (Some st) (t ∷ ts) us = append_from src (step src st t) ts us

pub run_append : {src : List ℕ} {a b c : State} {ts us : List Token} → Leads src a ts b → Leads src b us c → Leads src a (ts ++ us) c
run_append {src = src} {a = a} {ts = ts} {us = us} h k = record { leads = append_from src (Some a) ts us ∙ ap (λ o. run_from src o us) h.leads ∙ k.leads }

pub run_then : {src : List ℕ} {a b c : State} {t : Token} {ts : List Token} → Steps src a t b → Leads src b ts c → Leads src a (t ∷ ts) c
run_then {src = src} {ts = ts} h k = record { leads = ap (λ o. run_from src o ts) h.steps ∙ k.leads }

pub run_none : {src : List ℕ} {a : State} → Leads src a [] a
run_none = record { leads = refl }

pub run_one : {src : List ℕ} {a b : State} {t : Token} → Steps src a t b → Leads src a (t ∷ []) b
run_one h = run_then h run_none

module _ (src : List ℕ) where
  -- what the action does is what the token does
  pub by_action : (st : State) {next : State} (mode : Mode) (t : Token) (a : Action) → act src mode t ≡ a → apply (in_mode st mode) a ≡ Some next →
      Steps src (in_mode st mode) t next
  by_action st mode t a h k = record { steps = ap (apply (in_mode st mode)) h ∙ k }

  unary_step : (goal : Goal) (ps : List Part) (t : Token) (x : Symbol) (op : Un) → unary x ≡ Some op →
      operand_at src goal ps t (Sym x) ≡ a.Go (m.Operand goal (p.Unary op ∷ ps))
  unary_step goal ps t y.Sub op h = let e : un.Neg ≡ op = cc in ap (λ o. a.Go (m.Operand goal (p.Unary o ∷ ps))) e
  unary_step goal ps t y.Not op h = let e : un.Not ≡ op = cc in ap (λ o. a.Go (m.Operand goal (p.Unary o ∷ ps))) e
  unary_step goal ps t _ op h = cc

  pub step_unary : (st : State) (goal : Goal) (ps : List Part) (t : Token) (x : Symbol) (op : Un) → Is t (Sym x) → unary x ≡ Some op →
      Steps src (in_mode st (m.Operand goal ps)) t (in_mode st (m.Operand goal (p.Unary op ∷ ps)))
  step_unary st goal ps t x op h k = by_action st (m.Operand goal ps) t _ (ap (operand_at src goal ps t) h.kind ∙ unary_step goal ps t x op k) refl

  named_other : (goal : Goal) (ps : List Part) (n : Ident) (x : Symbol) → (x ≡ y.LBracket → ⊥) →
      named_at goal ps n (Sym x) ≡ value_at goal ps (e.Var n) (Sym x)
  named_other goal ps n y.LBracket h = absurd (h refl)
  named_other goal ps n _ h = refl

  -- a symbol after an operand
  pub act_value : (goal : Goal) (ps : List Part) (v : Expr) (mode : Mode) (t : Token) (x : Symbol) →
      IsValue goal ps v mode → Is t (Sym x) → (x ≡ y.LBracket → ⊥) → act src mode t ≡ operated goal ps v x (binary x)
  act_value goal ps v mode t x value h other = ap (value_at goal ps v) h.kind
  act_value goal ps v mode t x (named {n = n}) h other = ap (named_at goal ps n) h.kind ∙ named_other goal ps n x other

  no_operator : (x : Symbol) (op : Bin) → binary x ≡ Some op → x ≡ y.LBracket → ⊥
  no_operator x op h e = let k : Some op ≡ None = sym h ∙ ap binary e in cc

  -- an operator after an operand
  pub step_binary : (st : State) (goal : Goal) (ps qs : List Part) (v w : Expr) (mode : Mode) (t : Token) (x : Symbol) (op : Bin) →
      IsValue goal ps v mode → Is t (Sym x) → binary x ≡ Some op → reduce (level op) ps v ≡ (qs, w) →
      Steps src (in_mode st mode) t (in_mode st (m.Operand goal (p.Binary op w ∷ qs)))
  step_binary st goal ps qs v w mode t x op is h k r = by_action st mode t _
      (act_value goal ps v mode t x is h (no_operator x op k) ∙ ap (operated goal ps v x) k
      ∙ ap (λ (z : List Part × Expr). a.Go (m.Operand goal (p.Binary op z.1 ∷ z.0))) r) refl

  -- another symbol after an operand
  pub step_closed : (st : State) (goal : Goal) (ps qs : List Part) (v w : Expr) (mode : Mode) (t : Token) (x : Symbol) (next : State) →
      IsValue goal ps v mode → Is t (Sym x) → (x ≡ y.LBracket → ⊥) → binary x ≡ None → reduce 0 ps v ≡ (qs, w) →
      apply (in_mode st mode) (closed goal (qs, w) x) ≡ Some next → Steps src (in_mode st mode) t next
  step_closed st goal ps qs v w mode t x next is h other k r c = by_action st mode t _
      (act_value goal ps v mode t x is h other ∙ ap (operated goal ps v x) k ∙ ap (λ z. closed goal z x) r) c

-- an action of a token before an item
abbrev pub IsItems : Action → Type 0
IsItems a.Refuse = Unit {0}
IsItems (a.Go mode) = Unit {0}
IsItems (a.Begin mode) = Unit {0}
IsItems a.Close = Unit {0}
IsItems _ = ⊥

begin_mode : (st : State) (mode next : Mode) (bs : List OpenBody) (xs : List Stmt) → begin (in_mode st mode) next bs xs ≡ begin st next bs xs
begin_mode st mode next [] [] = refl
begin_mode st mode next _ _ = refl

closed_mode : (st : State) (mode : Mode) (bs : List OpenBody) (past : List Stmt) (head : Head) →
    closed_by (in_mode st mode) bs past head ≡ closed_by st bs past head
closed_mode st mode bs past (h.While c) = refl
closed_mode st mode bs past (h.If c) = refl
closed_mode st mode bs past (h.Else c ys) = refl

close_mode : (st : State) (mode : Mode) (bs : List OpenBody) → close (in_mode st mode) bs ≡ close st bs
close_mode st mode [] = refl
close_mode st mode (b ∷ bs) = ap (λ (z : State). Some z) (closed_mode st mode bs b.before b.head)

-- an action doesn't read the mode
pub apply_mode : (st : State) (mode : Mode) (x : Action) → apply (in_mode st mode) x ≡ apply st x
apply_mode st mode a.Refuse = refl
apply_mode st mode (a.Go next) = refl
apply_mode st mode (a.Begin next) = begin_mode st mode next st.bodies st.body
apply_mode st mode (a.Declare x) = refl
apply_mode st mode (a.Finish x) = refl
apply_mode st mode (a.Open x) = refl
apply_mode st mode a.Close = close_mode st mode st.bodies
apply_mode st mode (a.FinishGo x next) = refl
apply_mode st mode (a.FinishClose x) = refl

-- ---- behind an `if` that may still get its `else`

no_begin : (st : State) (x : Stmt) (mode : Mode) (bs : List OpenBody) (xs : List Stmt) → None ≡ begin (behind st x) mode bs (xs ++ x ∷ [])
no_begin st x mode [] [] = refl
no_begin st x mode [] (z ∷ zs) = refl
no_begin st x mode (b ∷ bs) xs = refl

-- the `if` is complete, and then the token does what it does before an item
pub after_apply : (st : State) (x : Stmt) (act : Action) → IsItems act → apply st (after x act) ≡ apply (behind st x) act
after_apply st x a.Refuse h = refl
after_apply st x (a.Go mode) h = refl
after_apply st x (a.Begin mode) h = no_begin st x mode st.bodies st.body
after_apply st x a.Close h = refl
after_apply st x _ h = absurd h

module _ (src : List ℕ) where
  pub items_of : (t : Token) (k : TokenKind) → IsItems (item src t k)
  items_of t (Word w.Var) = tt
  items_of t (Word w.Array) = tt
  items_of t (Word w.Print) = tt
  items_of t (Word w.If) = tt
  items_of t (Word w.While) = tt
  items_of t Name = tt
  items_of t (Sym y.RBrace) = tt
  items_of t _ = tt

  -- the word `else`
  abbrev pub IsOther : TokenKind → Type 0
  IsOther (Word w.Else) = ⊥
  IsOther _ = Unit {0}

  pub other_after : (c : Expr) (ys : List Stmt) (t : Token) (k : TokenKind) → IsOther k → after_if src c ys t k ≡ after (s.If c ys []) (item src t k)
  other_after c ys t (Word w.Else) o = absurd o
  other_after c ys t _ o = refl

  -- Behind a statement: it is in the body, or it is an `if` that may still get its `else`.
  pub data Rests (st : State) : State → Type 0 where
    settled : Rests st (in_mode st m.Item)
    open_if : (before : State) (c : Expr) (ys : List Stmt) → st ≡ behind before (s.If c ys []) → Rests st (in_mode before (m.AfterIf c ys))

  -- any other token does there what it does behind the complete statement
  pub rested : (st here : State) (t : Token) (k : TokenKind) → Rests st here → Is t k → IsOther k → step src here t ≡ step src (in_mode st m.Item) t
  rested st here t k settled i o = refl
  rested st here t k (open_if before c ys e) i o =
      ap (λ z. apply (in_mode before (m.AfterIf c ys)) (after_if src c ys t z)) i.kind
      ∙ ap (apply (in_mode before (m.AfterIf c ys))) (other_after c ys t k o)
      ∙ after_apply (in_mode before (m.AfterIf c ys)) (s.If c ys []) (item src t k) (items_of t k)
      ∙ ap (λ (z : State). apply (in_mode z m.Item) (item src t k)) (sym e)
      ∙ ap (λ z. apply (in_mode st m.Item) (item src t z)) (sym i.kind)

  pub leads_rested : {st here last : State} {t : Token} {ts : List Token} (k : TokenKind) → Rests st here → Is t k → IsOther k →
      Leads src (in_mode st m.Item) (t ∷ ts) last → Leads src here (t ∷ ts) last
  leads_rested {st} {here} {last} {t} {ts} k r i o l = record { leads = ap (λ z. run_from src z ts) (rested st here t k r i o) ∙ l.leads }
