-- What is wanted is told by what could come.
use Rattle.std.proofs.Common.{◌≡◌, ℕ, ◌<◌, pos, List, [], ◌∷◌, ◌++◌, Some, None, refl, ap, sym, subst, ◌∙◌, arith, ℤ}
use Rattle.src_tree.specs.declared.tree.Ident.{Ident}
use Rattle.src_tree.specs.declared.tree.Expr.{Expr}
use Rattle.src_tree.specs.declared.tree.Expr.TheVariants as ex
use Rattle.src_lexer.specs.declared.token.Keyword.TheVariants as w
use Rattle.src_lexer.specs.declared.token.Symbol.{Symbol}
use Rattle.src_lexer.specs.declared.token.Symbol.TheVariants as y
use Rattle.src_lexer.specs.declared.token.TokenKind.{TokenKind}
use Rattle.src_lexer.specs.declared.token.TokenKind.TheVariants.{Name, Number, Word, Sym}
use Rattle.src_lexer.specs.declared.token.Token.{Token}
use Rattle.src_tree.specs.declared.tree.Stmt.{Stmt}
use Rattle.src_parser.specs.declared.machine.Goal.{Goal}
use Rattle.src_parser.specs.declared.machine.Goal.TheVariants as g
use Rattle.src_parser.specs.declared.machine.Part.{Part}
use Rattle.src_parser.specs.declared.machine.Part.TheVariants as p
use Rattle.src_parser.specs.declared.machine.Mode.{Mode}
use Rattle.src_parser.specs.declared.machine.Mode.TheVariants as m
use Rattle.src_parser.specs.declared.machine.Action.{Action}
use Rattle.src_parser.specs.declared.machine.Action.TheVariants as a
use Rattle.src_parser.specs.declared.machine.State.{State}
use Rattle.src_parser.specs.declared.want.Want.TheVariants as v
use Rattle.src_tree.specs.Operators.{binary}
use Rattle.src_tree.specs.Grammar.{Is}
use Rattle.src_parser.specs.Fault.{GoesOn, Wants, rank}
use Rattle.src_parser.specs.Machine.{step, run, run_from, start, reduce, closed, ended, operated, value_at, named_at, act, apply, inner, ender, want_of, name_at, operand_at, fixed_at}
use Rattle.src_parser.proofs.Whole.{goes_on, goes_on_only, of_kind, is_kind}
use Rattle.src_parser.proofs.Complete.{reduce_two}
use Rattle.src_parser.proofs.Steps.{append_from, IsValue, value, named, act_value}

-- an action that some state takes
abbrev pub Goes : Action → Type 0
Goes (a.Go mode) = Unit {0}
Goes (a.Declare x) = Unit {0}
Goes (a.Finish s) = Unit {0}
Goes (a.Open x) = Unit {0}
Goes (a.FinishGo s mode) = Unit {0}
Goes _ = ⊥

takes : (st : State) (x : Action) → Goes x → (next : State) × (apply st x ≡ Some next)
takes st (a.Go mode) h = (_, refl)
takes st (a.Declare x) h = (_, refl)
takes st (a.Finish s) h = (_, refl)
takes st (a.Open x) h = (_, refl)
takes st (a.FinishGo s mode) h = (_, refl)
takes st _ h = absurd h

-- no operand is left to be taken in
abbrev pub Plain : List Part → Type 0
Plain (p.Unary op ∷ ps) = ⊥
Plain (p.Binary op x ∷ ps) = ⊥
Plain _ = Unit {0}

pub record Inner (goal : Goal) (ps : List Part) (r : List Part × Expr) : Type 0 where
  pub plain : Plain r.0
  pub same : inner goal r.0 ≡ inner goal ps

inner_reduce : (goal : Goal) (ps : List Part) (x : Expr) → Inner goal ps (reduce 0 ps x)
inner_reduce goal [] x = record { plain = tt; same = refl }
inner_reduce goal (p.Paren ∷ ps) x = record { plain = tt; same = refl }
inner_reduce goal (p.Index n ∷ ps) x = record { plain = tt; same = refl }
inner_reduce goal (p.Unary op ∷ ps) x = let r = inner_reduce goal ps (ex.One op x) in record { plain = r.plain; same = r.same }
inner_reduce goal (p.Binary op a ∷ ps) x =
    let P : List Part × Expr → Type 0 = Inner goal (p.Binary op a ∷ ps) in
    let r = inner_reduce goal ps (ex.Two op a x) in
    subst P (sym (reduce_two 0 op a ps x (omega arith))) (record { plain = r.plain; same = r.same })

ends_rank : (goal : Goal) (ps : List Part) → rank (inner goal ps) < 4
ends_rank (g.Assign n) [] = omega arith
ends_rank (g.SetIndex n) [] = omega arith
ends_rank (g.SetValue n i) [] = omega arith
ends_rank g.Print [] = omega arith
ends_rank g.If [] = omega arith
ends_rank g.While [] = omega arith
ends_rank goal (p.Paren ∷ ps) = omega arith
ends_rank goal (p.Index n ∷ ps) = omega arith
ends_rank goal (p.Unary op ∷ ps) = ends_rank goal ps
ends_rank goal (p.Binary op a ∷ ps) = ends_rank goal ps

ended_refuses : (goal : Goal) (x : Expr) (j : Symbol) → rank j < rank (ender goal) → ended goal x j ≡ a.Refuse
ended_refuses (g.SetIndex n) x y.Semi h = refl
ended_refuses (g.SetIndex n) x y.RParen h = refl
ended_refuses g.If x y.Semi h = refl
ended_refuses g.If x y.RParen h = refl
ended_refuses g.If x y.RBracket h = refl
ended_refuses g.While x y.Semi h = refl
ended_refuses g.While x y.RParen h = refl
ended_refuses g.While x y.RBracket h = refl
ended_refuses _ x _ h = absurd (omega arith)

closed_refuses : (goal : Goal) (ps : List Part) (x : Expr) (j : Symbol) → Plain ps → rank j < rank (inner goal ps) → closed goal (ps, x) j ≡ a.Refuse
closed_refuses goal [] x j f h = ended_refuses goal x j h
closed_refuses goal (p.Paren ∷ ps) x y.Semi f h = refl
closed_refuses goal (p.Paren ∷ ps) x _ f h = absurd (omega arith)
closed_refuses goal (p.Index n ∷ ps) x y.Semi f h = refl
closed_refuses goal (p.Index n ∷ ps) x y.RParen f h = refl
closed_refuses goal (p.Index n ∷ ps) x _ f h = absurd (omega arith)
closed_refuses goal _ x j f h = absurd f

closed_goes : (goal : Goal) (ps : List Part) (x : Expr) → Plain ps → Goes (closed goal (ps, x) (inner goal ps))
closed_goes (g.Assign n) [] x f = tt
closed_goes (g.SetIndex n) [] x f = tt
closed_goes (g.SetValue n i) [] x f = tt
closed_goes g.Print [] x f = tt
closed_goes g.If [] x f = tt
closed_goes g.While [] x f = tt
closed_goes goal (p.Paren ∷ ps) x f = tt
closed_goes goal (p.Index n ∷ ps) x f = tt
closed_goes goal _ x f = absurd f

no_binary : (j : Symbol) → rank j < 4 → binary j ≡ None
no_binary y.Semi h = refl
no_binary y.RParen h = refl
no_binary y.RBracket h = refl
no_binary y.LBrace h = refl
no_binary _ h = absurd (omega arith)

no_bracket : (j : Symbol) → rank j < 4 → j ≡ y.LBracket → ⊥
no_bracket j h e = let k : rank j ≡ 5 = ap rank e in omega arith

module _ (src : List ℕ) (ts : List Token) (st : State) (here : run src start ts ≡ Some st) where
  after : (t : Token) → run src start (ts ++ t ∷ []) ≡ run_from src (step src st t) []
  after t = append_from src (Some start) ts (t ∷ []) ∙ ap (λ o. run_from src o (t ∷ [])) here

  can : (k : TokenKind) → Goes (act src st.mode (of_kind src k)) → GoesOn src ts k
  can k h =
      let (next, e) = takes st (act src st.mode (of_kind src k)) h in
      record { token = of_kind src k; is = is_kind src k; begins = goes_on src next (ts ++ of_kind src k ∷ []) (after (of_kind src k) ∙ ap (λ o. run_from src o []) e) }

  cannot : (k : TokenKind) → ((t : Token) → Is t k → act src st.mode t ≡ a.Refuse) → GoesOn src ts k → ⊥
  cannot k h r =
      let (last, e) = goes_on_only src (ts ++ r.token ∷ []) r.begins in
      let none : run src start (ts ++ r.token ∷ []) ≡ None = after r.token ∙ ap (λ x. run_from src (apply st x) []) (h r.token r.is) in
      let clash : Some last ≡ None = sym e ∙ none in cc

  module _ (mode : Mode) (is : st.mode ≡ mode) where
    can_in : (k : TokenKind) → Goes (act src mode (of_kind src k)) → GoesOn src ts k
    can_in k h = let P : Mode → Type 0 = λ z. Goes (act src z (of_kind src k)) in can k (subst P (sym is) h)

    cannot_in : (k : TokenKind) → ((t : Token) → Is t k → act src mode t ≡ a.Refuse) → GoesOn src ts k → ⊥
    cannot_in k h = cannot k (λ t i. ap (λ z. act src z t) is ∙ h t i)

    -- behind an operand
    wants_end : (goal : Goal) (ps : List Part) (x : Expr) → IsValue goal ps x mode →
        ((t : Token) → Is t (Word w.Print) → act src mode t ≡ a.Refuse) → ((t : Token) → Is t Name → act src mode t ≡ a.Refuse) → ((t : Token) → Is t (Number (pos 0)) → act src mode t ≡ a.Refuse) →
        Wants src ts (v.Sym (inner goal ps))
    wants_end goal ps x h no_print no_name no_number =
        let r = inner_reduce goal ps x in
        let k : Symbol = inner goal ps in
        let low : rank k < 4 = ends_rank goal ps in
        let at : (j : Symbol) → rank j < 4 → (t : Token) → Is t (Sym j) → act src mode t ≡ closed goal (reduce 0 ps x) j =
        λ j s t i. act_value src goal ps x mode t j h i (no_bracket j s) ∙ ap (operated goal ps x j) (no_binary j s) in
        let P : Action → Type 0 = Goes in
        let Q : Symbol → Type 0 = λ z. Goes (closed goal (reduce 0 ps x) z) in (
          cannot_in (Word w.Print) no_print,
          (
            can_in (Sym k) (subst P (sym (at k low (of_kind src (Sym k)) (is_kind src (Sym k)))) (subst Q r.same (closed_goes goal (reduce 0 ps x).0 (reduce 0 ps x).1 r.plain))),
            cannot_in Name no_name,
            cannot_in (Number (pos 0)) no_number,
            omega arith,
            λ j s. cannot_in (Sym j) (λ t i. at j (omega arith) t i ∙ closed_refuses goal (reduce 0 ps x).0 (reduce 0 ps x).1 j r.plain (omega (arith, ap rank r.same))),
          ),
        )

  name_refuses : (n : Ident) (j : Symbol) → rank j < 4 → name_at n (Sym j) ≡ a.Refuse
  name_refuses n y.Semi h = refl
  name_refuses n y.RParen h = refl
  name_refuses n y.RBracket h = refl
  name_refuses n y.LBrace h = refl
  name_refuses n _ h = absurd (omega arith)

  -- where one symbol must come
  module _ (mode : Mode) (is : st.mode ≡ mode) (here_acts : (t : Token) → act src mode t ≡ fixed_at src mode t t.kind) where
    refuses : (k : TokenKind) → ((t : Token) → fixed_at src mode t k ≡ a.Refuse) → GoesOn src ts k → ⊥
    refuses k h = cannot_in mode is k (λ t i. here_acts t ∙ ap (fixed_at src mode t) i.kind ∙ h t)

    symbol_wanted : (k : Symbol) → Goes (act src mode (of_kind src (Sym k))) → rank k < 6 → ((t : Token) → fixed_at src mode t (Word w.Print) ≡ a.Refuse) →
        ((t : Token) → fixed_at src mode t Name ≡ a.Refuse) → ((t : Token) → fixed_at src mode t (Number (pos 0)) ≡ a.Refuse) →
        ((j : Symbol) (t : Token) → rank j < rank k → fixed_at src mode t (Sym j) ≡ a.Refuse) → Wants src ts (v.Sym k)
    symbol_wanted k goes low no_print no_name no_number no_other = (
      refuses (Word w.Print) no_print,
      (
        can_in mode is (Sym k) goes,
        refuses Name no_name,
        refuses (Number (pos 0)) no_number,
        low,
        λ j s. refuses (Sym j) (λ t. no_other j t s),
      ),
    )

    name_wanted : Goes (act src mode (of_kind src Name)) → ((t : Token) → fixed_at src mode t (Word w.Print) ≡ a.Refuse) →
        ((t : Token) → fixed_at src mode t (Number (pos 0)) ≡ a.Refuse) → Wants src ts v.Name
    name_wanted goes no_print no_number = (refuses (Word w.Print) no_print, (can_in mode is Name goes, refuses (Number (pos 0)) no_number))

    number_wanted : Goes (act src mode (of_kind src (Number (pos 0)))) → ((t : Token) → fixed_at src mode t (Word w.Print) ≡ a.Refuse) →
        ((t : Token) → fixed_at src mode t Name ≡ a.Refuse) → Wants src ts v.Number
    number_wanted goes no_print no_name = (refuses (Word w.Print) no_print, (can_in mode is (Number (pos 0)) goes, refuses Name no_name))

  bracket_only : (n : Ident) (j : Symbol) (t : Token) → rank j < 5 → fixed_at src (m.ArrayName n) t (Sym j) ≡ a.Refuse
  bracket_only n y.LBracket t h = absurd (omega arith)
  bracket_only n _ t h = refl

  len_only : (n : Ident) (len : ℤ) (j : Symbol) (t : Token) → rank j < 2 → fixed_at src (m.ArrayLen n len) t (Sym j) ≡ a.Refuse
  len_only n len y.RBracket t h = absurd (omega arith)
  len_only n len _ t h = refl

  brace_only : (c : Expr) (ys : List Stmt) (j : Symbol) (t : Token) → rank j < 3 → fixed_at src (m.Else c ys) t (Sym j) ≡ a.Refuse
  brace_only c ys y.LBrace t h = absurd (omega arith)
  brace_only c ys _ t h = refl

  assign_only : (n : Ident) (i : Expr) (j : Symbol) (t : Token) → rank j < 4 → fixed_at src (m.Target n i) t (Sym j) ≡ a.Refuse
  assign_only n i y.Assign t h = absurd (omega arith)
  assign_only n i _ t h = refl

  wants_in : (mode : Mode) → st.mode ≡ mode → Wants src ts (want_of mode)
  wants_in m.Item e = can_in m.Item e (Word w.Print) tt
  wants_in m.Var e = name_wanted m.Var e (λ t. refl) tt (λ t. refl) (λ t. refl)
  wants_in (m.VarName n) e = symbol_wanted (m.VarName n) e (λ t. refl) y.Semi tt (omega arith) (λ t. refl) (λ t. refl) (λ t. refl) (λ j t s. absurd (omega arith))
  wants_in (m.VarAssign n) e = number_wanted (m.VarAssign n) e (λ t. refl) tt (λ t. refl) (λ t. refl)
  wants_in (m.VarMinus n) e = number_wanted (m.VarMinus n) e (λ t. refl) tt (λ t. refl) (λ t. refl)
  wants_in m.Array e = name_wanted m.Array e (λ t. refl) tt (λ t. refl) (λ t. refl)
  wants_in (m.ArrayName n) e = symbol_wanted (m.ArrayName n) e (λ t. refl) y.LBracket tt (omega arith) (λ t. refl) (λ t. refl) (λ t. refl) (λ j t s. bracket_only n j t s)
  wants_in (m.ArrayOpen n) e = number_wanted (m.ArrayOpen n) e (λ t. refl) tt (λ t. refl) (λ t. refl)
  wants_in (m.ArrayLen n len) e = symbol_wanted (m.ArrayLen n len) e (λ t. refl) y.RBracket tt (omega arith) (λ t. refl) (λ t. refl) (λ t. refl) (λ j t s. len_only n len j t s)
  wants_in (m.Declared x) e = symbol_wanted (m.Declared x) e (λ t. refl) y.Semi tt (omega arith) (λ t. refl) (λ t. refl) (λ t. refl) (λ j t s. absurd (omega arith))
  wants_in (m.Name n) e = let q = m.Name n in (
    cannot_in q e (Word w.Print) (λ t i. ap (name_at n) i.kind),
    (
      can_in q e (Sym y.Assign) tt,
      cannot_in q e Name (λ t i. ap (name_at n) i.kind),
      cannot_in q e (Number (pos 0)) (λ t i. ap (name_at n) i.kind),
      omega arith,
      λ j s. cannot_in q e (Sym j) (λ t i. ap (name_at n) i.kind ∙ name_refuses n j s),
    ),
  )
  wants_in (m.Target n x) e = symbol_wanted (m.Target n x) e (λ t. refl) y.Assign tt (omega arith) (λ t. refl) (λ t. refl) (λ t. refl) (λ j t s. assign_only n x j t s)
  wants_in (m.Operand goal ps) e = let q = m.Operand goal ps in (
    cannot_in q e (Word w.Print) (λ t i. ap (operand_at src goal ps t) i.kind),
    (
      can_in q e (Number (pos 0)) tt,
      can_in q e Name tt,
    ),
  )
  wants_in (m.Named goal ps n) e = wants_end (m.Named goal ps n) e goal ps (ex.Var n) named
      (λ t i. ap (named_at goal ps n) i.kind) (λ t i. ap (named_at goal ps n) i.kind) (λ t i. ap (named_at goal ps n) i.kind)
  wants_in (m.Value goal ps x) e = wants_end (m.Value goal ps x) e goal ps x value
      (λ t i. ap (value_at goal ps x) i.kind) (λ t i. ap (value_at goal ps x) i.kind) (λ t i. ap (value_at goal ps x) i.kind)
  wants_in (m.AfterIf c ys) e = can_in (m.AfterIf c ys) e (Word w.Print) tt
  wants_in (m.Else c ys) e = symbol_wanted (m.Else c ys) e (λ t. refl) y.LBrace tt (omega arith) (λ t. refl) (λ t. refl) (λ t. refl) (λ j t s. brace_only c ys j t s)

  -- the want of the place is the one that what could come tells
  pub wants : Wants src ts (want_of st.mode)
  wants = wants_in st.mode refl
