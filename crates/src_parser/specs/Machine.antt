-- Private: the parser, token by token. No public clause speaks of it.
use Rattle.std.specs.Prelude.{ℕ, pos, neg_ℤ, Bool, true, false, List, [], ◌∷◌, ◌++◌, Option, Some, None, nat_le, if◌then◌else◌}
use Rattle.bm_base.specs.declared.word.Un.TheVariants as un
use Rattle.bm_base.specs.declared.word.Bin.{Bin}
use Rattle.src_lexer.specs.declared.token.Keyword.TheVariants as w
use Rattle.src_lexer.specs.declared.token.Symbol.{Symbol}
use Rattle.src_lexer.specs.declared.token.Symbol.TheVariants as y
use Rattle.src_lexer.specs.declared.token.TokenKind.{TokenKind}
use Rattle.src_lexer.specs.declared.token.TokenKind.TheVariants.{Name, Number, Word, Sym}
use Rattle.src_lexer.specs.declared.token.Token.{Token}
use Rattle.src_tree.specs.declared.tree.Ident.{Ident}
use Rattle.src_tree.specs.declared.tree.Expr.{Expr}
use Rattle.src_tree.specs.declared.tree.Expr.TheVariants as e
use Rattle.src_tree.specs.declared.tree.Stmt.{Stmt}
use Rattle.src_tree.specs.declared.tree.Stmt.TheVariants as s
use Rattle.src_tree.specs.declared.tree.Decl.{Decl}
use Rattle.src_tree.specs.declared.tree.Decl.TheVariants as d
use Rattle.src_tree.specs.declared.tree.Program.{Program}
use Rattle.src_tree.specs.Operators.{binary, level}
use Rattle.src_tree.specs.Grammar.{ident}
use Rattle.src_parser.specs.declared.machine.Goal.{Goal}
use Rattle.src_parser.specs.declared.machine.Goal.TheVariants as g
use Rattle.src_parser.specs.declared.machine.Part.{Part}
use Rattle.src_parser.specs.declared.machine.Part.TheVariants as p
use Rattle.src_parser.specs.declared.machine.Head.{Head}
use Rattle.src_parser.specs.declared.machine.Head.TheVariants as h
use Rattle.src_parser.specs.declared.machine.OpenBody.{OpenBody}
use Rattle.src_parser.specs.declared.machine.Mode.{Mode}
use Rattle.src_parser.specs.declared.machine.Mode.TheVariants as m
use Rattle.src_parser.specs.declared.machine.Action.{Action}
use Rattle.src_parser.specs.declared.machine.Action.TheVariants as a
use Rattle.src_parser.specs.declared.machine.State.{State}
use Rattle.src_parser.specs.declared.want.Want.{Want}
use Rattle.src_parser.specs.declared.want.Want.TheVariants as v

-- An operand is complete. The parts that bind at least as tightly as the level take it in.
abbrev pub reduce : ℕ → List Part → Expr → List Part × Expr
reduce l [] x = ([], x)
reduce l (p.Unary op ∷ ps) x = reduce l ps (e.One op x)
reduce l (p.Binary op a ∷ ps) x = if nat_le l (level op) then reduce l ps (e.Two op a x) else (p.Binary op a ∷ ps, x)
reduce l (p.Paren ∷ ps) x = (p.Paren ∷ ps, x)
reduce l (p.Index n ∷ ps) x = (p.Index n ∷ ps, x)

-- the state before the first token
abbrev pub start : State
start = record { decls = []; bodies = []; body = []; mode = m.Item }

-- the program that is whole here, if any: no body is open, and no part of an item
abbrev pub last_in : List Decl → List Stmt → Mode → Option Program
last_in ds xs m.Item = Some (record { decls = ds; body = xs })
last_in ds xs (m.AfterIf c ys) = Some (record { decls = ds; body = xs ++ s.If c ys [] ∷ [] })
last_in ds xs _ = None

abbrev pub whole_in : State → Mode → List OpenBody → Option Program
whole_in st mode [] = last_in st.decls st.body mode
whole_in st mode (b ∷ bs) = None

abbrev pub whole : State → Option Program
whole st = whole_in st st.mode st.bodies

abbrev pub with_mode : State → Mode → Option State
with_mode st mode = Some (record st { mode = mode })

-- a body is complete: the statements before it with its own, and what stands before the next token
abbrev pub closed_body : List Stmt → Head → List Stmt → List Stmt × Mode
closed_body past (h.While c) body = (past ++ s.While c body ∷ [], m.Item)
closed_body past (h.If c) body = (past, m.AfterIf c body)
closed_body past (h.Else c ys) body = (past ++ s.If c ys body ∷ [], m.Item)

abbrev pub closed_by : State → List OpenBody → List Stmt → Head → State
closed_by st bs past head = record st { bodies = bs; body = (closed_body past head st.body).0; mode = (closed_body past head st.body).1 }

abbrev pub close : State → List OpenBody → Option State
close st [] = None
close st (b ∷ bs) = Some (closed_by st bs b.before b.head)

-- a declaration stands before the first statement alone
abbrev pub begin : State → Mode → List OpenBody → List Stmt → Option State
begin st mode [] [] = with_mode st mode
begin st mode _ _ = None

-- a statement is complete
abbrev pub behind : State → Stmt → State
behind st x = record st { body = st.body ++ x ∷ []; mode = m.Item }

-- the state after an action
abbrev pub apply : State → Action → Option State
apply st a.Refuse = None
apply st (a.Go mode) = with_mode st mode
apply st (a.Begin mode) = begin st mode st.bodies st.body
apply st (a.Declare x) = Some (record st { decls = st.decls ++ x ∷ []; mode = m.Item })
apply st (a.Finish x) = Some (behind st x)
apply st (a.Open head) = Some (record st { bodies = record { before = st.body; head = head } ∷ st.bodies; body = []; mode = m.Item })
apply st a.Close = close st st.bodies
apply st (a.FinishGo x mode) = with_mode (behind st x) mode
apply st (a.FinishClose x) = close (behind st x) st.bodies

abbrev pub finished : Stmt → Symbol → Action
finished x y.Semi = a.Finish x
finished x _ = a.Refuse

abbrev pub indexed : Ident → Expr → Symbol → Action
indexed n x y.RBracket = a.Go (m.Target n x)
indexed n x _ = a.Refuse

abbrev pub opened : Head → Symbol → Action
opened head y.LBrace = a.Open head
opened head _ = a.Refuse

-- the symbol that ends a whole expression
abbrev pub ended : Goal → Expr → Symbol → Action
ended (g.Assign n) x k = finished (s.Assign n x) k
ended (g.SetIndex n) x k = indexed n x k
ended (g.SetValue n i) x k = finished (s.SetElement n i x) k
ended g.Print x k = finished (s.Print x) k
ended g.If x k = opened (h.If x) k
ended g.While x k = opened (h.While x) k

abbrev pub closes_paren : Goal → List Part → Expr → Symbol → Action
closes_paren goal ps x y.RParen = a.Go (m.Value goal ps x)
closes_paren goal ps x _ = a.Refuse

abbrev pub closes_index : Goal → List Part → Expr → Symbol → Action
closes_index goal ps x y.RBracket = a.Go (m.Value goal ps x)
closes_index goal ps x _ = a.Refuse

-- the symbol that ends the innermost open part
abbrev pub closed_in : Goal → List Part → Expr → Symbol → Action
closed_in goal [] x k = ended goal x k
closed_in goal (p.Paren ∷ ps) x k = closes_paren goal ps x k
closed_in goal (p.Index n ∷ ps) x k = closes_index goal ps (e.Element n x) k
closed_in goal (p.Unary op ∷ ps) x k = a.Refuse
closed_in goal (p.Binary op z ∷ ps) x k = a.Refuse

abbrev pub closed : Goal → List Part × Expr → Symbol → Action
closed goal r k = closed_in goal r.0 r.1 k

abbrev pub operated : Goal → List Part → Expr → Symbol → Option Bin → Action
operated goal ps x sym (Some op) =
    let r = reduce (level op) ps x in a.Go (m.Operand goal (p.Binary op r.1 ∷ r.0))
operated goal ps x sym None = closed goal (reduce 0 ps x) sym

abbrev pub value_at : Goal → List Part → Expr → TokenKind → Action
value_at goal ps x (Sym sym) = operated goal ps x sym (binary sym)
value_at goal ps x _ = a.Refuse

abbrev pub is_bracket : TokenKind → Bool
is_bracket (Sym y.LBracket) = true
is_bracket _ = false

abbrev pub named_at : Goal → List Part → Ident → TokenKind → Action
named_at goal ps n kind = if is_bracket kind then a.Go (m.Operand goal (p.Index n ∷ ps)) else value_at goal ps (e.Var n) kind

abbrev pub name_at : Ident → TokenKind → Action
name_at n (Sym y.Assign) = a.Go (m.Operand (g.Assign n) [])
name_at n (Sym y.LBracket) = a.Go (m.Operand (g.SetIndex n) [])
name_at n _ = a.Refuse

-- the symbol that ends the innermost open part
abbrev pub ender : Goal → Symbol
ender (g.Assign n) = y.Semi
ender (g.SetIndex n) = y.RBracket
ender (g.SetValue n i) = y.Semi
ender g.Print = y.Semi
ender g.If = y.LBrace
ender g.While = y.LBrace

abbrev pub inner : Goal → List Part → Symbol
inner goal [] = ender goal
inner goal (p.Paren ∷ ps) = y.RParen
inner goal (p.Index n ∷ ps) = y.RBracket
inner goal (p.Unary op ∷ ps) = inner goal ps
inner goal (p.Binary op a ∷ ps) = inner goal ps

-- what is wanted, by what stands before
abbrev pub want_of : Mode → Want
want_of m.Item = v.Item
want_of m.Var = v.Name
want_of (m.VarName n) = v.Sym y.Semi
want_of (m.VarAssign n) = v.Number
want_of (m.VarMinus n) = v.Number
want_of m.Array = v.Name
want_of (m.ArrayName n) = v.Sym y.LBracket
want_of (m.ArrayOpen n) = v.Number
want_of (m.ArrayLen n len) = v.Sym y.RBracket
want_of (m.Declared x) = v.Sym y.Semi
want_of (m.Name n) = v.Sym y.Assign
want_of (m.Target n i) = v.Sym y.Assign
want_of (m.Operand goal ps) = v.Expr
want_of (m.Named goal ps n) = v.Sym (inner goal ps)
want_of (m.Value goal ps x) = v.Sym (inner goal ps)
want_of (m.AfterIf c ys) = v.Item
want_of (m.Else c ys) = v.Sym y.LBrace

abbrev pub is_else : TokenKind → Bool
is_else (Word w.Else) = true
is_else _ = false

-- an `if` is complete, and the token does what it does before an item
abbrev pub after : Stmt → Action → Action
after x (a.Go mode) = a.FinishGo x mode
after x a.Close = a.FinishClose x
after x _ = a.Refuse

module _ (src : List ℕ) where
  abbrev pub item : Token → TokenKind → Action
  item t (Word w.Var) = a.Begin m.Var
  item t (Word w.Array) = a.Begin m.Array
  item t (Word w.Print) = a.Go (m.Operand g.Print [])
  item t (Word w.If) = a.Go (m.Operand g.If [])
  item t (Word w.While) = a.Go (m.Operand g.While [])
  item t Name = a.Go (m.Name (ident src t))
  item t (Sym y.RBrace) = a.Close
  item t _ = a.Refuse

  abbrev pub operand_at : Goal → List Part → Token → TokenKind → Action
  operand_at goal ps t (Number v) = a.Go (m.Value goal ps (e.Number v))
  operand_at goal ps t Name = a.Go (m.Named goal ps (ident src t))
  operand_at goal ps t (Sym y.LParen) = a.Go (m.Operand goal (p.Paren ∷ ps))
  operand_at goal ps t (Sym y.Sub) = a.Go (m.Operand goal (p.Unary un.Neg ∷ ps))
  operand_at goal ps t (Sym y.Not) = a.Go (m.Operand goal (p.Unary un.Not ∷ ps))
  operand_at goal ps t _ = a.Refuse

  -- behind the `}` of an `if`: its `else`, or an item, and the `if` is complete
  abbrev pub after_if : Expr → List Stmt → Token → TokenKind → Action
  after_if c ys t kind = if is_else kind then a.Go (m.Else c ys) else after (s.If c ys []) (item t kind)

  -- inside a declaration, and where a symbol must come
  abbrev pub fixed_at : Mode → Token → TokenKind → Action
  fixed_at m.Var t Name = a.Go (m.VarName (ident src t))
  fixed_at (m.VarName n) t (Sym y.Semi) = a.Declare (d.Var n (pos 0))
  fixed_at (m.VarName n) t (Sym y.Assign) = a.Go (m.VarAssign n)
  fixed_at (m.VarAssign n) t (Sym y.Sub) = a.Go (m.VarMinus n)
  fixed_at (m.VarAssign n) t (Number v) = a.Go (m.Declared (d.Var n v))
  fixed_at (m.VarMinus n) t (Number v) = a.Go (m.Declared (d.Var n (neg_ℤ v)))
  fixed_at m.Array t Name = a.Go (m.ArrayName (ident src t))
  fixed_at (m.ArrayName n) t (Sym y.LBracket) = a.Go (m.ArrayOpen n)
  fixed_at (m.ArrayOpen n) t (Number v) = a.Go (m.ArrayLen n v)
  fixed_at (m.ArrayLen n len) t (Sym y.RBracket) = a.Go (m.Declared (d.Array n len))
  fixed_at (m.Declared x) t (Sym y.Semi) = a.Declare x
  fixed_at (m.Target n i) t (Sym y.Assign) = a.Go (m.Operand (g.SetValue n i) [])
  fixed_at (m.Else c ys) t (Sym y.LBrace) = a.Open (h.Else c ys)
  fixed_at _ t _ = a.Refuse

  -- what one more token does
  abbrev pub act : Mode → Token → Action
  act m.Item t = item t t.kind
  act (m.Name n) t = name_at n t.kind
  act (m.Operand goal ps) t = operand_at goal ps t t.kind
  act (m.Named goal ps n) t = named_at goal ps n t.kind
  act (m.Value goal ps x) t = value_at goal ps x t.kind
  act (m.AfterIf c ys) t = after_if c ys t t.kind
  act mode t = fixed_at mode t t.kind

  -- the state after one more token, or none where no program goes on with it
  abbrev pub step : State → Token → Option State
  step st t = apply st (act st.mode t)

  abbrev pub run_from : Option State → List Token → Option State
  run_from None ts = None
  run_from (Some st) [] = Some st
  run_from (Some st) (t ∷ ts) = run_from (step st t) ts

  abbrev pub run : State → List Token → Option State
  run st ts = run_from (Some st) ts
