-- A statement of a program within the limits has at most 120 nodes: they are nodes of the tokens behind the last border before them.
use Rattle.std.proofs.Common.{◌≡◌, ℕ, ◌+◌, ◌≤◌, ℤ, true, false, List, [], ◌∷◌, ◌++◌, map, max, Some, refl, ap, sym, ◌∙◌, subst, arith, append_assoc}
use Rattle.std.specs.Prelude.{if◌then◌else◌}
use Rattle.std.proofs.lemmas.List.{append-nil}
use Rattle.bm_base.specs.Entry.{Entry}
use Rattle.bm_base.specs.declared.word.Un.{Un}
use Rattle.bm_base.specs.declared.word.Bin.{Bin}
use Rattle.src_lexer.specs.declared.token.Symbol.{Symbol}
use Rattle.src_lexer.specs.declared.token.Symbol.TheVariants as y
use Rattle.src_lexer.specs.declared.token.TokenKind.{TokenKind}
use Rattle.src_lexer.specs.declared.token.TokenKind.TheVariants.{Sym}
use Rattle.src_lexer.specs.declared.token.Token.{Token}
use Rattle.src_tree.specs.declared.tree.Ident.{Ident}
use Rattle.src_tree.specs.declared.tree.Expr.{Expr, Expr-F}
use Rattle.src_tree.specs.declared.tree.Expr.TheFolds.{fold-Expr, fold-roll-Expr}
use Rattle.src_tree.specs.declared.tree.Expr.TheVariants as e
use Rattle.src_tree.specs.declared.tree.Stmt.{Stmt, Stmt-F}
use Rattle.src_tree.specs.declared.tree.Stmt.TheFolds.{fold-Stmt, fold-roll-Stmt}
use Rattle.src_tree.specs.declared.tree.Stmt.TheVariants as s
use Rattle.src_tree.specs.declared.tree.Decl.{Decl}
use Rattle.src_tree.specs.declared.tree.Program.{Program}
use Rattle.src_tree.specs.Operators.{binary, unary}
use Rattle.src_tree.specs.Grammar.{Is, IsExpr, IsStmt, IsBlock, IsElse, IsBody, IsDecl, AreDecls, Derives}
use Rattle.src_tree.specs.Grammar as g
use Rattle.src_tree.specs.Limits.{is_border, current, current_from, node, nodes_in, behind_first, KeepsLimits}
use Rattle.src_names.specs.declared.resolved.RExpr.{RExpr}
use Rattle.src_names.specs.declared.resolved.RExpr.TheFolds.{fold-roll-RExpr}
use Rattle.src_names.specs.declared.resolved.RExpr.TheVariants as re
use Rattle.src_names.specs.declared.resolved.RStmt.{RStmt}
use Rattle.src_names.specs.Named.{NamedExpr, NamedStmt, NamedBody}
use Rattle.src_names.specs.Named as n
use Rattle.src_names.specs.Sizes.{nodes_step, FewNodes, AllFewNodes}
use Rattle.src_names.specs.Sizes as z

size-number : (v : ℤ) → z.nodes (re.Number v) ≡ 1
unfolding z.nodes
size-number v = ap z.nodes (sym (re.rolls-Number v)) ∙ fold-roll-RExpr ℕ nodes_step _

size-var : (id : ℕ) → z.nodes (re.Var id) ≡ 1
unfolding z.nodes
size-var id = ap z.nodes (sym (re.rolls-Var id)) ∙ fold-roll-RExpr ℕ nodes_step _

size-element : (id : ℕ) (i : RExpr) → z.nodes (re.Element id i) ≡ 1 + z.nodes i
unfolding z.nodes
size-element id i = ap z.nodes (sym (re.rolls-Element id i)) ∙ fold-roll-RExpr ℕ nodes_step _

size-one : (op : Un) (a : RExpr) → z.nodes (re.One op a) ≡ 1 + z.nodes a
unfolding z.nodes
size-one op a = ap z.nodes (sym (re.rolls-One op a)) ∙ fold-roll-RExpr ℕ nodes_step _

size-two : (op : Bin) (a b : RExpr) → z.nodes (re.Two op a b) ≡ 1 + (z.nodes a + z.nodes b)
unfolding z.nodes
size-two op a b = ap z.nodes (sym (re.rolls-Two op a b)) ∙ fold-roll-RExpr ℕ nodes_step _

-- the nodes of an expression of the tree
abbrev tree_step : Expr-F ℕ → ℕ
tree_step (Expr-F.Number v) = 1
tree_step (Expr-F.Var m) = 1
tree_step (Expr-F.Element m i) = 1 + i
tree_step (Expr-F.One op a) = 1 + a
tree_step (Expr-F.Two op a b) = 1 + (a + b)

unfoldable tree_nodes : Expr → ℕ
tree_nodes = fold-Expr ℕ tree_step

tree-number : (v : ℤ) → tree_nodes (e.Number v) ≡ 1
unfolding tree_nodes
tree-number v = ap tree_nodes (sym (e.rolls-Number v)) ∙ fold-roll-Expr ℕ tree_step _

tree-var : (m : Ident) → tree_nodes (e.Var m) ≡ 1
unfolding tree_nodes
tree-var m = ap tree_nodes (sym (e.rolls-Var m)) ∙ fold-roll-Expr ℕ tree_step _

tree-element : (m : Ident) (i : Expr) → tree_nodes (e.Element m i) ≡ 1 + tree_nodes i
unfolding tree_nodes
tree-element m i = ap tree_nodes (sym (e.rolls-Element m i)) ∙ fold-roll-Expr ℕ tree_step _

tree-one : (op : Un) (a : Expr) → tree_nodes (e.One op a) ≡ 1 + tree_nodes a
unfolding tree_nodes
tree-one op a = ap tree_nodes (sym (e.rolls-One op a)) ∙ fold-roll-Expr ℕ tree_step _

tree-two : (op : Bin) (a b : Expr) → tree_nodes (e.Two op a b) ≡ 1 + (tree_nodes a + tree_nodes b)
unfolding tree_nodes
tree-two op a b = ap tree_nodes (sym (e.rolls-Two op a b)) ∙ fold-roll-Expr ℕ tree_step _

abbrev greatest : List ℕ → ℕ
greatest [] = 0
greatest (i ∷ is) = max i (greatest is)

-- the most nodes of a statement or of one in its bodies
abbrev widest_step : Stmt-F ℕ → ℕ
widest_step (Stmt-F.Assign m x) = tree_nodes x
widest_step (Stmt-F.SetElement m i x) = tree_nodes i + tree_nodes x
widest_step (Stmt-F.Print x) = tree_nodes x
widest_step (Stmt-F.If x us ws) = max (tree_nodes x) (max (greatest us) (greatest ws))
widest_step (Stmt-F.While x us) = max (tree_nodes x) (greatest us)

unfoldable widest : Stmt → ℕ
widest = fold-Stmt ℕ widest_step

abbrev widest_body : List Stmt → ℕ
widest_body us = greatest (map widest us)

widest-assign : (m : Ident) (x : Expr) → widest (s.Assign m x) ≡ tree_nodes x
unfolding widest
widest-assign m x = ap widest (sym (s.rolls-Assign m x)) ∙ fold-roll-Stmt ℕ widest_step _

widest-set : (m : Ident) (i x : Expr) → widest (s.SetElement m i x) ≡ tree_nodes i + tree_nodes x
unfolding widest
widest-set m i x = ap widest (sym (s.rolls-SetElement m i x)) ∙ fold-roll-Stmt ℕ widest_step _

widest-print : (x : Expr) → widest (s.Print x) ≡ tree_nodes x
unfolding widest
widest-print x = ap widest (sym (s.rolls-Print x)) ∙ fold-roll-Stmt ℕ widest_step _

widest-if : (x : Expr) (us ws : List Stmt) → widest (s.If x us ws) ≡ max (tree_nodes x) (max (widest_body us) (widest_body ws))
unfolding widest
widest-if x us ws = ap widest (sym (s.rolls-If x us ws)) ∙ fold-roll-Stmt ℕ widest_step _

widest-while : (x : Expr) (us : List Stmt) → widest (s.While x us) ≡ max (tree_nodes x) (widest_body us)
unfolding widest
widest-while x us = ap widest (sym (s.rolls-While x us)) ∙ fold-roll-Stmt ℕ widest_step _

-- what is named has the tree's nodes
module _ (es : List Entry) where
  same_nodes : {a : Expr} {x : RExpr} → NamedExpr es a x → z.nodes x ≡ tree_nodes a
  same_nodes (n.number {v = v}) = size-number v ∙ sym (tree-number v)
  same_nodes (n.var {n = m} {id = id} v) = size-var id ∙ sym (tree-var m)
  same_nodes (n.element {n = m} {id = id} {i = i} {j = j} v h) = size-element id j ∙ ap (λ k. 1 + k) (same_nodes h) ∙ sym (tree-element m i)
  same_nodes (n.one {op = op} {a = a} {x = x} h) = size-one op x ∙ ap (λ k. 1 + k) (same_nodes h) ∙ sym (tree-one op a)
  same_nodes (n.two {op = op} {a = a} {b = b} {x = x} {z = w} h k) =
      size-two op x w ∙ ap (λ i. 1 + (i + z.nodes w)) (same_nodes h) ∙ ap (λ i. 1 + (tree_nodes a + i)) (same_nodes k) ∙ sym (tree-two op a b)

  mutual
    few_stmt : {a : Stmt} {x : RStmt} → NamedStmt es a x → widest a ≤ 120 → FewNodes x
    few_stmt (n.assign {n = m} {a = a} v h) few = let w = widest-assign m a in let o = same_nodes h in z.assign (omega arith)
    few_stmt (n.set {n = m} {i = i} {a = a} v h k) few = let w = widest-set m i a in let o = same_nodes h in let p = same_nodes k in z.set (omega arith)
    few_stmt (n.print {a = a} h) few = let w = widest-print a in let o = same_nodes h in z.print (omega arith)
    few_stmt (n.choose {a = a} {us = us} {ws = ws} h k l) few =
        let w = widest-if a us ws in
        let o = same_nodes h in
        let b : widest_body us ≤ 120 = omega arith in
        let c : widest_body ws ≤ 120 = omega arith in
        z.choose (omega arith) (few_body k b) (few_body l c)
    few_stmt (n.repeat {a = a} {us = us} h k) few =
        let w = widest-while a us in
        let o = same_nodes h in
        let b : widest_body us ≤ 120 = omega arith in
        z.repeat (omega arith) (few_body k b)

    few_body : {us : List Stmt} {xs : List RStmt} → NamedBody es us xs → widest_body us ≤ 120 → AllFewNodes xs
    few_body n.none few = z.none
    few_body (n.more {u = u} {us = us} h k) few =
        let b : widest u ≤ 120 = omega arith in
        let c : widest_body us ≤ 120 = omega arith in
        z.more (few_stmt h b) (few_body k c)

nodes_append : (ts us : List Token) → nodes_in (ts ++ us) ≡ nodes_in ts + nodes_in us
nodes_append [] us = omega arith
nodes_append (t ∷ ts) us = let e = nodes_append ts us in omega arith

node_is : {t : Token} {k : TokenKind} → Is t k → node t.kind ≡ node k
node_is i = ap node i.kind

binary_node : (x : Symbol) (op : Bin) → binary x ≡ Some op → node (Sym x) ≡ 1
binary_node y.Or op h = refl
binary_node y.Xor op h = refl
binary_node y.And op h = refl
binary_node y.Eq op h = refl
binary_node y.Ne op h = refl
binary_node y.Lt op h = refl
binary_node y.Le op h = refl
binary_node y.Gt op h = refl
binary_node y.Ge op h = refl
binary_node y.Shl op h = refl
binary_node y.Shr op h = refl
binary_node y.Add op h = refl
binary_node y.Sub op h = refl
binary_node y.Mul op h = refl
binary_node y.Div op h = refl
binary_node y.Rem op h = refl
binary_node y.Not op h = cc
binary_node y.Semi op h = cc
binary_node y.Assign op h = cc
binary_node y.LBracket op h = cc
binary_node y.RBracket op h = cc
binary_node y.LBrace op h = cc
binary_node y.RBrace op h = cc
binary_node y.LParen op h = cc
binary_node y.RParen op h = cc

binary_inner : (x : Symbol) (op : Bin) → binary x ≡ Some op → is_border (Sym x) ≡ false
binary_inner y.Or op h = refl
binary_inner y.Xor op h = refl
binary_inner y.And op h = refl
binary_inner y.Eq op h = refl
binary_inner y.Ne op h = refl
binary_inner y.Lt op h = refl
binary_inner y.Le op h = refl
binary_inner y.Gt op h = refl
binary_inner y.Ge op h = refl
binary_inner y.Shl op h = refl
binary_inner y.Shr op h = refl
binary_inner y.Add op h = refl
binary_inner y.Sub op h = refl
binary_inner y.Mul op h = refl
binary_inner y.Div op h = refl
binary_inner y.Rem op h = refl
binary_inner y.Not op h = cc
binary_inner y.Semi op h = cc
binary_inner y.Assign op h = cc
binary_inner y.LBracket op h = cc
binary_inner y.RBracket op h = cc
binary_inner y.LBrace op h = cc
binary_inner y.RBrace op h = cc
binary_inner y.LParen op h = cc
binary_inner y.RParen op h = cc

-- a unary operator is a node and no border
record IsSign (x : Symbol) : Type 0 where
  pub node : node (Sym x) ≡ 1
  pub inner : is_border (Sym x) ≡ false

unary_sign : (x : Symbol) (op : Un) → unary x ≡ Some op → IsSign x
unary_sign y.Sub op h = record { node = refl; inner = refl }
unary_sign y.Not op h = record { node = refl; inner = refl }
unary_sign y.Or op h = absurd (cc)
unary_sign y.Xor op h = absurd (cc)
unary_sign y.And op h = absurd (cc)
unary_sign y.Eq op h = absurd (cc)
unary_sign y.Ne op h = absurd (cc)
unary_sign y.Lt op h = absurd (cc)
unary_sign y.Le op h = absurd (cc)
unary_sign y.Gt op h = absurd (cc)
unary_sign y.Ge op h = absurd (cc)
unary_sign y.Shl op h = absurd (cc)
unary_sign y.Shr op h = absurd (cc)
unary_sign y.Add op h = absurd (cc)
unary_sign y.Mul op h = absurd (cc)
unary_sign y.Div op h = absurd (cc)
unary_sign y.Rem op h = absurd (cc)
unary_sign y.Semi op h = absurd (cc)
unary_sign y.Assign op h = absurd (cc)
unary_sign y.LBracket op h = absurd (cc)
unary_sign y.RBracket op h = absurd (cc)
unary_sign y.LBrace op h = absurd (cc)
unary_sign y.RBrace op h = absurd (cc)
unary_sign y.LParen op h = absurd (cc)
unary_sign y.RParen op h = absurd (cc)

current_append : (now ts us : List Token) → current_from now (ts ++ us) ≡ current_from (current_from now ts) us
current_append now [] us = refl
current_append now (t ∷ ts) us = current_append (if is_border t.kind then [] else now ++ t ∷ []) ts us

-- tokens without a border
pub record Inner (ts : List Token) : Type 0 where
  pub run : (now : List Token) → current_from now ts ≡ now ++ ts

inner_one : {t : Token} {k : TokenKind} → Is t k → is_border k ≡ false → Inner (t ∷ [])
inner_one {t = t} {k = k} i e = record { run = λ now. let b : is_border t.kind ≡ false = ap is_border i.kind ∙ e in rw b refl }

inner_append : {ts us : List Token} → Inner ts → Inner us → Inner (ts ++ us)
inner_append {ts = ts} {us = us} a b = record {
  run = λ now. current_append now ts us ∙ ap (λ l. current_from l us) (a.run now) ∙ b.run (now ++ ts) ∙ append_assoc now ts us;
}

module _ (src : List ℕ) where
  inner_expr : {m : ℕ} {ts : List Token} {a : Expr} → IsExpr src m ts a → Inner ts
  inner_expr (g.number i) = inner_one i refl
  inner_expr (g.name i) = inner_one i refl
  inner_expr (g.element {t = t} {o = o} {c = c} {ts = ts} i j h k) =
      inner_append {ts = t ∷ []} {us = o ∷ (ts ++ c ∷ [])} (inner_one i refl)
      (inner_append {ts = o ∷ []} {us = ts ++ c ∷ []} (inner_one j refl) (inner_append (inner_expr h) (inner_one k refl)))
  inner_expr (g.paren {o = o} {c = c} {ts = ts} j h k) =
      inner_append {ts = o ∷ []} {us = ts ++ c ∷ []} (inner_one j refl) (inner_append (inner_expr h) (inner_one k refl))
  inner_expr (g.one {t = t} {x = x} {op = op} {ts = ts} i e h) =
      let sign = unary_sign x op e in
      inner_append {ts = t ∷ []} {us = ts} (inner_one i sign.inner) (inner_expr h)
  inner_expr (g.two {t = t} {x = x} {op = op} {ts = ts} {us = us} h i e k) =
      inner_append {ts = ts} {us = t ∷ us} (inner_expr h) (inner_append {ts = t ∷ []} {us = us} (inner_one i (binary_inner x op e)) (inner_expr k))
  inner_expr (g.tighter l h) = inner_expr h

  -- the nodes of an expression are nodes of its tokens
  weigh : {m : ℕ} {ts : List Token} {a : Expr} → IsExpr src m ts a → tree_nodes a ≤ nodes_in ts
  weigh (g.number {t = t} {v = v} i) = let w = tree-number v in let k = node_is i in omega arith
  weigh (g.name {t = t} i) = let w = tree-var (g.ident src t) in let k = node_is i in omega arith
  weigh (g.element {t = t} {o = o} {c = c} {ts = ts} {i = x} i j h k) =
      let w = tree-element (g.ident src t) x in
      let p = node_is i in
      let q = nodes_append ts (c ∷ []) in
      let r = weigh h in
      omega arith
  weigh (g.paren {o = o} {c = c} {ts = ts} j h k) = let q = nodes_append ts (c ∷ []) in let r = weigh h in omega arith
  weigh (g.one {t = t} {x = x} {op = op} {ts = ts} {a = a} i e h) =
      let w = tree-one op a in
      let sign = unary_sign x op e in
      let p : node t.kind ≡ 1 = node_is i ∙ sign.node in
      let r = weigh h in
      omega arith
  weigh (g.two {t = t} {x = x} {op = op} {ts = ts} {us = us} {a = a} {b = b} h i e k) =
      let w = tree-two op a b in
      let p : node t.kind ≡ 1 = node_is i ∙ binary_node x op e in
      let q = nodes_append ts (t ∷ us) in
      let r = weigh h in
      let l = weigh k in
      omega arith
  weigh (g.tighter l h) = weigh h

  -- tokens that end with a border
  record Closes (ts : List Token) : Type 0 where
    pub ends : (now : List Token) → current_from now ts ≡ []

  closes_one : {t : Token} {k : TokenKind} → Is t k → is_border k ≡ true → Closes (t ∷ [])
  closes_one {t = t} i e = record { ends = λ now. let b : is_border t.kind ≡ true = ap is_border i.kind ∙ e in rw b refl }

  closes_append : (ts us : List Token) → Closes us → Closes (ts ++ us)
  closes_append ts us h = record { ends = λ now. current_append now ts us ∙ h.ends (current_from now ts) }

  closes_block : {ts : List Token} {b : List Stmt} → IsBlock src ts b → Closes ts
  closes_block (g.braces {o = o} {c = c} {ts = ts} j h k) = closes_append (o ∷ ts) (c ∷ []) (closes_one k refl)

  closes_else : {ts us : List Token} {b : List Stmt} → Closes ts → IsElse src us b → Closes (ts ++ us)
  closes_else {ts = ts} h g.omitted = let P : List Token → Type 0 = Closes in subst P (sym (append-nil ts)) h
  closes_else {ts = ts} h (g.otherwise {t = t} {ts = us} i k) = closes_append ts (t ∷ us) (closes_append (t ∷ []) us (closes_block k))

  closes_stmt : {ts : List Token} {st : Stmt} → IsStmt src ts st → Closes ts
  closes_stmt (g.assign {t = t} {o = o} {c = c} {ts = ts} i j h k) = closes_append (t ∷ o ∷ ts) (c ∷ []) (closes_one k refl)
  closes_stmt (g.set {t = t} {o = o} {c = c} {m = m} {f = f} {ts = ts} {us = us} i j h k l p q) =
      closes_append (t ∷ o ∷ ts) (c ∷ m ∷ (us ++ f ∷ [])) (closes_append (c ∷ m ∷ us) (f ∷ []) (closes_one q refl))
  closes_stmt (g.print {t = t} {c = c} {ts = ts} i h k) = closes_append (t ∷ ts) (c ∷ []) (closes_one k refl)
  closes_stmt (g.choose {t = t} {ts = ts} {us = us} {vs = vs} i h k l) = closes_append (t ∷ ts) (us ++ vs) (closes_else (closes_block k) l)
  closes_stmt (g.repeat {t = t} {ts = ts} {us = us} i h k) = closes_append (t ∷ ts) us (closes_block k)

  closes_decl : {ts : List Token} {x : Decl} → IsDecl src ts x → Closes ts
  closes_decl (g.plain {t = t} {n = n} {f = f} i j k) = closes_append (t ∷ n ∷ []) (f ∷ []) (closes_one k refl)
  closes_decl (g.initial {t = t} {n = n} {o = o} {m = m} {f = f} i j k l p) = closes_append (t ∷ n ∷ o ∷ m ∷ []) (f ∷ []) (closes_one p refl)
  closes_decl (g.minus {t = t} {n = n} {o = o} {g = h} {m = m} {f = f} i j k l p q) = closes_append (t ∷ n ∷ o ∷ h ∷ m ∷ []) (f ∷ []) (closes_one q refl)
  closes_decl (g.array {t = t} {n = n} {o = o} {m = m} {c = c} {f = f} i j k l p q) = closes_append (t ∷ n ∷ o ∷ m ∷ c ∷ []) (f ∷ []) (closes_one q refl)

  closed_decls : {ts : List Token} {ds : List Decl} → AreDecls src ts ds → current_from [] ts ≡ []
  closed_decls g.none = refl
  closed_decls (g.more {ts = ts} {us = us} h k) = current_append [] ts us ∙ ap (λ l. current_from l us) ((closes_decl h).ends []) ∙ closed_decls k

  module _ (whole : List Token) (limits : KeepsLimits whole) where
    -- the nodes of tokens without a border behind a border
    segment : (pre seg post : List Token) → whole ≡ pre ++ (seg ++ post) → current pre ≡ [] → Inner seg → behind_first seg ≤ 120
    segment pre seg post e cur inner =
        let few = (limits (pre ++ seg) post (e ∙ sym (append_assoc pre seg post))).1 in
        let same : current (pre ++ seg) ≡ seg = current_append [] pre seg ∙ ap (λ l. current_from l seg) cur ∙ inner.run [] in
        let P : List Token → Type 0 = λ l. behind_first l ≤ 120 in
        subst P same few

    mutual
      narrow_stmt : {ts : List Token} {st : Stmt} → IsStmt src ts st → (pre post : List Token) → whole ≡ pre ++ (ts ++ post) → current pre ≡ [] → widest st ≤ 120
      narrow_stmt (g.assign {t = t} {o = o} {c = c} {ts = ts} {x = x} i j h k) pre post e cur =
          let r : whole ≡ pre ++ ((t ∷ o ∷ ts) ++ (c ∷ post)) = e ∙ ap (λ l. pre ++ (t ∷ o ∷ l)) (append_assoc ts (c ∷ []) post) in
          let inner : Inner (t ∷ o ∷ ts) = inner_append {ts = t ∷ []} {us = o ∷ ts} (inner_one i refl) (inner_append {ts = o ∷ []} {us = ts} (inner_one j refl) (inner_expr h)) in
          let few = segment pre (t ∷ o ∷ ts) (c ∷ post) r cur inner in
          let w = widest-assign (g.ident src t) x in
          let l = weigh h in
          omega arith
      narrow_stmt (g.set {t = t} {o = o} {c = c} {m = m} {f = f} {ts = ts} {us = us} {i = v} {x = x} i j h k l p q) pre post e cur =
          let rest : (ts ++ (c ∷ m ∷ (us ++ f ∷ []))) ++ post ≡ (ts ++ (c ∷ m ∷ us)) ++ (f ∷ post) = simp append_assoc in
          let r : whole ≡ pre ++ ((t ∷ o ∷ (ts ++ (c ∷ m ∷ us))) ++ (f ∷ post)) = e ∙ ap (λ w. pre ++ (t ∷ o ∷ w)) rest in
          let back : Inner (c ∷ m ∷ us) = inner_append {ts = c ∷ []} {us = m ∷ us} (inner_one k refl) (inner_append {ts = m ∷ []} {us = us} (inner_one l refl) (inner_expr p)) in
          let inner : Inner (t ∷ o ∷ (ts ++ (c ∷ m ∷ us))) =
          inner_append {ts = t ∷ []} {us = o ∷ (ts ++ (c ∷ m ∷ us))} (inner_one i refl)
          (inner_append {ts = o ∷ []} {us = ts ++ (c ∷ m ∷ us)} (inner_one j refl) (inner_append {ts = ts} {us = c ∷ m ∷ us} (inner_expr h) back))
          in
          let few = segment pre (t ∷ o ∷ (ts ++ (c ∷ m ∷ us))) (f ∷ post) r cur inner in
          let w = widest-set (g.ident src t) v x in
          let a = weigh h in
          let b = weigh p in
          let d = nodes_append ts (c ∷ m ∷ us) in
          omega arith
      narrow_stmt (g.print {t = t} {c = c} {ts = ts} {x = x} i h k) pre post e cur =
          let r : whole ≡ pre ++ ((t ∷ ts) ++ (c ∷ post)) = e ∙ ap (λ l. pre ++ (t ∷ l)) (append_assoc ts (c ∷ []) post) in
          let inner : Inner (t ∷ ts) = inner_append {ts = t ∷ []} {us = ts} (inner_one i refl) (inner_expr h) in
          let few = segment pre (t ∷ ts) (c ∷ post) r cur inner in
          let w = widest-print x in
          let l = weigh h in
          omega arith
      narrow_stmt (g.choose {t = t} {ts = ts} {us = us} {vs = vs} {x = x} {ys = ys} {ns = ns} i h k l) pre post e cur =
          let rest : (ts ++ (us ++ vs)) ++ post ≡ ts ++ (us ++ (vs ++ post)) = simp append_assoc in
          let r : whole ≡ pre ++ ((t ∷ ts) ++ (us ++ (vs ++ post))) = e ∙ ap (λ w. pre ++ (t ∷ w)) rest in
          let inner : Inner (t ∷ ts) = inner_append {ts = t ∷ []} {us = ts} (inner_one i refl) (inner_expr h) in
          let few = segment pre (t ∷ ts) (us ++ (vs ++ post)) r cur inner in
          let yes = narrow_block k (pre ++ (t ∷ ts)) (vs ++ post) (r ∙ sym (append_assoc pre (t ∷ ts) (us ++ (vs ++ post)))) in
          let last : pre ++ ((t ∷ ts) ++ (us ++ (vs ++ post))) ≡ (pre ++ (t ∷ (ts ++ us))) ++ (vs ++ post) = simp append_assoc in
          let no = narrow_else l (pre ++ (t ∷ (ts ++ us))) post (r ∙ last) in
          let w = widest-if x ys ns in
          let d = weigh h in
          omega arith
      narrow_stmt (g.repeat {t = t} {ts = ts} {us = us} {x = x} {body = body} i h k) pre post e cur =
          let rest : (ts ++ us) ++ post ≡ ts ++ (us ++ post) = append_assoc ts us post in
          let r : whole ≡ pre ++ ((t ∷ ts) ++ (us ++ post)) = e ∙ ap (λ w. pre ++ (t ∷ w)) rest in
          let inner : Inner (t ∷ ts) = inner_append {ts = t ∷ []} {us = ts} (inner_one i refl) (inner_expr h) in
          let few = segment pre (t ∷ ts) (us ++ post) r cur inner in
          let yes = narrow_block k (pre ++ (t ∷ ts)) post (r ∙ sym (append_assoc pre (t ∷ ts) (us ++ post))) in
          let w = widest-while x body in
          let d = weigh h in
          omega arith

      narrow_block : {ts : List Token} {b : List Stmt} → IsBlock src ts b → (pre post : List Token) → whole ≡ pre ++ (ts ++ post) → widest_body b ≤ 120
      narrow_block (g.braces {o = o} {c = c} {ts = ts} j h k) pre post e =
          let rest : pre ++ (o ∷ ((ts ++ c ∷ []) ++ post)) ≡ (pre ++ o ∷ []) ++ (ts ++ (c ∷ post)) = simp append_assoc in
          narrow_body h (pre ++ o ∷ []) (c ∷ post) (e ∙ rest) ((closes_append pre (o ∷ []) (closes_one j refl)).ends [])

      narrow_else : {ts : List Token} {b : List Stmt} → IsElse src ts b → (pre post : List Token) → whole ≡ pre ++ (ts ++ post) → widest_body b ≤ 120
      narrow_else g.omitted pre post e = omega arith
      narrow_else (g.otherwise {t = t} {ts = ts} i h) pre post e =
          narrow_block h (pre ++ t ∷ []) post (e ∙ sym (append_assoc pre (t ∷ []) (ts ++ post)))

      narrow_body : {ts : List Token} {b : List Stmt} → IsBody src ts b → (pre post : List Token) → whole ≡ pre ++ (ts ++ post) → current pre ≡ [] → widest_body b ≤ 120
      narrow_body g.none pre post e cur = omega arith
      narrow_body (g.more {ts = ts} {us = us} {st = st} {body = body} h k) pre post e cur =
          let first : whole ≡ pre ++ (ts ++ (us ++ post)) = e ∙ ap (λ l. pre ++ l) (append_assoc ts us post) in
          let a = narrow_stmt h pre (us ++ post) first cur in
          let b = narrow_body k (pre ++ ts) post (first ∙ sym (append_assoc pre ts (us ++ post))) ((closes_append pre ts (closes_stmt h)).ends []) in
          omega arith

  -- a program within the limits has few nodes in each statement
  pub few_nodes : {ts : List Token} {tree : Program} {es : List Entry} {xs : List RStmt} → Derives src ts tree → KeepsLimits ts → NamedBody es tree.body xs → AllFewNodes xs
  few_nodes {ts = ts} {es = es} d limits h =
      let e : ts ≡ d.front ++ (d.back ++ []) = d.split ∙ ap (λ l. d.front ++ l) (sym (append-nil d.back)) in
      few_body es h (narrow_body ts limits d.body d.front [] e (closed_decls d.decls))
