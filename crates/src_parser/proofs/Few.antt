-- A program has no more statements than tokens.
use Rattle.std.proofs.Common.{◌≡◌, ℕ, ◌+◌, ◌≤◌, List, [], ◌∷◌, ◌++◌, length, ap, sym, ◌∙◌, arith}
use Rattle.std.proofs.lemmas.List.{length-append}
use Rattle.src_lexer.specs.declared.token.Token.{Token}
use Rattle.src_tree.specs.declared.tree.Ident.{Ident}
use Rattle.src_tree.specs.declared.tree.Expr.{Expr}
use Rattle.src_tree.specs.declared.tree.Stmt.{Stmt}
use Rattle.src_tree.specs.declared.tree.Stmt.TheFolds.{fold-roll-Stmt}
use Rattle.src_tree.specs.declared.tree.Stmt.TheVariants as s
use Rattle.src_tree.specs.declared.tree.Program.{Program}
use Rattle.src_tree.specs.Grammar.{ident, IsStmt, assign, set, print, choose, repeat, IsBlock, braces, IsElse, omitted, otherwise, IsBody, none, more, Derives}
use Rattle.src_parser.specs.Statements.{count_of, count_step, statements}

count-assign : (n : Ident) (x : Expr) → count_of (s.Assign n x) ≡ 1
unfolding count_of
count-assign n x = ap count_of (sym (s.rolls-Assign n x)) ∙ fold-roll-Stmt ℕ count_step _

count-set : (n : Ident) (i x : Expr) → count_of (s.SetElement n i x) ≡ 1
unfolding count_of
count-set n i x = ap count_of (sym (s.rolls-SetElement n i x)) ∙ fold-roll-Stmt ℕ count_step _

count-print : (x : Expr) → count_of (s.Print x) ≡ 1
unfolding count_of
count-print x = ap count_of (sym (s.rolls-Print x)) ∙ fold-roll-Stmt ℕ count_step _

count-if : (c : Expr) (ys ns : List Stmt) → count_of (s.If c ys ns) ≡ 1 + (statements ys + statements ns)
unfolding count_of
count-if c ys ns = ap count_of (sym (s.rolls-If c ys ns)) ∙ fold-roll-Stmt ℕ count_step _

count-while : (c : Expr) (ss : List Stmt) → count_of (s.While c ss) ≡ 1 + statements ss
unfolding count_of
count-while c ss = ap count_of (sym (s.rolls-While c ss)) ∙ fold-roll-Stmt ℕ count_step _

module _ (src : List ℕ) where
  mutual
    stmt_few : {ts : List Token} {x : Stmt} → IsStmt src ts x → count_of x ≤ length ts
    stmt_few (assign {t = t} {x = v} h k x f) = omega (arith, count-assign (ident src t) v)
    stmt_few (set {t = t} {i = i} {x = x} h k ix cl eq v se) = omega (arith, count-set (ident src t) i x)
    stmt_few (print {x = v} h x f) = omega (arith, count-print v)
    stmt_few (choose {ts = ts} {us = us} {vs = vs} {x = x} {ys = ys} {ns = ns} h c y n) =
        let a = block_few y in let b = else_few n in
        omega (arith, count-if x ys ns, a, b, length-append ts (us ++ vs), length-append us vs)
    stmt_few (repeat {ts = ts} {us = us} {x = x} {body = ss} h c b) =
        let a = block_few b in omega (arith, count-while x ss, a, length-append ts us)

    block_few : {ts : List Token} {ss : List Stmt} → IsBlock src ts ss → statements ss ≤ length ts
    block_few (braces {c = c} {ts = ts} o b d) = let a = body_few b in omega (arith, a, length-append ts (c ∷ []))

    else_few : {ts : List Token} {ss : List Stmt} → IsElse src ts ss → statements ss ≤ length ts
    else_few omitted = omega arith
    else_few (otherwise h b) = let a = block_few b in omega (arith, a)

    body_few : {ts : List Token} {ss : List Stmt} → IsBody src ts ss → statements ss ≤ length ts
    body_few none = omega arith
    body_few (more {ts = ts} {us = us} f r) = let a = stmt_few f in let b = body_few r in omega (arith, a, b, length-append ts us)

  pub few : (ts : List Token) (p : Program) → Derives src ts p → statements p.body ≤ length ts
  few ts p d = let a = body_few d.body in omega (arith, a, length-append d.front d.back, ap (λ (z : List Token). length z) d.split)
