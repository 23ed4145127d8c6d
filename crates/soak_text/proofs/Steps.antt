-- Expressions and items, a step at a time.
use Rattle.std.proofs.Common.{◌≡◌, ◌≢◌, ℕ, suc, ◌+◌, ◌-◌, List, [], ◌++◌, nat_lt, nat_eq, refl, ap, ◌∙◌, if◌then◌else◌, arith}
use Rattle.src_tree.specs.declared.tree.Expr.{Expr}
use Rattle.src_tree.specs.declared.tree.Stmt.{Stmt}
use Rattle.soak_text.specs.Draws.{Draw, below}
use Rattle.soak_text.specs.Generator.{expr, leaf, unary, binary, item, one, plain, choose, repeat, l, several}

pub expr_none : (m s k t : ℕ) → m ≡ 0 → below 3 s ≡ (k, t) → expr m s ≡ leaf k t
unfolding expr
expr_none m s k t h d = rw h (ap (λ (p : ℕ × ℕ). leaf p.0 p.1) d)

abbrev pub expr_of : ℕ → ℕ → Draw Expr
expr_of n k = if nat_lt k 3 then leaf k else (if nat_eq k 3 then unary (expr n) else binary (expr n))

expr_suc : (n s : ℕ) → expr (suc n) s ≡ expr_of n (below 6 s).0 (below 6 s).1
unfolding expr
expr_suc n s = refl

pub expr_more : (m s k t : ℕ) → m ≢ 0 → below 6 s ≡ (k, t) → expr m s ≡ expr_of (m - 1) k t
expr_more m s k t h d =
    let n : m ≡ suc (m - 1) = omega (arith, h) in
    ap (λ (i : ℕ). expr i s) n ∙ expr_suc (m - 1) s ∙ ap (λ (p : ℕ × ℕ). expr_of (m - 1) p.0 p.1) d

pub item_none : (m s k t : ℕ) → m ≡ 0 → below 8 s ≡ (k, t) → item m s ≡ one (plain k) t
unfolding item
item_none m s k t h d = rw h (ap (λ (p : ℕ × ℕ). one (plain p.0) p.1) d)

abbrev pub item_of : ℕ → ℕ → Draw (List Stmt)
item_of n k = if nat_lt k 8 then one (plain k) else (if nat_eq k 8 then one (choose (item n)) else repeat (l (1 - n)) (item n))

item_suc : (n s : ℕ) → item (suc n) s ≡ item_of n (below 10 s).0 (below 10 s).1
unfolding item
item_suc n s = refl

pub item_more : (m s k t : ℕ) → m ≢ 0 → below 10 s ≡ (k, t) → item m s ≡ item_of (m - 1) k t
item_more m s k t h d =
    let n : m ≡ suc (m - 1) = omega (arith, h) in
    ap (λ (i : ℕ). item i s) n ∙ item_suc (m - 1) s ∙ ap (λ (p : ℕ × ℕ). item_of (m - 1) p.0 p.1) d

pub several_none : (a : Draw (List Stmt)) (s : ℕ) → several 0 a s ≡ ([], s)
unfolding several
several_none a s = refl

pub several_more : (n : ℕ) (a : Draw (List Stmt)) (s t u : ℕ) (xs ys : List Stmt) → several n a s ≡ (xs, t) → a t ≡ (ys, u) → several (n + 1) a s ≡ (xs ++ ys, u)
unfolding several
several_more n a s t u xs ys h k =
    let e : n + 1 ≡ suc n = omega arith in
    rw e (ap (λ (p : List Stmt × ℕ). (p.0 ++ (a p.1).0, (a p.1).1)) h ∙ ap (λ (p : List Stmt × ℕ). (xs ++ p.0, p.1)) k)
