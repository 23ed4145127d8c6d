-- Which expressions and items are drawn.
use Rattle.std.proofs.Common.{ℕ, zero, suc, ◌+◌, ◌-◌, ◌<◌, ◌≤◌, Bool, true, false, List, [], ◌∷◌, ◌++◌, nat_lt, nat_eq, cond, if◌then◌else◌, arith}
use Rattle.std.proofs.lemmas.Nat.{mod_below}
use Rattle.bm_base.specs.declared.word.Un.{Un}
use Rattle.bm_base.specs.declared.word.Bin.{Bin}
use Rattle.bm_base.specs.declared.word.Bin.TheVariants as bin
use Rattle.src_tree.specs.declared.tree.Expr.{Expr}
use Rattle.src_tree.specs.declared.tree.Expr.TheVariants as e
use Rattle.src_tree.specs.declared.tree.Stmt.{Stmt}
use Rattle.src_tree.specs.declared.tree.Stmt.TheVariants as s
use Rattle.soak_text.specs.Draws.{Draw, below, after}
use Rattle.bm_base.specs.Mixing.{mixed}
use Rattle.soak_text.specs.Generator as g

pub data IsIndex : Expr → Type 0 where
  number : {k : ℕ} → k < 18 → IsIndex (g.number k)
  var : {k : ℕ} → k < 8 → IsIndex (e.Var (g.v k))

pub data IsDrawn : ℕ → Expr → Type 0 where
  number : {n k : ℕ} → k < 100 → IsDrawn n (g.number k)
  var : {n k : ℕ} → k < 8 → IsDrawn n (e.Var (g.v k))
  element : {n k : ℕ} {i : Expr} → k < 2 → IsIndex i → IsDrawn n (e.Element (g.a k) i)
  one : {n : ℕ} {op : Un} {x : Expr} → IsDrawn n x → IsDrawn (suc n) (e.One op x)
  two : {n : ℕ} {op : Bin} {x z : Expr} → IsDrawn n x → IsDrawn n z → IsDrawn (suc n) (e.Two op x z)

abbrev pub test_of : ℕ → ℕ → Expr
test_of k j = e.Two bin.Lt (e.Var (g.l k)) (g.number j)

abbrev pub next_of : ℕ → Stmt
next_of k = s.Assign (g.l k) (e.Two bin.Add (e.Var (g.l k)) (g.number 1))

mutual
  pub data IsItem : ℕ → List Stmt → Type 0 where
    assign : {m k : ℕ} {x : Expr} → k < 8 → IsDrawn 3 x → IsItem m (s.Assign (g.v k) x ∷ [])
    set : {m k : ℕ} {i x : Expr} → k < 2 → IsIndex i → IsDrawn 3 x → IsItem m (s.SetElement (g.a k) i x ∷ [])
    print : {m : ℕ} {x : Expr} → IsDrawn 3 x → IsItem m (s.Print x ∷ [])
    choose : {m j k : ℕ} {c : Expr} {xs ys : List Stmt} → IsDrawn 2 c → j ≤ 3 → AreItems m j xs → k ≤ 3 → AreItems m k ys →
        IsItem (suc m) (s.If c xs ys ∷ [])
    repeat : {m i j k : ℕ} {xs : List Stmt} → k < 2 → j ≤ 4 → i ≤ 3 → AreItems m i xs →
        IsItem (suc m) (s.Assign (g.l k) (g.number 0) ∷ s.While (test_of k j) (xs ++ next_of k ∷ []) ∷ [])

  pub data AreItems : ℕ → ℕ → List Stmt → Type 0 where
    none : {m : ℕ} → AreItems m 0 []
    more : {m n : ℕ} {xs ys : List Stmt} → AreItems m n xs → IsItem m ys → AreItems m (suc n) (xs ++ ys)

-- a draw is below its bound
small : (n s : ℕ) → 0 < n → (below n s).0 < n
small n s h = mod_below (mixed (after s)) n h

-- what each way gives, a test gives
pub by_test : {A : Type 0} (P : A → Type 0) (b : Bool) (x z : A) → P x → P z → P (cond b x z)
by_test P true x z h k = h
by_test P false x z h k = k

-- the draw gives only such things
abbrev Gives : {A : Type 0} → (A → Type 0) → Draw A → Type 0
Gives P m = (s : ℕ) → P (m s).0

gives_index : Gives IsIndex g.index
unfolding g.index
gives_index s = by_test (Gives IsIndex) (nat_eq (below 2 s).0 0) (g.number_below 18) (g.use_of g.variable)
    (λ t. number (small 18 t (omega arith))) (λ t. var (small 8 t (omega arith))) (below 2 s).1

gives_leaf : (n k : ℕ) → Gives (IsDrawn n) (g.leaf k)
unfolding g.leaf
gives_leaf n k = by_test (Gives (IsDrawn n)) (nat_eq k 0) (g.number_below 100) (if nat_eq k 1 then g.use_of g.variable else g.element)
    (λ t. number (small 100 t (omega arith)))
    (by_test (Gives (IsDrawn n)) (nat_eq k 1) (g.use_of g.variable) g.element
    (λ t. var (small 8 t (omega arith)))
    (λ t. element (small 2 t (omega arith)) (gives_index (g.array t).1)))

pub gives_expr : (n : ℕ) → Gives (IsDrawn n) (g.expr n)
unfolding g.expr
gives_expr zero s = gives_leaf 0 (below 3 s).0 (below 3 s).1
gives_expr (suc n) s =
    let k : ℕ = (below 6 s).0 in
    by_test (Gives (IsDrawn (suc n))) (nat_lt k 3) (g.leaf k) (if nat_eq k 3 then g.unary (g.expr n) else g.binary (g.expr n))
    (gives_leaf (suc n) k)
    (by_test (Gives (IsDrawn (suc n))) (nat_eq k 3) (g.unary (g.expr n)) (g.binary (g.expr n))
    (λ t. one (gives_expr n (below 2 t).1))
    (λ t. two (gives_expr n (below 16 t).1) (gives_expr n (g.expr n (below 16 t).1).1)))
    (below 6 s).1

gives_plain : (m k : ℕ) → Gives (IsItem m) (g.one (g.plain k))
unfolding g.plain
gives_plain m k = by_test (λ (d : Draw Stmt). Gives (IsItem m) (g.one d)) (nat_lt k 5) g.assign (if nat_lt k 7 then g.set_element else g.print)
    (λ t. assign (small 8 t (omega arith)) (gives_expr 3 (g.variable t).1))
    (by_test (λ (d : Draw Stmt). Gives (IsItem m) (g.one d)) (nat_lt k 7) g.set_element g.print
    (λ t. set (small 2 t (omega arith)) (gives_index (g.array t).1) (gives_expr 3 (g.index (g.array t).1).1))
    (λ t. print (gives_expr 3 t)))

pub gives_several : (m n : ℕ) (a : Draw (List Stmt)) → Gives (IsItem m) a → Gives (AreItems m n) (g.several n a)
unfolding g.several
gives_several m zero a h s = none
gives_several m (suc n) a h s = more (gives_several m n a h s) (h (g.several n a s).1)

record IsBody (m : ℕ) (xs : List Stmt) : Type 0 where
  count : ℕ
  few : count ≤ 3
  items : AreItems m count xs

gives_body : (m : ℕ) (a : Draw (List Stmt)) → Gives (IsItem m) a → Gives (IsBody m) (g.body a)
gives_body m a h s =
    let k : (below 3 s).0 < 3 = small 3 s (omega arith) in
    record { count = 1 + (below 3 s).0; few = omega (arith, k); items = gives_several m (1 + (below 3 s).0) a h (below 3 s).1 }

gives_choose : (m : ℕ) (a : Draw (List Stmt)) → Gives (IsItem m) a → Gives (IsItem (suc m)) (g.one (g.choose a))
gives_choose m a h s =
    let t : ℕ = (g.expr 2 s).1 in
    let b : IsBody m (g.body a t).0 = gives_body m a h t in
    let d : IsBody m (g.body a (g.body a t).1).0 = gives_body m a h (g.body a t).1 in
    choose (gives_expr 2 s) b.few b.items d.few d.items

gives_repeat : (m k : ℕ) (a : Draw (List Stmt)) → k < 2 → Gives (IsItem m) a → Gives (IsItem (suc m)) (g.repeat (g.l k) a)
gives_repeat m k a small_k h s =
    let j : (below 4 s).0 < 4 = small 4 s (omega arith) in
    let b : IsBody m (g.body a (below 4 s).1).0 = gives_body m a h (below 4 s).1 in
    repeat small_k (omega (arith, j)) b.few b.items

pub gives_item : (m : ℕ) → Gives (IsItem m) (g.item m)
unfolding g.item
gives_item zero s = gives_plain 0 (below 8 s).0 (below 8 s).1
gives_item (suc m) s =
    let k : ℕ = (below 10 s).0 in
    by_test (Gives (IsItem (suc m))) (nat_lt k 8) (g.one (g.plain k)) (if nat_eq k 8 then g.one (g.choose (g.item m)) else g.repeat (g.l (1 - m)) (g.item m))
    (gives_plain (suc m) k)
    (by_test (Gives (IsItem (suc m))) (nat_eq k 8) (g.one (g.choose (g.item m))) (g.repeat (g.l (1 - m)) (g.item m))
    (gives_choose m (g.item m) (gives_item m))
    (gives_repeat m (1 - m) (g.item m) (omega arith) (gives_item m)))
    (below 10 s).1

-- the body of a seed's program
pub body_drawn : (seed statements : ℕ) → AreItems 2 statements (g.generated seed statements).body
body_drawn seed statements = gives_several 2 statements (g.item 2) (gives_item 2) seed
