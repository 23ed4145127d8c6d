-- How many tuples and blocks a statement has.
use Rattle.std.proofs.Common.{◌≡◌, ◌<◌, ◌≤◌, ◌+◌, ℕ, ℤ, List, [], ◌∷◌, ◌++◌, length, refl, sym, ap, subst, ◌∙◌, arith, length-append}
use Rattle.bm_base.specs.declared.word.Un.{Un}
use Rattle.bm_base.specs.declared.word.Bin.{Bin}
use Rattle.src_names.specs.declared.resolved.RExpr.{RExpr}
use Rattle.src_names.specs.declared.resolved.RExpr.TheFolds.{fold-roll-RExpr}
use Rattle.src_names.specs.declared.resolved.RExpr.TheVariants as e
use Rattle.src_names.specs.declared.resolved.RStmt.{RStmt, RStmt-F, out-RStmt}
use Rattle.src_names.specs.declared.resolved.RStmt.TheFolds.{fold-roll-RStmt}
use Rattle.src_names.specs.declared.resolved.RStmt.TheVariants as s
use Rattle.src_names.specs.Sizes.{nodes, nodes_step, count_of, count_step, statements, FewNodes, AllFewNodes}
use Rattle.src_names.specs.Sizes as z
use Rattle.tuple_ir.specs.declared.tuple.Tuple as t
use Rattle.tuple_ir.specs.declared.tuple.Tuple.TheVariants as tuple
use Rattle.tuple_lower.specs.Lowered.{last_of, expr_tuples}
use Rattle.tuple_lower.proofs.Equations.{tuples-number, tuples-var, tuples-element, tuples-one, tuples-two}
use Rattle.src_names.proofs.ExprInduct.{expr_induct}

pub nodes-number : (v : ℤ) → nodes (e.Number v) ≡ 1
unfolding nodes
nodes-number v = ap nodes (sym (e.rolls-Number v)) ∙ fold-roll-RExpr ℕ nodes_step _

pub nodes-var : (x : ℕ) → nodes (e.Var x) ≡ 1
unfolding nodes
nodes-var x = ap nodes (sym (e.rolls-Var x)) ∙ fold-roll-RExpr ℕ nodes_step _

pub nodes-element : (x : ℕ) (i : RExpr) → nodes (e.Element x i) ≡ 1 + nodes i
unfolding nodes
nodes-element x i = ap nodes (sym (e.rolls-Element x i)) ∙ fold-roll-RExpr ℕ nodes_step _

pub nodes-one : (op : Un) (a : RExpr) → nodes (e.One op a) ≡ 1 + nodes a
unfolding nodes
nodes-one op a = ap nodes (sym (e.rolls-One op a)) ∙ fold-roll-RExpr ℕ nodes_step _

pub nodes-two : (op : Bin) (a b : RExpr) → nodes (e.Two op a b) ≡ 1 + (nodes a + nodes b)
unfolding nodes
nodes-two op a b = ap nodes (sym (e.rolls-Two op a b)) ∙ fold-roll-RExpr ℕ nodes_step _

pub ruleset sizes = (nodes-number, nodes-var, nodes-element, nodes-one, nodes-two)

-- ---- an expression has as many tuples as nodes

abbrev RowLength : RExpr → Type 0
RowLength x = (n : ℕ) → length (expr_tuples x n) ≡ nodes x

two_length : (us vs : List t.Tuple) (u : t.Tuple) (a b : ℕ) → length us ≡ a → length vs ≡ b → length (us ++ (vs ++ u ∷ [])) ≡ 1 + (a + b)
two_length us vs u a b p q = let l1 = length-append us (vs ++ u ∷ []) in let l2 = length-append vs (u ∷ []) in omega (arith, l1, l2, p, q)

one_length : (us : List t.Tuple) (u : t.Tuple) (a : ℕ) → length us ≡ a → length (us ++ u ∷ []) ≡ 1 + a
one_length us u a p = let l1 = length-append us (u ∷ []) in omega (arith, l1, p)

pub row_length : (x : RExpr) → RowLength x
row_length x = expr_induct RowLength (record {
  number = λ v n. rw (tuples-number v, nodes-number v) refl;
  var = λ y n. rw (tuples-var y, nodes-var y) refl;
  element = λ y i h n. rw (tuples-element y i, nodes-element y i) (one_length (expr_tuples i n) (tuple.LoadEl y (last_of n (expr_tuples i n))) (nodes i) (h n));
  one = λ op a h n. rw (tuples-one op a, nodes-one op a) (one_length (expr_tuples a n) (tuple.One op (last_of n (expr_tuples a n))) (nodes a) (h n));
  two = λ op a b h k n. rw (tuples-two op a b, nodes-two op a b)
      (two_length (expr_tuples a n) (expr_tuples b (n + length (expr_tuples a n))) (tuple.Two op (last_of n (expr_tuples a n)) (last_of (n + length (expr_tuples a n)) (expr_tuples b (n + length (expr_tuples a n))))) (nodes a) (nodes b) (h n) (k (n + length (expr_tuples a n))));
}) x

abbrev IsPositive : RExpr → Type 0
IsPositive x = 0 < nodes x

pub some_nodes : (x : RExpr) → 0 < nodes x
some_nodes x = expr_induct IsPositive (record {
  number = λ v. rw (nodes-number v) (omega arith);
  var = λ y. rw (nodes-var y) (omega arith);
  element = λ y i h. rw (nodes-element y i) (omega arith);
  one = λ op a h. rw (nodes-one op a) (omega arith);
  two = λ op a b h k. rw (nodes-two op a b) (omega arith);
}) x

-- ---- statements, counted

pub count-assign : (x : ℕ) (v : RExpr) → count_of (s.Assign x v) ≡ 1
unfolding count_of
count-assign x v = ap count_of (sym (s.rolls-Assign x v)) ∙ fold-roll-RStmt ℕ count_step _

pub count-set : (x : ℕ) (i v : RExpr) → count_of (s.SetElement x i v) ≡ 1
unfolding count_of
count-set x i v = ap count_of (sym (s.rolls-SetElement x i v)) ∙ fold-roll-RStmt ℕ count_step _

pub count-print : (v : RExpr) → count_of (s.Print v) ≡ 1
unfolding count_of
count-print v = ap count_of (sym (s.rolls-Print v)) ∙ fold-roll-RStmt ℕ count_step _

pub count-if : (c : RExpr) (ones others : List RStmt) → count_of (s.If c ones others) ≡ 1 + (statements ones + statements others)
unfolding count_of
count-if c ones others = ap count_of (sym (s.rolls-If c ones others)) ∙ fold-roll-RStmt ℕ count_step _

pub count-while : (c : RExpr) (body : List RStmt) → count_of (s.While c body) ≡ 1 + statements body
unfolding count_of
count-while c body = ap count_of (sym (s.rolls-While c body)) ∙ fold-roll-RStmt ℕ count_step _

-- ---- what few nodes say of each kind of statement

abbrev pub FewLayer : RStmt-F RStmt → Type 0
FewLayer (RStmt-F.Assign x v) = nodes v ≤ 120
FewLayer (RStmt-F.SetElement x i v) = nodes i + nodes v ≤ 120
FewLayer (RStmt-F.Print v) = nodes v ≤ 120
FewLayer (RStmt-F.If c ys ns) = (nodes c ≤ 120) × AllFewNodes ys × AllFewNodes ns
FewLayer (RStmt-F.While c ys) = (nodes c ≤ 120) × AllFewNodes ys

few_layer : {z : RStmt} → FewNodes z → FewLayer (out-RStmt z)
few_layer (z.assign {id = x} {x = v} h) = rw (s.outs-Assign x v) h
few_layer (z.set {id = x} {i = i} {x = v} h) = rw (s.outs-SetElement x i v) h
few_layer (z.print {x = v} h) = rw (s.outs-Print v) h
few_layer (z.choose {x = c} {ys = ys} {ns = ns} h k l) = rw (s.outs-If c ys ns) (h, k, l)
few_layer (z.repeat {x = c} {ys = ys} h k) = rw (s.outs-While c ys) (h, k)

few_layer_of : (z w : RStmt) (y : RStmt-F RStmt) → z ≡ w → out-RStmt w ≡ y → FewNodes z → FewLayer y
few_layer_of z w y is o h = subst FewLayer (ap out-RStmt is ∙ o) (few_layer h)

pub few-assign : (z : RStmt) (x : ℕ) (v : RExpr) → z ≡ s.Assign x v → FewNodes z → nodes v ≤ 120
few-assign z x v is h = few_layer_of z (s.Assign x v) (RStmt-F.Assign x v) is (s.outs-Assign x v) h

pub few-set : (z : RStmt) (x : ℕ) (i v : RExpr) → z ≡ s.SetElement x i v → FewNodes z → nodes i + nodes v ≤ 120
few-set z x i v is h = few_layer_of z (s.SetElement x i v) (RStmt-F.SetElement x i v) is (s.outs-SetElement x i v) h

pub few-print : (z : RStmt) (v : RExpr) → z ≡ s.Print v → FewNodes z → nodes v ≤ 120
few-print z v is h = few_layer_of z (s.Print v) (RStmt-F.Print v) is (s.outs-Print v) h

pub few-if : (z : RStmt) (c : RExpr) (ys ns : List RStmt) → z ≡ s.If c ys ns → FewNodes z → (nodes c ≤ 120) × AllFewNodes ys × AllFewNodes ns
few-if z c ys ns is h = few_layer_of z (s.If c ys ns) (RStmt-F.If c ys ns) is (s.outs-If c ys ns) h

pub few-while : (z : RStmt) (c : RExpr) (ys : List RStmt) → z ≡ s.While c ys → FewNodes z → (nodes c ≤ 120) × AllFewNodes ys
few-while z c ys is h = few_layer_of z (s.While c ys) (RStmt-F.While c ys) is (s.outs-While c ys) h

abbrev AllFewLayer : List RStmt → Type 0
AllFewLayer [] = Unit {0}
AllFewLayer (z ∷ zs) = FewNodes z × AllFewNodes zs

all_few_layer : {zs : List RStmt} → AllFewNodes zs → AllFewLayer zs
all_few_layer z.none = tt
all_few_layer (z.more h k) = (h, k)

pub few-first : (zs : List RStmt) (z : RStmt) (rest : List RStmt) → zs ≡ z ∷ rest → AllFewNodes zs → FewNodes z × AllFewNodes rest
few-first zs z rest is h = subst AllFewLayer is (all_few_layer h)
