-- The tuples of an expression give its value.
use Rattle.std.proofs.Common.{◌≡◌, ◌<◌, ◌≤◌, ◌+◌, ℕ, ℤ, pos, List, [], ◌∷◌, ◌++◌, length, Some, refl, sym, ap, subst, ◌∙◌, arith, append_assoc, length-append}
use Rattle.std.proofs.lemmas.List.{get_or-set_same, get_or-set_other, length-set}
use Rattle.bm_base.specs.declared.word.Un.{Un}
use Rattle.bm_base.specs.declared.word.Bin.{Bin}
use Rattle.bm_base.specs.Word.{unary_value, binary_value}
use Rattle.bm_base.specs.Memory.{Content, variable, element}
use Rattle.src_names.specs.declared.resolved.RExpr.{RExpr, RExpr-F}
use Rattle.src_names.specs.declared.resolved.RExpr.TheVariants as e
use Rattle.src_meaning.specs.Meaning.{value_of}
use Rattle.src_meaning.proofs.Equations.{value-number, value-var, value-element, value-one, value-two}
use Rattle.tuple_ir.specs.World.{World, cell, with_cell, do_tuple}
use Rattle.tuple_ir.specs.declared.tuple.Tuple as t
use Rattle.tuple_ir.specs.declared.tuple.Tuple.TheVariants as tuple
use Rattle.tuple_lower.specs.Lowered.{last_of, expr_tuples, expr_step}
use Rattle.tuple_lower.proofs.Equations.{tuples-number, tuples-var, tuples-element, tuples-one, tuples-two}
use Rattle.src_names.proofs.ExprInduct.{expr_induct}
use Rattle.tuple_lower.proofs.Serially.{after_all, after_all-append}

-- tuples from number n on leave memory, output and the cells before them as they were, and this value in the cell of the last
pub record Gives (n : ℕ) (ts : List t.Tuple) (before after : World) (v : ℤ) : Type 0 where
  pub some : 0 < length ts
  pub same_memory : after.memory ≡ before.memory
  pub same_output : after.output ≡ before.output
  pub many : length after.cells ≡ 128
  pub kept : (k : ℕ) → k < n → cell after k ≡ cell before k
  pub value : cell after (last_of n ts) ≡ v

one_gives : (n : ℕ) (u : t.Tuple) (w : World) (v : ℤ) → do_tuple n (Some u) w ≡ with_cell w n v → length w.cells ≡ 128 → n < 128 → Gives n (u ∷ []) w (do_tuple n (Some u) w) v
one_gives n u w v is h b =
    let here : Gives n (u ∷ []) w (with_cell w n v) v = record {
      some = omega arith;
      same_memory = refl;
      same_output = refl;
      many = length-set w.cells n v ∙ h;
      kept = λ k l. get_or-set_other w.cells n k v (pos 0) (λ q. omega arith);
      value = let last : last_of n (u ∷ []) ≡ n = omega arith in rw last (get_or-set_same w.cells n v (pos 0) (omega arith));
    } in
    subst (λ x. Gives n (u ∷ []) w x v) (sym is) here

-- tuples one behind the other
both_give : (n : ℕ) (us vs : List t.Tuple) (w x y : World) (a b : ℤ) → Gives n us w x a → Gives (n + length us) vs x y b → Gives n (us ++ vs) w y b
both_give n us vs w x y a b g h = record {
  some = omega (arith, length-append us vs, g.some);
  same_memory = h.same_memory ∙ g.same_memory;
  same_output = h.same_output ∙ g.same_output;
  many = h.many;
  kept = λ k l. h.kept k (omega arith) ∙ g.kept k l;
  value = let last : last_of n (us ++ vs) ≡ last_of (n + length us) vs = omega (arith, length-append us vs, h.some) in rw last h.value;
}

-- one tuple more
then_one : (n : ℕ) (us : List t.Tuple) (u : t.Tuple) (w : World) (a v : ℤ) → Gives n us w (after_all n us w) a → do_tuple (n + length us) (Some u) (after_all n us w) ≡ with_cell (after_all n us w) (n + length us) v → n + length (us ++ u ∷ []) ≤ 128
    → Gives n (us ++ u ∷ []) w (after_all n (us ++ u ∷ []) w) v
then_one n us u w a v g is b =
    let x = after_all n us w in
    let l = length-append us (u ∷ []) in
    let last = one_gives (n + length us) u x v is g.many (omega (arith, l)) in
    let whole = both_give n us (u ∷ []) w x (do_tuple (n + length us) (Some u) x) a v g last in
    subst (λ y. Gives n (us ++ u ∷ []) w y v) (sym (after_all-append n us (u ∷ []) w)) whole

abbrev pub ExprGives : RExpr → Type 0
ExprGives x = (n : ℕ) (w : World) → length w.cells ≡ 128 → n + length (expr_tuples x n) ≤ 128 → Gives n (expr_tuples x n) w (after_all n (expr_tuples x n) w) (value_of x w.memory)

-- the same of tuples and a value
abbrev RowGives : (ℕ → List t.Tuple) → (List Content → ℤ) → Type 0
RowGives f value = (n : ℕ) (w : World) → length w.cells ≡ 128 → n + length (f n) ≤ 128 → Gives n (f n) w (after_all n (f n) w) (value w.memory)

as_row : (x : RExpr) (f : ℕ → List t.Tuple) (value : List Content → ℤ) → expr_tuples x ≡ f → value_of x ≡ value → RowGives f value → ExprGives x
as_row x f value is same g = rw (is, same) g

number_gives : (v : ℤ) → ExprGives (e.Number v)
number_gives v = as_row (e.Number v) (λ n. tuple.Const v ∷ []) (λ m. v) (tuples-number v) (value-number v) (λ n w h b. one_gives n (tuple.Const v) w v refl h (omega arith))

var_gives : (x : ℕ) → ExprGives (e.Var x)
var_gives x = as_row (e.Var x) (λ n. tuple.Load x ∷ []) (λ m. variable m x) (tuples-var x) (value-var x) (λ n w h b. one_gives n (tuple.Load x) w (variable w.memory x) refl h (omega arith))

element_gives : (x : ℕ) (i : RExpr) → ExprGives i → ExprGives (e.Element x i)
element_gives x i g = as_row (e.Element x i) (λ n. expr_tuples i n ++ tuple.LoadEl x (last_of n (expr_tuples i n)) ∷ []) (λ m. element m x (value_of i m)) (tuples-element x i) (value-element x i)
    (λ n w h b.
    let us = expr_tuples i n in
    let k = g n w h (omega (arith, length-append us (tuple.LoadEl x (last_of n us) ∷ []))) in
    let here = ap (λ m. element m x (cell (after_all n us w) (last_of n us))) k.same_memory ∙ ap (element w.memory x) k.value in
    then_one n us (tuple.LoadEl x (last_of n us)) w (value_of i w.memory) (element w.memory x (value_of i w.memory)) k (ap (with_cell (after_all n us w) (n + length us)) here) b)

one_operand_gives : (op : Un) (a : RExpr) → ExprGives a → ExprGives (e.One op a)
one_operand_gives op a g = as_row (e.One op a) (λ n. expr_tuples a n ++ tuple.One op (last_of n (expr_tuples a n)) ∷ []) (λ m. unary_value op (value_of a m)) (tuples-one op a) (value-one op a)
    (λ n w h b.
    let us = expr_tuples a n in
    let k = g n w h (omega (arith, length-append us (tuple.One op (last_of n us) ∷ []))) in
    then_one n us (tuple.One op (last_of n us)) w (value_of a w.memory) (unary_value op (value_of a w.memory)) k (ap (λ y. with_cell (after_all n us w) (n + length us) (unary_value op y)) k.value) b)

two_give : (op : Bin) (a b : RExpr) (n : ℕ) (w : World) → ExprGives a → ExprGives b → length w.cells ≡ 128 → (us vs : List t.Tuple) → us ≡ expr_tuples a n → vs ≡ expr_tuples b (n + length us)
    → n + length (us ++ (vs ++ tuple.Two op (last_of n us) (last_of (n + length us) vs) ∷ [])) ≤ 128
    → Gives n (us ++ (vs ++ tuple.Two op (last_of n us) (last_of (n + length us) vs) ∷ [])) w (after_all n (us ++ (vs ++ tuple.Two op (last_of n us) (last_of (n + length us) vs) ∷ [])) w) (binary_value op (value_of a w.memory) (value_of b w.memory))
two_give op a b n w g h c us vs is same fits =
    let u = tuple.Two op (last_of n us) (last_of (n + length us) vs) in
    let l1 = length-append us (vs ++ u ∷ []) in
    let l2 = length-append vs (u ∷ []) in
    let l3 = length-append us vs in
    let l4 = length-append (us ++ vs) (u ∷ []) in
    let x = after_all n us w in
    let y = after_all (n + length us) vs x in
    let room : n + length us ≤ 128 = omega (arith, l1) in
    let more_room : n + length us + length vs ≤ 128 = omega (arith, l1, l2) in
    let first : Gives n us w x (value_of a w.memory) = subst (λ ts. Gives n ts w (after_all n ts w) (value_of a w.memory)) (sym is) (g n w c (subst (λ ts. n + length ts ≤ 128) is room)) in
    let second : Gives (n + length us) vs x y (value_of b x.memory) =
    subst (λ ts. Gives (n + length us) ts x (after_all (n + length us) ts x) (value_of b x.memory)) (sym same) (h (n + length us) x first.many (subst (λ ts. n + length us + length ts ≤ 128) same more_room)) in
    let pair = both_give n us vs w x y (value_of a w.memory) (value_of b x.memory) first second in
    let row = after_all-append n us vs w in
    let pair_here : Gives n (us ++ vs) w (after_all n (us ++ vs) w) (value_of b x.memory) = subst (λ z. Gives n (us ++ vs) w z (value_of b x.memory)) (sym row) pair in
    let left : cell y (last_of n us) ≡ value_of a w.memory = second.kept (last_of n us) (omega (arith, first.some)) ∙ first.value in
    let right : cell y (last_of (n + length us) vs) ≡ value_of b w.memory = second.value ∙ ap (value_of b) first.same_memory in
    let place : n + length (us ++ vs) ≤ 128 = omega (arith, l1, l2, l3) in
    let does : do_tuple (n + length (us ++ vs)) (Some u) (after_all n (us ++ vs) w) ≡ with_cell (after_all n (us ++ vs) w) (n + length (us ++ vs)) (binary_value op (value_of a w.memory) (value_of b w.memory)) =
    rw row (ap (λ z. with_cell y (n + length (us ++ vs)) (binary_value op z (cell y (last_of (n + length us) vs)))) left ∙ ap (λ z. with_cell y (n + length (us ++ vs)) (binary_value op (value_of a w.memory) z)) right) in
    let whole = then_one n (us ++ vs) u w (value_of b x.memory) (binary_value op (value_of a w.memory) (value_of b w.memory)) pair_here does (omega (arith, l1, l2, l3, l4)) in
    subst (λ ts. Gives n ts w (after_all n ts w) (binary_value op (value_of a w.memory) (value_of b w.memory))) (append_assoc us vs (u ∷ [])) whole

two_operands_give : (op : Bin) (a b : RExpr) → ExprGives a → ExprGives b → ExprGives (e.Two op a b)
two_operands_give op a b g h = as_row (e.Two op a b) (expr_step (RExpr-F.Two op (expr_tuples a) (expr_tuples b))) (λ m. binary_value op (value_of a m) (value_of b m)) (tuples-two op a b) (value-two op a b)
    (λ n w c fits. two_give op a b n w g h c (expr_tuples a n) (expr_tuples b (n + length (expr_tuples a n))) refl refl fits)

pub expr_gives : (x : RExpr) → ExprGives x
expr_gives x = expr_induct ExprGives (record { number = number_gives; var = var_gives; element = element_gives; one = one_operand_gives; two = two_operands_give }) x
