-- The code that puts tuples behind those of the current block.
use Rattle.std.proofs.Common.{◌≡◌, ◌+◌, ℕ, ℤ, [], ◌∷◌, ◌++◌, length, Result, Ok, Err, OnOk, sym, ap, ◌∙◌, arith, append_assoc, length-append}
use Rattle.bm_base.specs.declared.word.Un.{Un}
use Rattle.bm_base.specs.declared.word.Bin.{Bin}
use Rattle.src_names.specs.declared.resolved.RExpr.{RExpr}
use Rattle.src_names.specs.declared.resolved.RExpr.TheVariants as e
use Rattle.src_names.specs.Sizes.{nodes}
use Rattle.tuple_ir.specs.declared.tuple.Tuple as t
use Rattle.tuple_ir.specs.declared.tuple.Tuple.TheVariants as tuple
use Rattle.tuple_lower.specs.Lowered.{Row, last_of, expr_tuples}
use Rattle.tuple_lower.specs.Blocks.{Piece, with_row}
use Rattle.tuple_lower.proofs.Equations.{tuples-number, tuples-var, tuples-element, tuples-one, tuples-two}
use Rattle.tuple_lower.proofs.Sizes.{nodes-element, nodes-one, nodes-two, row_length}

-- ---- nodes of operands

pub index_nodes : (x : RExpr) (y : ℕ) (i j : RExpr) → x ≡ e.Element y i → j ≡ i → nodes x ≡ 1 + nodes j
index_nodes x y i j is same = ap nodes is ∙ nodes-element y i ∙ ap (λ z. 1 + nodes z) (sym same)

pub operand_nodes : (x : RExpr) (op : Un) (a j : RExpr) → x ≡ e.One op a → j ≡ a → nodes x ≡ 1 + nodes j
operand_nodes x op a j is same = ap nodes is ∙ nodes-one op a ∙ ap (λ z. 1 + nodes z) (sym same)

pub operands_nodes : (x : RExpr) (op : Bin) (a b i j : RExpr) → x ≡ e.Two op a b → i ≡ a → j ≡ b → nodes x ≡ 1 + (nodes i + nodes j)
operands_nodes x op a b i j is left right = ap nodes is ∙ nodes-two op a b ∙ ap (λ z. 1 + (nodes z + nodes b)) (sym left) ∙ ap (λ z. 1 + (nodes i + nodes z)) (sym right)

-- the tuples behind which an expression's were put
pub row_room : (x : RExpr) (d m : Piece) → m ≡ with_row (expr_tuples x) d → length m.current ≡ length d.current + nodes x
row_room x d m is = let n = length d.current in ap (λ p. length p.current) is ∙ length-append d.current (expr_tuples x n) ∙ ap (λ k. n + k) (row_length x n)

-- ---- what stands once the last tuple is put

abbrev pub pushed : Piece → t.Tuple → Piece
pushed d u = record { ended = d.ended; current = d.current ++ u ∷ [] }

pub on_ok : {T E : Type 0} (answer : Result T E) (d2 p q : Piece) → p ≡ q → OnOk answer (d2 ≡ p) → OnOk answer (d2 ≡ q)
on_ok (Ok c) d2 p q same h = h ∙ same
on_ok (Err f) d2 p q same h = tt

pub number_row : {T E : Type 0} (x : RExpr) (v w : ℤ) (d d2 : Piece) (answer : Result T E) → x ≡ e.Number v → w ≡ v → OnOk answer (d2 ≡ pushed d (tuple.Const w)) → OnOk answer (d2 ≡ with_row (expr_tuples x) d)
number_row x v w d d2 answer is same h =
    let n = length d.current in
    let row : tuple.Const w ∷ [] ≡ expr_tuples x n = ap (λ k. tuple.Const k ∷ []) same ∙ sym (ap (λ y. expr_tuples y n) is ∙ ap (λ f. f n) (tuples-number v)) in
    on_ok answer d2 (pushed d (tuple.Const w)) (with_row (expr_tuples x) d) (ap (λ ts. record { ended = d.ended; current = d.current ++ ts }) row) h

pub var_row : {T E : Type 0} (x : RExpr) (y : ℕ) (d d2 : Piece) (answer : Result T E) → x ≡ e.Var y → OnOk answer (d2 ≡ pushed d (tuple.Load y)) → OnOk answer (d2 ≡ with_row (expr_tuples x) d)
var_row x y d d2 answer is h =
    let n = length d.current in
    let row : tuple.Load y ∷ [] ≡ expr_tuples x n = sym (ap (λ z. expr_tuples z n) is ∙ ap (λ f. f n) (tuples-var y)) in
    on_ok answer d2 (pushed d (tuple.Load y)) (with_row (expr_tuples x) d) (ap (λ ts. record { ended = d.ended; current = d.current ++ ts }) row) h

-- a tuple behind one operand's, which uses its value
pub one_then : (r row : Row) (u : ℕ → t.Tuple) (d m : Piece) (l : ℕ) → ((n : ℕ) → row n ≡ r n ++ u (last_of n (r n)) ∷ []) → m ≡ with_row r d → l + 1 ≡ length m.current → pushed m (u l) ≡ with_row row d
one_then r row u d m l rows is last =
    let n = length d.current in
    let count : length m.current ≡ n + length (r n) = ap (λ p. length p.current) is ∙ length-append d.current (r n) in
    let at : l ≡ last_of n (r n) = omega (arith, last, count) in
    let tuples : (d.current ++ r n) ++ u l ∷ [] ≡ d.current ++ row n = append_assoc d.current (r n) (u l ∷ []) ∙ ap (λ k. d.current ++ (r n ++ u k ∷ [])) at ∙ ap (λ ts. d.current ++ ts) (sym (rows n)) in
    ap (λ p. pushed p (u l)) is ∙ ap (λ ts. record { ended = d.ended; current = ts }) tuples

pub element_row : {T E : Type 0} (x : RExpr) (y : ℕ) (i j : RExpr) (d m d2 : Piece) (l : ℕ) (answer : Result T E) → x ≡ e.Element y i → j ≡ i → m ≡ with_row (expr_tuples j) d → l + 1 ≡ length m.current → OnOk answer (d2 ≡ pushed m (tuple.LoadEl y l)) → OnOk answer (d2 ≡ with_row (expr_tuples x) d)
element_row x y i j d m d2 l answer is same first last h =
    on_ok answer d2 (pushed m (tuple.LoadEl y l)) (with_row (expr_tuples x) d)
    (one_then (expr_tuples j) (expr_tuples x) (tuple.LoadEl y) d m l (λ n. ap (λ z. expr_tuples z n) is ∙ ap (λ z. expr_tuples (e.Element y z) n) (sym same) ∙ ap (λ f. f n) (tuples-element y j)) first last) h

pub one_row : {T E : Type 0} (x : RExpr) (op : Un) (a j : RExpr) (d m d2 : Piece) (l : ℕ) (answer : Result T E) → x ≡ e.One op a → j ≡ a → m ≡ with_row (expr_tuples j) d → l + 1 ≡ length m.current → OnOk answer (d2 ≡ pushed m (tuple.One op l)) → OnOk answer (d2 ≡ with_row (expr_tuples x) d)
one_row x op a j d m d2 l answer is same first last h =
    on_ok answer d2 (pushed m (tuple.One op l)) (with_row (expr_tuples x) d)
    (one_then (expr_tuples j) (expr_tuples x) (tuple.One op) d m l (λ n. ap (λ z. expr_tuples z n) is ∙ ap (λ z. expr_tuples (e.One op z) n) (sym same) ∙ ap (λ f. f n) (tuples-one op j)) first last) h

-- a tuple behind two operands', which uses both values
pub two_then : (r q row : Row) (u : ℕ → ℕ → t.Tuple) (d m f : Piece) (k l : ℕ) → ((n : ℕ) → row n ≡ r n ++ (q (n + length (r n)) ++ u (last_of n (r n)) (last_of (n + length (r n)) (q (n + length (r n)))) ∷ []))
    → m ≡ with_row r d → k + 1 ≡ length m.current → f ≡ with_row q m → l + 1 ≡ length f.current → pushed f (u k l) ≡ with_row row d
two_then r q row u d m f k l rows is last is2 last2 =
    let n = length d.current in
    let us = r n in
    let j = n + length us in
    let vs = q j in
    let count : length m.current ≡ j = ap (λ p. length p.current) is ∙ length-append d.current us in
    let f_is : f ≡ record { ended = d.ended; current = (d.current ++ us) ++ vs } =
    is2 ∙ ap (λ p. record { ended = p.ended; current = p.current ++ q (length m.current) }) is ∙ ap (λ i. record { ended = d.ended; current = (d.current ++ us) ++ q i }) count in
    let count2 : length f.current ≡ j + length vs = let l1 = length-append (d.current ++ us) vs in let l2 = length-append d.current us in ap (λ p. length p.current) f_is ∙ omega (arith, l1, l2) in
    let at1 : k ≡ last_of n us = omega (arith, last, count) in
    let at2 : l ≡ last_of j vs = omega (arith, last2, count2) in
    let tuples : ((d.current ++ us) ++ vs) ++ u k l ∷ [] ≡ d.current ++ row n =
    append_assoc (d.current ++ us) vs (u k l ∷ []) ∙ append_assoc d.current us (vs ++ u k l ∷ [])
    ∙ ap (λ i. d.current ++ (us ++ (vs ++ u i l ∷ []))) at1 ∙ ap (λ i. d.current ++ (us ++ (vs ++ u (last_of n us) i ∷ []))) at2 ∙ ap (λ ts. d.current ++ ts) (sym (rows n)) in
    ap (λ p. pushed p (u k l)) f_is ∙ ap (λ ts. record { ended = d.ended; current = ts }) tuples

pub two_row : {T E : Type 0} (x : RExpr) (op : Bin) (a b i j : RExpr) (d m f d2 : Piece) (k l : ℕ) (answer : Result T E) → x ≡ e.Two op a b → i ≡ a → j ≡ b → m ≡ with_row (expr_tuples i) d → k + 1 ≡ length m.current → f ≡ with_row (expr_tuples j) m → l + 1 ≡ length f.current
    → OnOk answer (d2 ≡ pushed f (tuple.Two op k l)) → OnOk answer (d2 ≡ with_row (expr_tuples x) d)
two_row x op a b i j d m f d2 k l answer is left right first last second last2 h =
    on_ok answer d2 (pushed f (tuple.Two op k l)) (with_row (expr_tuples x) d)
    (two_then (expr_tuples i) (expr_tuples j) (expr_tuples x) (tuple.Two op) d m f k l
    (λ n. ap (λ z. expr_tuples z n) is ∙ ap (λ z. expr_tuples (e.Two op z b) n) (sym left) ∙ ap (λ z. expr_tuples (e.Two op i z) n) (sym right) ∙ ap (λ g. g n) (tuples-two op i j)) first last second last2) h
