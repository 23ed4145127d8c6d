-- The tuples of statements without bodies do what the statements mean.
use Rattle.std.proofs.Common.{◌≡◌, ◌≤◌, ◌+◌, ℕ, List, [], ◌∷◌, ◌++◌, length, Some, refl, sym, ap, subst, ◌∙◌, arith, append-nil, length-append}
use Rattle.bm_base.specs.Memory.{set_variable, set_element}
use Rattle.src_names.specs.declared.resolved.RExpr.{RExpr}
use Rattle.src_names.specs.declared.resolved.RStmt.TheVariants as s
use Rattle.src_meaning.specs.declared.evaluate.End.TheVariants.{Done}
use Rattle.src_meaning.specs.Meaning.{Outcome, Action, done, behind, value_of, statement}
use Rattle.src_meaning.proofs.Equations.{statement-assign, statement-set, statement-print}
use Rattle.tuple_ir.specs.World.{World, cell, do_tuple}
use Rattle.tuple_ir.specs.declared.tuple.Tuple as t
use Rattle.tuple_ir.specs.declared.tuple.Tuple.TheVariants as tuple
use Rattle.tuple_lower.specs.Lowered.{last_of, expr_tuples, stmt_tuples}
use Rattle.tuple_lower.proofs.Equations.{tuples-assign, tuples-set, tuples-print}
use Rattle.tuple_lower.proofs.Serially.{after_all, after_all-append}
use Rattle.tuple_lower.proofs.Gives.{expr_gives}

-- the world after is the outcome of what was done in the world before
pub record Does (before after : World) (o : Outcome) : Type 0 where
  pub end : o.end ≡ Done
  pub same_memory : after.memory ≡ o.memory
  pub more_output : after.output ≡ before.output ++ o.output
  pub many : length after.cells ≡ 128

abbrev pub RowDoes : (ℕ → List t.Tuple) → Action → Type 0
RowDoes f a = (n : ℕ) (w : World) (turns : ℕ) → length w.cells ≡ 128 → n + length (f n) ≤ 128 → Does w (after_all n (f n) w) (a turns w.memory)

-- the last tuple, behind those of the value
with_last : (n : ℕ) (us : List t.Tuple) (u : t.Tuple) (w : World) → after_all n (us ++ u ∷ []) w ≡ do_tuple (n + length us) (Some u) (after_all n us w)
with_last n us u w = after_all-append n us (u ∷ []) w

pub assign_row : (x : ℕ) (v : RExpr) → RowDoes (stmt_tuples (s.Assign x v)) (statement (s.Assign x v))
assign_row x v = rw (tuples-assign x v, statement-assign x v) (λ n w turns c b.
    let us = expr_tuples v n in
    let u = tuple.Store x (last_of n us) in
    let g = expr_gives v n w c (omega (arith, length-append us (u ∷ []))) in
    let here : Does w (do_tuple (n + length us) (Some u) (after_all n us w)) (done turns (set_variable w.memory x (value_of v w.memory))) = record {
      end = refl;
      same_memory = ap (λ m. set_variable m x (cell (after_all n us w) (last_of n us))) g.same_memory ∙ ap (set_variable w.memory x) g.value;
      more_output = g.same_output ∙ sym (append-nil w.output);
      many = g.many;
    } in
    subst (λ y. Does w y (done turns (set_variable w.memory x (value_of v w.memory)))) (sym (with_last n us u w)) here)

-- an element takes its value once the tuples of the index and of the value have run
pub set_row : (x : ℕ) (i v : RExpr) → RowDoes (stmt_tuples (s.SetElement x i v)) (statement (s.SetElement x i v))
set_row x i v = rw (tuples-set x i v, statement-set x i v) (λ n w turns c b.
    let us = expr_tuples i n in
    let m = n + length us in
    let vs = expr_tuples v m in
    let u = tuple.StoreEl x (last_of n us) (last_of m vs) in
    let l1 = length-append us (vs ++ u ∷ []) in
    let l2 = length-append vs (u ∷ []) in
    let g = expr_gives i n w c (omega (arith, l1)) in
    let mid = after_all n us w in
    let h = expr_gives v m mid g.many (omega (arith, l1, l2)) in
    let far = after_all m vs mid in
    let index : cell far (last_of n us) ≡ value_of i w.memory = h.kept (last_of n us) (let k = g.some in omega (arith, k)) ∙ g.value in
    let value : cell far (last_of m vs) ≡ value_of v w.memory = h.value ∙ ap (value_of v) g.same_memory in
    let ran : after_all n (us ++ (vs ++ u ∷ [])) w ≡ do_tuple (m + length vs) (Some u) far = after_all-append n us (vs ++ u ∷ []) w ∙ after_all-append m vs (u ∷ []) mid in
    let here : Does w (do_tuple (m + length vs) (Some u) far) (done turns (set_element w.memory x (value_of i w.memory) (value_of v w.memory))) = record {
      end = refl;
      same_memory = ap (λ q. set_element q x (cell far (last_of n us)) (cell far (last_of m vs))) (h.same_memory ∙ g.same_memory) ∙ ap (λ q. set_element w.memory x q (cell far (last_of m vs))) index ∙ ap (set_element w.memory x (value_of i w.memory)) value;
      more_output = h.same_output ∙ g.same_output ∙ sym (append-nil w.output);
      many = h.many;
    } in
    subst (λ y. Does w y (done turns (set_element w.memory x (value_of i w.memory) (value_of v w.memory)))) (sym ran) here)

pub print_row : (v : RExpr) → RowDoes (stmt_tuples (s.Print v)) (statement (s.Print v))
print_row v = rw (tuples-print v, statement-print v) (λ n w turns c b.
    let us = expr_tuples v n in
    let u = tuple.Print (last_of n us) in
    let g = expr_gives v n w c (omega (arith, length-append us (u ∷ []))) in
    let here : Does w (do_tuple (n + length us) (Some u) (after_all n us w)) (behind (value_of v w.memory ∷ []) (done turns w.memory)) = record {
      end = refl;
      same_memory = g.same_memory;
      more_output = ap (λ l. l ++ cell (after_all n us w) (last_of n us) ∷ []) g.same_output ∙ ap (λ y. w.output ++ y ∷ []) g.value;
      many = g.many;
    } in
    subst (λ y. Does w y (behind (value_of v w.memory ∷ []) (done turns w.memory))) (sym (with_last n us u w)) here)
