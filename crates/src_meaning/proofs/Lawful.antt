-- Each statement spends turns, and grows with one turn more.
use Rattle.std.proofs.Common.{◌≡◌, ℕ, zero, suc, ◌≤◌, ◌+◌, ◌-◌, List, [], ◌∷◌, map, refl, sym, subst, arith}
use Rattle.bm_base.specs.Memory.{Content, set_variable, set_element}
use Rattle.src_names.specs.RProgram.{RProgram}
use Rattle.src_names.specs.declared.resolved.RExpr.{RExpr}
use Rattle.src_names.specs.declared.resolved.RStmt.{RStmt, RStmt-F}
use Rattle.src_meaning.specs.declared.evaluate.End.TheVariants.{Done}
use Rattle.src_meaning.specs.Meaning.{Outcome, Action, done, is_zero, value_of, in_order, statement, statement_step, statements, meaning}
use Rattle.src_meaning.specs.Laws.{Prints, IsDoneAs}
use Rattle.src_meaning.proofs.Equations.{statement-assign, statement-set, statement-print, statement-if, statement-while}
use Rattle.src_names.proofs.Induct.{Each, Cases, induct_all, none as each_none, more as each_more}
use Rattle.src_meaning.proofs.Turns.{Spends, AllSpend, spends_in_order, spends_if, spends_loop, none as spend_none, more as spend_more}
use Rattle.src_meaning.proofs.Growing.{GrowsTo, AllGrow, grows-done, grows-behind, grows-if, grows_in_order, grows_while, none as grow_none, more as grow_more}

-- what holds of the action of each statement
pub record IsLawful (a : Action) : Type 0 where
  pub spends : Spends a
  pub grows : GrowsTo a a

abbrev Lawful : RStmt → Type 0
Lawful z = IsLawful (statement z)

pub all_spend : (zs : List RStmt) → Each (λ z. IsLawful (statement z)) zs → AllSpend (map statement zs)
all_spend [] each_none = spend_none
all_spend (z ∷ zs) (each_more h k) = spend_more h.spends (all_spend zs k)

pub all_grow : (zs : List RStmt) → Each (λ z. IsLawful (statement z)) zs → AllGrow (map statement zs)
all_grow [] each_none = grow_none
all_grow (z ∷ zs) (each_more h k) = grow_more h.grows (all_grow zs k)

pub lawful_body : (zs : List RStmt) → Each (λ z. IsLawful (statement z)) zs → IsLawful (statements zs)
lawful_body zs h = record { spends = spends_in_order (map statement zs) (all_spend zs h); grows = grows_in_order (map statement zs) (all_grow zs h) }

lawful_assign : (x : ℕ) (v : RExpr) → IsLawful (statement_step (RStmt-F.Assign x v))
lawful_assign x v = record { spends = λ n m. omega arith; grows = λ n m. grows-done n (set_variable m x (value_of v m)) }

lawful_set : (x : ℕ) (i v : RExpr) → IsLawful (statement_step (RStmt-F.SetElement x i v))
lawful_set x i v = record { spends = λ n m. omega arith; grows = λ n m. grows-done n (set_element m x (value_of i m) (value_of v m)) }

lawful_print : (v : RExpr) → IsLawful (statement_step (RStmt-F.Print v))
lawful_print v = record { spends = λ n m. omega arith; grows = λ n m. grows-behind (value_of v m ∷ []) (done n m) (done (suc n) m) (grows-done n m) }

lawful_if : (c : RExpr) (a b : List Action) → IsLawful (in_order a) → IsLawful (in_order b) → IsLawful (statement_step (RStmt-F.If c a b))
lawful_if c a b h k = record {
  spends = λ n m. spends_if (is_zero (value_of c m)) (in_order b n m) (in_order a n m) n (k.spends n m) (h.spends n m);
  grows = λ n m. grows-if (is_zero (value_of c m)) (in_order b n m) (in_order a n m) (in_order b (suc n) m) (in_order a (suc n) m) (k.grows n m) (h.grows n m);
}

lawful_while : (c : RExpr) (a : List Action) → IsLawful (in_order a) → IsLawful (statement_step (RStmt-F.While c a))
lawful_while c a h = record {
  spends = λ n m. spends_loop (value_of c) (in_order a) h.spends n n m;
  grows = λ n m. grows_while (value_of c) (in_order a) h.grows n m;
}

cases : Cases (λ z. IsLawful (statement z))
cases = record {
  assign = λ x v. subst IsLawful (sym (statement-assign x v)) (lawful_assign x v);
  set = λ x i v. subst IsLawful (sym (statement-set x i v)) (lawful_set x i v);
  print = λ v. subst IsLawful (sym (statement-print v)) (lawful_print v);
  choose = λ c ones others h k. subst IsLawful (sym (statement-if c ones others)) (lawful_if c (map statement ones) (map statement others) (lawful_body ones h) (lawful_body others k));
  repeat = λ c body h. subst IsLawful (sym (statement-while c body)) (lawful_while c (map statement body) (lawful_body body h));
}

pub lawful : (zs : List RStmt) → IsLawful (statements zs)
lawful zs = lawful_body zs (induct_all (λ z. IsLawful (statement z)) cases zs)

pub turns_add : (p : RProgram) (memory : List Content) (turns : ℕ) → Prints (meaning p memory turns).output (meaning p memory (turns + 1)).output
turns_add p memory turns =
    let e : turns + 1 ≡ suc turns = omega arith in
    rw e ((lawful p.body).grows turns memory).output

as_itself : (o : Outcome) → o.end ≡ Done → IsDoneAs o o
as_itself o d = record { end = d; memory = refl; output = refl }

-- with so many turns more
stays : (p : RProgram) (memory : List Content) (turns k : ℕ) → (meaning p memory turns).end ≡ Done → IsDoneAs (meaning p memory (turns + k)) (meaning p memory turns)
stays p memory turns zero d =
    let e : turns + zero ≡ turns = omega arith in
    rw e (as_itself (meaning p memory turns) d)
stays p memory turns (suc k) d =
    let before = stays p memory turns k d in
    let same = ((lawful p.body).grows (turns + k) memory).same before.end in
    let e : turns + suc k ≡ suc (turns + k) = omega arith in
    let more : IsDoneAs (meaning p memory (suc (turns + k))) (meaning p memory turns) = rw same (record { end = refl; memory = before.memory; output = before.output }) in
    rw e more

pub done_stays : (p : RProgram) (memory : List Content) (turns more : ℕ) → (meaning p memory turns).end ≡ Done → turns ≤ more → IsDoneAs (meaning p memory more) (meaning p memory turns)
done_stays p memory turns more d h =
    let e : turns + (more - turns) ≡ more = omega arith in
    subst (λ n. IsDoneAs (meaning p memory n) (meaning p memory turns)) e (stays p memory turns (more - turns) d)
