-- Statements that were run.
use Rattle.std.proofs.Common.{◌≡◌, ℕ, suc, ◌<◌, ◌+◌, ℤ, pos, List, [], ◌∷◌, Bool, true, false, drop, length, get_or, Result, Ok, Err, refl, ap, sym, ◌∙◌, subst, arith, w64, of_z, to_z, FitsSigned}
use Rattle.std.proofs.lemmas.Int.{to_z-of_z}
use Rattle.std.specs.Prelude.{IsOk, IsTrue}
use Rattle.std.specs.Bool.{Decides}
use Rattle.std.proofs.lemmas.Bool.Decides.{Decides-int_eq}
use Rattle.bm_base.specs.Entry.{Entry}
use Rattle.bm_base.specs.Memory.{Content, set_variable, set_element}
use Rattle.bm_io.specs.declared.sinks.SinkFault.{SinkFault}
use Rattle.bm_io.specs.declared.sinks.SinkFault.TheVariants.{Failed}
use Rattle.bm_io.specs.Causes.{HasCause}
use Rattle.bm_base.specs.Memories.{IsMemoryOf}
use Rattle.src_names.specs.declared.resolved.RExpr.{RExpr}
use Rattle.src_names.specs.declared.resolved.RStmt.{RStmt}
use Rattle.src_names.specs.declared.resolved.RStmt.TheVariants as s
use Rattle.src_names.proofs.Induct.{drop_first}
use Rattle.src_meaning.specs.declared.evaluate.End.{End}
use Rattle.src_meaning.specs.declared.evaluate.End.TheVariants.{Done, More}
use Rattle.src_meaning.specs.Meaning.{Outcome, done, stopped, behind, and_then, is_zero, value_of, statement, statements, while_loop}
use Rattle.src_meaning.specs.Evaluates.{View, seen, Evaluates}
use Rattle.src_meaning.proofs.Equations.{statement-assign, statement-set, statement-print, statement-if, statement-while}
use Rattle.bm_base.proofs.Kept.{IsMemoryOf-set_variable, IsMemoryOf-set_element}
use Rattle.src_meaning.proofs.Taking.{HasCause-nothing, Took-nothing}
use Rattle.src_meaning.proofs.Turns.{while-turn, while-done, while-stopped}
use Rattle.src_meaning.proofs.Lawful.{lawful}
use Rattle.src_meaning.proofs.Algebra.{Continues, Continues-done, Continues-more, Continues-fault, Evaluates-as, Evaluates-from, Evaluates-done, Evaluates-stopped}

zero_is : (k : ℤ) → k ≡ pos 0 → is_zero k ≡ true
zero_is k e = ap is_zero e

-- a word of no bits is 0
pub zero_word : (k : ℤ) → FitsSigned w64 k → of_z w64 k ≡ 0 → k ≡ pos 0
zero_word k f e = sym (to_z-of_z w64 k f) ∙ ap (to_z w64) e

pub some_word : (k : ℤ) → (of_z w64 k ≡ 0 → ⊥) → k ≡ pos 0 → ⊥
some_word k n e = n (ap (of_z w64) e)

decided_no : (b : Bool) (P : Type 0) → Decides b P → (P → ⊥) → b ≡ false
decided_no true P d n = absurd (n (d.0 refl))
decided_no false P d n = refl

not_zero_is : (k : ℤ) → (k ≡ pos 0 → ⊥) → is_zero k ≡ false
not_zero_is k n = decided_no (is_zero k) (k ≡ pos 0) (Decides-int_eq k (pos 0)) n

module _ {Held : Type 0} (next : Held → ℤ → Held) (leaves : SinkFault → Held → ℤ → Held → Type 0) (is_sure : Bool) where
  -- the memory was written, and nothing else happened
  written : (h : Held) (f n : ℕ) (m w : List Content) → ((names : List Entry) → IsMemoryOf names m → IsMemoryOf names w) → Evaluates next leaves is_sure (seen h f n m) (seen h f n w) (done n w) (Ok Done)
  written h f n m w k = record { took = Took-nothing next leaves h Done; end = refl; turns = refl; memory = refl; names = k; cause = HasCause-nothing Failed f Done; sure = λ _. refl }

  pub assigned : (h : Held) (f n : ℕ) (m w : List Content) (z : RStmt) (x : ℕ) (v : RExpr) → z ≡ s.Assign x v → w ≡ set_variable m x (value_of v m) → Evaluates next leaves is_sure (seen h f n m) (seen h f n w) (statement z n m) (Ok Done)
  assigned h f n m w z x v is wrote =
      let whole : done n (set_variable m x (value_of v m)) ≡ statement z n m = sym (ap (λ y. statement y n m) is ∙ ap (λ a. a n m) (statement-assign x v)) in
      let here = written h f n m (set_variable m x (value_of v m)) (λ names k. IsMemoryOf-set_variable names m x (value_of v m) k) in
      rw wrote (Evaluates-as next leaves is_sure (seen h f n m) (seen h f n (set_variable m x (value_of v m))) (done n (set_variable m x (value_of v m))) (statement z n m) (Ok Done) whole here)

  pub assigned_element : (h : Held) (f n : ℕ) (m w : List Content) (z : RStmt) (x : ℕ) (i v : RExpr) → z ≡ s.SetElement x i v → w ≡ set_element m x (value_of i m) (value_of v m) → Evaluates next leaves is_sure (seen h f n m) (seen h f n w) (statement z n m) (Ok Done)
  assigned_element h f n m w z x i v is wrote =
      let whole : done n (set_element m x (value_of i m) (value_of v m)) ≡ statement z n m = sym (ap (λ y. statement y n m) is ∙ ap (λ a. a n m) (statement-set x i v)) in
      let here = written h f n m (set_element m x (value_of i m) (value_of v m)) (λ names k. IsMemoryOf-set_element names m x (value_of i m) (value_of v m) k) in
      rw wrote (Evaluates-as next leaves is_sure (seen h f n m) (seen h f n (set_element m x (value_of i m) (value_of v m))) (done n (set_element m x (value_of i m) (value_of v m))) (statement z n m) (Ok Done) whole here)

  printed_here : (n : ℕ) (m : List Content) (z : RStmt) (v : RExpr) (k : ℤ) → z ≡ s.Print v → k ≡ value_of v m → behind (k ∷ []) (done n m) ≡ statement z n m
  printed_here n m z v k is e = ap (λ y. behind (y ∷ []) (done n m)) e ∙ sym (ap (λ y. statement y n m) is ∙ ap (λ a. a n m) (statement-print v))

  pub printed : (h w : Held) (f g n : ℕ) (m : List Content) (z : RStmt) (v : RExpr) (k : ℤ) (u : Unit {0}) → z ≡ s.Print v → k ≡ value_of v m → w ≡ next h k → HasCause Failed f g (Ok u) → Evaluates next leaves is_sure (seen h f n m) (seen w g n m) (statement z n m) (Ok Done)
  printed h w f g n m z v k u is e t c =
      Evaluates-as next leaves is_sure (seen h f n m) (seen w g n m) (behind (k ∷ []) (done n m)) (statement z n m) (Ok Done) (printed_here n m z v k is e)
      (record { took = record { ok = t; err = tt }; end = refl; turns = refl; memory = refl; names = λ names i. i; cause = record { later = c.later; rose = λ i. let no : ⊥ = cc in absurd no }; sure = λ _. refl })

  pub refused : (h w : Held) (f g n : ℕ) (m : List Content) (z : RStmt) (v : RExpr) (k : ℤ) (e : SinkFault) → z ≡ s.Print v → k ≡ value_of v m → leaves e h k w → HasCause {T = Unit {0}} Failed f g (Err e) → (IsTrue is_sure → IsOk {T = Unit {0}} {E = SinkFault} (Err e))
      → Evaluates next leaves is_sure (seen h f n m) (seen w g n m) (statement z n m) (Err e)
  refused h w f g n m z v k e is same l c u =
      Evaluates-as next leaves is_sure (seen h f n m) (seen w g n m) (behind (k ∷ []) (done n m)) (statement z n m) (Err e) (printed_here n m z v k is same)
      (record {
        took = record { ok = tt; err = record { front = []; refused = k; rest = []; values_are = refl; left = l } };
        end = tt;
        turns = tt;
        memory = tt;
        names = λ names i. i;
        cause = record { later = c.later; rose = λ i. c.rose (let same_fault : e ≡ Failed = cc in ap Err same_fault) };
        sure = u;
      })

  -- what a run of these statements answers, of those that they are
  pub as_body : (v w : View Held) (zs body : List RStmt) (n : ℕ) (m : List Content) (r q : Result End SinkFault) → zs ≡ body → r ≡ q → Evaluates next leaves is_sure v w (statements zs n m) r → Evaluates next leaves is_sure v w (statements body n m) q
  as_body v w zs body n m r q is same h = subst (λ x. Evaluates next leaves is_sure v w (statements body n m) x) same (subst (λ l. Evaluates next leaves is_sure v w (statements l n m) r) is h)

  pub turns_fall : (v : View Held) (h : Held) (f n j left : ℕ) (m w : List Content) (body : List RStmt) → n ≡ suc j → Evaluates next leaves is_sure v (seen h f left w) (statements body j m) (Ok Done) → left < n
  turns_fall v h f n j left m w body some e =
      let spent = (lawful body).spends j m in
      let is : left ≡ (statements body j m).turns = e.turns in
      omega (arith, spent, is, some)

  pub chosen_others : (v w : View Held) (z : RStmt) (c : RExpr) (ones others : List RStmt) (n : ℕ) (m : List Content) (t : ℤ) (r : Result End SinkFault) → z ≡ s.If c ones others → t ≡ value_of c m → t ≡ pos 0
      → Evaluates next leaves is_sure v w (statements others n m) r → Evaluates next leaves is_sure v w (statement z n m) r
  chosen_others v w z c ones others n m t r is e o h =
      let holds = zero_is (value_of c m) (sym e ∙ o) in
      let same : statement z n m ≡ statements others n m = ap (λ y. statement y n m) is ∙ ap (λ a. a n m) (statement-if c ones others) ∙ rw holds refl in
      Evaluates-as next leaves is_sure v w (statements others n m) (statement z n m) r (sym same) h

  pub chosen_ones : (v w : View Held) (z : RStmt) (c : RExpr) (ones others : List RStmt) (n : ℕ) (m : List Content) (t : ℤ) (r : Result End SinkFault) → z ≡ s.If c ones others → t ≡ value_of c m → (t ≡ pos 0 → ⊥)
      → Evaluates next leaves is_sure v w (statements ones n m) r → Evaluates next leaves is_sure v w (statement z n m) r
  chosen_ones v w z c ones others n m t r is e o h =
      let fails = not_zero_is (value_of c m) (λ q. o (e ∙ q)) in
      let same : statement z n m ≡ statements ones n m = ap (λ y. statement y n m) is ∙ ap (λ a. a n m) (statement-if c ones others) ∙ rw fails refl in
      Evaluates-as next leaves is_sure v w (statements ones n m) (statement z n m) r (sym same) h

  -- a loop before its first test
  pub loop_begins : (v : View Held) (z : RStmt) (c : RExpr) (body : List RStmt) (n : ℕ) (m : List Content) → z ≡ s.While c body → Continues next leaves is_sure v (while_loop (value_of c) (statements body) n m) v (statement z n m)
  loop_begins v z c body n m is w r h =
      Evaluates-as next leaves is_sure v w (while_loop (value_of c) (statements body) n m) (statement z n m) r (sym (ap (λ y. statement y n m) is ∙ ap (λ a. a n m) (statement-while c body))) h

  module _ (h : Held) (f n : ℕ) (m : List Content) (start : View Held) (whole : Outcome) (c : RExpr) (body : List RStmt) (t : ℤ) (e : t ≡ value_of c m) (rest : Continues next leaves is_sure (seen h f n m) (while_loop (value_of c) (statements body) n m) start whole) where
    -- its test is 0
    pub loop_done : t ≡ pos 0 → Evaluates next leaves is_sure start (seen h f n m) whole (Ok Done)
    loop_done o =
        let same = while-done (value_of c) (statements body) (lawful body).spends n m (zero_is (value_of c m) (sym e ∙ o)) in
        rest (seen h f n m) (Ok Done) (Evaluates-as next leaves is_sure (seen h f n m) (seen h f n m) (done n m) (while_loop (value_of c) (statements body) n m) (Ok Done) (sym same) (Evaluates-done next leaves is_sure (seen h f n m)))

    -- its test is not 0, and no turn is left
    pub loop_stopped : (t ≡ pos 0 → ⊥) → n ≡ 0 → Evaluates next leaves is_sure start (seen h f n m) whole (Ok More)
    loop_stopped o none =
        let fails = not_zero_is (value_of c m) (λ q. o (e ∙ q)) in
        let same : while_loop (value_of c) (statements body) n m ≡ stopped n m = rw none (while-stopped (value_of c) (statements body) (lawful body).spends m fails) in
        rest (seen h f n m) (Ok More) (Evaluates-as next leaves is_sure (seen h f n m) (seen h f n m) (stopped n m) (while_loop (value_of c) (statements body) n m) (Ok More) (sym same) (Evaluates-stopped next leaves is_sure (seen h f n m)))

    -- its test is not 0, and a turn is spent
    loop_goes : (j : ℕ) → (t ≡ pos 0 → ⊥) → n ≡ suc j → Continues next leaves is_sure (seen h f n m) (and_then (statements body j m) (while_loop (value_of c) (statements body))) start whole
    loop_goes j o some w r k =
        let fails = not_zero_is (value_of c m) (λ q. o (e ∙ q)) in
        let same : while_loop (value_of c) (statements body) n m ≡ and_then (statements body j m) (while_loop (value_of c) (statements body)) = rw some (while-turn (value_of c) (statements body) (lawful body).spends j m fails) in
        rest w r (Evaluates-as next leaves is_sure (seen h f n m) w (and_then (statements body j m) (while_loop (value_of c) (statements body))) (while_loop (value_of c) (statements body) n m) r (sym same) k)

    pub loop_again : (j : ℕ) (w : View Held) → (t ≡ pos 0 → ⊥) → n ≡ suc j → Evaluates next leaves is_sure (seen h f j m) w (statements body j m) (Ok Done) → Continues next leaves is_sure w (while_loop (value_of c) (statements body) w.turns w.memory) start whole
    loop_again j w o some k =
        Continues-done next leaves is_sure (seen h f n m) w start (statements body j m) (while_loop (value_of c) (statements body)) whole (loop_goes j o some) (Evaluates-from next leaves is_sure h f j n m w (statements body j m) (Ok Done) k)

    pub loop_more : (j : ℕ) (w : View Held) → (t ≡ pos 0 → ⊥) → n ≡ suc j → Evaluates next leaves is_sure (seen h f j m) w (statements body j m) (Ok More) → Evaluates next leaves is_sure start w whole (Ok More)
    loop_more j w o some k =
        Continues-more next leaves is_sure (seen h f n m) w start (statements body j m) (while_loop (value_of c) (statements body)) whole (loop_goes j o some) (Evaluates-from next leaves is_sure h f j n m w (statements body j m) (Ok More) k)

    pub loop_fault : (j : ℕ) (w : View Held) (fault : SinkFault) → (t ≡ pos 0 → ⊥) → n ≡ suc j → Evaluates next leaves is_sure (seen h f j m) w (statements body j m) (Err fault) → Evaluates next leaves is_sure start w whole (Err fault)
    loop_fault j w fault o some k =
        Continues-fault next leaves is_sure (seen h f n m) w start (statements body j m) (while_loop (value_of c) (statements body)) whole fault (loop_goes j o some) (Evaluates-from next leaves is_sure h f j n m w (statements body j m) (Err fault) k)

  -- statements from number i on
  module _ (v w start : View Held) (whole : Outcome) (zs : List RStmt) (i : ℕ) (z : RStmt) (within : i < length zs) (is : z ≡ get_or zs i z) (rest : Continues next leaves is_sure v (statements (drop i zs) v.turns v.memory) start whole) where
    from_here : Continues next leaves is_sure v (and_then (statement z v.turns v.memory) (statements (drop (i + 1) zs))) start whole
    from_here =
        subst (λ l. Continues next leaves is_sure v (statements l v.turns v.memory) start whole) (drop_first zs i z within is) rest

    pub first_done : (r : Result End SinkFault) (e : End) → r ≡ Ok e → e ≡ Done → Evaluates next leaves is_sure v w (statement z v.turns v.memory) r → Continues next leaves is_sure w (statements (drop (i + 1) zs) w.turns w.memory) start whole
    first_done r e ok d h =
        let here = subst (λ q. Evaluates next leaves is_sure v w (statement z v.turns v.memory) q) (ok ∙ ap Ok d) h in
        Continues-done next leaves is_sure v w start (statement z v.turns v.memory) (statements (drop (i + 1) zs)) whole from_here here

    pub first_more : (r : Result End SinkFault) (e : End) → r ≡ Ok e → e ≡ More → Evaluates next leaves is_sure v w (statement z v.turns v.memory) r → Evaluates next leaves is_sure start w whole (Ok More)
    first_more r e ok d h =
        let here = subst (λ q. Evaluates next leaves is_sure v w (statement z v.turns v.memory) q) (ok ∙ ap Ok d) h in
        Continues-more next leaves is_sure v w start (statement z v.turns v.memory) (statements (drop (i + 1) zs)) whole from_here here

    pub first_fault : (r : Result End SinkFault) (fault : SinkFault) → r ≡ Err fault → Evaluates next leaves is_sure v w (statement z v.turns v.memory) r → Evaluates next leaves is_sure start w whole (Err fault)
    first_fault r fault err h =
        let here = subst (λ q. Evaluates next leaves is_sure v w (statement z v.turns v.memory) q) err h in
        Continues-fault next leaves is_sure v w start (statement z v.turns v.memory) (statements (drop (i + 1) zs)) whole fault from_here here

  -- behind the last statement
  pub all_done : (h : Held) (f n : ℕ) (m : List Content) (start : View Held) (whole : Outcome) (rest : List RStmt) → rest ≡ [] → Continues next leaves is_sure (seen h f n m) (statements rest n m) start whole → Evaluates next leaves is_sure start (seen h f n m) whole (Ok Done)
  all_done h f n m start whole rest none k =
      let last = subst (λ l. Continues next leaves is_sure (seen h f n m) (statements l n m) start whole) none k in
      last (seen h f n m) (Ok Done) (Evaluates-done next leaves is_sure (seen h f n m))
