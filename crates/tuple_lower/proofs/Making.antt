-- The code that lowers statements.
use Rattle.std.proofs.Common.{◌≡◌, ◌<◌, ◌≤◌, ◌+◌, ◌*◌, ℕ, List, [], ◌∷◌, ◌++◌, length, set, refl, sym, ap, subst, ◌∙◌, arith, append_assoc, append-nil, length-append}
use Rattle.std.specs.Prelude.{Bool, true, false, nat_le}
use Rattle.std.proofs.lemmas.List.{set_at, get_or_at}
use Rattle.src_names.specs.declared.resolved.RExpr.{RExpr}
use Rattle.src_names.specs.declared.resolved.RStmt.{RStmt, RStmt-F}
use Rattle.src_names.specs.declared.resolved.RStmt.TheVariants as s
use Rattle.src_names.specs.Sizes.{nodes, FewNodes, AllFewNodes, count_of, statements}
use Rattle.src_names.specs.Sizes as z
use Rattle.tuple_ir.specs.declared.block.Block.{Block}
use Rattle.tuple_ir.specs.declared.block.Next.{Next}
use Rattle.tuple_ir.specs.declared.block.Next.TheVariants.{Halt, Goto, If}
use Rattle.tuple_ir.specs.declared.tuple.Tuple as t
use Rattle.tuple_ir.specs.declared.tuple.Tuple.TheVariants as tuple
use Rattle.tuple_ir.specs.Serial.{no_block, block_at}
use Rattle.tuple_lower.specs.Lowered.{Row, last_of, expr_tuples, stmt_step}
use Rattle.tuple_lower.specs.Blocks.{Piece, block, cut, with_row, put, choice, repetition, lower_stmt, lower_body}
use Rattle.tuple_lower.specs.Drafted.{continued, StmtFits, BodyFits, with_next, ended_by, opened_choice, closed_choice, opened_loop, closed_loop}
use Rattle.tuple_lower.proofs.Equations.{lower-assign, lower-set, lower-print, lower-if, lower-while}
use Rattle.tuple_lower.proofs.Sizes.{row_length, count-assign, count-set, count-print, count-if, count-while, few-assign, few-set, few-print, few-if, few-while, few-first}
use Rattle.tuple_lower.proofs.Putting.{pushed, one_then, two_then}
use Rattle.tuple_lower.proofs.Placed.{cut_if, cut_fits}
use Rattle.tuple_lower.proofs.Performing.{assign_size, set_size, print_size, stmt_tidy}

-- ---- how many blocks a statement ends

few_cases : (c : Bool) (b : ℕ) (ts : List t.Tuple) → length (cut_if c b ts).ended ≤ 1
few_cases true b ts = omega arith
few_cases false b ts = omega arith

pub cut_few : (m b : ℕ) (ts : List t.Tuple) → length (cut m b ts).ended ≤ 1
cut_few m b ts = few_cases (nat_le (length ts + m) 128) b ts

choice_few : (c : RExpr) (ys ns : List RStmt) (b : ℕ) (ts : List t.Tuple) → ((b2 : ℕ) → length (lower_body ys b2 []).ended ≤ 4 * statements ys) → ((b2 : ℕ) → length (lower_body ns b2 []).ended ≤ 4 * statements ns)
    → length (choice (expr_tuples c) (lower_body ys) (lower_body ns) b ts).ended ≤ 4 * (1 + (statements ys + statements ns))
choice_few c ys ns b ts f g =
    let cp = put (expr_tuples c) b ts in
    let test = b + length cp.ended in
    let y = lower_body ys (test + 1) [] in
    let y_last = test + 1 + length y.ended in
    let n = lower_body ns (y_last + 1) [] in
    let join = y_last + 1 + length n.ended + 1 in
    let e1 = cut_few (length (expr_tuples c (length ts))) b ts in
    let e2 = f (test + 1) in
    let e3 = g (y_last + 1) in
    let l1 = length-append cp.ended (block cp.current (If (last_of 0 cp.current) (test + 1) (y_last + 1)) ∷ (y.ended ++ block y.current (Goto join) ∷ (n.ended ++ block n.current (Goto join) ∷ []))) in
    let l2 = length-append y.ended (block y.current (Goto join) ∷ (n.ended ++ block n.current (Goto join) ∷ [])) in
    let l3 = length-append n.ended (block n.current (Goto join) ∷ []) in
    omega (arith, e1, e2, e3, l1, l2, l3)

repetition_few : (c : RExpr) (ys : List RStmt) (b : ℕ) (ts : List t.Tuple) → ((b2 : ℕ) → length (lower_body ys b2 []).ended ≤ 4 * statements ys) → length (repetition (expr_tuples c) (lower_body ys) b ts).ended ≤ 4 * (1 + statements ys)
repetition_few c ys b ts f =
    let y = lower_body ys (b + 1 + 1) [] in
    let e1 = f (b + 1 + 1) in
    let l = length-append y.ended (block y.current (Goto (b + 1)) ∷ []) in
    omega (arith, e1, l)

mutual
  pub stmt_few : {x : RStmt} → FewNodes x → (b : ℕ) (ts : List t.Tuple) → length (lower_stmt x b ts).ended ≤ 4 * count_of x
  stmt_few (z.assign {id = x} {x = v} h) b ts = rw (lower-assign x v, count-assign x v) (let k = cut_few (length (stmt_step (RStmt-F.Assign x v) (length ts))) b ts in omega (arith, k))
  stmt_few (z.set {id = x} {i = i} {x = v} h) b ts = rw (lower-set x i v, count-set x i v) (let k = cut_few (length (stmt_step (RStmt-F.SetElement x i v) (length ts))) b ts in omega (arith, k))
  stmt_few (z.print {x = v} h) b ts = rw (lower-print v, count-print v) (let k = cut_few (length (stmt_step (RStmt-F.Print v) (length ts))) b ts in omega (arith, k))
  stmt_few (z.choose {x = c} {ys = ys} {ns = ns} h k l) b ts = rw (lower-if c ys ns, count-if c ys ns) (choice_few c ys ns b ts (λ b2. body_few k b2 []) (λ b2. body_few l b2 []))
  stmt_few (z.repeat {x = c} {ys = ys} h k) b ts = rw (lower-while c ys, count-while c ys) (repetition_few c ys b ts (λ b2. body_few k b2 []))

  pub body_few : {xs : List RStmt} → AllFewNodes xs → (b : ℕ) (ts : List t.Tuple) → length (lower_body xs b ts).ended ≤ 4 * statements xs
  body_few z.none b ts = omega arith
  body_few (z.more {z = x} {zs = xs} h k) b ts =
      let p = lower_stmt x b ts in
      let q = lower_body xs (b + length p.ended) p.current in
      let f = stmt_few h b ts in
      let g = body_few k (b + length p.ended) p.current in
      let l = length-append p.ended q.ended in
      omega (arith, f, g, l)

-- ---- what a statement needs

pub assign_few : (x : ℕ) (v : RExpr) (d : Piece) → StmtFits (s.Assign x v) d → nodes v ≤ 120
assign_few x v d h = few-assign (s.Assign x v) x v refl h.few

pub set_few : (x : ℕ) (i v : RExpr) (d : Piece) → StmtFits (s.SetElement x i v) d → nodes i + nodes v ≤ 120
set_few x i v d h = few-set (s.SetElement x i v) x i v refl h.few

pub print_few : (v : RExpr) (d : Piece) → StmtFits (s.Print v) d → nodes v ≤ 120
print_few v d h = few-print (s.Print v) v refl h.few

pub assign_numbers : (x : ℕ) (v : RExpr) (d : Piece) → StmtFits (s.Assign x v) d → length d.ended < 4294967295
assign_numbers x v d h = let n = h.numbers in let k = count-assign x v in omega (arith, n, k)

pub set_numbers : (x : ℕ) (i v : RExpr) (d : Piece) → StmtFits (s.SetElement x i v) d → length d.ended < 4294967295
set_numbers x i v d h = let n = h.numbers in let k = count-set x i v in omega (arith, n, k)

pub print_numbers : (v : RExpr) (d : Piece) → StmtFits (s.Print v) d → length d.ended < 4294967295
print_numbers v d h = let n = h.numbers in let k = count-print v in omega (arith, n, k)

-- room for so many tuples more behind a cut
pub cut_room : (m n : ℕ) (d d1 : Piece) → d1 ≡ continued d (cut m) → m ≤ 128 → n ≤ m → length d1.current + n ≤ 128
cut_room m n d d1 is h l = let k = cut_fits (length d.ended) m d.current h in let q = ap (λ p. length p.current) is in omega (arith, k, q, l)

-- ---- what a statement without bodies leaves

pub put_done : (row : Row) (m : ℕ) (d d1 : Piece) → d1 ≡ continued d (cut m) → m ≡ length (row (length d.current)) → with_row row d1 ≡ continued d (put row)
put_done row m d d1 is same = ap (with_row row) (is ∙ ap (λ k. continued d (cut k)) same)

pub assign_done : (x : ℕ) (v : RExpr) (k l : ℕ) (d d1 d2 d3 : Piece) → StmtFits (s.Assign x v) d → k ≡ nodes v → d1 ≡ continued d (cut (k + 1)) → d2 ≡ with_row (expr_tuples v) d1 → l + 1 ≡ length d2.current → d3 ≡ pushed d2 (tuple.Store x l)
    → d3 ≡ continued d (lower_stmt (s.Assign x v))
assign_done x v k l d d1 d2 d3 fits count first second last third =
    let row = stmt_step (RStmt-F.Assign x v) in
    let size = (assign_size x v (assign_few x v d fits)).size_is (length d.current) in
    third ∙ one_then (expr_tuples v) row (tuple.Store x) d1 d2 l (λ n. refl) second last ∙ put_done row (k + 1) d d1 first (ap (λ j. j + 1) count ∙ sym size) ∙ ap (continued d) (sym (lower-assign x v))

pub print_done : (v : RExpr) (k l : ℕ) (d d1 d2 d3 : Piece) → StmtFits (s.Print v) d → k ≡ nodes v → d1 ≡ continued d (cut (k + 1)) → d2 ≡ with_row (expr_tuples v) d1 → l + 1 ≡ length d2.current → d3 ≡ pushed d2 (tuple.Print l)
    → d3 ≡ continued d (lower_stmt (s.Print v))
print_done v k l d d1 d2 d3 fits count first second last third =
    let row = stmt_step (RStmt-F.Print v) in
    let size = (print_size v (print_few v d fits)).size_is (length d.current) in
    third ∙ one_then (expr_tuples v) row tuple.Print d1 d2 l (λ n. refl) second last ∙ put_done row (k + 1) d d1 first (ap (λ j. j + 1) count ∙ sym size) ∙ ap (continued d) (sym (lower-print v))

pub set_done : (x : ℕ) (i v : RExpr) (k j l r : ℕ) (d d1 d2 d3 d4 : Piece) → StmtFits (s.SetElement x i v) d → k ≡ nodes i → j ≡ nodes v → d1 ≡ continued d (cut (k + j + 1)) → d2 ≡ with_row (expr_tuples i) d1 → l + 1 ≡ length d2.current
    → d3 ≡ with_row (expr_tuples v) d2 → r + 1 ≡ length d3.current → d4 ≡ pushed d3 (tuple.StoreEl x l r) → d4 ≡ continued d (lower_stmt (s.SetElement x i v))
set_done x i v k j l r d d1 d2 d3 d4 fits count1 count2 first second last third last2 fourth =
    let row = stmt_step (RStmt-F.SetElement x i v) in
    let size = (set_size x i v (set_few x i v d fits)).size_is (length d.current) in
    let all : k + j + 1 ≡ length (row (length d.current)) = omega (arith, size, count1, count2) in
    fourth ∙ two_then (expr_tuples i) (expr_tuples v) row (tuple.StoreEl x) d1 d2 d3 l r (λ n. refl) second last third last2 ∙ put_done row (k + j + 1) d d1 first all ∙ ap (continued d) (sym (lower-set x i v))

-- ---- how many blocks have ended

pub ended_after_end : (next : Next) (d d1 : Piece) → d1 ≡ ended_by d next → length d1.ended ≡ length d.ended + 1
ended_after_end next d d1 is = ap (λ p. length p.ended) is ∙ length-append d.ended (block d.current next ∷ [])

pub ended_after_body : (ys zs : List RStmt) (d d1 : Piece) → zs ≡ ys → AllFewNodes ys → d1 ≡ continued d (lower_body zs) → length d1.ended ≤ length d.ended + 4 * statements ys
ended_after_body ys zs d d1 same few is =
    let q = lower_body ys (length d.ended) d.current in
    let e = ap (λ p. length p.ended) (is ∙ ap (λ l. continued d (lower_body l)) same) in
    let l = length-append d.ended q.ended in
    let k = body_few few (length d.ended) d.current in
    omega (arith, e, l, k)

-- what an `if` and a `while` need
pub record IfFits (c : RExpr) (ys ns : List RStmt) (d : Piece) : Type 0 where
  pub few_test : nodes c ≤ 120
  pub few_ones : AllFewNodes ys
  pub few_others : AllFewNodes ns
  pub numbers : length d.ended + 4 * (1 + (statements ys + statements ns)) < 4294967296
  pub cells : length d.current ≤ 128

pub if_fits : (x : RStmt) (c : RExpr) (ys ns : List RStmt) (d : Piece) → x ≡ s.If c ys ns → StmtFits x d → IfFits c ys ns d
if_fits x c ys ns d is h =
    let parts = few-if x c ys ns is h.few in
    let k = ap count_of is ∙ count-if c ys ns in
    record { few_test = parts.0; few_ones = parts.1; few_others = parts.2; numbers = subst (λ j. length d.ended + 4 * j < 4294967296) k h.numbers; cells = h.cells }

pub record WhileFits (c : RExpr) (ys : List RStmt) (d : Piece) : Type 0 where
  pub few_test : nodes c ≤ 120
  pub few_body : AllFewNodes ys
  pub numbers : length d.ended + 4 * (1 + statements ys) < 4294967296
  pub cells : length d.current ≤ 128

pub while_fits : (x : RStmt) (c : RExpr) (ys : List RStmt) (d : Piece) → x ≡ s.While c ys → StmtFits x d → WhileFits c ys d
while_fits x c ys d is h =
    let parts = few-while x c ys is h.few in
    let k = ap count_of is ∙ count-while c ys in
    record { few_test = parts.0; few_body = parts.1; numbers = subst (λ j. length d.ended + 4 * j < 4294967296) k h.numbers; cells = h.cells }

-- a body behind a block that was ended
pub body_fits : (ys zs : List RStmt) (next : Next) (d d1 : Piece) → zs ≡ ys → AllFewNodes ys → d1 ≡ ended_by d next → length d.ended + 1 + 4 * statements ys < 4294967296 → BodyFits zs d1
body_fits ys zs next d d1 same few is room =
    let l = ended_after_end next d d1 is in
    let c : length d1.current ≡ 0 = ap (λ p. length p.current) is in
    subst (λ xs. BodyFits xs d1) (sym same) (record { few = few; numbers = omega (arith, l, room); cells = omega (arith, c) })

-- ---- what an `if` and a `while` leave

pub with_next_at : (front rest : List Block) (ts : List t.Tuple) (old next : Next) (current : List t.Tuple) (n : ℕ) → length front ≡ n
    → with_next n next (record { ended = front ++ block ts old ∷ rest; current = current }) ≡ record { ended = front ++ block ts next ∷ rest; current = current }
with_next_at front rest ts old next current n at =
    let got : block_at (front ++ block ts old ∷ rest) n ≡ block ts old = get_or_at front (block ts old) rest no_block n at in
    ap (λ x. record { ended = set (front ++ block ts old ∷ rest) n (block x.tuples next); current = current }) got
    ∙ ap (λ l. record { ended = l; current = current }) (set_at front (block ts old) rest (block ts next) n at)

module _ (d cp y n : Piece) (test end join cell : ℕ) (d2 d3 d4 d5 d6 d7 d8 d9 : Piece) where
  abbrev X : Next → Block
  X next = block cp.current next

  abbrev Y : Next → Block
  Y next = block y.current next

  abbrev N : Block
  N = block n.current (Goto join)

  abbrev E0 : List Block
  E0 = d.ended ++ cp.ended

  abbrev R : List Block
  R = n.ended ++ N ∷ []

  abbrev test_next : Next
  test_next = If cell (test + 1) (end + 1)

  abbrev A : List Block
  A = E0 ++ X Halt ∷ y.ended

  pub choice_blocks : d2 ≡ record { ended = E0; current = cp.current } → test ≡ length d2.ended → d3 ≡ ended_by d2 Halt → d4 ≡ record { ended = d3.ended ++ y.ended; current = y.current } → end ≡ length d4.ended → d5 ≡ ended_by d4 Halt
      → d6 ≡ record { ended = d5.ended ++ n.ended; current = n.current } → d7 ≡ ended_by d6 (Goto join) → d8 ≡ with_next end (Goto join) d7 → d9 ≡ with_next test test_next d8
      → d9 ≡ record { ended = d.ended ++ (cp.ended ++ X test_next ∷ (y.ended ++ Y (Goto join) ∷ R)); current = [] }
  choice_blocks e2 et e3 e4 ee e5 e6 e7 e8 e9 =
      let d3_is : d3 ≡ record { ended = E0 ++ X Halt ∷ []; current = [] } = e3 ∙ ap (λ p. ended_by p Halt) e2 in
      let d4_is : d4 ≡ record { ended = A; current = y.current } = e4 ∙ ap (λ p. record { ended = p.ended ++ y.ended; current = y.current }) d3_is ∙ ap (λ l. record { ended = l; current = y.current }) (append_assoc E0 (X Halt ∷ []) y.ended) in
      let d5_is : d5 ≡ record { ended = A ++ Y Halt ∷ []; current = [] } = e5 ∙ ap (λ p. ended_by p Halt) d4_is in
      let d6_is : d6 ≡ record { ended = A ++ Y Halt ∷ n.ended; current = n.current } = e6 ∙ ap (λ p. record { ended = p.ended ++ n.ended; current = n.current }) d5_is ∙ ap (λ l. record { ended = l; current = n.current }) (append_assoc A (Y Halt ∷ []) n.ended) in
      let d7_is : d7 ≡ record { ended = A ++ Y Halt ∷ R; current = [] } = e7 ∙ ap (λ p. ended_by p (Goto join)) d6_is ∙ ap (λ l. record { ended = l; current = [] }) (append_assoc A (Y Halt ∷ n.ended) (N ∷ [])) in
      let at_end : length A ≡ end = sym (ee ∙ ap (λ p. length p.ended) d4_is) in
      let d8_is : d8 ≡ record { ended = A ++ Y (Goto join) ∷ R; current = [] } = e8 ∙ ap (with_next end (Goto join)) d7_is ∙ with_next_at A R y.current Halt (Goto join) [] end at_end in
      let d8_too : d8 ≡ record { ended = E0 ++ X Halt ∷ (y.ended ++ Y (Goto join) ∷ R); current = [] } = d8_is ∙ ap (λ l. record { ended = l; current = [] }) (append_assoc E0 (X Halt ∷ y.ended) (Y (Goto join) ∷ R)) in
      let at_test : length E0 ≡ test = sym (et ∙ ap (λ p. length p.ended) e2) in
      e9 ∙ ap (with_next test test_next) d8_too ∙ with_next_at E0 (y.ended ++ Y (Goto join) ∷ R) cp.current Halt test_next [] test at_test
      ∙ ap (λ l. record { ended = l; current = [] }) (append_assoc d.ended cp.ended (X test_next ∷ (y.ended ++ Y (Goto join) ∷ R)))

-- a body behind a block that was ended, from the number of the next
body_step : (ys zs : List RStmt) (at : ℕ) (d d1 : Piece) → zs ≡ ys → length d.ended ≡ at → d.current ≡ [] → d1 ≡ continued d (lower_body zs) → d1 ≡ record { ended = d.ended ++ (lower_body ys at []).ended; current = (lower_body ys at []).current }
body_step ys zs at d d1 same place empty is =
    is ∙ ap (λ l. continued d (lower_body l)) same ∙ ap (λ j. record { ended = d.ended ++ (lower_body ys j d.current).ended; current = (lower_body ys j d.current).current }) place
    ∙ ap (λ ts. record { ended = d.ended ++ (lower_body ys at ts).ended; current = (lower_body ys at ts).current }) empty

abbrev chosen_piece : Piece → Piece → ℕ → Piece → ℕ → Piece → ℕ → ℕ → Piece
chosen_piece d cp test y end n join cell =
    record { ended = d.ended ++ (cp.ended ++ block cp.current (If cell (test + 1) (end + 1)) ∷ (y.ended ++ block y.current (Goto join) ∷ (n.ended ++ block n.current (Goto join) ∷ []))); current = [] }

chosen_same : (d cp y n : Piece) (test test1 end end1 join join1 cell cell1 : ℕ) → test ≡ test1 → end ≡ end1 → join ≡ join1 → cell ≡ cell1 → chosen_piece d cp test y end n join cell ≡ chosen_piece d cp test1 y end1 n join1 cell1
chosen_same d cp y n test test1 end end1 join join1 cell cell1 a b c e =
    ap (λ j. chosen_piece d cp j y end n join cell) a ∙ ap (λ j. chosen_piece d cp test1 y j n join cell) b ∙ ap (λ j. chosen_piece d cp test1 y end1 n j cell) c ∙ ap (chosen_piece d cp test1 y end1 n join1) e

pub choice_done : (c : RExpr) (ys ns ys2 ns2 : List RStmt) (x : RStmt) (k test end join cell : ℕ) (d d1 d2 d3 d4 d5 d6 d7 d8 d9 : Piece) → x ≡ s.If c ys ns → ys2 ≡ ys → ns2 ≡ ns → k ≡ nodes c → d1 ≡ continued d (cut k) → d2 ≡ with_row (expr_tuples c) d1 → cell + 1 ≡ length d2.current
    → test ≡ length d2.ended → d3 ≡ ended_by d2 Halt → d4 ≡ continued d3 (lower_body ys2) → end ≡ length d4.ended → d5 ≡ ended_by d4 Halt → d6 ≡ continued d5 (lower_body ns2) → join ≡ length d6.ended + 1 → d7 ≡ ended_by d6 (Goto join)
    → d8 ≡ with_next end (Goto join) d7 → d9 ≡ with_next test (If cell (test + 1) (end + 1)) d8 → d9 ≡ continued d (lower_stmt x)
choice_done c ys ns ys2 ns2 x k test end join cell d d1 d2 d3 d4 d5 d6 d7 d8 d9 is sy sn count e1 e2 ec et e3 e4 ee e5 e6 ej e7 e8 e9 =
    let b = length d.ended in
    let cp = put (expr_tuples c) b d.current in
    let test1 = b + length cp.ended in
    let y = lower_body ys (test1 + 1) [] in
    let end1 = test1 + 1 + length y.ended in
    let n = lower_body ns (end1 + 1) [] in
    let join1 = end1 + 1 + length n.ended + 1 in
    let d2_is : d2 ≡ record { ended = d.ended ++ cp.ended; current = cp.current } = e2 ∙ put_done (expr_tuples c) k d d1 e1 (count ∙ sym (row_length c (length d.current))) in
    let test_is : test ≡ test1 = et ∙ ap (λ p. length p.ended) d2_is ∙ length-append d.ended cp.ended in
    let cell_is : cell ≡ last_of 0 cp.current = let l = ap (λ p. length p.current) d2_is in omega (arith, ec, l) in
    let l3 : length d3.ended ≡ test1 + 1 = ended_after_end Halt d2 d3 e3 ∙ ap (λ j. j + 1) (sym et ∙ test_is) in
    let d4_is : d4 ≡ record { ended = d3.ended ++ y.ended; current = y.current } = body_step ys ys2 (test1 + 1) d3 d4 sy l3 (ap (λ p. p.current) e3) e4 in
    let end_is : end ≡ end1 = ee ∙ ap (λ p. length p.ended) d4_is ∙ length-append d3.ended y.ended ∙ ap (λ j. j + length y.ended) l3 in
    let l5 : length d5.ended ≡ end1 + 1 = ended_after_end Halt d4 d5 e5 ∙ ap (λ j. j + 1) (sym ee ∙ end_is) in
    let d6_is : d6 ≡ record { ended = d5.ended ++ n.ended; current = n.current } = body_step ns ns2 (end1 + 1) d5 d6 sn l5 (ap (λ p. p.current) e5) e6 in
    let join_is : join ≡ join1 = ej ∙ ap (λ p. length p.ended + 1) d6_is ∙ ap (λ j. j + 1) (length-append d5.ended n.ended ∙ ap (λ j. j + length n.ended) l5) in
    choice_blocks d cp y n test end join cell d2 d3 d4 d5 d6 d7 d8 d9 d2_is et e3 d4_is ee e5 d6_is e7 e8 e9
    ∙ chosen_same d cp y n test test1 end end1 join join1 cell (last_of 0 cp.current) test_is end_is join_is cell_is
    ∙ ap (continued d) (sym (lower-if c ys ns)) ∙ ap (λ w. continued d (lower_stmt w)) (sym is)

abbrev repeated_piece : Piece → List t.Tuple → ℕ → Piece → ℕ → ℕ → Piece
repeated_piece d us header y exit cell = record { ended = d.ended ++ block d.current (Goto header) ∷ block us (If cell (header + 1) exit) ∷ (y.ended ++ block y.current (Goto header) ∷ []); current = [] }

pub repetition_blocks : (d y : Piece) (us : List t.Tuple) (header exit cell : ℕ) (d1 d2 d3 d4 d5 d6 : Piece) → header ≡ length d.ended + 1 → d1 ≡ ended_by d (Goto header) → d2 ≡ record { ended = d1.ended; current = us } → d3 ≡ ended_by d2 Halt → d4 ≡ record { ended = d3.ended ++ y.ended; current = y.current }
    → d5 ≡ ended_by d4 (Goto header) → d6 ≡ with_next header (If cell (header + 1) exit) d5 → d6 ≡ repeated_piece d us header y exit cell
repetition_blocks d y us header exit cell d1 d2 d3 d4 d5 d6 eh e1 e2 e3 e4 e5 e6 =
    let B = block d.current (Goto header) in
    let A = d.ended ++ B ∷ [] in
    let x = block us Halt in
    let x1 = block us (If cell (header + 1) exit) in
    let z = block y.current (Goto header) in
    let d2_is : d2 ≡ record { ended = A; current = us } = e2 ∙ ap (λ p. record { ended = p.ended; current = us }) e1 in
    let d3_is : d3 ≡ record { ended = A ++ x ∷ []; current = [] } = e3 ∙ ap (λ p. ended_by p Halt) d2_is in
    let d4_is : d4 ≡ record { ended = A ++ x ∷ y.ended; current = y.current } = e4 ∙ ap (λ p. record { ended = p.ended ++ y.ended; current = y.current }) d3_is ∙ ap (λ l. record { ended = l; current = y.current }) (append_assoc A (x ∷ []) y.ended) in
    let d5_is : d5 ≡ record { ended = A ++ x ∷ (y.ended ++ z ∷ []); current = [] } = e5 ∙ ap (λ p. ended_by p (Goto header)) d4_is ∙ ap (λ l. record { ended = l; current = [] }) (append_assoc A (x ∷ y.ended) (z ∷ [])) in
    let at : length A ≡ header = length-append d.ended (B ∷ []) ∙ sym eh in
    e6 ∙ ap (with_next header (If cell (header + 1) exit)) d5_is ∙ with_next_at A (y.ended ++ z ∷ []) us Halt (If cell (header + 1) exit) [] header at
    ∙ ap (λ l. record { ended = l; current = [] }) (append_assoc d.ended (B ∷ []) (x1 ∷ (y.ended ++ z ∷ [])))

pub repetition_done : (c : RExpr) (ys ys2 : List RStmt) (x : RStmt) (header exit cell : ℕ) (d d1 d2 d3 d4 d5 d6 : Piece) → x ≡ s.While c ys → ys2 ≡ ys → header ≡ length d.ended + 1 → d1 ≡ ended_by d (Goto header) → d2 ≡ with_row (expr_tuples c) d1 → cell + 1 ≡ length d2.current
    → d3 ≡ ended_by d2 Halt → d4 ≡ continued d3 (lower_body ys2) → exit ≡ length d4.ended + 1 → d5 ≡ ended_by d4 (Goto header) → d6 ≡ with_next header (If cell (header + 1) exit) d5 → d6 ≡ continued d (lower_stmt x)
repetition_done c ys ys2 x header exit cell d d1 d2 d3 d4 d5 d6 is sy eh e1 e2 ec e3 e4 ex e5 e6 =
    let us = expr_tuples c 0 in
    let header1 = length d.ended + 1 in
    let y = lower_body ys (header1 + 1) [] in
    let exit1 = header1 + 1 + length y.ended + 1 in
    let d2_is : d2 ≡ record { ended = d1.ended; current = us } = e2 ∙ ap (λ ts. record { ended = d1.ended; current = ts ++ expr_tuples c (length ts) }) (ap (λ p. p.current) e1) in
    let cell_is : cell ≡ last_of 0 us = let l = ap (λ p. length p.current) d2_is in omega (arith, ec, l) in
    let l1 : length d1.ended ≡ header1 = ended_after_end (Goto header) d d1 e1 in
    let l2 : length d2.ended ≡ length d1.ended = ap (λ p. length p.ended) d2_is in
    let l3 : length d3.ended ≡ header1 + 1 = ended_after_end Halt d2 d3 e3 ∙ ap (λ j. j + 1) (l2 ∙ l1) in
    let d4_is : d4 ≡ record { ended = d3.ended ++ y.ended; current = y.current } = body_step ys ys2 (header1 + 1) d3 d4 sy l3 (ap (λ p. p.current) e3) e4 in
    let exit_is : exit ≡ exit1 = ex ∙ ap (λ p. length p.ended + 1) d4_is ∙ ap (λ j. j + 1) (length-append d3.ended y.ended ∙ ap (λ j. j + length y.ended) l3) in
    repetition_blocks d y us header exit cell d1 d2 d3 d4 d5 d6 eh e1 d2_is e3 d4_is e5 e6
    ∙ ap (λ j. repeated_piece d us j y exit cell) eh ∙ ap (λ j. repeated_piece d us header1 y j cell) exit_is ∙ ap (repeated_piece d us header1 y exit1) cell_is
    ∙ ap (continued d) (sym (lower-while c ys)) ∙ ap (λ w. continued d (lower_stmt w)) (sym is)

-- ---- statements in a row

pub next_stmt : (zs : List RStmt) (x : RStmt) (rest : List RStmt) (d d2 whole : Piece) → zs ≡ x ∷ rest → d2 ≡ continued d (lower_stmt x) → continued d (lower_body zs) ≡ whole → continued d2 (lower_body rest) ≡ whole
next_stmt zs x rest d d2 whole is e h =
    let b = length d.ended in
    let p = lower_stmt x b d.current in
    let q = lower_body rest (b + length p.ended) p.current in
    let at = length-append d.ended p.ended in
    ap (λ v. continued v (lower_body rest)) e
    ∙ ap (λ j. record { ended = (d.ended ++ p.ended) ++ (lower_body rest j p.current).ended; current = (lower_body rest j p.current).current }) at
    ∙ ap (λ l. record { ended = l; current = q.current }) (append_assoc d.ended p.ended q.ended)
    ∙ sym (ap (λ l. continued d (lower_body l)) is) ∙ h

pub next_fits : (zs : List RStmt) (x : RStmt) (rest : List RStmt) (d d2 : Piece) → zs ≡ x ∷ rest → d2 ≡ continued d (lower_stmt x) → BodyFits zs d → BodyFits rest d2
next_fits zs x rest d d2 is e h =
    let parts = few-first zs x rest is h.few in
    let b = length d.ended in
    let p = lower_stmt x b d.current in
    let k = stmt_few parts.0 b d.current in
    let l = ap (λ v. length v.ended) e ∙ length-append d.ended p.ended in
    let n = h.numbers in
    let total_is : statements zs ≡ count_of x + statements rest = ap statements is in
    record {
      few = parts.1;
      numbers = omega (arith, k, l, n, total_is);
      cells = subst (λ v. length v.current ≤ 128) (sym e) ((stmt_tidy parts.0).fits b d.current h.cells);
    }

pub first_fits : (zs : List RStmt) (x : RStmt) (rest : List RStmt) (d : Piece) → zs ≡ x ∷ rest → BodyFits zs d → StmtFits x d
first_fits zs x rest d is h =
    let parts = few-first zs x rest is h.few in
    let n = h.numbers in
    let total_is : statements zs ≡ count_of x + statements rest = ap statements is in
    record { few = parts.0; numbers = omega (arith, n, total_is); cells = h.cells }

pub no_stmt : (zs : List RStmt) (d whole : Piece) → zs ≡ [] → continued d (lower_body zs) ≡ whole → d ≡ whole
no_stmt zs d whole is h = ap (λ l. record { ended = l; current = d.current }) (sym (append-nil d.ended)) ∙ sym (ap (λ l. continued d (lower_body l)) is) ∙ h

-- ---- an `if` and a `while` in their parts

pub choice_opened : (c : RExpr) (k : ℕ) (d d1 d2 d3 : Piece) → k ≡ nodes c → d1 ≡ continued d (cut k) → d2 ≡ with_row (expr_tuples c) d1 → d3 ≡ ended_by d2 Halt → d3 ≡ opened_choice c d
choice_opened c k d d1 d2 d3 count e1 e2 e3 = e3 ∙ ap (λ p. ended_by p Halt) (e2 ∙ put_done (expr_tuples c) k d d1 e1 (count ∙ sym (row_length c (length d.current))))

pub choice_cell : (c : RExpr) (k cell : ℕ) (d d1 d2 : Piece) → k ≡ nodes c → d1 ≡ continued d (cut k) → d2 ≡ with_row (expr_tuples c) d1 → cell + 1 ≡ length d2.current → cell + 1 ≡ length (put (expr_tuples c) (length d.ended) d.current).current
choice_cell c k cell d d1 d2 count e1 e2 h = h ∙ ap (λ p. length p.current) (e2 ∙ put_done (expr_tuples c) k d d1 e1 (count ∙ sym (row_length c (length d.current))))

pub ended_after_choice : (c : RExpr) (d d1 : Piece) → d1 ≡ opened_choice c d → length d1.ended ≤ length d.ended + 2
ended_after_choice c d d1 is =
    let b = length d.ended in
    let cp = put (expr_tuples c) b d.current in
    let e = ap (λ p. length p.ended) is in
    let l1 = length-append (d.ended ++ cp.ended) (block cp.current Halt ∷ []) in
    let l2 = length-append d.ended cp.ended in
    let k = cut_few (length (expr_tuples c (length d.current))) b d.current in
    omega (arith, e, l1, l2, k)

pub ended_after_loop : (c : RExpr) (d d1 : Piece) → d1 ≡ opened_loop c d → length d1.ended ≡ length d.ended + 2
ended_after_loop c d d1 is =
    let B = block d.current (Goto (length d.ended + 1)) in
    let e = ap (λ p. length p.ended) is in
    let l1 = length-append (d.ended ++ B ∷ []) (block (expr_tuples c 0) Halt ∷ []) in
    let l2 = length-append d.ended (B ∷ []) in
    omega (arith, e, l1, l2)

-- a body behind what was opened
pub opened_fits : (ys zs : List RStmt) (d : Piece) → zs ≡ ys → AllFewNodes ys → d.current ≡ [] → length d.ended + 4 * statements ys < 4294967296 → BodyFits zs d
opened_fits ys zs d same few empty room = subst (λ xs. BodyFits xs d) (sym same) (record { few = few; numbers = room; cells = let e = ap (λ ts. length ts) empty in omega (arith, e) })

pub choice_whole : (c : RExpr) (ys ns ys2 ns2 : List RStmt) (x : RStmt) (test cell end : ℕ) (d d3 d4 d5 d6 d9 : Piece) → x ≡ s.If c ys ns → ys2 ≡ ys → ns2 ≡ ns → d3 ≡ opened_choice c d → test + 1 ≡ length d3.ended
    → cell + 1 ≡ length (put (expr_tuples c) (length d.ended) d.current).current → d4 ≡ continued d3 (lower_body ys2) → end ≡ length d4.ended → d5 ≡ ended_by d4 Halt → d6 ≡ continued d5 (lower_body ns2) → d9 ≡ closed_choice test cell end d6
    → d9 ≡ continued d (lower_stmt x)
choice_whole c ys ns ys2 ns2 x test cell end d d3 d4 d5 d6 d9 is sy sn e3 et ec e4 ee e5 e6 e9 =
    let k = length (expr_tuples c (length d.current)) in
    let d1 = continued d (cut k) in
    let d2 = continued d (put (expr_tuples c)) in
    let join = length d6.ended + 1 in
    let d7 = ended_by d6 (Goto join) in
    let d8 = with_next end (Goto join) d7 in
    let count : length d3.ended ≡ length d2.ended + 1 = ended_after_end Halt d2 d3 e3 in
    choice_done c ys ns ys2 ns2 x k test end join cell d d1 d2 d3 d4 d5 d6 d7 d8 d9 is sy sn (row_length c (length d.current)) refl refl ec (omega (arith, et, count)) e3 e4 ee e5 e6 refl refl refl e9

pub loop_whole : (c : RExpr) (ys ys2 : List RStmt) (x : RStmt) (test cell : ℕ) (d d3 d4 d6 : Piece) → x ≡ s.While c ys → ys2 ≡ ys → d3 ≡ opened_loop c d → test ≡ length d.ended + 1 → cell + 1 ≡ length (expr_tuples c 0)
    → d4 ≡ continued d3 (lower_body ys2) → d6 ≡ closed_loop test cell d4 → d6 ≡ continued d (lower_stmt x)
loop_whole c ys ys2 x test cell d d3 d4 d6 is sy e3 et ec e4 e6 =
    let header = length d.ended + 1 in
    let exit = length d4.ended + 1 in
    let d1 = ended_by d (Goto header) in
    let d2 = with_row (expr_tuples c) d1 in
    let d5 = ended_by d4 (Goto header) in
    let last : d6 ≡ with_next header (If cell (header + 1) exit) d5 = e6 ∙ ap (λ j. with_next j (If cell (j + 1) exit) (ended_by d4 (Goto j))) et in
    repetition_done c ys ys2 x header exit cell d d1 d2 d3 d4 d5 d6 is sy refl refl refl ec e3 e4 refl refl last
