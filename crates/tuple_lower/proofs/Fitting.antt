-- The tuples of a program in range have the ranges of their types, and its blocks are few.
use Rattle.std.proofs.Common.{◌≡◌, ℕ, zero, suc, ◌+◌, ◌≤◌, Bool, true, false, List, [], ◌∷◌, ◌++◌, length, Some, refl, sym, subst, arith, length-append, w64, FitsSigned}
use Rattle.std.specs.Prelude.{slice_get, if◌then◌else◌, nat_le}
use Rattle.std.specs.List.{AllByRecursion}
use Rattle.std.proofs.lemmas.Option.{slice_get-get_or, slice_get_within}
use Rattle.bm_base.specs.Entry.{Entry}
use Rattle.bm_base.specs.Names.{AreNames, IsVariableOf, IsArrayOf}
use Rattle.src_names.specs.RProgram.{RProgram}
use Rattle.src_names.specs.Ranges.{ExprInRange, StmtInRange, BodyInRange, IsInRange}
use Rattle.src_names.specs.Ranges as g
use Rattle.src_names.specs.declared.resolved.RExpr.{RExpr}
use Rattle.src_names.specs.declared.resolved.RStmt.{RStmt, RStmt-F}
use Rattle.tuple_ir.specs.declared.block.Block.{Block}
use Rattle.tuple_ir.specs.declared.block.Next.TheVariants.{Halt, Goto, If}
use Rattle.tuple_ir.specs.declared.tuple.Tuple as t
use Rattle.tuple_ir.specs.declared.tuple.Tuple.TheVariants as tuple
use Rattle.tuple_ir.specs.Fits.{TupleFits}
use Rattle.tuple_ir.specs.Serial.{block_at, no_block}
use Rattle.tuple_ir.specs.Sound.{IsTupleSound, IsBlockSound}
use Rattle.tuple_lower.specs.Lowered.{Row, last_of, expr_tuples, stmt_step}
use Rattle.tuple_lower.specs.Blocks.{Piece, Lowering, block, cut, put, choice, repetition, then_lower, lower_stmt, lower_body}
use Rattle.tuple_lower.specs.Means.{blocks_of}
use Rattle.tuple_lower.specs.Sound.{TuplesFit, BlocksAreFew}
use Rattle.tuple_lower.proofs.Equations.{tuples-number, tuples-var, tuples-element, tuples-one, tuples-two, lower-assign, lower-set, lower-print, lower-if, lower-while}
use Rattle.tuple_lower.proofs.Making.{body_few}
use Rattle.tuple_lower.proofs.Sounds.{lowered_are_sound}

-- ---- the constants of a program in range are words

abbrev IsWord : t.Tuple → Type 0
IsWord (tuple.Const v) = FitsSigned w64 v
IsWord _ = Unit {0}

abbrev AreWords : List t.Tuple → Type 0
AreWords ts = AllByRecursion IsWord ts

abbrev HaveWords : List Block → Type 0
HaveWords bs = AllByRecursion (λ (x : Block). AreWords x.tuples) bs

words-append : (us vs : List t.Tuple) → AreWords us → AreWords vs → AreWords (us ++ vs)
words-append [] vs h k = k
words-append (u ∷ us) vs h k = (h.0, words-append us vs h.1 k)

have-append : (xs ys : List Block) → HaveWords xs → HaveWords ys → HaveWords (xs ++ ys)
have-append [] ys h k = k
have-append (x ∷ xs) ys h k = (h.0, have-append xs ys h.1 k)

expr_words : {x : RExpr} → ExprInRange x → (n : ℕ) → AreWords (expr_tuples x n)
expr_words (g.number {v = v} h) n = rw (tuples-number v) (h, tt)
expr_words (g.var {id = x}) n = rw (tuples-var x) (tt, tt)
expr_words (g.element {id = x} {i = i} h) n = rw (tuples-element x i) (words-append (expr_tuples i n) _ (expr_words h n) (tt, tt))
expr_words (g.one {op = op} {a = a} h) n = rw (tuples-one op a) (words-append (expr_tuples a n) _ (expr_words h n) (tt, tt))
expr_words (g.two {op = op} {a = a} {b = b} h k) n =
    let m : ℕ = n + length (expr_tuples a n) in
    rw (tuples-two op a b) (words-append (expr_tuples a n) _ (expr_words h n) (words-append (expr_tuples b m) _ (expr_words k m) (tt, tt)))

record PieceOfWords (p : Piece) : Type 0 where
  pub ended : HaveWords p.ended
  pub current : AreWords p.current

abbrev GivesWords : Lowering → Type 0
GivesWords l = (b : ℕ) (ts : List t.Tuple) → AreWords ts → PieceOfWords (l b ts)

cut_words : (c : Bool) (b : ℕ) (ts : List t.Tuple) → AreWords ts → PieceOfWords (if c then record { ended = []; current = ts } else record { ended = block ts (Goto (b + 1)) ∷ []; current = [] })
cut_words true b ts h = record { ended = tt; current = h }
cut_words false b ts h = record { ended = (h, tt); current = tt }

put_words : (row : Row) → ((n : ℕ) → AreWords (row n)) → GivesWords (put row)
put_words row h b ts w =
    let q = cut (length (row (length ts))) b ts in
    let c = cut_words (nat_le (length ts + length (row (length ts))) 128) b ts w in
    record { ended = c.ended; current = words-append q.current (row (length q.current)) c.current (h (length q.current)) }

then_words : (l m : Lowering) → GivesWords l → GivesWords m → GivesWords (λ b ts. then_lower b (l b ts) m)
then_words l m f h b ts w =
    let p = l b ts in
    let first = f b ts w in
    let q = m (b + length p.ended) p.current in
    let second = h (b + length p.ended) p.current first.current in
    record { ended = have-append p.ended q.ended first.ended second.ended; current = second.current }

choice_words : (row : Row) (first second : Lowering) → ((n : ℕ) → AreWords (row n)) → GivesWords first → GivesWords second → GivesWords (choice row first second)
choice_words row first second r f h b ts w =
    let cp = put row b ts in
    let test = b + length cp.ended in
    let y = first (test + 1) [] in
    let y_last = test + 1 + length y.ended in
    let n = second (y_last + 1) [] in
    let join = y_last + 1 + length n.ended + 1 in
    let X = block cp.current (If (last_of 0 cp.current) (test + 1) (y_last + 1)) in
    let Y = block y.current (Goto join) in
    let N = block n.current (Goto join) in
    let wc = put_words row r b ts w in
    let wy = f (test + 1) [] tt in
    let wn = h (y_last + 1) [] tt in
    let all_n = have-append n.ended (N ∷ []) wn.ended (wn.current, tt) in
    let all_y = have-append y.ended (Y ∷ (n.ended ++ N ∷ [])) wy.ended (wy.current, all_n) in
    record { ended = have-append cp.ended (X ∷ (y.ended ++ Y ∷ (n.ended ++ N ∷ []))) wc.ended (wc.current, all_y); current = tt }

repetition_words : (row : Row) (body : Lowering) → ((n : ℕ) → AreWords (row n)) → GivesWords body → GivesWords (repetition row body)
repetition_words row body r f b ts w =
    let h = b + 1 in
    let y = body (h + 1) [] in
    let wy = f (h + 1) [] tt in
    record { ended = (w, (r 0, have-append y.ended (block y.current (Goto h) ∷ []) wy.ended (wy.current, tt))); current = tt }

assign_words : (x : ℕ) (v : RExpr) → ExprInRange v → (n : ℕ) → AreWords (stmt_step (RStmt-F.Assign x v) n)
assign_words x v h n = words-append (expr_tuples v n) _ (expr_words h n) (tt, tt)

set_words : (x : ℕ) (i v : RExpr) → ExprInRange i → ExprInRange v → (n : ℕ) → AreWords (stmt_step (RStmt-F.SetElement x i v) n)
set_words x i v h k n =
    let m : ℕ = n + length (expr_tuples i n) in
    words-append (expr_tuples i n) _ (expr_words h n) (words-append (expr_tuples v m) _ (expr_words k m) (tt, tt))

print_words : (v : RExpr) → ExprInRange v → (n : ℕ) → AreWords (stmt_step (RStmt-F.Print v) n)
print_words v h n = words-append (expr_tuples v n) _ (expr_words h n) (tt, tt)

mutual
  stmt_words : {x : RStmt} → StmtInRange x → GivesWords (lower_stmt x)
  stmt_words (g.assign {id = x} {x = v} h) = subst GivesWords (sym (lower-assign x v)) (put_words (stmt_step (RStmt-F.Assign x v)) (assign_words x v h))
  stmt_words (g.set {id = x} {i = i} {x = v} h k) = subst GivesWords (sym (lower-set x i v)) (put_words (stmt_step (RStmt-F.SetElement x i v)) (set_words x i v h k))
  stmt_words (g.print {x = v} h) = subst GivesWords (sym (lower-print v)) (put_words (stmt_step (RStmt-F.Print v)) (print_words v h))
  stmt_words (g.choose {x = c} {ys = ys} {ns = ns} h k l) =
      subst GivesWords (sym (lower-if c ys ns)) (choice_words (expr_tuples c) (lower_body ys) (lower_body ns) (expr_words h) (body_words k) (body_words l))
  stmt_words (g.repeat {x = c} {ys = ys} h k) =
      subst GivesWords (sym (lower-while c ys)) (repetition_words (expr_tuples c) (lower_body ys) (expr_words h) (body_words k))

  body_words : {xs : List RStmt} → BodyInRange xs → GivesWords (lower_body xs)
  body_words g.none = λ b ts h. record { ended = tt; current = h }
  body_words (g.more {z = x} {zs = xs} h k) = then_words (lower_stmt x) (lower_body xs) (stmt_words h) (body_words k)

program_words : (p : RProgram) → IsInRange p → HaveWords (blocks_of p)
program_words p range =
    let piece = lower_body p.body 0 [] in
    let w = body_words range.body 0 [] tt in
    have-append piece.ended (block piece.current Halt ∷ []) w.ended (w.current, tt)

words_at : (xs : List Block) → HaveWords xs → (b : ℕ) → AreWords (block_at xs b).tuples
words_at [] h b = tt
words_at (x ∷ xs) h zero = h.0
words_at (x ∷ xs) h (suc b) = words_at xs h.1 b

-- ---- what is sound fits

module _ (names : List Entry) (named : AreNames names) where
  variable_fits : {x : ℕ} → IsVariableOf names x → x ≤ 65535
  variable_fits {x = x} v = let l = slice_get_within names x _ v.here in omega (arith, l, named.few)

  array_fits : {x : ℕ} → IsArrayOf names x → x ≤ 65535
  array_fits {x = x} v = let l = slice_get_within names x _ v.here in omega (arith, l, named.few)

  tuple_fits : (ts : List t.Tuple) (i : ℕ) (u : t.Tuple) → i ≤ 128 → IsTupleSound names ts i u → IsWord u → TupleFits u
  tuple_fits ts i (tuple.Const v) l s w = w
  tuple_fits ts i (tuple.Load x) l s w = variable_fits s.each.0
  tuple_fits ts i (tuple.Store x v) l s w = (variable_fits s.each.0, omega (arith, l, s.each.1.0.0))
  tuple_fits ts i (tuple.LoadEl x j) l s w = (array_fits s.each.0, omega (arith, l, s.each.1.0.0))
  tuple_fits ts i (tuple.StoreEl x j v) l s w = (array_fits s.each.0, omega (arith, l, s.each.1.0.0), omega (arith, l, s.each.1.1.0.0))
  tuple_fits ts i (tuple.One op a) l s w = omega (arith, l, s.each.0.0)
  tuple_fits ts i (tuple.Two op a b) l s w = (omega (arith, l, s.each.0.0), omega (arith, l, s.each.1.0.0))
  tuple_fits ts i (tuple.Print v) l s w = omega (arith, l, s.each.0.0)

  -- these tuples are those of the whole from number n on
  rest_fits : (ts us : List t.Tuple) (n : ℕ) → n + length us ≤ 128 → AreWords us
      → ((i : ℕ) (u : t.Tuple) → slice_get us i ≡ Some u → IsTupleSound names ts (n + i) u) → AllByRecursion TupleFits us
  rest_fits ts [] n l w h = tt
  rest_fits ts (u ∷ us) n l w h = (
    tuple_fits ts (n + 0) u (omega (arith, l)) (h 0 u refl) w.0,
    rest_fits ts us (n + 1) (omega (arith, l)) w.1 (λ i v q. let place : n + suc i ≡ n + 1 + i = omega arith in subst (λ k. IsTupleSound names ts k v) place (h (suc i) v q)),
  )

  block_fits : (count : ℕ) (x : Block) → IsBlockSound names count x → AreWords x.tuples → AllByRecursion TupleFits x.tuples
  block_fits count x s w =
      rest_fits x.tuples x.tuples 0 (let few = s.few in omega (arith, few)) w
      (λ i u q. let place : i ≡ 0 + i = omega arith in subst (λ k. IsTupleSound names x.tuples k u) place (s.each i u q))

pub tuples_fit : TuplesFit
tuples_fit p right few range b l =
    let s = (lowered_are_sound p right few).each b (block_at (blocks_of p) b) (slice_get-get_or (blocks_of p) b no_block l) in
    block_fits p.names right.names (length (blocks_of p)) (block_at (blocks_of p) b) s (words_at (blocks_of p) (program_words p range) b)

pub blocks_few : BlocksAreFew
blocks_few p few =
    let piece = lower_body p.body 0 [] in
    let most = body_few few 0 [] in
    omega (arith, most, length-append piece.ended (block piece.current Halt ∷ []))
