-- The tuples of expressions are sound.
use Rattle.std.proofs.Common.{◌≡◌, ◌≤◌, ◌+◌, ℕ, ℤ, zero, suc, true, List, [], ◌∷◌, ◌++◌, length, Some, refl, sym, subst, arith, append_assoc, append-nil, length-append}
use Rattle.std.specs.Prelude.{slice_get}
use Rattle.std.specs.List.{AllByRecursion}
use Rattle.bm_base.specs.declared.word.Un.{Un}
use Rattle.bm_base.specs.declared.word.Bin.{Bin}
use Rattle.bm_base.specs.Entry.{Entry}
use Rattle.src_names.specs.Right.{RightExpr}
use Rattle.bm_base.specs.Names.{IsVariableOf, IsArrayOf}
use Rattle.src_names.specs.Right as r
use Rattle.src_names.specs.declared.resolved.RExpr.{RExpr}
use Rattle.src_names.specs.declared.resolved.RExpr.TheVariants as e
use Rattle.tuple_ir.specs.declared.tuple.Tuple as t
use Rattle.tuple_ir.specs.declared.tuple.Tuple.TheVariants as tuple
use Rattle.tuple_ir.specs.Kinds.{has_value}
use Rattle.tuple_ir.specs.OperandList.{Operand, Cell, Variable, Array, operands}
use Rattle.tuple_ir.specs.Sound.{IsValueBefore, IsOperandSound, IsTupleSound}
use Rattle.tuple_lower.specs.Lowered.{last_of, expr_tuples}
use Rattle.tuple_lower.proofs.Equations.{tuples-number, tuples-var, tuples-element, tuples-one, tuples-two}

get_left : (xs ys : List t.Tuple) (c : ℕ) (u : t.Tuple) → slice_get xs c ≡ Some u → slice_get (xs ++ ys) c ≡ Some u
get_left [] ys c u h = let no : ⊥ = cc in absurd no
get_left (x ∷ xs) ys zero u h = h
get_left (x ∷ xs) ys (suc c) u h = get_left xs ys c u h

seam : (pre : List t.Tuple) (u : t.Tuple) (us : List t.Tuple) → slice_get (pre ++ u ∷ us) (length pre) ≡ Some u
seam [] u us = refl
seam (p ∷ pre) u us = seam pre u us

-- before a later number of a longer row
pub still_before : (xs ys : List t.Tuple) (i j c : ℕ) → i ≤ j → IsValueBefore xs i c → IsValueBefore (xs ++ ys) j c
still_before xs ys i j c l h = let below = h.0 in (omega (arith, below, l), (h.1.0, get_left xs ys c h.1.0 h.1.1, h.1.2))

module _ (names : List Entry) where
  still_operands : (xs ys : List t.Tuple) (i : ℕ) (os : List Operand) → AllByRecursion (IsOperandSound names xs i) os → AllByRecursion (IsOperandSound names (xs ++ ys) i) os
  still_operands xs ys i [] h = tt
  still_operands xs ys i (Cell c ∷ os) h = (still_before xs ys i i c (omega arith) h.0, still_operands xs ys i os h.1)
  still_operands xs ys i (Variable x ∷ os) h = (h.0, still_operands xs ys i os h.1)
  still_operands xs ys i (Array x ∷ os) h = (h.0, still_operands xs ys i os h.1)

  still_sound : (xs ys : List t.Tuple) (i : ℕ) (u : t.Tuple) → IsTupleSound names xs i u → IsTupleSound names (xs ++ ys) i u
  still_sound xs ys i u h = record { each = still_operands xs ys i (operands u) h.each }

  -- each of these tuples, which stand behind others, is sound
  abbrev pub SoundFrom : List t.Tuple → List t.Tuple → Type 0
  SoundFrom pre [] = Unit {0}
  SoundFrom pre (u ∷ us) = IsTupleSound names pre (length pre) u × SoundFrom (pre ++ u ∷ []) us

  pub sound-append : (pre us vs : List t.Tuple) → SoundFrom pre us → SoundFrom (pre ++ us) vs → SoundFrom pre (us ++ vs)
  sound-append pre [] vs h k = subst (λ p. SoundFrom p vs) (append-nil pre) k
  sound-append pre (u ∷ us) vs h k = (h.0, sound-append (pre ++ u ∷ []) us vs h.1 (subst (λ p. SoundFrom p vs) (sym (append_assoc pre (u ∷ []) us)) k))

  pub sound_at : (pre us : List t.Tuple) → SoundFrom pre us → (i : ℕ) (u : t.Tuple) → slice_get us i ≡ Some u → IsTupleSound names (pre ++ us) (length pre + i) u
  sound_at pre [] h i u q = let no : ⊥ = cc in absurd no
  sound_at pre (v ∷ us) h zero u q =
      let same : v ≡ u = cc in
      let here : length pre ≡ length pre + zero = omega arith in
      let at_v = still_sound pre (v ∷ us) (length pre) v h.0 in
      subst (λ k. IsTupleSound names (pre ++ v ∷ us) k u) here (subst (λ x. IsTupleSound names (pre ++ v ∷ us) (length pre) x) same at_v)
  sound_at pre (v ∷ us) h (suc i) u q =
      let rest = sound_at (pre ++ v ∷ []) us h.1 i u q in
      let place : length (pre ++ v ∷ []) + i ≡ length pre + suc i = omega (arith, length-append pre (v ∷ [])) in
      subst (λ k. IsTupleSound names (pre ++ v ∷ us) k u) place (subst (λ l. IsTupleSound names l (length (pre ++ v ∷ []) + i) u) (append_assoc pre (v ∷ []) us) rest)

  -- the tuples of an expression are sound, and the last gives a value
  pub record SoundExpr (pre us : List t.Tuple) : Type 0 where
    pub rows : SoundFrom pre us
    pub last : IsValueBefore (pre ++ us) (length pre + length us) (last_of (length pre) us)

  one_sound : (pre : List t.Tuple) (u : t.Tuple) → IsTupleSound names pre (length pre) u → has_value u ≡ true → SoundExpr pre (u ∷ [])
  one_sound pre u h v = record {
    rows = (h, tt);
    last = let place : length pre ≡ last_of (length pre) (u ∷ []) = omega arith in subst (λ k. IsValueBefore (pre ++ u ∷ []) (length pre + 1) k) place (omega arith, (u, seam pre u [], v));
  }

  then_sound : (pre us : List t.Tuple) (u : t.Tuple) → SoundFrom pre us → IsTupleSound names (pre ++ us) (length (pre ++ us)) u → has_value u ≡ true → SoundExpr pre (us ++ u ∷ [])
  then_sound pre us u h k v =
      let one = one_sound (pre ++ us) u k v in
      let l1 = length-append pre us in
      let l2 = length-append us (u ∷ []) in
      let place : last_of (length (pre ++ us)) (u ∷ []) ≡ last_of (length pre) (us ++ u ∷ []) = omega (arith, l1, l2) in
      let end : length (pre ++ us) + length (u ∷ []) ≡ length pre + length (us ++ u ∷ []) = omega (arith, l1, l2) in
      record {
        rows = sound-append pre us (u ∷ []) h one.rows;
        last = subst (λ k. IsValueBefore (pre ++ (us ++ u ∷ [])) (length pre + length (us ++ u ∷ [])) k) place
            (subst (λ j. IsValueBefore (pre ++ (us ++ u ∷ [])) j (last_of (length (pre ++ us)) (u ∷ []))) end
            (subst (λ l. IsValueBefore l (length (pre ++ us) + length (u ∷ [])) (last_of (length (pre ++ us)) (u ∷ []))) (append_assoc pre us (u ∷ [])) one.last));
      }

  -- the cell of the value of the tuples so far
  pub value_cell : (pre us : List t.Tuple) (c : ℕ) → SoundExpr pre us → last_of (length pre) us ≡ c → IsValueBefore (pre ++ us) (length (pre ++ us)) c
  value_cell pre us c h q =
      let end : length pre + length us ≡ length (pre ++ us) = omega (arith, length-append pre us) in
      subst (λ j. IsValueBefore (pre ++ us) j c) end (subst (λ k. IsValueBefore (pre ++ us) (length pre + length us) k) q h.last)

  abbrev ExprSound : RExpr → Type 0
  ExprSound x = (pre : List t.Tuple) → SoundExpr pre (expr_tuples x (length pre))

  number_sound : (v : ℤ) → ExprSound (e.Number v)
  number_sound v pre = rw (tuples-number v) (one_sound pre (tuple.Const v) (record { each = tt }) refl)

  var_sound : (x : ℕ) → IsVariableOf names x → ExprSound (e.Var x)
  var_sound x d pre = rw (tuples-var x) (one_sound pre (tuple.Load x) (record { each = (d, tt) }) refl)

  element_sound : (x : ℕ) (i : RExpr) → IsArrayOf names x → ExprSound i → ExprSound (e.Element x i)
  element_sound x i d h pre =
      let us = expr_tuples i (length pre) in
      rw (tuples-element x i) (then_sound pre us (tuple.LoadEl x (last_of (length pre) us)) (h pre).rows (record { each = (d, (value_cell pre us (last_of (length pre) us) (h pre) refl, tt)) }) refl)

  one_operand_sound : (op : Un) (a : RExpr) → ExprSound a → ExprSound (e.One op a)
  one_operand_sound op a h pre =
      let us = expr_tuples a (length pre) in
      rw (tuples-one op a) (then_sound pre us (tuple.One op (last_of (length pre) us)) (h pre).rows (record { each = (value_cell pre us (last_of (length pre) us) (h pre) refl, tt) }) refl)

  two_sound : (op : Bin) (pre us vs : List t.Tuple) → SoundExpr pre us → SoundExpr (pre ++ us) vs → SoundExpr pre (us ++ (vs ++ tuple.Two op (last_of (length pre) us) (last_of (length pre + length us) vs) ∷ []))
  two_sound op pre us vs g h =
      let left = last_of (length pre) us in
      let right = last_of (length pre + length us) vs in
      let u = tuple.Two op left right in
      let l1 = length-append pre us in
      let l3 = length-append (pre ++ us) vs in
      let rows = sound-append pre us vs g.rows h.rows in
      let first : IsValueBefore ((pre ++ us) ++ vs) (length ((pre ++ us) ++ vs)) left = still_before (pre ++ us) vs (length (pre ++ us)) (length ((pre ++ us) ++ vs)) left (omega (arith, l3)) (value_cell pre us left g refl) in
      let place : last_of (length (pre ++ us)) vs ≡ right = omega (arith, l1) in
      let second : IsValueBefore ((pre ++ us) ++ vs) (length ((pre ++ us) ++ vs)) right = value_cell (pre ++ us) vs right h place in
      let all : (pre ++ us) ++ vs ≡ pre ++ (us ++ vs) = append_assoc pre us vs in
      let sound : IsTupleSound names ((pre ++ us) ++ vs) (length ((pre ++ us) ++ vs)) u = record { each = (first, (second, tt)) } in
      subst (λ ts. SoundExpr pre ts) (append_assoc us vs (u ∷ [])) (then_sound pre (us ++ vs) u rows (subst (λ l. IsTupleSound names l (length l) u) all sound) refl)

  two_operands_sound : (op : Bin) (a b : RExpr) → ExprSound a → ExprSound b → ExprSound (e.Two op a b)
  two_operands_sound op a b g h pre =
      let us = expr_tuples a (length pre) in
      let place : length (pre ++ us) ≡ length pre + length us = length-append pre us in
      rw (tuples-two op a b) (two_sound op pre us (expr_tuples b (length pre + length us)) (g pre) (subst (λ n. SoundExpr (pre ++ us) (expr_tuples b n)) place (h (pre ++ us))))

  pub expr_sound : {x : RExpr} → RightExpr names x → ExprSound x
  expr_sound (r.number {v = v}) = number_sound v
  expr_sound (r.var {id = x} d) = var_sound x d
  expr_sound (r.element {id = x} {i = i} d h) = element_sound x i d (expr_sound h)
  expr_sound (r.one {op = op} {a = a} h) = one_operand_sound op a (expr_sound h)
  expr_sound (r.two {op = op} {a = a} {b = b} h k) = two_operands_sound op a b (expr_sound h) (expr_sound k)

  -- the last tuple of a statement, which uses the value
  pub last_sound : (pre us : List t.Tuple) (u : t.Tuple) → SoundExpr pre us → IsTupleSound names (pre ++ us) (length (pre ++ us)) u → SoundFrom pre (us ++ u ∷ [])
  last_sound pre us u h k = sound-append pre us (u ∷ []) h.rows (k, tt)
