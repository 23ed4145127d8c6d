-- The blocks of a right program are sound.
use Rattle.std.proofs.Common.{◌≡◌, ◌≤◌, ◌+◌, ℕ, zero, suc, Bool, true, false, List, [], ◌∷◌, ◌++◌, length, Some, refl, sym, subst, arith, append_assoc, length-append}
use Rattle.std.specs.Prelude.{slice_get, if◌then◌else◌, nat_le}
use Rattle.bm_base.specs.Entry.{Entry}
use Rattle.src_names.specs.Right.{RightExpr, RightStmt, RightBody}
use Rattle.bm_base.specs.Names.{IsVariableOf, IsArrayOf}
use Rattle.src_names.specs.Right as r
use Rattle.src_names.specs.declared.resolved.RExpr.{RExpr}
use Rattle.src_names.specs.declared.resolved.RStmt.{RStmt, RStmt-F}
use Rattle.src_names.specs.declared.resolved.RStmt.TheVariants as s
use Rattle.src_names.specs.Sizes.{nodes, FewNodes, AllFewNodes}
use Rattle.tuple_ir.specs.declared.block.Block.{Block}
use Rattle.tuple_ir.specs.declared.block.Next.{Next}
use Rattle.tuple_ir.specs.declared.block.Next.TheVariants.{Halt, Goto, If}
use Rattle.tuple_ir.specs.declared.tuple.Tuple as t
use Rattle.tuple_ir.specs.declared.tuple.Tuple.TheVariants as tuple
use Rattle.tuple_lower.specs.Lowered.{Row, last_of, expr_tuples, stmt_step}
use Rattle.tuple_lower.specs.Blocks.{Piece, Lowering, block, cut, put, then_lower, choice, repetition, lower_stmt, lower_body}
use Rattle.tuple_lower.specs.Means.{blocks_of}
use Rattle.tuple_ir.specs.Sound.{IsValueBefore, IsTupleSound, leads_below, IsNextSound}
use Rattle.tuple_lower.specs.Sound.{LoweredAreSound}
use Rattle.tuple_lower.proofs.Equations.{lower-assign, lower-set, lower-print, lower-if, lower-while}
use Rattle.tuple_lower.proofs.Soundness.{SoundFrom, SoundExpr, sound-append, sound_at, value_cell, last_sound, expr_sound, still_before}
use Rattle.tuple_lower.proofs.Sizes.{row_length, few-if, few-while, few-first, some_nodes}
use Rattle.tuple_lower.proofs.Placed.{Tidy, put_fits}
use Rattle.tuple_lower.proofs.Branches.{expr_size}
use Rattle.tuple_lower.proofs.Performing.{stmt_tidy, body_tidy}

module _ (names : List Entry) where
  -- a block that is ended: its tuples are sound, and it leads to blocks up to this number
  pub record IsEnded (most : ℕ) (x : Block) : Type 0 where
    pub rows : SoundFrom names [] x.tuples
    pub few : length x.tuples ≤ 128
    pub next : IsNextSound x.tuples (most + 1) x.next

  abbrev pub AllEnded : ℕ → List Block → Type 0
  AllEnded most [] = Unit {0}
  AllEnded most (x ∷ xs) = IsEnded most x × AllEnded most xs

  leads_more : (a b : ℕ) (next : Next) → a ≤ b → leads_below (a + 1) next → leads_below (b + 1) next
  leads_more a b Halt l h = tt
  leads_more a b (Goto x) l h = omega (arith, l, h)
  leads_more a b (If c x y) l h = let p = h.0 in let q = h.1 in (omega (arith, l, p), omega (arith, l, q))

  all_more : (xs : List Block) (a b : ℕ) → a ≤ b → AllEnded a xs → AllEnded b xs
  all_more [] a b l h = tt
  all_more (x ∷ xs) a b l h = (record { rows = h.0.rows; few = h.0.few; next = record { leads = leads_more a b x.next l h.0.next.leads; asks = h.0.next.asks } }, all_more xs a b l h.1)

  all-append : (xs ys : List Block) (a : ℕ) → AllEnded a xs → AllEnded a ys → AllEnded a (xs ++ ys)
  all-append [] ys a h k = k
  all-append (x ∷ xs) ys a h k = (h.0, all-append xs ys a h.1 k)

  pub ended_at : (xs : List Block) (a : ℕ) → AllEnded a xs → (i : ℕ) (x : Block) → slice_get xs i ≡ Some x → IsEnded a x
  ended_at [] a h i x q = let no : ⊥ = cc in absurd no
  ended_at (y ∷ xs) a h zero x q = let same : y ≡ x = cc in subst (IsEnded a) same h.0
  ended_at (y ∷ xs) a h (suc i) x q = ended_at xs a h.1 i x q

  -- what was lowered is sound, and leads to its own blocks
  pub record SoundPiece (b : ℕ) (p : Piece) : Type 0 where
    pub ended : AllEnded (b + length p.ended) p.ended
    pub rows : SoundFrom names [] p.current

  abbrev pub SoundLowering : Lowering → Type 0
  SoundLowering l = (b : ℕ) (ts : List t.Tuple) → length ts ≤ 128 → SoundFrom names [] ts → SoundPiece b (l b ts)

  -- ---- tuples that are put

  cut_sound : (c : Bool) (b : ℕ) (ts : List t.Tuple) → length ts ≤ 128 → SoundFrom names [] ts → SoundPiece b (if c then record { ended = []; current = ts } else record { ended = block ts (Goto (b + 1)) ∷ []; current = [] })
  cut_sound true b ts few rows = record { ended = tt; rows = rows }
  cut_sound false b ts few rows = record { ended = (record { rows = rows; few = few; next = record { leads = omega arith; asks = tt } }, tt); rows = tt }

  put_sound : (row : Row) → ((pre : List t.Tuple) → SoundFrom names pre (row (length pre))) → SoundLowering (put row)
  put_sound row h b ts few rows =
      let q = cut (length (row (length ts))) b ts in
      let c = cut_sound (nat_le (length ts + length (row (length ts))) 128) b ts few rows in
      record { ended = c.ended; rows = sound-append names [] q.current (row (length q.current)) c.rows (h q.current) }

  expr_row : (x : RExpr) → RightExpr names x → (pre : List t.Tuple) → SoundFrom names pre (expr_tuples x (length pre))
  expr_row x h pre = (expr_sound names h pre).rows

  assign_row : (x : ℕ) (v : RExpr) → IsVariableOf names x → RightExpr names v → (pre : List t.Tuple) → SoundFrom names pre (stmt_step (RStmt-F.Assign x v) (length pre))
  assign_row x v d h pre =
      let us = expr_tuples v (length pre) in
      last_sound names pre us (tuple.Store x (last_of (length pre) us)) (expr_sound names h pre) (record { each = (d, (value_cell names pre us (last_of (length pre) us) (expr_sound names h pre) refl, tt)) })

  print_row : (v : RExpr) → RightExpr names v → (pre : List t.Tuple) → SoundFrom names pre (stmt_step (RStmt-F.Print v) (length pre))
  print_row v h pre =
      let us = expr_tuples v (length pre) in
      last_sound names pre us (tuple.Print (last_of (length pre) us)) (expr_sound names h pre) (record { each = (value_cell names pre us (last_of (length pre) us) (expr_sound names h pre) refl, tt) })

  set_both : (x : ℕ) (pre us vs : List t.Tuple) → IsArrayOf names x → SoundExpr names pre us → SoundExpr names (pre ++ us) vs → SoundFrom names pre (us ++ (vs ++ tuple.StoreEl x (last_of (length pre) us) (last_of (length pre + length us) vs) ∷ []))
  set_both x pre us vs d g h =
      let left = last_of (length pre) us in
      let right = last_of (length pre + length us) vs in
      let u = tuple.StoreEl x left right in
      let l1 = length-append pre us in
      let l3 = length-append (pre ++ us) vs in
      let rows = sound-append names pre us vs g.rows h.rows in
      let first : IsValueBefore ((pre ++ us) ++ vs) (length ((pre ++ us) ++ vs)) left = still_before (pre ++ us) vs (length (pre ++ us)) (length ((pre ++ us) ++ vs)) left (omega (arith, l3)) (value_cell names pre us left g refl) in
      let place : last_of (length (pre ++ us)) vs ≡ right = omega (arith, l1) in
      let second : IsValueBefore ((pre ++ us) ++ vs) (length ((pre ++ us) ++ vs)) right = value_cell names (pre ++ us) vs right h place in
      let all : (pre ++ us) ++ vs ≡ pre ++ (us ++ vs) = append_assoc pre us vs in
      let sound : IsTupleSound names ((pre ++ us) ++ vs) (length ((pre ++ us) ++ vs)) u = record { each = (d, (first, (second, tt))) } in
      let last : SoundFrom names (pre ++ (us ++ vs)) (u ∷ []) = (subst (λ l. IsTupleSound names l (length l) u) all sound, tt) in
      subst (λ l. SoundFrom names pre l) (append_assoc us vs (u ∷ [])) (sound-append names pre (us ++ vs) (u ∷ []) rows last)

  set_row : (x : ℕ) (i v : RExpr) → IsArrayOf names x → RightExpr names i → RightExpr names v → (pre : List t.Tuple) → SoundFrom names pre (stmt_step (RStmt-F.SetElement x i v) (length pre))
  set_row x i v d h k pre =
      let us = expr_tuples i (length pre) in
      let place : length (pre ++ us) ≡ length pre + length us = length-append pre us in
      set_both x pre us (expr_tuples v (length pre + length us)) d (expr_sound names h pre) (subst (λ n. SoundExpr names (pre ++ us) (expr_tuples v n)) place (expr_sound names k (pre ++ us)))

  -- the cell of a condition that was put
  test_cell : (c : RExpr) → RightExpr names c → (pre : List t.Tuple) → IsValueBefore (pre ++ expr_tuples c (length pre)) (length (pre ++ expr_tuples c (length pre))) (last_of 0 (pre ++ expr_tuples c (length pre)))
  test_cell c h pre =
      let us = expr_tuples c (length pre) in
      let l1 = length-append pre us in
      let n = row_length c (length pre) in
      let some = some_nodes c in
      let at : last_of (length pre) us ≡ last_of 0 (pre ++ us) = omega (arith, l1, n, some) in
      value_cell names pre us (last_of 0 (pre ++ us)) (expr_sound names h pre) at

  -- ---- statements

  then_sound : (l m : Lowering) → Tidy l → SoundLowering l → SoundLowering m → SoundLowering (λ b ts. then_lower b (l b ts) m)
  then_sound l m tl f g b ts few rows =
      let p = l b ts in
      let mid = b + length p.ended in
      let q = m mid p.current in
      let first = f b ts few rows in
      let second = g mid p.current (tl.fits b ts few) first.rows in
      let n = length-append p.ended q.ended in
      let hi = b + length (p.ended ++ q.ended) in
      record {
        ended = all-append p.ended q.ended hi (all_more p.ended mid hi (omega (arith, n)) first.ended) (all_more q.ended (mid + length q.ended) hi (omega (arith, n)) second.ended);
        rows = second.rows;
      }

  choice_sound : (c : RExpr) (first second : Lowering) → nodes c ≤ 120 → RightExpr names c → Tidy first → Tidy second → SoundLowering first → SoundLowering second → SoundLowering (choice (expr_tuples c) first second)
  choice_sound c first second few_c right t1 t2 f g b ts few rows =
      let q = cut (length (expr_tuples c (length ts))) b ts in
      let cp = put (expr_tuples c) b ts in
      let test = b + length cp.ended in
      let y = first (test + 1) [] in
      let y_last = test + 1 + length y.ended in
      let n = second (y_last + 1) [] in
      let n_last = y_last + 1 + length n.ended in
      let join = n_last + 1 in
      let X = block cp.current (If (last_of 0 cp.current) (test + 1) (y_last + 1)) in
      let Y = block y.current (Goto join) in
      let N = block n.current (Goto join) in
      let hi = b + length (cp.ended ++ X ∷ (y.ended ++ Y ∷ (n.ended ++ N ∷ []))) in
      let l1 = length-append cp.ended (X ∷ (y.ended ++ Y ∷ (n.ended ++ N ∷ []))) in
      let l2 = length-append y.ended (Y ∷ (n.ended ++ N ∷ [])) in
      let l3 = length-append n.ended (N ∷ []) in
      let sc = put_sound (expr_tuples c) (expr_row c right) b ts few rows in
      let sy = f (test + 1) [] (omega arith) tt in
      let sn = g (y_last + 1) [] (omega arith) tt in
      let x_ended : IsEnded hi X = record { rows = sc.rows; few = put_fits (expr_tuples c) (nodes c) b ts (expr_size c few_c); next = record { leads = (omega (arith, l1, l2, l3), omega (arith, l1, l2, l3)); asks = test_cell c right q.current } } in
      let y_ended : IsEnded hi Y = record { rows = sy.rows; few = t1.fits (test + 1) [] (omega arith); next = record { leads = omega (arith, l1, l2, l3); asks = tt } } in
      let n_ended : IsEnded hi N = record { rows = sn.rows; few = t2.fits (y_last + 1) [] (omega arith); next = record { leads = omega (arith, l1, l2, l3); asks = tt } } in
      let all_n = all-append n.ended (N ∷ []) hi (all_more n.ended n_last hi (omega (arith, l1, l2, l3)) sn.ended) (n_ended, tt) in
      let all_y = all-append y.ended (Y ∷ (n.ended ++ N ∷ [])) hi (all_more y.ended y_last hi (omega (arith, l1, l2, l3)) sy.ended) (y_ended, all_n) in
      record { ended = all-append cp.ended (X ∷ (y.ended ++ Y ∷ (n.ended ++ N ∷ []))) hi (all_more cp.ended test hi (omega (arith, l1)) sc.ended) (x_ended, all_y); rows = tt }

  repetition_sound : (c : RExpr) (body : Lowering) → nodes c ≤ 120 → RightExpr names c → Tidy body → SoundLowering body → SoundLowering (repetition (expr_tuples c) body)
  repetition_sound c body few_c right tl f b ts few rows =
      let h = b + 1 in
      let us = expr_tuples c 0 in
      let y = body (h + 1) [] in
      let last = h + 1 + length y.ended in
      let exit = last + 1 in
      let B = block ts (Goto h) in
      let X = block us (If (last_of 0 us) (h + 1) exit) in
      let Y = block y.current (Goto h) in
      let hi = b + length (B ∷ X ∷ (y.ended ++ Y ∷ [])) in
      let l = length-append y.ended (Y ∷ []) in
      let n = row_length c 0 in
      let sy = f (h + 1) [] (omega arith) tt in
      let b_ended : IsEnded hi B = record { rows = rows; few = few; next = record { leads = omega (arith, l); asks = tt } } in
      let x_ended : IsEnded hi X = record { rows = expr_row c right []; few = omega (arith, n, few_c); next = record { leads = (omega (arith, l), omega (arith, l)); asks = test_cell c right [] } } in
      let y_ended : IsEnded hi Y = record { rows = sy.rows; few = tl.fits (h + 1) [] (omega arith); next = record { leads = omega (arith, l); asks = tt } } in
      record { ended = (b_ended, (x_ended, all-append y.ended (Y ∷ []) hi (all_more y.ended last hi (omega (arith, l)) sy.ended) (y_ended, tt))); rows = tt }

  mutual
    stmt_sounds : {x : RStmt} → RightStmt names x → FewNodes x → SoundLowering (lower_stmt x)
    stmt_sounds (r.assign {id = x} {x = v} d h) few = subst SoundLowering (sym (lower-assign x v)) (put_sound (stmt_step (RStmt-F.Assign x v)) (assign_row x v d h))
    stmt_sounds (r.set {id = x} {i = i} {x = v} d h k) few = subst SoundLowering (sym (lower-set x i v)) (put_sound (stmt_step (RStmt-F.SetElement x i v)) (set_row x i v d h k))
    stmt_sounds (r.print {x = v} h) few = subst SoundLowering (sym (lower-print v)) (put_sound (stmt_step (RStmt-F.Print v)) (print_row v h))
    stmt_sounds (r.choose {x = c} {ys = ys} {ns = ns} h k l) few =
        let parts = few-if (s.If c ys ns) c ys ns refl few in
        subst SoundLowering (sym (lower-if c ys ns)) (choice_sound c (lower_body ys) (lower_body ns) parts.0 h (body_tidy parts.1) (body_tidy parts.2) (body_sounds k parts.1) (body_sounds l parts.2))
    stmt_sounds (r.repeat {x = c} {ys = ys} h k) few =
        let parts = few-while (s.While c ys) c ys refl few in
        subst SoundLowering (sym (lower-while c ys)) (repetition_sound c (lower_body ys) parts.0 h (body_tidy parts.1) (body_sounds k parts.1))

    pub body_sounds : {xs : List RStmt} → RightBody names xs → AllFewNodes xs → SoundLowering (lower_body xs)
    body_sounds r.none few = λ b ts room rows. record { ended = tt; rows = rows }
    body_sounds (r.more {z = x} {zs = xs} h k) few =
        let parts = few-first (x ∷ xs) x xs refl few in
        then_sound (lower_stmt x) (lower_body xs) (stmt_tidy parts.0) (stmt_sounds h parts.0) (body_sounds k parts.1)

pub lowered_are_sound : LoweredAreSound
lowered_are_sound p right few =
    let piece = lower_body p.body 0 [] in
    let last = block piece.current Halt in
    let s = body_sounds p.names right.body few 0 [] (omega arith) tt in
    let n = length-append piece.ended (last ∷ []) in
    let most = 0 + length piece.ended in
    let tidy = body_tidy few in
    let last_ended : IsEnded p.names most last = record { rows = s.rows; few = tidy.fits 0 [] (omega arith); next = record { leads = tt; asks = tt } } in
    let all = all-append p.names piece.ended (last ∷ []) most s.ended (last_ended, tt) in
    let count : most + 1 ≡ length (blocks_of p) = omega (arith, n) in
    record {
      some = omega (arith, count);
      each = λ b x q.
          let e = ended_at p.names (blocks_of p) most all b x q in
          record {
            few = e.few;
            each = λ i u g. let place : 0 + i ≡ i = omega arith in subst (λ k. IsTupleSound p.names x.tuples k u) place (sound_at p.names [] x.tuples e.rows i u g);
            next = subst (λ k. IsNextSound x.tuples k x.next) count e.next;
          };
    }
