-- Laws of inserted lines.
use Rattle.std.proofs.Common.{◌≡◌, ℕ, zero, suc, ◌+◌, ◌<◌, ◌≤◌, Bool, true, false, nat_eq, List, [], eqb-true, ◌∷◌, ◌++◌, length, slice_index, refl, sym, ap, ap₂, ◌∙◌, arith, ◌⊎◌, inl, inr, subst, append_assoc, append-nil, bit_or, ◌^◌}
use Rattle.std.specs.List.{list_any}
use Rattle.bm_base.specs.Mask.{has_bit}
use Rattle.bm_base.proofs.MaskBits.{same_bits, has_bit-none, has_bit-insert}
use Rattle.line_model.specs.declared.line.Item.{Item}
use Rattle.line_model.specs.declared.line.Item.TheVariants.{Bar}
use Rattle.std.proofs.lemmas.Map.Views.{Contains-from_any}
use Rattle.bm_base.specs.Machine.{Machine}
use Rattle.tuple_ir.specs.declared.tuple.Tuple.{Tuple}
use Rattle.line_model.specs.Streams.{masks}
use Rattle.dependence.specs.Producers.{producers_of}
use Rattle.dependence.proofs.Rows.{as_many}
use Rattle.list_schedule.specs.Greedy.{Plan, start}
use Rattle.time_interval.specs.Lines.{tuples}
use Rattle.time_interval.specs.Bounds.{pace_on}
use Rattle.time_interval.specs.Ordered.{AllOrdered}
use Rattle.barrier_insert.specs.Order.{in_order}
use Rattle.barrier_insert.specs.Laws.{IsScheduled, IsWhole, TheInsertedLineIsOne, EachBlockHasAnInsertedLine}
use Rattle.barrier_insert.specs.Inserted.{Assignment, assignment, producers_for, then_run, IsOrderedNext, IsMissing, IsBarFor, IsPut, IsMade, IsInserted}
use Rattle.barrier_insert.specs.Inserted.IsPut.{free, barred}
use Rattle.barrier_insert.specs.Inserted.IsMade.{nothing, next}
use Rattle.barrier_insert.proofs.Searched.{IsSearched, search_begin, search_more, search_same, none_found, some_found}
use Rattle.barrier_insert.proofs.Fits.{Fits, fits_front}
use Rattle.barrier_insert.proofs.Made.{IsGood, MayBePut, may_be_put, made_good, made_tuples, made_masks, decided_next}
use Rattle.barrier_insert.proofs.InOrder.{in_order_has, in_order_length}
use Rattle.barrier_insert.proofs.AtTurn.{fits_in_order}

-- ---- there is one at most

same_truth : (b c : Bool) → (b ≡ true → c ≡ true) → (c ≡ true → b ≡ true) → b ≡ c
same_truth true c f g = sym (f refl)
same_truth false true f g = g refl
same_truth false false f g = refl

mask_within : (a : Assignment) (part : List Item) (i m n p : ℕ) → IsBarFor a part i m → IsBarFor a part i n → has_bit m p ≡ true → has_bit n p ≡ true
mask_within a part i m n p h k e = go (h.no_other p e)
  where
    go : (p ≡ a.place i) ⊎ ((g : ℕ) × IsMissing a part g i × (a.place g ≡ p)) → has_bit n p ≡ true
    go (inl own) = ap (has_bit n) own ∙ k.own
    go (inr (g, missing, at)) = ap (has_bit n) (sym at) ∙ k.theirs g missing

one_mask : (a : Assignment) (part : List Item) (i m n : ℕ) → IsBarFor a part i m → IsBarFor a part i n → m ≡ n
one_mask a part i m n h k = same_bits m n (λ p. same_truth (has_bit m p) (has_bit n p) (mask_within a part i m n p h k) (mask_within a part i n m p k h))

one_put : (a : Assignment) (part line other : List Item) (i : ℕ) → IsPut a part i line → IsPut a part i other → line ≡ other
one_put a part _ _ i (free f) (free g) = refl
one_put a part _ _ i (free f) (barred m w) = absurd (w.some.1.unordered (f w.some.0 w.some.1.producer))
one_put a part _ _ i (barred m w) (free f) = absurd (w.some.1.unordered (f w.some.0 w.some.1.producer))
one_put a part _ _ i (barred m w) (barred n v) = ap (λ x. then_run a (part ++ Bar x ∷ []) i) (one_mask a part i m n w v)

not_empty : (xs : List ℕ) (x : ℕ) → [] ≡ xs ++ x ∷ [] → ⊥
not_empty [] x e = cc
not_empty (y ∷ xs) x e = cc

same_front : (xs ys : List ℕ) (x y : ℕ) → xs ++ x ∷ [] ≡ ys ++ y ∷ [] → (xs ≡ ys) × (x ≡ y)
same_front [] [] x y e = (refl, cc)
same_front [] (z ∷ ys) x y e = absurd (let f : [] ≡ ys ++ y ∷ [] = cc in not_empty ys y f)
same_front (z ∷ xs) [] x y e = absurd (let f : xs ++ x ∷ [] ≡ [] = cc in not_empty xs x (sym f))
same_front (z ∷ xs) (w ∷ ys) x y e =
    let f : xs ++ x ∷ [] ≡ ys ++ y ∷ [] = cc in
    let h : z ≡ w = cc in
    let r = same_front xs ys x y f in
    (ap₂ (λ a b. a ∷ b) h r.0, r.1)

pub one_made : (a : Assignment) (order same : List ℕ) (line other : List Item) → order ≡ same → IsMade a order line → IsMade a same other → line ≡ other
one_made a _ _ _ _ e nothing nothing = refl
one_made a _ _ _ _ e nothing (next {order = ys} j k q) = absurd (not_empty ys j e)
one_made a _ _ _ _ e (next {order = xs} i h p) nothing = absurd (not_empty xs i (sym e))
one_made a _ _ line other e (next {order = xs} {part = part} i h p) (next {order = ys} {part = part2} j k q) =
    let s = same_front xs ys i j e in
    let r = one_made a xs ys part part2 s.0 h k in
    one_put a part line other i p (subst (λ y. IsPut a part y other) (sym s.1) (subst (λ l. IsPut a l j other) (sym r) q))

-- ---- there is one

module _ (a : Assignment) (count : ℕ) (part : List Item) (i : ℕ) (may : MayBePut a count part i) where
  searched : (n : ℕ) → (found : Bool) × (mask : ℕ) × IsSearched a part i (producers_for a i) n found mask
  searched zero = (false, bit_or 0 (2 ^ a.place i), search_begin a part i (producers_for a i) 0 (bit_or 0 (2 ^ a.place i)) has_bit-none (has_bit-insert 0 (a.place i)))
  searched (suc n) = go (searched n) (decided_next a count part i may (slice_index (producers_for a i) n))
    where
      go : ((found : Bool) × (mask : ℕ) × IsSearched a part i (producers_for a i) n found mask) → IsOrderedNext a part (slice_index (producers_for a i) n) i ⊎ (¬ IsOrderedNext a part (slice_index (producers_for a i) n) i) → (found : Bool) × (mask : ℕ) × IsSearched a part i (producers_for a i) (suc n) found mask
      go (found, mask, h) (inl o) = (found, mask, subst (λ m. IsSearched a part i (producers_for a i) m found mask) (let e : n + 1 ≡ suc n = omega arith in e) (search_same a part i (producers_for a i) n mask found h o))
      go (found, mask, h) (inr u) = (true, bit_or mask (2 ^ a.place (slice_index (producers_for a i) n)), subst (λ m. IsSearched a part i (producers_for a i) m true (bit_or mask (2 ^ a.place (slice_index (producers_for a i) n)))) (let e : n + 1 ≡ suc n = omega arith in e) (search_more a part i (producers_for a i) n mask (bit_or mask (2 ^ a.place (slice_index (producers_for a i) n))) found h u (has_bit-insert mask (a.place (slice_index (producers_for a i) n)))))

  some_put : (line : List Item) × IsPut a part i line
  some_put = go (searched (length (producers_for a i)))
    where
      go : ((found : Bool) × (mask : ℕ) × IsSearched a part i (producers_for a i) (length (producers_for a i)) found mask) → (line : List Item) × IsPut a part i line
      go (false, mask, h) = (then_run a part i, free (none_found a part i (producers_for a i) mask refl h))
      go (true, mask, h) = (then_run a (part ++ Bar mask ∷ []) i, barred mask (some_found a part i (producers_for a i) mask refl h))

grown : (a : Assignment) (count : ℕ) (order rest : List ℕ) (part : List Item) → Fits a count (order ++ rest) → IsMade a order part → (line : List Item) × IsMade a (order ++ rest) line
grown a count order [] part f h = (part, subst (λ us. IsMade a us part) (sym (append-nil order)) h)
grown a count order (i ∷ rest) part f h =
    let good = made_good a count order part (fits_front a count order (i ∷ rest) f) h in
    let s = some_put a count part i (may_be_put a count order i rest part f (made_tuples a order part h) good) in
    let e : (order ++ i ∷ []) ++ rest ≡ order ++ i ∷ rest = append_assoc order (i ∷ []) rest in
    let r = grown a count (order ++ i ∷ []) rest s.0 (subst (Fits a count) (sym e) f) (next i h s.1) in
    (r.0, subst (λ us. IsMade a us r.0) e r.1)

pub some_made : (a : Assignment) (count : ℕ) (order : List ℕ) → Fits a count order → (line : List Item) × IsMade a order line
some_made a count order f = grown a count [] order [] f nothing

-- ---- of a block that is scheduled

pub inserted_one : TheInsertedLineIsOne
inserted_one machine ts plan line other h k = one_made _ _ _ line other refl h k

pub inserted_some : EachBlockHasAnInsertedLine
inserted_some machine ts plan h = some_made _ (length ts) _ (fits_in_order machine ts plan h)

module _ (machine : Machine) (ts : List Tuple) (plan : Plan) (line : List Item) (h : IsScheduled machine ts plan) (made : IsInserted machine ts plan line) where
  good : IsGood (assignment (pace_on machine ts) (producers_of ts) plan) (length ts) line
  good = made_good _ (length ts) _ line (fits_in_order machine ts plan h) made

  has : (t : ℕ) → t < length ts → list_any (nat_eq t) (tuples line) ≡ true
  has t l = ap (list_any (nat_eq t)) (made_tuples _ _ line made) ∙ in_order_has (start plan) (length ts) t l

  pub ordered_in : AllOrdered (pace_on machine ts) (producers_of ts) line
  ordered_in = λ i g l c. good.ordered i g (has i (let e : length (producers_of ts) ≡ length ts = as_many ts in omega arith)) c

  pub whole : IsWhole machine ts line
  whole =
      let n : length (in_order (start plan) (length ts)) ≡ length ts = in_order_length (start plan) (length ts) in
      let m : length (masks line) ≤ length (in_order (start plan) (length ts)) = made_masks _ _ line made in
      let few : length ts ≤ 128 = h.few in
      record {
        is_line = record { items = good.items; once = good.once; few = omega arith };
        stand = λ t l. Contains-from_any (λ x y e. eqb-true x y e) t (tuples line) (has t l);
        bars = omega arith;
      }
