-- The search for missing producers, one producer after the other.
use Rattle.std.proofs.Common.{◌≡◌, ℕ, zero, suc, ◌+◌, ◌<◌, ◌≤◌, Bool, true, false, ◌==◌, ◌||◌, List, [], ◌∷◌, length, slice_index, slice_index_or, refl, sym, ap, ◌∙◌, arith, ◌⊎◌, inl, inr, subst, eqb-true, eq-eqb, true≢false, Contains}
use Rattle.std.proofs.lemmas.Bool.{cases_lt}
use Rattle.bm_base.specs.Mask.{has_bit}
use Rattle.line_model.specs.declared.line.Item.{Item}
use Rattle.barrier_insert.specs.Inserted.{Assignment, producers_for, IsOrderedNext, AllOrderedNext, IsMissing, IsBarFor}

-- the mask has the processors of i and of those of the first n producers that would not be ordered before it, and no other
pub record IsGathered (a : Assignment) (part : List Item) (i : ℕ) (sources : List ℕ) (n mask : ℕ) : Type 0 where
  pub own : has_bit mask (a.place i) ≡ true
  pub theirs : (k : ℕ) → k < n → IsOrderedNext a part (slice_index sources k) i ⊎ (has_bit mask (a.place (slice_index sources k)) ≡ true)
  pub no_other : (p : ℕ) → has_bit mask p ≡ true → (p ≡ a.place i) ⊎ ((k : ℕ) × (k < n) × (¬ IsOrderedNext a part (slice_index sources k) i) × (a.place (slice_index sources k) ≡ p))

-- whether one of the first n producers would not be ordered before i
abbrev pub IsFound : Assignment → List Item → ℕ → List ℕ → ℕ → Bool → Type 0
IsFound a part i sources n true = (k : ℕ) × (k < n) × (¬ IsOrderedNext a part (slice_index sources k) i)
IsFound a part i sources n false = (k : ℕ) → k < n → IsOrderedNext a part (slice_index sources k) i

-- a search so far
pub record IsSearched (a : Assignment) (part : List Item) (i : ℕ) (sources : List ℕ) (n : ℕ) (found : Bool) (mask : ℕ) : Type 0 where
  pub found_is : IsFound a part i sources n found
  pub gathered : IsGathered a part i sources n mask

or_true : (b : Bool) → (b || true) ≡ true
or_true true = refl
or_true false = refl

has_either : (x y : Bool) → (x || y) ≡ true → (x ≡ true) ⊎ (y ≡ true)
has_either true y e = inl refl
has_either false y e = inr e

-- a mask with one processor more has it, and what it had
pub has_new : (mask next p : ℕ) → ((q : ℕ) → has_bit next q ≡ (has_bit mask q || (q == p))) → has_bit next p ≡ true
has_new mask next p bits = bits p ∙ ap (λ b. has_bit mask p || b) (eq-eqb p p refl) ∙ or_true (has_bit mask p)

has_old : (mask next p q : ℕ) → ((q : ℕ) → has_bit next q ≡ (has_bit mask q || (q == p))) → has_bit mask q ≡ true → has_bit next q ≡ true
has_old mask next p q bits e = bits q ∙ ap (λ b. b || (q == p)) e

has_which : (mask next p q : ℕ) → ((q : ℕ) → has_bit next q ≡ (has_bit mask q || (q == p))) → has_bit next q ≡ true → (has_bit mask q ≡ true) ⊎ (q ≡ p)
has_which mask next p q bits e = elim (has_either (has_bit mask q) (q == p) (sym (bits q) ∙ e)) [ inl h ↦ inl h | inr h ↦ inr (eqb-true q p h) ]

module _ (a : Assignment) (part : List Item) (i : ℕ) (sources : List ℕ) where
  gathered_more : (n mask next : ℕ) → IsGathered a part i sources n mask → ¬ IsOrderedNext a part (slice_index sources n) i → ((q : ℕ) → has_bit next q ≡ (has_bit mask q || (q == a.place (slice_index sources n)))) → IsGathered a part i sources (n + 1) next
  gathered_more n mask next h u bits = record {
    own = has_old mask next _ _ bits h.own;
    theirs = λ k l. at k (cases_lt k n) l;
    no_other = λ q e. elim (has_which mask next _ q bits e) [ inl old ↦ wider q (h.no_other q old) | inr new ↦ inr (n, omega arith, u, sym new) ];
  }
    where
      wider : (q : ℕ) → (q ≡ a.place i) ⊎ ((k : ℕ) × (k < n) × (¬ IsOrderedNext a part (slice_index sources k) i) × (a.place (slice_index sources k) ≡ q)) → (q ≡ a.place i) ⊎ ((k : ℕ) × (k < n + 1) × (¬ IsOrderedNext a part (slice_index sources k) i) × (a.place (slice_index sources k) ≡ q))
      wider q (inl e) = inl e
      wider q (inr (k, l, v, e)) = inr (k, omega arith, v, e)

      old : (k : ℕ) → IsOrderedNext a part (slice_index sources k) i ⊎ (has_bit mask (a.place (slice_index sources k)) ≡ true) → IsOrderedNext a part (slice_index sources k) i ⊎ (has_bit next (a.place (slice_index sources k)) ≡ true)
      old k (inl o) = inl o
      old k (inr e) = inr (has_old mask next _ _ bits e)

      at : (k : ℕ) → (k < n) ⊎ (n ≤ k) → k < n + 1 → IsOrderedNext a part (slice_index sources k) i ⊎ (has_bit next (a.place (slice_index sources k)) ≡ true)
      at k (inl l) _ = old k (h.theirs k l)
      at k (inr l) m = let e : n ≡ k = omega arith in inr (subst (λ j. has_bit next (a.place (slice_index sources j)) ≡ true) e (has_new mask next _ bits))

  gathered_same : (n mask : ℕ) → IsGathered a part i sources n mask → IsOrderedNext a part (slice_index sources n) i → IsGathered a part i sources (n + 1) mask
  gathered_same n mask h o = record { own = h.own; theirs = λ k l. at k (cases_lt k n) l; no_other = λ q e. wider q (h.no_other q e) }
    where
      wider : (q : ℕ) → (q ≡ a.place i) ⊎ ((k : ℕ) × (k < n) × (¬ IsOrderedNext a part (slice_index sources k) i) × (a.place (slice_index sources k) ≡ q)) → (q ≡ a.place i) ⊎ ((k : ℕ) × (k < n + 1) × (¬ IsOrderedNext a part (slice_index sources k) i) × (a.place (slice_index sources k) ≡ q))
      wider q (inl e) = inl e
      wider q (inr (k, l, v, e)) = inr (k, omega arith, v, e)

      at : (k : ℕ) → (k < n) ⊎ (n ≤ k) → k < n + 1 → IsOrderedNext a part (slice_index sources k) i ⊎ (has_bit mask (a.place (slice_index sources k)) ≡ true)
      at k (inl l) _ = h.theirs k l
      at k (inr l) m = let e : n ≡ k = omega arith in inl (subst (λ j. IsOrderedNext a part (slice_index sources j) i) e o)

  pub search_more : (n mask next : ℕ) (found : Bool) → IsSearched a part i sources n found mask → ¬ IsOrderedNext a part (slice_index sources n) i → ((q : ℕ) → has_bit next q ≡ (has_bit mask q || (q == a.place (slice_index sources n)))) → IsSearched a part i sources (n + 1) true next
  search_more n mask next found h u bits = record { found_is = (n, omega arith, u); gathered = gathered_more n mask next h.gathered u bits }

  pub search_same : (n mask : ℕ) (found : Bool) → IsSearched a part i sources n found mask → IsOrderedNext a part (slice_index sources n) i → IsSearched a part i sources (n + 1) found mask
  search_same n mask found h o = record { found_is = still found h.found_is; gathered = gathered_same n mask h.gathered o }
    where
      at : ((k : ℕ) → k < n → IsOrderedNext a part (slice_index sources k) i) → (k : ℕ) → (k < n) ⊎ (n ≤ k) → k < n + 1 → IsOrderedNext a part (slice_index sources k) i
      at f k (inl l) _ = f k l
      at f k (inr l) m = let e : n ≡ k = omega arith in subst (λ j. IsOrderedNext a part (slice_index sources j) i) e o

      still : (b : Bool) → IsFound a part i sources n b → IsFound a part i sources (n + 1) b
      still true (k, l, u) = (k, omega arith, u)
      still false f = λ k l. at f k (cases_lt k n) l

  -- the mask of i's processor alone
  pub search_begin : (empty mask : ℕ) → ((q : ℕ) → has_bit empty q ≡ false) → ((q : ℕ) → has_bit mask q ≡ (has_bit empty q || (q == a.place i))) → IsSearched a part i sources 0 false mask
  search_begin empty mask none bits = record {
    found_is = λ k l. absurd (omega arith);
    gathered = record {
      own = has_new empty mask _ bits;
      theirs = λ k l. absurd (omega arith);
      no_other = λ q e. elim (has_which empty mask _ q bits e) [ inl old ↦ absurd (true≢false (sym old ∙ none q)) | inr new ↦ inl new ];
    };
  }

  at_place : (g : ℕ) → Contains sources g → (k : ℕ) × (k < length sources) × (slice_index sources k ≡ g)
  at_place g (k, l, e) = (k, l, same sources k l e)
    where
      same : (xs : List ℕ) (j : ℕ) → j < length xs → slice_index_or xs j g ≡ g → slice_index xs j ≡ g
      same [] j l e = absurd (omega arith)
      same (x ∷ xs) zero l e = e
      same (x ∷ xs) (suc j) l e = same xs j (omega arith) e

  contains_at : (k : ℕ) → k < length sources → Contains sources (slice_index sources k)
  contains_at k l = (k, l, same sources k l)
    where
      same : (xs : List ℕ) (j : ℕ) → j < length xs → slice_index_or xs j (slice_index xs j) ≡ slice_index xs j
      same [] j l = absurd (omega arith)
      same (x ∷ xs) zero l = refl
      same (x ∷ xs) (suc j) l = same xs j (omega arith)

  -- all sources were searched
  pub none_found : (mask : ℕ) → sources ≡ producers_for a i → IsSearched a part i sources (length sources) false mask → AllOrderedNext a part i
  none_found mask is h = λ g c. let p = at_place g (subst (λ xs. Contains xs g) (sym is) c) in subst (λ x. IsOrderedNext a part x i) p.2 (h.found_is p.0 p.1)

  pub some_found : (mask : ℕ) → sources ≡ producers_for a i → IsSearched a part i sources (length sources) true mask → IsBarFor a part i mask
  some_found mask is h = record {
    some = (slice_index sources h.found_is.0, missing h.found_is.0 h.found_is.1 h.found_is.2);
    own = h.gathered.own;
    theirs = λ g m. let p = at_place g (subst (λ xs. Contains xs g) (sym is) m.producer) in has g p.0 p.2 m (h.gathered.theirs p.0 p.1);
    no_other = λ q e. other q (h.gathered.no_other q e);
  }
    where
      missing : (k : ℕ) → k < length sources → ¬ IsOrderedNext a part (slice_index sources k) i → IsMissing a part (slice_index sources k) i
      missing k l u = record { producer = subst (λ xs. Contains xs (slice_index sources k)) is (contains_at k l); unordered = u }

      has : (g k : ℕ) → slice_index sources k ≡ g → IsMissing a part g i → IsOrderedNext a part (slice_index sources k) i ⊎ (has_bit mask (a.place (slice_index sources k)) ≡ true) → has_bit mask (a.place g) ≡ true
      has g k e m (inl o) = absurd (m.unordered (subst (λ x. IsOrderedNext a part x i) e o))
      has g k e m (inr b) = subst (λ x. has_bit mask (a.place x) ≡ true) e b

      other : (q : ℕ) → (q ≡ a.place i) ⊎ ((k : ℕ) × (k < length sources) × (¬ IsOrderedNext a part (slice_index sources k) i) × (a.place (slice_index sources k) ≡ q)) → (q ≡ a.place i) ⊎ ((g : ℕ) × IsMissing a part g i × (a.place g ≡ q))
      other q (inl e) = inl e
      other q (inr (k, l, u, e)) = inr (slice_index sources k, missing k l u, e)
