-- Orders in which each tuple is new, and stands behind its producers.
use Rattle.std.proofs.Common.{◌≡◌, ℕ, zero, suc, ◌+◌, ◌<◌, Bool, true, false, nat_eq, ◌||◌, List, [], ◌∷◌, ◌++◌, length, take, slice_index, refl, sym, ap, ◌∙◌, arith, ◌⊎◌, inl, inr, subst, subst₂, eqb-true, eq-eqb, true≢false, Contains, length-append}
use Rattle.std.specs.List.{list_any}
use Rattle.std.proofs.lemmas.List.{take-append-le}
use Rattle.std.proofs.lemmas.List.Folds.{list_any-append}
use Rattle.std.proofs.Math.Seq.{take-append_seam}
use Rattle.barrier_insert.specs.Inserted.{Assignment, producers_for}

pub record Fits (a : Assignment) (count : ℕ) (order : List ℕ) : Type 0 where
  pub below : (t : ℕ) → list_any (nat_eq t) order ≡ true → t < count
  pub new : (k : ℕ) → k < length order → list_any (nat_eq (slice_index order k)) (take k order) ≡ false
  pub there : (k g : ℕ) → k < length order → Contains (producers_for a (slice_index order k)) g → list_any (nat_eq g) (take k order) ≡ true
  pub placed : (t : ℕ) → list_any (nat_eq t) order ≡ true → a.place t < a.pace.processors

at_front : (xs ys : List ℕ) (k : ℕ) → k < length xs → slice_index (xs ++ ys) k ≡ slice_index xs k
at_front [] ys k l = absurd (omega arith)
at_front (x ∷ xs) ys zero l = refl
at_front (x ∷ xs) ys (suc k) l = at_front xs ys k (omega arith)

at_seam : (xs : List ℕ) (x : ℕ) (ys : List ℕ) → slice_index (xs ++ x ∷ ys) (length xs) ≡ x
at_seam [] x ys = refl
at_seam (y ∷ xs) x ys = at_seam xs x ys

or_true : (b : Bool) → (b || true) ≡ true
or_true true = refl
or_true false = refl

pub any_front : (xs ys : List ℕ) (t : ℕ) → list_any (nat_eq t) xs ≡ true → list_any (nat_eq t) (xs ++ ys) ≡ true
any_front xs ys t e = list_any-append (nat_eq t) xs ys ∙ ap (λ b. b || list_any (nat_eq t) ys) e

pub any_seam : (xs : List ℕ) (x : ℕ) (ys : List ℕ) → list_any (nat_eq x) (xs ++ x ∷ ys) ≡ true
any_seam xs x ys = list_any-append (nat_eq x) xs (x ∷ ys) ∙ ap (λ b. list_any (nat_eq x) xs || (b || list_any (nat_eq x) ys)) (eq-eqb x x refl) ∙ or_true (list_any (nat_eq x) xs)

-- a tuple of more is one of those before or the last
pub any_last : (xs : List ℕ) (x t : ℕ) → list_any (nat_eq t) (xs ++ x ∷ []) ≡ true → (list_any (nat_eq t) xs ≡ true) ⊎ (t ≡ x)
any_last xs x t e = go (list_any (nat_eq t) xs) (nat_eq t x) refl (sym (list_any-append (nat_eq t) xs (x ∷ [])) ∙ e)
  where
    go : (b c : Bool) → nat_eq t x ≡ c → (b || (c || false)) ≡ true → (b ≡ true) ⊎ (t ≡ x)
    go true c f h = inl refl
    go false true f h = inr (eqb-true t x f)
    go false false f h = absurd (true≢false (sym h))

long : (xs : List ℕ) (x : ℕ) (ys : List ℕ) → length xs < length (xs ++ x ∷ ys)
long xs x ys = let e : length (xs ++ x ∷ ys) ≡ length xs + length (x ∷ ys) = length-append xs (x ∷ ys) in omega arith

module _ (a : Assignment) (count : ℕ) where
  pub fits_front : (xs ys : List ℕ) → Fits a count (xs ++ ys) → Fits a count xs
  fits_front xs ys h = record {
    below = λ t e. h.below t (any_front xs ys t e);
    new = λ k l. subst₂ (λ x us. list_any (nat_eq x) us ≡ false) (at_front xs ys k l) (take-append-le k xs ys (omega arith)) (h.new k (wider k l));
    there = λ k g l c. ap (list_any (nat_eq g)) (sym (take-append-le k xs ys (omega arith))) ∙ h.there k g (wider k l) (subst (λ x. Contains (producers_for a x) g) (sym (at_front xs ys k l)) c);
    placed = λ t e. h.placed t (any_front xs ys t e);
  }
    where
      wider : (k : ℕ) → k < length xs → k < length (xs ++ ys)
      wider k l = let e : length (xs ++ ys) ≡ length xs + length ys = length-append xs ys in omega arith

  pub last_new : (xs : List ℕ) (x : ℕ) (ys : List ℕ) → Fits a count (xs ++ x ∷ ys) → list_any (nat_eq x) xs ≡ false
  last_new xs x ys h = subst₂ (λ t us. list_any (nat_eq t) us ≡ false) (at_seam xs x ys) (take-append_seam xs (x ∷ ys)) (h.new (length xs) (long xs x ys))

  pub last_there : (xs : List ℕ) (x : ℕ) (ys : List ℕ) → Fits a count (xs ++ x ∷ ys) → (g : ℕ) → Contains (producers_for a x) g → list_any (nat_eq g) xs ≡ true
  last_there xs x ys h g c = ap (list_any (nat_eq g)) (sym (take-append_seam xs (x ∷ ys))) ∙ h.there (length xs) g (long xs x ys) (subst (λ t. Contains (producers_for a t) g) (sym (at_seam xs x ys)) c)

  pub last_placed : (xs : List ℕ) (x : ℕ) (ys : List ℕ) → Fits a count (xs ++ x ∷ ys) → a.place x < a.pace.processors
  last_placed xs x ys h = h.placed x (any_seam xs x ys)

  pub last_below : (xs : List ℕ) (x : ℕ) (ys : List ℕ) → Fits a count (xs ++ x ∷ ys) → x < count
  last_below xs x ys h = h.below x (any_seam xs x ys)
