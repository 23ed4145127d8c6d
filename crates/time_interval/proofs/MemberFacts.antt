-- The members of a mask, one after the other.
use Rattle.std.proofs.Common.{◌≡◌, ℕ, zero, suc, ◌+◌, ◌<◌, ◌≤◌, Bool, true, false, nat_eq, nat_lt, ◌&&◌, Option, None, refl, sym, ap, ◌∙◌, arith, ◌⊎◌, inl, inr, subst, add-one, eqb-true, if◌then◌else◌}
use Rattle.std.proofs.lemmas.Bool.{cases_lt}
use Rattle.std.proofs.lemmas.Bool.Decides.{nat_tests}
use Rattle.bm_base.specs.Mask.{has_bit}
use Rattle.time_interval.specs.Bounds.{fire_lo, fire_up, greater_known, greater_of_both}
use Rattle.time_interval.specs.Members.{IsNextBelow}

-- ---- what is built member by member

module _ {X : Type 0} (f : ℕ → X) (mask : ℕ) (step : (n : ℕ) → has_bit mask n ≡ false → f (suc n) ≡ f n) where
  -- nothing is added where there is no member
  skips : (n p : ℕ) → p ≤ n → ((q : ℕ) → p ≤ q → q < n → has_bit mask q ≡ false) → f n ≡ f p
  skips zero p h none = let e : zero ≡ p = omega arith in ap f e
  skips (suc n) p h none = go (cases_lt n p) (skips n p)
    where
      go : (n < p) ⊎ (p ≤ n) → (p ≤ n → ((q : ℕ) → p ≤ q → q < n → has_bit mask q ≡ false) → f n ≡ f p) → f (suc n) ≡ f p
      go (inl l) r = let e : suc n ≡ p = omega arith in ap f e
      go (inr l) r = step n (none n l (omega arith)) ∙ r l (λ q a b. none q a (omega arith))

  -- before the first member
  pub first_is : (end p : ℕ) → IsNextBelow mask 0 end p → f p ≡ f 0
  first_is end p h = skips p 0 h.low h.skipped

  -- behind one more
  pub next_is : (end n p : ℕ) → IsNextBelow mask (n + 1) end p → f p ≡ f (suc n)
  next_is end n p h = subst (λ k. f p ≡ f k) (add-one n) (skips p (n + 1) h.low h.skipped)

-- what is set for the members below a place
set_step : (mask q n : ℕ) → has_bit mask n ≡ false → (nat_lt q (suc n) && has_bit mask q) ≡ (nat_lt q n && has_bit mask q)
set_step mask q n h = go (nat_eq q n) refl
  where
    go : (b : Bool) → nat_eq q n ≡ b → (nat_lt q (suc n) && has_bit mask q) ≡ (nat_lt q n && has_bit mask q)
    go true e = grind (arith, nat_tests)
    go false e = grind (arith, nat_tests)

-- ---- the greatest of the members' bounds

lo_step : (m : ℕ) (lo : ℕ → Option ℕ) (n : ℕ) → has_bit m n ≡ false → fire_lo (suc n) m lo ≡ fire_lo n m lo
lo_step m lo n h = ap (λ b. if b then greater_known (fire_lo n m lo) (lo n) else fire_lo n m lo) h

pub lo_first : (m : ℕ) (lo : ℕ → Option ℕ) (end p : ℕ) → IsNextBelow m 0 end p → None ≡ fire_lo p m lo
lo_first m lo end p h = sym (first_is (λ n. fire_lo n m lo) m (lo_step m lo) end p h)

pub lo_next : (m : ℕ) (lo : ℕ → Option ℕ) (end n p : ℕ) (g : Option ℕ) → IsNextBelow m (n + 1) end p → has_bit m n ≡ true → g ≡ fire_lo n m lo → greater_known g (lo n) ≡ fire_lo p m lo
lo_next m lo end n p g h e s = ap (λ x. greater_known x (lo n)) s ∙ ap (λ b. if b then greater_known (fire_lo n m lo) (lo n) else fire_lo n m lo) (sym e) ∙ sym (next_is (λ n. fire_lo n m lo) m (lo_step m lo) end n p h)

up_step : (m : ℕ) (fired : Option ℕ) (up : ℕ → Option ℕ) (n : ℕ) → has_bit m n ≡ false → fire_up (suc n) m fired up ≡ fire_up n m fired up
up_step m fired up n h = ap (λ b. if b then greater_of_both (fire_up n m fired up) (up n) else fire_up n m fired up) h

pub up_first : (m : ℕ) (fired : Option ℕ) (up : ℕ → Option ℕ) (end p : ℕ) → IsNextBelow m 0 end p → fired ≡ fire_up p m fired up
up_first m fired up end p h = sym (first_is (λ n. fire_up n m fired up) m (up_step m fired up) end p h)

pub up_next : (m : ℕ) (fired : Option ℕ) (up : ℕ → Option ℕ) (end n p : ℕ) (g : Option ℕ) → IsNextBelow m (n + 1) end p → has_bit m n ≡ true → g ≡ fire_up n m fired up → greater_of_both g (up n) ≡ fire_up p m fired up
up_next m fired up end n p g h e s = ap (λ x. greater_of_both x (up n)) s ∙ ap (λ b. if b then greater_of_both (fire_up n m fired up) (up n) else fire_up n m fired up) (sym e) ∙ sym (next_is (λ n. fire_up n m fired up) m (up_step m fired up) end n p h)

-- ---- what is put at each member

pub put_first : (m end p q : ℕ) → IsNextBelow m 0 end p → (nat_lt q p && has_bit m q) ≡ false
put_first m end p q h = first_is (λ n. nat_lt q n && has_bit m q) m (set_step m q) end p h ∙ none
  where
    none : (nat_lt q 0 && has_bit m q) ≡ false
    none = grind (arith, nat_tests)

pub put_next : {Y : Type 0} (m end n p q : ℕ) (y old cur new : Y) → IsNextBelow m (n + 1) end p → has_bit m n ≡ true → cur ≡ (if nat_lt q n && has_bit m q then y else old) → new ≡ (if nat_eq n q then y else cur) → new ≡ (if nat_lt q p && has_bit m q then y else old)
put_next m end n p q y old cur new h e s t = go (nat_eq n q) refl ∙ ap (λ b. if b then y else old) (sym (next_is (λ n. nat_lt q n && has_bit m q) m (set_step m q) end n p h))
  where
    at : nat_eq n q ≡ true → (nat_lt q (suc n) && has_bit m q) ≡ true
    at f = let k : n ≡ q = eqb-true n q f in subst (λ x. (nat_lt x (suc n) && has_bit m x) ≡ true) k (here e)
      where
        here : has_bit m n ≡ true → (nat_lt n (suc n) && has_bit m n) ≡ true
        here g = grind (arith, nat_tests)

    off : nat_eq n q ≡ false → (nat_lt q n && has_bit m q) ≡ (nat_lt q (suc n) && has_bit m q)
    off f = grind (arith, nat_tests)

    go : (b : Bool) → nat_eq n q ≡ b → new ≡ (if nat_lt q (suc n) && has_bit m q then y else old)
    go true f = t ∙ ap (λ b. if b then y else cur) f ∙ ap (λ b. if b then y else old) (sym (at f))
    go false f = t ∙ ap (λ b. if b then y else cur) f ∙ s ∙ ap (λ b. if b then y else old) (off f)

-- all members are below the end
pub put_last : (m n q : ℕ) → ((p : ℕ) → has_bit m p ≡ true → p < n) → (nat_lt q n && has_bit m q) ≡ has_bit m q
put_last m n q h = go (has_bit m q) refl
  where
    go : (b : Bool) → has_bit m q ≡ b → (nat_lt q n && has_bit m q) ≡ has_bit m q
    go true e = let l : q < n = h q e in grind (arith, nat_tests)
    go false e = grind (arith, nat_tests)
