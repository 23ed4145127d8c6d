-- The first number that passes a test, where the test or the place to begin changes.
use Rattle.std.proofs.Common.{◌≡◌, ℕ, zero, suc, ◌+◌, ◌-◌, ◌<◌, ◌≤◌, Bool, true, false, Some, refl, sym, ap, ◌∙◌, arith, ◌⊎◌, inl, inr, if◌then◌else◌}
use Rattle.std.proofs.lemmas.Bool.{cases_Bool, cases_eq, cond-true, cond-false, both_ways}
use Rattle.unit_law.specs.Units.{first_from}

-- two tests that agree there
pub first_same : (f g : ℕ → Bool) (k n : ℕ) → ((i : ℕ) → k ≤ i → i < k + n → f i ≡ g i) → first_from f k n ≡ first_from g k n
first_same f g k zero h = refl
first_same f g k (suc n) h = ap (λ v. if v then Some k else first_from f (suc k) n) (h k (omega arith) (omega arith)) ∙ ap (λ o. if g k then Some k else o) (first_same f g (suc k) n (λ i lo hi. h i (omega arith) (omega arith)))

-- two tests that agree up to a number that passes
pub first_up_to : (f g : ℕ → Bool) (k n j : ℕ) → k ≤ j → j < k + n → f j ≡ true → ((i : ℕ) → k ≤ i → i ≤ j → f i ≡ g i) → first_from f k n ≡ first_from g k n
first_up_to f g k zero j lo hi t h = absurd (omega arith)
first_up_to f g k (suc n) j lo hi t h = go (cases_Bool (f k)) (λ l. first_up_to f g (suc k) n j l (omega arith) t (λ i a b. h i (omega arith) b))
  where
    here : f k ≡ g k
    here = h k (omega arith) (omega arith)

    go : (f k ≡ true) ⊎ (f k ≡ false) → (suc k ≤ j → first_from f (suc k) n ≡ first_from g (suc k) n) → first_from f k (suc n) ≡ first_from g k (suc n)
    go (inl e) ih = cond-true _ _ _ e ∙ sym (cond-true _ _ _ (sym here ∙ e))
    go (inr e) ih = cond-false _ _ _ e ∙ ih (past (cases_eq k j)) ∙ sym (cond-false _ _ _ (sym here ∙ e))
      where
        past : (k ≡ j) ⊎ (k ≡ j → ⊥) → suc k ≤ j
        past (inl q) = absurd (both_ways _ e (ap f q ∙ t))
        past (inr ne) = omega arith

-- numbers that do not pass are left out
pub first_skip : (f : ℕ → Bool) (k d l : ℕ) → ((i : ℕ) → k ≤ i → i < k + d → f i ≡ false) → first_from f k (d + l) ≡ first_from f (k + d) l
first_skip f k zero l h = let a : 0 + l ≡ l = omega arith in let b : k + 0 ≡ k = omega arith in ap (first_from f k) a ∙ ap (λ k. first_from f k l) (sym b)
first_skip f k (suc d) l h =
    let a : suc d + l ≡ suc (d + l) = omega arith in
    let b : suc k + d ≡ k + suc d = omega arith in
    ap (first_from f k) a ∙ cond-false _ _ _ (h k (omega arith) (omega arith)) ∙ first_skip f (suc k) d l (λ i lo hi. h i (omega arith) (omega arith)) ∙ ap (λ k. first_from f k l) b

-- the same by the places where the search begins and ends
pub first_behind : (f : ℕ → Bool) (k m end : ℕ) → k ≤ m → m ≤ end → ((i : ℕ) → k ≤ i → i < m → f i ≡ false) → first_from f k (end - k) ≡ first_from f m (end - m)
first_behind f k m end lo hi h =
    let a : end - k ≡ (m - k) + (end - m) = omega arith in
    let b : k + (m - k) ≡ m = omega arith in
    ap (first_from f k) a ∙ first_skip f k (m - k) (end - m) (λ i l u. h i l (omega arith)) ∙ ap (λ k. first_from f k (end - m)) b

pub first_after : (f : ℕ → Bool) (m end : ℕ) → m ≤ end → ((i : ℕ) → i < m → f i ≡ false) → first_from f 0 end ≡ first_from f m (end - m)
first_after f m end hi h = let a : end ≡ end - 0 = omega arith in ap (first_from f 0) a ∙ first_behind f 0 m end (omega arith) hi (λ i l u. h i u)
