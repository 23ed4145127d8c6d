-- How many numbers pass a test.
use Rattle.std.proofs.Common.{◌≡◌, ℕ, zero, suc, ◌+◌, ◌<◌, ◌≤◌, Bool, true, false, refl, sym, ap, ◌∙◌, arith, ◌⊎◌, inl, inr, if◌then◌else◌}
use Rattle.std.proofs.lemmas.Bool.{cases_Bool, cases_eq, both_ways}
use Rattle.dbm_unit.specs.Table.{how_many}

pub none_yet : (f : ℕ → Bool) → how_many f 0 ≡ 0
unfolding how_many
none_yet f = refl

step : (f : ℕ → Bool) (n : ℕ) → how_many f (suc n) ≡ (if f n then 1 else 0) + how_many f n
unfolding how_many
step f n = refl

pub one_more : (f : ℕ → Bool) (n : ℕ) → f n ≡ true → how_many f (suc n) ≡ how_many f n + 1
one_more f n e = let x : how_many f (suc n) ≡ 1 + how_many f n = step f n ∙ ap (λ b. (if b then 1 else 0) + how_many f n) e in omega arith

pub no_more : (f : ℕ → Bool) (n : ℕ) → f n ≡ false → how_many f (suc n) ≡ how_many f n
no_more f n e = let x : how_many f (suc n) ≡ 0 + how_many f n = step f n ∙ ap (λ b. (if b then 1 else 0) + how_many f n) e in omega arith

-- two tests that agree
pub same_many : (f g : ℕ → Bool) (n : ℕ) → ((i : ℕ) → i < n → f i ≡ g i) → how_many f n ≡ how_many g n
same_many f g zero h = none_yet f ∙ sym (none_yet g)
same_many f g (suc n) h = step f n ∙ ap (λ b. (if b then 1 else 0) + how_many f n) (h n (omega arith)) ∙ ap (λ k. (if g n then 1 else 0) + k) (same_many f g n (λ i lt. h i (omega arith))) ∙ sym (step g n)

-- none passes
pub none_pass : (f : ℕ → Bool) (n : ℕ) → ((i : ℕ) → i < n → f i ≡ false) → how_many f n ≡ 0
none_pass f zero h = none_yet f
none_pass f (suc n) h = no_more f n (h n (omega arith)) ∙ none_pass f n (λ i lt. h i (omega arith))

-- none from n on and below m passes
pub none_join : (f : ℕ → Bool) (n m : ℕ) → n ≤ m → ((i : ℕ) → n ≤ i → i < m → f i ≡ false) → how_many f m ≡ how_many f n
none_join f n zero le h = ap (how_many f) (omega arith)
none_join f n (suc m) le h = go (cases_eq n (suc m)) (λ l. none_join f n m l (λ i lo hi. h i lo (omega arith)))
  where
    go : (n ≡ suc m) ⊎ (n ≡ suc m → ⊥) → (n ≤ m → how_many f m ≡ how_many f n) → how_many f (suc m) ≡ how_many f n
    go (inl q) ih = ap (how_many f) (sym q)
    go (inr ne) ih = no_more f m (h m (omega arith) (omega arith)) ∙ ih (omega arith)

-- there are no more than numbers
pub many_le : (f : ℕ → Bool) (n : ℕ) → how_many f n ≤ n
many_le f zero = let x = none_yet f in omega arith
many_le f (suc n) = go (cases_Bool (f n)) (many_le f n)
  where
    go : (f n ≡ true) ⊎ (f n ≡ false) → how_many f n ≤ n → how_many f (suc n) ≤ suc n
    go (inl e) ih = let x = one_more f n e in omega arith
    go (inr e) ih = let x = no_more f n e in omega arith

-- what passes the one test passes the other
pub more_pass : (f g : ℕ → Bool) (n : ℕ) → ((i : ℕ) → i < n → f i ≡ true → g i ≡ true) → how_many f n ≤ how_many g n
more_pass f g zero h = let x = none_yet f in omega arith
more_pass f g (suc n) h = go (cases_Bool (f n)) (cases_Bool (g n)) (more_pass f g n (λ i lt e. h i (omega arith) e))
  where
    go : (f n ≡ true) ⊎ (f n ≡ false) → (g n ≡ true) ⊎ (g n ≡ false) → how_many f n ≤ how_many g n → how_many f (suc n) ≤ how_many g (suc n)
    go (inl e) (inl k) ih = let x = one_more f n e in let y = one_more g n k in omega arith
    go (inl e) (inr k) ih = absurd (both_ways _ k (h n (omega arith) e))
    go (inr e) (inl k) ih = let x = no_more f n e in let y = one_more g n k in omega arith
    go (inr e) (inr k) ih = let x = no_more f n e in let y = no_more g n k in omega arith

-- and where they are as many, the other way too
pub all_pass : (f g : ℕ → Bool) (n : ℕ) → ((i : ℕ) → i < n → f i ≡ true → g i ≡ true) → how_many f n ≡ how_many g n → (i : ℕ) → i < n → g i ≡ true → f i ≡ true
all_pass f g zero h e i lt k = absurd (omega arith)
all_pass f g (suc n) h e i lt k = go (cases_Bool (f n)) (cases_Bool (g n)) (cases_eq i n) (more_pass f g n (λ i lt e. h i (omega arith) e)) (λ e l. all_pass f g n (λ i lt e. h i (omega arith) e) e i l k)
  where
    go : (f n ≡ true) ⊎ (f n ≡ false) → (g n ≡ true) ⊎ (g n ≡ false) → (i ≡ n) ⊎ (i ≡ n → ⊥) → how_many f n ≤ how_many g n → (how_many f n ≡ how_many g n → i < n → f i ≡ true) → f i ≡ true
    go (inl a) b (inl q) le ih = ap f q ∙ a
    go (inr a) (inl b) c le ih = absurd (let x = no_more f n a in let y = one_more g n b in omega arith)
    go (inr a) (inr b) (inl q) le ih = absurd (both_ways _ b (ap g (sym q) ∙ k))
    go (inl a) (inl b) (inr ne) le ih = ih (let x = one_more f n a in let y = one_more g n b in omega arith) (omega arith)
    go (inl a) (inr b) c le ih = absurd (both_ways _ b (h n (omega arith) a))
    go (inr a) (inr b) (inr ne) le ih = ih (let x = no_more f n a in let y = no_more g n b in omega arith) (omega arith)

-- one number more passes
pub one_joins : (f g : ℕ → Bool) (n p : ℕ) → p < n → f p ≡ false → g p ≡ true → ((i : ℕ) → (i ≡ p → ⊥) → f i ≡ g i) → how_many g n ≡ how_many f n + 1
one_joins f g zero p lt a b h = absurd (omega arith)
one_joins f g (suc n) p lt a b h = go (cases_eq p n) (λ l. one_joins f g n p l a b h)
  where
    go : (p ≡ n) ⊎ (p ≡ n → ⊥) → (p < n → how_many g n ≡ how_many f n + 1) → how_many g (suc n) ≡ how_many f (suc n) + 1
    go (inl q) ih = let x = one_more g n (ap g (sym q) ∙ b) in let y = no_more f n (ap f (sym q) ∙ a) in let z = same_many f g n (λ i l. h i (λ e. absurd (omega arith))) in omega arith
    go (inr ne) ih = let z = ih (omega arith) in here (cases_Bool (f n)) z
      where
        e : f n ≡ g n
        e = h n (λ e. ne (sym e))

        here : (f n ≡ true) ⊎ (f n ≡ false) → how_many g n ≡ how_many f n + 1 → how_many g (suc n) ≡ how_many f (suc n) + 1
        here (inl k) z = let x = one_more f n k in let y = one_more g n (sym e ∙ k) in omega arith
        here (inr k) z = let x = no_more f n k in let y = no_more g n (sym e ∙ k) in omega arith
