-- Sums over the numbers below n.
use Rattle.std.proofs.Common.{◌≡◌, ℕ, zero, suc, ◌+◌, ◌*◌, ◌-◌, ◌<◌, ◌≤◌, min, ◌⊎◌, ◌≢◌, List, length, get_or, take, sum, refl, sym, ap, ◌∙◌, inl, inr, arith}
use Rattle.std.proofs.lemmas.List.Sums.{sum_by_more}
use Rattle.std.proofs.Math.Seq.{take-length}

abbrev pub sum_to : (ℕ → ℕ) → ℕ → ℕ
sum_to f zero = 0
sum_to f (suc n) = sum_to f n + f n

pub sum_le : (f g : ℕ → ℕ) (n : ℕ) → ((i : ℕ) → i < n → f i ≤ g i) → sum_to f n ≤ sum_to g n
sum_le f g zero h = omega arith
sum_le f g (suc n) h = omega (arith, sum_le f g n (λ i lt. h i (omega arith)), h n (omega arith))

pub sum_add : (f g : ℕ → ℕ) (n : ℕ) → sum_to (λ i. f i + g i) n ≡ sum_to f n + sum_to g n
sum_add f g zero = refl
sum_add f g (suc n) = omega (arith, sum_add f g n)

pub sum_const : (c n : ℕ) → sum_to (λ _. c) n ≡ n * c
sum_const c zero = omega arith
sum_const c (suc n) = omega (arith, sum_const c n)

pub sum_scale : (c : ℕ) (f : ℕ → ℕ) (n : ℕ) → sum_to (λ i. c * f i) n ≡ c * sum_to f n
sum_scale c f zero = omega arith
sum_scale c f (suc n) = omega (arith, sum_scale c f n)

pub sum_swap : (f : ℕ → ℕ → ℕ) (n m : ℕ) → sum_to (λ i. sum_to (λ j. f i j) m) n ≡ sum_to (λ j. sum_to (λ i. f i j) n) m
sum_swap f zero m = omega (arith, sum_const 0 m)
sum_swap f (suc n) m = ap (λ x. x + sum_to (λ j. f n j) m) (sum_swap f n m) ∙ sym (sum_add (λ j. sum_to (λ i. f i j) n) (λ j. f n j) m)

at_most_or : (i n : ℕ) → i ≤ suc n → (i ≤ n) ⊎ (i ≡ suc n)
at_most_or i n h = grind arith

pub sum_more : (f : ℕ → ℕ) (i n : ℕ) → i ≤ n → sum_to f i ≤ sum_to f n
sum_more f i zero le = let e : i ≡ 0 = omega arith in omega (arith, ap (sum_to f) e)
sum_more f i (suc n) le =
    let c : (i ≤ n) ⊎ (i ≡ suc n) = at_most_or i n le in
    elim c [ inl l ↦ omega (arith, sum_more f i n l) | inr e ↦ omega (arith, ap (sum_to f) e) ]

pub sum_has : (f : ℕ → ℕ) (i n : ℕ) → i < n → f i ≤ sum_to f n
sum_has f i n lt = omega (arith, sum_more f (suc i) n (omega arith))

-- 1 where s is one of the d numbers from a on, else 0
abbrev pub inside : ℕ → ℕ → ℕ → ℕ
inside a d s = 1 - ((a - s) + ((s + 1) - (a + d)))

pub inside_least : (a d n : ℕ) → sum_to (inside a d) n ≤ min d (n - a)
inside_least a d zero = omega arith
inside_least a d (suc n) = omega (arith, inside_least a d n)

or_above : (e r : ℕ) → (suc e ≤ r) ⊎ (r ≤ e)
or_above e r = grind arith

-- no new terms from r on
pub sum_stays : (f : ℕ → ℕ) (r e : ℕ) → ((s : ℕ) → r ≤ s → s < e → f s ≡ 0) → sum_to f e ≤ sum_to f r
sum_stays f r zero h = omega arith
sum_stays f r (suc e) h =
    let c : (suc e ≤ r) ⊎ (r ≤ e) = or_above e r in
    elim c [ inl l ↦ sum_more f (suc e) r l | inr l ↦ omega (arith, sum_stays f r e (λ s a b. h s a (omega arith)), h e l (omega arith)) ]

-- each term is at most 1
pub sum_steps : (f : ℕ → ℕ) (a d : ℕ) → ((s : ℕ) → f s ≤ 1) → sum_to f (a + d) ≤ sum_to f a + d
sum_steps f a zero h = let e : a + 0 ≡ a = omega arith in omega (arith, ap (sum_to f) e)
sum_steps f a (suc d) h = let e : a + suc d ≡ suc (a + d) = omega arith in omega (arith, ap (sum_to f) e, sum_steps f a d h, h (a + d))

sum_take : (xs : List ℕ) (i : ℕ) → i ≤ length xs → sum (take i xs) ≡ sum_to (λ k. get_or xs k 0) i
sum_take xs zero le = refl
sum_take xs (suc i) le =
    let e : suc i ≡ i + 1 = omega arith in
    ap (λ k. sum (take k xs)) e ∙ sum_by_more (λ x. x) xs i 0 (omega arith) ∙ ap (λ n. n + get_or xs i 0) (sum_take xs i (omega arith))

-- the sum of a list
pub sum_is : (xs : List ℕ) → sum xs ≡ sum_to (λ k. get_or xs k 0) (length xs)
sum_is xs = ap sum (sym (take-length xs)) ∙ sum_take xs (length xs) (omega arith)

below_or_same : (t n : ℕ) → t < suc n → (t < n) ⊎ (t ≡ n)
below_or_same t n h = grind arith

sum_same : (f h : ℕ → ℕ) (n : ℕ) → ((u : ℕ) → u < n → f u ≡ h u) → sum_to f n ≡ sum_to h n
sum_same f h zero same = refl
sum_same f h (suc n) same = omega (arith, sum_same f h n (λ u l. same u (omega arith)), same n (omega arith))

-- one term is another
pub sum_change : (f h : ℕ → ℕ) (n t : ℕ) → t < n → ((u : ℕ) → u ≢ t → f u ≡ h u) → sum_to f n + h t ≡ sum_to h n + f t
sum_change f h zero t lt same = absurd (omega arith)
sum_change f h (suc n) t lt same =
    elim (below_or_same t n lt) [ inl l ↦ (let ne : n ≢ t = omega arith in omega (arith, sum_change f h n t l same, same n ne)) | inr e ↦ omega (arith, sum_same f h n (λ u l. same u (omega arith)), ap f e, ap h e) ]
