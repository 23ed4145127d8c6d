-- The numbers below n that pass a test.
use Rattle.std.proofs.Common.{◌≡◌, ℕ, zero, suc, ◌+◌, ◌<◌, ◌≤◌, ◌⊎◌, Bool, true, false, cond, List, [], ◌∷◌, ◌++◌, length, get_or, refl, sym, ap, subst, ◌∙◌, inl, inr, arith, filter, All, Contains, lit<}
use Rattle.std.specs.List.{range_with_len}
use Rattle.std.specs.List.Sorted.{IsStrictlyIncreasing}
use Rattle.std.proofs.lemmas.List.Elements.{filter-append, Contains-append_left, Contains-append_right, Contains-append_cases, All-filter}
use Rattle.std.proofs.lemmas.List.{append-nil}
use Rattle.std.proofs.lemmas.List.FromFn.{length-range_with_len, get_or-range_with_len}
use Rattle.std.proofs.lemmas.List.Kept.{IsStrictlyIncreasing-filter}

-- one number more stands at the end
last : (a n j : ℕ) → a + n ≡ j → range_with_len a (suc n) ≡ range_with_len a n ++ j ∷ []
last a zero j e = let same : a ≡ j = omega arith in ap (λ k. k ∷ []) same
last a (suc n) j e = ap (λ l. a ∷ l) (last (a + 1) n j (omega arith))

pub kept_more : (p : ℕ → Bool) (n : ℕ) → filter p (range_with_len 0 (suc n)) ≡ filter p (range_with_len 0 n) ++ cond (p n) (n ∷ []) []
kept_more p n = ap (filter p) (last 0 n n (omega arith)) ∙ filter-append p (range_with_len 0 n) (n ∷ [])

pub kept_one : (p : ℕ → Bool) (n m : ℕ) → n + 1 ≡ m → p n ≡ true → filter p (range_with_len 0 m) ≡ filter p (range_with_len 0 n) ++ n ∷ []
kept_one p n m e passes =
    let on : m ≡ suc n = omega arith in
    ap (λ k. filter p (range_with_len 0 k)) on ∙ kept_more p n ∙ ap (λ b. filter p (range_with_len 0 n) ++ cond b (n ∷ []) []) passes

pub kept_none : (p : ℕ → Bool) (n m : ℕ) → n + 1 ≡ m → p n ≡ false → filter p (range_with_len 0 m) ≡ filter p (range_with_len 0 n)
kept_none p n m e fails =
    let on : m ≡ suc n = omega arith in
    ap (λ k. filter p (range_with_len 0 k)) on ∙ kept_more p n ∙ ap (λ b. filter p (range_with_len 0 n) ++ cond b (n ∷ []) []) fails ∙ append-nil (filter p (range_with_len 0 n))

below_or_at : (a n : ℕ) → a < suc n → (a < n) ⊎ (a ≡ n)
below_or_at a n h = grind arith

-- what a list of one or no number has
one_has : (n a : ℕ) (b : Bool) → Contains (cond b (n ∷ []) []) a → (a ≡ n) × (b ≡ true)
one_has n a true (zero, within, at) = (sym at, refl)
one_has n a true (suc k, within, at) = absurd (omega arith)
one_has n a false (k, within, at) = absurd (omega arith)

one_is : (n a : ℕ) (b : Bool) → a ≡ n → b ≡ true → Contains (cond b (n ∷ []) []) a
one_is n a true e t = (zero, lit< tt, sym e)
one_is n a false e t = absurd (cc)

-- each of them is below n and passes
pub kept_from : (p : ℕ → Bool) (n a : ℕ) → Contains (filter p (range_with_len 0 n)) a → (a < n) × (p a ≡ true)
kept_from p zero a (k, within, at) = absurd (omega arith)
kept_from p (suc n) a h =
    let P : List ℕ → Type 0 = λ xs. Contains xs a in
    let parts : Contains (filter p (range_with_len 0 n)) a ⊎ Contains (cond (p n) (n ∷ []) []) a = Contains-append_cases (filter p (range_with_len 0 n)) (cond (p n) (n ∷ []) []) a (subst P (kept_more p n) h) in
    elim parts [ inl before ↦ (let r = kept_from p n a before in (omega (arith, r.0), r.1)) | inr here ↦ (let r = one_has n a (p n) here in (omega (arith, r.0), ap p r.0 ∙ r.1)) ]

-- each that is below n and passes is among them
pub kept_has : (p : ℕ → Bool) (n a : ℕ) → a < n → p a ≡ true → Contains (filter p (range_with_len 0 n)) a
kept_has p zero a below passes = absurd (omega arith)
kept_has p (suc n) a below passes =
    let P : List ℕ → Type 0 = λ xs. Contains xs a in
    let place : (a < n) ⊎ (a ≡ n) = below_or_at a n below in
    subst P (sym (kept_more p n)) (elim place [ inl lt ↦ Contains-append_left (filter p (range_with_len 0 n)) (cond (p n) (n ∷ []) []) a (kept_has p n a lt passes) | inr e ↦ Contains-append_right (filter p (range_with_len 0 n)) (cond (p n) (n ∷ []) []) a (one_is n a (p n) e (sym (ap p e) ∙ passes)) ])

numbers_ascend : (n : ℕ) → IsStrictlyIncreasing (range_with_len 0 n)
numbers_ascend n k within = omega (arith, length-range_with_len 0 n, get_or-range_with_len 0 n k 0 (omega (arith, length-range_with_len 0 n)), get_or-range_with_len 0 n (k + 1) 0 (omega (arith, length-range_with_len 0 n)))

-- they ascend
pub kept_ascend : (p : ℕ → Bool) (n : ℕ) → IsStrictlyIncreasing (filter p (range_with_len 0 n))
kept_ascend p n = IsStrictlyIncreasing-filter p (range_with_len 0 n) (numbers_ascend n)

numbers_below : (n : ℕ) → All (λ a. a < n) (range_with_len 0 n)
numbers_below n k d within = let lt : k < n = omega (arith, length-range_with_len 0 n) in omega (arith, get_or-range_with_len 0 n k d lt)

pub kept_below : (p : ℕ → Bool) (n : ℕ) → All (λ a. a < n) (filter p (range_with_len 0 n))
kept_below p n = All-filter p (λ a. a < n) (range_with_len 0 n) (numbers_below n)

-- an ascending list has at its places no less than their numbers
at_least : (xs : List ℕ) → IsStrictlyIncreasing xs → (k : ℕ) → k < length xs → k ≤ get_or xs k 0
at_least xs h zero within = omega arith
at_least xs h (suc k) within =
    let on : k + 1 ≡ suc k = omega arith in
    let more : get_or xs k 0 < get_or xs (k + 1) 0 = h k (omega arith) in
    let here : get_or xs (k + 1) 0 ≡ get_or xs (suc k) 0 = ap (λ i. get_or xs i 0) on in
    omega (arith, at_least xs h k (omega arith))

-- so it has at most n numbers below n
pub ascending_length : (xs : List ℕ) (n : ℕ) → IsStrictlyIncreasing xs → All (λ a. a < n) xs → length xs ≤ n
ascending_length [] n h below = omega arith
ascending_length (x ∷ xs) n h below =
    let k : ℕ = length xs in
    let top : get_or (x ∷ xs) k 0 < n = below k 0 (omega arith) in
    omega (arith, at_least (x ∷ xs) h k (omega arith))
