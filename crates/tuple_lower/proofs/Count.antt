-- How often a number stands in a trail, and between which numbers a trail lies.
use Rattle.std.proofs.Common.{◌≡◌, ◌≢◌, ◌<◌, ◌≤◌, ◌+◌, ◌*◌, inl, inr, ℕ, zero, suc, Bool, true, false, cond, nat_eq, List, [], ◌∷◌, ◌++◌, length, count_by, refl, ap, ◌∙◌, arith, eq-eqb}
use Rattle.std.proofs.lemmas.Bool.{cases_eq, cases_lt, ne_eqb}
use Rattle.std.proofs.lemmas.List.Sums.{sum_by-cons}

abbrev pub one : ℕ → ℕ → ℕ
one x y = cond (nat_eq x y) 1 0

abbrev pub count : ℕ → List ℕ → ℕ
count x [] = 0
count x (y ∷ ys) = one x y + count x ys

at_most_one : (b : Bool) → cond b 1 0 ≤ 1
at_most_one true = omega arith
at_most_one false = omega arith

pub one_few : (x y : ℕ) → one x y ≤ 1
one_few x y = at_most_one (nat_eq x y)

pub one_same : (x y : ℕ) → x ≡ y → one x y ≡ 1
one_same x y e = ap (λ b. cond b 1 0) (eq-eqb x y e)

pub one_other : (x y : ℕ) → (x ≡ y → ⊥) → one x y ≡ 0
one_other x y ne = ap (λ b. cond b 1 0) (ne_eqb x y ne)

pub count-nil : (x : ℕ) → count x [] ≡ 0
count-nil x = refl

pub count-cons : (x y : ℕ) (ys : List ℕ) → count x (y ∷ ys) ≡ one x y + count x ys
count-cons x y ys = refl

pub count-append : (x : ℕ) (xs ys : List ℕ) → count x (xs ++ ys) ≡ count x xs + count x ys
count-append x [] ys = omega arith
count-append x (y ∷ xs) ys = let h = count-append x xs ys in omega (arith, h)

pub count-is : (x : ℕ) (ys : List ℕ) → count_by (nat_eq x) ys ≡ count x ys
count-is x [] = refl
count-is x (y ∷ ys) = sum_by-cons (λ z. cond (nat_eq x z) 1 0) y ys ∙ ap (λ n. one x y + n) (count-is x ys)

-- the numbers of the trail are lo or more and less than hi, and each stands at most so often
pub record Within (lo hi : ℕ) (trail : List ℕ) (most : ℕ) : Type 0 where
  pub few : (x : ℕ) → count x trail ≤ most
  pub low : (x : ℕ) → x < lo → count x trail ≡ 0
  pub high : (x : ℕ) → hi ≤ x → count x trail ≡ 0

pub within-nil : (lo hi most : ℕ) → Within lo hi [] most
within-nil lo hi most = record {
  few = λ x. let h = count-nil x in omega (arith, h);
  low = λ x l. count-nil x;
  high = λ x l. count-nil x;
}

pub within-one : (y lo hi most : ℕ) → lo ≤ y → y < hi → 0 < most → Within lo hi (y ∷ []) most
within-one y lo hi most l h m = record {
  few = λ x. let a = count-cons x y [] in let b = count-nil x in let c = one_few x y in omega (arith, a, b, c);
  low = λ x k. let a = count-cons x y [] in let b = count-nil x in let c = one_other x y (λ q. let no : ⊥ = omega (arith, q, k, l) in no) in omega (arith, a, b, c);
  high = λ x k. let a = count-cons x y [] in let b = count-nil x in let c = one_other x y (λ q. let no : ⊥ = omega (arith, q, k, h) in no) in omega (arith, a, b, c);
}

pub within-more : (lo hi most lo2 hi2 most2 : ℕ) (trail : List ℕ) → lo2 ≤ lo → hi ≤ hi2 → most ≤ most2 → Within lo hi trail most → Within lo2 hi2 trail most2
within-more lo hi most lo2 hi2 most2 trail a b c w = record {
  few = λ x. let h = w.few x in omega (arith, h, c);
  low = λ x k. w.low x (omega (arith, a, k));
  high = λ x k. w.high x (omega (arith, b, k));
}

-- trails one behind the other, in numbers that are apart
pub within-append : (lo mid hi most : ℕ) (xs ys : List ℕ) → lo ≤ mid → mid ≤ hi → Within lo mid xs most → Within mid hi ys most → Within lo hi (xs ++ ys) most
within-append lo mid hi most xs ys a b v w = record {
  few = λ x. let c = count-append x xs ys in elim (cases_lt x mid) [
    | inl l ↦ let p = v.few x in let q = w.low x l in omega (arith, c, p, q)
    | inr l ↦ let p = w.few x in let q = v.high x l in omega (arith, c, p, q)
  ];
  low = λ x k. let c = count-append x xs ys in let p = v.low x k in let q = w.low x (omega (arith, a, k)) in omega (arith, c, p, q);
  high = λ x k. let c = count-append x xs ys in let p = v.high x (omega (arith, b, k)) in let q = w.high x k in omega (arith, c, p, q);
}

-- ---- a trail is no longer than all its numbers stand in it

pub sum_counts : ℕ → List ℕ → ℕ
sum_counts zero trail = 0
sum_counts (suc n) trail = count n trail + sum_counts n trail

sum_none : (n : ℕ) → sum_counts n [] ≡ 0
unfolding sum_counts
sum_none zero = refl
sum_none (suc n) = let a = count-nil n in let b = sum_none n in omega (arith, a, b)

sum_more : (n y : ℕ) (ys : List ℕ) → sum_counts n ys ≤ sum_counts n (y ∷ ys)
unfolding sum_counts
sum_more zero y ys = omega arith
sum_more (suc n) y ys = let a = count-cons n y ys in let b = sum_more n y ys in omega (arith, a, b)

-- one number more, below n
sum_one : (n y : ℕ) (ys : List ℕ) → y < n → suc (sum_counts n ys) ≤ sum_counts n (y ∷ ys)
unfolding sum_counts
sum_one zero y ys l = absurd (omega (arith, l))
sum_one (suc n) y ys l =
    let a = count-cons n y ys in
    elim (cases_eq n y) [
      | inl q ↦ let b = one_same n y q in let c = sum_more n y ys in omega (arith, a, b, c)
      | inr ne ↦ let c = sum_one n y ys (let g : n ≢ y = ne in omega (arith, l, g)) in omega (arith, a, c)
    ]

long : (n : ℕ) (trail : List ℕ) → ((x : ℕ) → n ≤ x → count x trail ≡ 0) → length trail ≤ sum_counts n trail
long n [] h = omega arith
long n (y ∷ ys) h =
    let below : y < n = elim (cases_lt y n) [
      | inl l ↦ l
      | inr l ↦ let a = h y l in let b = count-cons y y ys in let c = one_same y y refl in absurd (omega (arith, a, b, c))
    ] in
    let rest = long n ys (λ x l. let a = h x l in let b = count-cons x y ys in omega (arith, a, b)) in
    let more = sum_one n y ys below in
    omega (arith, rest, more)

sum_few : (n most : ℕ) (trail : List ℕ) → ((x : ℕ) → count x trail ≤ most) → sum_counts n trail ≤ n * most
unfolding sum_counts
sum_few zero most trail h = omega arith
sum_few (suc n) most trail h =
    let a = h n in
    let b = sum_few n most trail h in
    let c : suc n * most ≡ most + n * most = grind arith in
    omega (arith, a, b, c)

pub trail_long : (n most : ℕ) (trail : List ℕ) → Within 0 n trail most → length trail ≤ n * most
trail_long n most trail w = let a = long n trail w.high in let b = sum_few n most trail w.few in omega (arith, a, b)
