-- Tables of a schedule in the making, as tuples get their places.
use Rattle.std.proofs.Common.{◌≡◌, ◌≢◌, ℕ, zero, suc, ◌+◌, ◌<◌, ◌≤◌, ◌⊎◌, ◌&&◌, max, cond, nat_lt, nat_eq, false, true≢false, List, [], map, length, replicate, set, slice_index, slice_index_or, get_or-set_same, get_or-set_other, Contains, refl, sym, ap, ap₂, subst, ◌∙◌, inl, inr, arith}
use Rattle.std.specs.List.{range_with_len, list_any}
use Rattle.std.proofs.lemmas.List.{length-set}
use Rattle.std.proofs.lemmas.Bool.{cases_Bool, eqb-true}
use Rattle.std.proofs.lemmas.Bool.Decides.{nat_tests}
use Rattle.std.proofs.lemmas.Map.Views.{Contains-from_any}
use Rattle.list_schedule.specs.Job.{greatest}
use Rattle.list_schedule.specs.Steps.{never, AreStarts, finish_of, finish_on, last_finish, ready_from, open_from}
use Rattle.list_schedule.proofs.HeightFacts.{value_attained, value_at_most, map_same, any_from}

pub same_or : (u t : ℕ) → (u ≡ t) ⊎ (u ≢ t)
same_or u t = grind arith

pub below_or : (u t : ℕ) → (u < t) ⊎ (t ≤ u)
below_or u t = grind arith

-- ---- from which tick on processors are idle

value_least : (f : ℕ → ℕ) (n b : ℕ) → ((u : ℕ) → u < n → f u ≤ b) → greatest (map f (range_with_len 0 n)) ≤ b
value_least f n b h = elim (value_attained f n) [ inl e ↦ omega (arith, e) | inr k ↦ omega (arith, k.2, h k.0 k.1) ]

value_same : (f h : ℕ → ℕ) (n : ℕ) → ((u : ℕ) → u < n → f u ≡ h u) → greatest (map f (range_with_len 0 n)) ≡ greatest (map h (range_with_len 0 n))
value_same f h n same =
    let low : greatest (map f (range_with_len 0 n)) ≤ greatest (map h (range_with_len 0 n)) = value_least f n (greatest (map h (range_with_len 0 n))) (λ u lt. omega (arith, same u lt, value_at_most h n u lt)) in
    let high : greatest (map h (range_with_len 0 n)) ≤ greatest (map f (range_with_len 0 n)) = value_least h n (greatest (map f (range_with_len 0 n))) (λ u lt. omega (arith, same u lt, value_at_most f n u lt)) in
    omega arith

-- one value is another, which was 0
value_change : (f h : ℕ → ℕ) (n t : ℕ) → t < n → ((u : ℕ) → u ≢ t → f u ≡ h u) → h t ≡ 0 → greatest (map f (range_with_len 0 n)) ≡ max (greatest (map h (range_with_len 0 n))) (f t)
value_change f h n t lt same none =
    let low : greatest (map f (range_with_len 0 n)) ≤ max (greatest (map h (range_with_len 0 n))) (f t) = value_least f n _ (λ u l. elim (same_or u t) [ inl e ↦ omega (arith, ap f e) | inr ne ↦ omega (arith, same u ne, value_at_most h n u l) ]) in
    let there : f t ≤ greatest (map f (range_with_len 0 n)) = value_at_most f n t lt in
    let high : greatest (map h (range_with_len 0 n)) ≤ greatest (map f (range_with_len 0 n)) = value_least h n _ (λ u l. elim (same_or u t) [ inl e ↦ omega (arith, ap h e, none) | inr ne ↦ omega (arith, same u ne, value_at_most f n u l) ]) in
    omega arith

off : (s t p q : ℕ) → s ≡ never → cond (nat_lt s never && nat_eq p q) (s + t) 0 ≡ 0
off s t p q e = grind (arith, nat_tests)

off_other : (s t p q : ℕ) → p ≢ q → cond (nat_lt s never && nat_eq p q) (s + t) 0 ≡ 0
off_other s t p q ne = grind (arith, nat_tests)

on_is : (s t p q : ℕ) → s < never → p ≡ q → cond (nat_lt s never && nat_eq p q) (s + t) 0 ≡ s + t
on_is s t p q lt e = grind (arith, nat_tests)

module _ (times starts places : List ℕ) (t p z : ℕ) (is : t < length times) (of_starts : t < length starts) (of_places : t < length places) (free : slice_index starts t ≡ never) (tick : z < never) where
  kept : (q u : ℕ) → u ≢ t → finish_on times (set starts t z) (set places t p) q u ≡ finish_on times starts places q u
  kept q u ne = ap₂ (λ s r. cond (nat_lt s never && nat_eq r q) (s + slice_index times u) 0) (get_or-set_other starts t u z 0 ne) (get_or-set_other places t u p 0 ne)

  was : (q : ℕ) → finish_on times starts places q t ≡ 0
  was q = off (slice_index starts t) (slice_index times t) (slice_index places t) q free

  start_is : slice_index (set starts t z) t ≡ z
  start_is = get_or-set_same starts t z 0 of_starts

  place_is : slice_index (set places t p) t ≡ p
  place_is = get_or-set_same places t p 0 of_places

  pub last_put : (q : ℕ) → p ≡ q → last_finish times (set starts t z) (set places t p) q ≡ max (last_finish times starts places q) (z + slice_index times t)
  last_put q e =
      value_change (finish_on times (set starts t z) (set places t p) q) (finish_on times starts places q) (length times) t is (kept q) (was q)
      ∙ ap (max (last_finish times starts places q)) (on_is (slice_index (set starts t z) t) (slice_index times t) (slice_index (set places t p) t) q (omega (arith, start_is)) (place_is ∙ e) ∙ ap (λ s. s + slice_index times t) start_is)

  pub last_kept : (q : ℕ) → p ≢ q → last_finish times (set starts t z) (set places t p) q ≡ last_finish times starts places q
  last_kept q ne = value_same _ _ (length times) (λ u lt. elim (same_or u t) [
    | inl e ↦ ap (finish_on times (set starts t z) (set places t p) q) e ∙ off_other (slice_index (set starts t z) t) (slice_index times t) (slice_index (set places t p) t) q (λ f. ne (sym place_is ∙ f)) ∙ sym (was q) ∙ ap (finish_on times starts places q) (sym e)
    | inr nu ↦ kept q u nu
  ])

pub last_none : (times starts places : List ℕ) (q : ℕ) → ((u : ℕ) → u < length times → slice_index starts u ≡ never) → last_finish times starts places q ≡ 0
last_none times starts places q none = let low : last_finish times starts places q ≤ 0 = value_least (finish_on times starts places q) (length times) 0 (λ u lt. omega (arith, off (slice_index starts u) (slice_index times u) (slice_index places u) q (none u lt))) in omega arith

pub zeros_length : (n : ℕ) → length {A = ℕ} (replicate n 0) ≡ n
zeros_length zero = refl
zeros_length (suc n) = ap suc (zeros_length n)

pub zero_at : (n p : ℕ) → p < n → slice_index (replicate n 0) p ≡ 0
zero_at zero p lt = absurd (omega arith)
zero_at (suc n) zero lt = refl
zero_at (suc n) (suc p) lt = zero_at n p (omega arith)

-- ---- from which tick on tuples may be placed

other : (t a : ℕ) (ps : List ℕ) → list_any (nat_eq t) ps ≡ false → Contains ps a → a ≢ t
other t a ps without has e = true≢false (sym (any_from t ps (subst (Contains ps) e has)) ∙ without)

ready_kept : (times starts : List ℕ) (t z : ℕ) (ps : List ℕ) → list_any (nat_eq t) ps ≡ false → ready_from times (set starts t z) ps ≡ ready_from times starts ps
ready_kept times starts t z ps without = ap greatest (map_same (finish_of times (set starts t z)) (finish_of times starts) ps (λ a has. ap (λ s. cond (nat_lt s never) (s + slice_index times a) never) (get_or-set_other starts t a z 0 (other t a ps without has))))

pub open_kept : (times : List ℕ) (deps : List (List ℕ)) (starts : List ℕ) (t z u : ℕ) → u ≢ t → list_any (nat_eq t) (slice_index_or deps u []) ≡ false → open_from times deps (set starts t z) u ≡ open_from times deps starts u
open_kept times deps starts t z u ne without = ap₂ (λ s r. cond (nat_lt s never) never r) (get_or-set_other starts t u z 0 ne) (ready_kept times starts t z (slice_index_or deps u []) without)

placed : (s f : ℕ) → s < never → cond (nat_lt s never) never f ≡ never
placed s f lt = grind (arith, nat_tests)

pub open_placed : (times : List ℕ) (deps : List (List ℕ)) (starts : List ℕ) (t : ℕ) → slice_index starts t < never → open_from times deps starts t ≡ never
open_placed times deps starts t lt = placed (slice_index starts t) (ready_from times starts (slice_index_or deps t [])) lt

-- tuples up to t do not have it as a producer
pub not_later : (deps : List (List ℕ)) (t u : ℕ) → ((a : ℕ) → Contains (slice_index_or deps u []) a → a < u) → u ≤ t → list_any (nat_eq t) (slice_index_or deps u []) ≡ false
not_later deps t u early le = elim (cases_Bool (list_any (nat_eq t) (slice_index_or deps u []))) [
  | inl among ↦ absurd (let lt : t < u = early t (Contains-from_any (λ x y e. eqb-true x y e) t (slice_index_or deps u []) among) in omega arith)
  | inr without ↦ without
]

-- .. where the table holds for what comes before b with the new start, and for the rest without it
pub record Reopened (times : List ℕ) (deps : List (List ℕ)) (now before opens : List ℕ) (b : ℕ) : Type 0 where
  pub passed : (u : ℕ) → u < length times → u < b → slice_index opens u ≡ open_from times deps now u
  pub rest : (u : ℕ) → u < length times → b ≤ u → slice_index opens u ≡ open_from times deps before u

pub reopened_first : (times : List ℕ) (deps : List (List ℕ)) (before opens : List ℕ) (t z : ℕ) → t < length opens → t < length before → z < never → ((u a : ℕ) → u < length times → Contains (slice_index_or deps u []) a → a < u) → ((u : ℕ) → u < length times → slice_index opens u ≡ open_from times deps before u) → Reopened times deps (set before t z) before (set opens t never) (t + 1)
reopened_first times deps before opens t z of_opens of_starts lt early h = record {
  passed = λ u is le. elim (same_or u t) [
    | inl e ↦ ap (slice_index (set opens t never)) e ∙ get_or-set_same opens t never 0 of_opens ∙ sym (open_placed times deps (set before t z) t (omega (arith, get_or-set_same before t z 0 of_starts))) ∙ ap (open_from times deps (set before t z)) (sym e)
    | inr ne ↦ get_or-set_other opens t u never 0 ne ∙ h u is ∙ sym (open_kept times deps before t z u ne (not_later deps t u (λ a has. early u a is has) (omega arith)))
  ];
  rest = λ u is le. let ne : u ≢ t = omega arith in get_or-set_other opens t u never 0 ne ∙ h u is;
}

pub reopened_one : (times : List ℕ) (deps : List (List ℕ)) (now before opens : List ℕ) (b x : ℕ) → b < length opens → x ≡ open_from times deps now b → Reopened times deps now before opens b → Reopened times deps now before (set opens b x) (b + 1)
reopened_one times deps now before opens b x of_opens is h = record {
  passed = λ u lt le. elim (same_or u b) [
    | inl e ↦ ap (slice_index (set opens b x)) e ∙ get_or-set_same opens b x 0 of_opens ∙ is ∙ ap (open_from times deps now) (sym e)
    | inr ne ↦ get_or-set_other opens b u x 0 ne ∙ h.passed u lt (omega arith)
  ];
  rest = λ u lt le. let ne : u ≢ b = omega arith in get_or-set_other opens b u x 0 ne ∙ h.rest u lt (omega arith);
}

pub reopened_none : (times : List ℕ) (deps : List (List ℕ)) (before opens : List ℕ) (t z b : ℕ) (row : List ℕ) → t < b → row ≡ slice_index_or deps b [] → list_any (nat_eq t) row ≡ false → Reopened times deps (set before t z) before opens b → Reopened times deps (set before t z) before opens (b + 1)
reopened_none times deps before opens t z b row above is without h = record {
  passed = λ u lt le. elim (same_or u b) [
    | inl e ↦ (let ne : u ≢ t = omega arith in h.rest u lt (omega arith) ∙ sym (open_kept times deps before t z u ne (ap (λ k. list_any (nat_eq t) (slice_index_or deps k [])) e ∙ ap (list_any (nat_eq t)) (sym is) ∙ without)))
    | inr ne ↦ h.passed u lt (omega arith)
  ];
  rest = λ u lt le. h.rest u lt (omega arith);
}

-- the starts with one more are those of a schedule in the making
pub starts_put : (times starts : List ℕ) (t z : ℕ) → t < length times → z ≤ 128000 → AreStarts times starts → AreStarts times (set starts t z)
starts_put times starts t z is early h = record {
  many = length-set starts t z ∙ h.many;
  few = h.few;
  short = h.short;
  early = λ u lt. elim (same_or u t) [
    | inl e ↦ omega (arith, ap (slice_index (set starts t z)) e, get_or-set_same starts t z 0 (omega (arith, h.many)))
    | inr ne ↦ omega (arith, get_or-set_other starts t u z 0 ne, h.early u (omega (arith, get_or-set_other starts t u z 0 ne)))
  ];
}
