-- Lists that lie one behind another.
use Rattle.std.proofs.Common.{◌≡◌, ℕ, ◌+◌, ◌-◌, ◌<◌, ◌≤◌, zero, suc, refl, sym, ap, ap₂, subst, ◌∙◌, arith, List, [], ◌∷◌, ◌++◌, length, get_or, take, drop, length-drop}
use Rattle.std.specs.Prelude.{slice_range}
use Rattle.std.proofs.lemmas.List.{take-append-le}
use Rattle.std.proofs.Math.Seq.{take_all}
use Rattle.stream_image.specs.Flat.{parts, IsCut, start_of}

pub cut_le : (es : List ℕ) (from n : ℕ) → IsCut es from n → from ≤ n
cut_le [] from n h = omega arith
cut_le (e ∷ es) from n h = omega (arith, h.0, cut_le es e n h.1)

drop_append : {A : Type 0} (k : ℕ) (xs ys : List A) → k ≤ length xs → drop k (xs ++ ys) ≡ drop k xs ++ ys
drop_append zero xs ys h = refl
drop_append (suc k) [] ys h = absurd (omega arith)
drop_append (suc k) (x ∷ xs) ys h = drop_append k xs ys (omega arith)

drop_exact : {A : Type 0} (xs ys : List A) → drop (length xs) (xs ++ ys) ≡ ys
drop_exact [] ys = refl
drop_exact (x ∷ xs) ys = drop_exact xs ys

range_front : {A : Type 0} (xs ys : List A) (a b : ℕ) → a ≤ b → b ≤ length xs → slice_range (xs ++ ys) a b ≡ slice_range xs a b
range_front xs ys a b l h =
    let few : b - a ≤ length (drop a xs) = omega (arith, length-drop a xs) in
    ap (take (b - a)) (drop_append a xs ys (omega arith)) ∙ take-append-le (b - a) (drop a xs) ys few

range_last : {A : Type 0} (xs ys : List A) (a b : ℕ) → a ≡ length xs → b ≡ length xs + length ys → slice_range (xs ++ ys) a b ≡ ys
range_last xs ys a b e f =
    ap (λ (k : ℕ). take (b - k) (drop k (xs ++ ys))) e ∙ ap (take (b - length xs)) (drop_exact xs ys) ∙ take_all (b - length xs) ys (omega arith)

-- one list more
pub parts_push : {A : Type 0} (es : List ℕ) (from : ℕ) (xs ys : List A) (end : ℕ) → IsCut es from (length xs) → end ≡ length xs + length ys → parts (es ++ end ∷ []) from (xs ++ ys) ≡ parts es from xs ++ ys ∷ []
parts_push [] from xs ys end h e = ap (λ (l : List _). l ∷ []) (range_last xs ys from end h e)
parts_push (x ∷ es) from xs ys end h e = λ i. range_front xs ys from x h.0 (cut_le es x (length xs) h.1) i ∷ parts_push es x xs ys end h.1 e i

pub cut_push : (es : List ℕ) (from n m end : ℕ) → IsCut es from n → n ≤ end → end ≡ m → IsCut (es ++ end ∷ []) from m
cut_push [] from n m end h l e = (omega arith, e)
cut_push (x ∷ es) from n m end h l e = (h.0, cut_push es x n m end h.1 l e)

pub parts_length : {A : Type 0} (es : List ℕ) (from : ℕ) (xs : List A) → length (parts es from xs) ≡ length es
parts_length [] from xs = refl
parts_length (e ∷ es) from xs = ap suc (parts_length es e xs)

pub start_next : (e : ℕ) (es : List ℕ) (from k : ℕ) → start_of (e ∷ es) from (suc k) ≡ start_of es e k
start_next e es from zero = refl
start_next e es from (suc k) = refl

start_more : (e : ℕ) (es : List ℕ) (from i : ℕ) → i < length es → start_of (e ∷ es) from (suc i) ≡ start_of es e i
start_more e es from zero h = refl
start_more e es from (suc i) h = refl

-- the list of a number
pub parts_at : {A : Type 0} (es : List ℕ) (from : ℕ) (xs : List A) (i : ℕ) → i < length es → get_or (parts es from xs) i [] ≡ slice_range xs (start_of es from i) (get_or es i 0)
parts_at [] from xs i h = absurd (omega arith)
parts_at (e ∷ es) from xs zero h = refl
parts_at (e ∷ es) from xs (suc i) h = parts_at es e xs i (omega arith) ∙ ap (λ (k : ℕ). slice_range xs k (get_or es i 0)) (sym (start_more e es from i (omega arith)))

pub bounds_at : (es : List ℕ) (from n i : ℕ) → IsCut es from n → i < length es → (start_of es from i ≤ get_or es i 0) × (get_or es i 0 ≤ n)
bounds_at [] from n i h l = absurd (omega arith)
bounds_at (e ∷ es) from n zero h l = (h.0, cut_le es e n h.1)
bounds_at (e ∷ es) from n (suc i) h l =
    let k = bounds_at es e n i h.1 (omega arith) in
    (subst (λ (x : ℕ). x ≤ get_or es i 0) (sym (start_more e es from i (omega arith))) k.0, k.1)

-- ---- the first lists

take_some : {A : Type 0} (xs : List A) (k n : ℕ) → k ≤ n → take k (take n xs) ≡ take k xs
take_some xs zero n h = refl
take_some [] (suc k) zero h = refl
take_some [] (suc k) (suc n) h = refl
take_some (x ∷ xs) (suc k) zero h = absurd (omega arith)
take_some (x ∷ xs) (suc k) (suc n) h = ap (λ l. x ∷ l) (take_some xs k n (omega arith))

drop_take : {A : Type 0} (xs : List A) (a n : ℕ) → drop a (take n xs) ≡ take (n - a) (drop a xs)
drop_take xs zero n = ap (λ k. take k xs) (let z : n ≡ n - 0 = omega arith in z)
drop_take [] (suc a) n = none_left (suc a) n
  where
    none : {A : Type 0} (k : ℕ) → ◌≡◌ {A = List A} (take k []) []
    none zero = refl
    none (suc k) = refl

    none_left : {A : Type 0} (a n : ℕ) → ◌≡◌ {A = List A} (drop a (take n [])) (take (n - a) (drop a []))
    none_left zero n = none n ∙ sym (none (n - 0))
    none_left (suc a) n = ap (drop (suc a)) (none n) ∙ sym (none (n - suc a))
drop_take (x ∷ xs) (suc a) zero = ap (λ k. take k (drop a xs)) (let z : 0 ≡ 0 - suc a = omega arith in z)
drop_take (x ∷ xs) (suc a) (suc n) = drop_take xs a n ∙ ap (λ k. take k (drop a xs)) (let z : n - a ≡ suc n - suc a = omega arith in z)

range_take : {A : Type 0} (xs : List A) (a b n : ℕ) → b ≤ n → slice_range (take n xs) a b ≡ slice_range xs a b
range_take xs a b n h = ap (take (b - a)) (drop_take xs a n) ∙ take_some (drop a xs) (b - a) (n - a) (omega arith)

-- the place where list k begins is no further than the end
pub start_within : (es : List ℕ) (from n k : ℕ) → IsCut es from n → k ≤ length es → (from ≤ start_of es from k) × (start_of es from k ≤ n)
start_within es from n zero h l = (omega arith, cut_le es from n h)
start_within [] from n (suc k) h l = absurd (omega arith)
start_within (e ∷ es) from n (suc k) h l =
    let r = start_within es e n k h.1 (omega arith) in
    let s : start_of (e ∷ es) from (suc k) ≡ start_of es e k = start_next e es from k in
    omega (arith, r.0, r.1, s, h.0)

pub cut_take : (es : List ℕ) (from n k : ℕ) → IsCut es from n → k ≤ length es → IsCut (take k es) from (start_of es from k)
cut_take es from n zero h l = refl
cut_take [] from n (suc k) h l = absurd (omega arith)
cut_take (e ∷ es) from n (suc k) h l = (h.0, subst (IsCut (take k es) e) (sym (start_next e es from k)) (cut_take es e n k h.1 (omega arith)))

pub parts_take : {A : Type 0} (es : List ℕ) (from : ℕ) (xs : List A) (k end : ℕ) → IsCut es from (length xs) → k ≤ length es → start_of es from k ≤ end → parts (take k es) from (take end xs) ≡ take k (parts es from xs)
parts_take es from xs zero end h l s = refl
parts_take [] from xs (suc k) end h l s = absurd (omega arith)
parts_take (e ∷ es) from xs (suc k) end h l s =
    let same : start_of (e ∷ es) from (suc k) ≡ start_of es e k = start_next e es from k in
    let r = start_within es e (length xs) k h.1 (omega arith) in
    ap₂ (λ x ys. x ∷ ys) (range_take xs from e end (omega (arith, r.0, same, s))) (parts_take es e xs k end h.1 (omega arith) (omega (arith, same, s)))

-- ---- what is read of a list that begins as another

pub all_taken : {A : Type 0} (xs : List A) (k : ℕ) → length xs ≤ k → take k xs ≡ xs
all_taken xs k l = take_all k xs l

pub front_taken : {A : Type 0} (xs ys : List A) → take (length xs) (xs ++ ys) ≡ xs
front_taken [] ys = refl
front_taken (x ∷ xs) ys = ap (λ l. x ∷ l) (front_taken xs ys)

-- one element of a range
pub range_next : {A : Type 0} (xs : List A) (k to : ℕ) (d : A) → k < to → to ≤ length xs → slice_range xs k to ≡ get_or xs k d ∷ slice_range xs (k + 1) to
range_next [] k to d l m = absurd (omega arith)
range_next (x ∷ xs) zero (suc to) d l m = ap (λ j. take j (x ∷ xs)) (let z : suc to - 0 ≡ suc to = omega arith in z) ∙ ap (λ j. x ∷ take j xs) (let z : to ≡ suc to - (0 + 1) = omega arith in z)
range_next (x ∷ xs) zero zero d l m = absurd (omega arith)
range_next (x ∷ xs) (suc k) zero d l m = absurd (omega arith)
range_next (x ∷ xs) (suc k) (suc to) d l m =
    let a : suc to - suc k ≡ to - k = omega arith in
    let b : to - (k + 1) ≡ suc to - suc (k + 1) = omega arith in
    let c : suc k + 1 ≡ suc (k + 1) = omega arith in
    ap (λ j. take j (drop k xs)) a ∙ range_next xs k to d (omega arith) (omega arith) ∙ ap (λ l. get_or xs k d ∷ l) (ap (λ j. take j (drop (k + 1) xs)) b ∙ ap (λ j. slice_range (x ∷ xs) j (suc to)) (sym c))
