-- The fields of a line, one at a time.
use Rattle.std.proofs.Common.{◌≡◌, ℕ, ◌+◌, suc, refl, sym, ap, subst, ◌∙◌, arith, Bool, true, false, List, [], ◌∷◌, ◌++◌, take, drop, append_assoc, append-nil, cond, not, length, ◌≤◌, length-append}
use Rattle.std.specs.List.{position_or_len}
use Rattle.timing_script.specs.Rows.{is_blank, field_before, fields_from, fields_of}

abbrev is_other : ℕ → Bool
is_other b = not (is_blank b)

one_more : (n : ℕ) → suc n ≡ 1 + n
one_more n = omega arith

-- blanks at the front change nothing
pub fields-behind : (bs : List ℕ) → fields_of bs ≡ fields_of (drop (position_or_len is_other bs) bs)
fields-behind [] = refl
fields-behind (b ∷ bs) = by (is_blank b) refl (fields-behind bs)
  where
    by : (t : Bool) → is_blank b ≡ t → fields_of bs ≡ fields_of (drop (position_or_len is_other bs) bs)
        → fields_of (b ∷ bs) ≡ fields_of (drop (cond (not (not t)) (1 + position_or_len is_other bs) 0) (b ∷ bs))
    by true e more = rw e (more ∙ ap (λ n. fields_of (drop n (b ∷ bs))) (one_more (position_or_len is_other bs)))
    by false e more = refl

-- what stands before the first blank goes to the front
pub fields-split : (front bs : List ℕ) → fields_from front bs ≡ field_before (front ++ take (position_or_len is_blank bs) bs) (fields_of (drop (position_or_len is_blank bs) bs))
fields-split front [] = ap (λ (x : List ℕ). field_before x []) (sym (append-nil front))
fields-split front (b ∷ bs) = by (is_blank b) refl (fields-split (front ++ b ∷ []) bs)
  where
    cut : ℕ → List (List ℕ)
    cut n = field_before (front ++ take n (b ∷ bs)) (fields_of (drop n (b ∷ bs)))

    by : (t : Bool) → is_blank b ≡ t → fields_from (front ++ b ∷ []) bs ≡ field_before ((front ++ b ∷ []) ++ take (position_or_len is_blank bs) bs) (fields_of (drop (position_or_len is_blank bs) bs))
        → fields_from front (b ∷ bs) ≡ field_before (front ++ take (cond (not t) (1 + position_or_len is_blank bs) 0) (b ∷ bs)) (fields_of (drop (cond (not t) (1 + position_or_len is_blank bs) 0) (b ∷ bs)))
    by true e more = rw e (ap (λ (x : List ℕ). field_before x (fields_from [] bs)) (sym (append-nil front)))
    by false e more =
        rw e
        (more
        ∙ ap (λ (x : List ℕ). field_before x (fields_of (drop (position_or_len is_blank bs) bs))) (append_assoc front (b ∷ []) (take (position_or_len is_blank bs) bs))
        ∙ ap (λ n. field_before (front ++ take n (b ∷ bs)) (fields_of (drop n (b ∷ bs)))) (one_more (position_or_len is_blank bs)))

-- behind the blanks at the front stands no blank
starts_well : (bs : List ℕ) (b : ℕ) (rest : List ℕ) → drop (position_or_len is_other bs) bs ≡ b ∷ rest → is_blank b ≡ false
starts_well [] b rest e = cc
starts_well (x ∷ bs) b rest e = by (is_blank x) refl e (starts_well bs b rest)
  where
    by : (t : Bool) → is_blank x ≡ t → drop (cond (not (not t)) (1 + position_or_len is_other bs) 0) (x ∷ bs) ≡ b ∷ rest
        → (drop (position_or_len is_other bs) bs ≡ b ∷ rest → is_blank b ≡ false) → is_blank b ≡ false
    by true t h more = more (ap (λ n. drop n (x ∷ bs)) (one_more (position_or_len is_other bs)) ∙ h)
    by false t h more = let same : x ≡ b = cc in ap is_blank (sym same) ∙ t

-- one field
pub fields-next : (bs from : List ℕ) → from ≡ drop (position_or_len is_other bs) bs → (from ≡ [] → ⊥)
    → fields_of bs ≡ take (position_or_len is_blank from) from ∷ fields_of (drop (position_or_len is_blank from) from)
fields-next bs [] e some = absurd (some refl)
fields-next bs (b ∷ rest) e some = fields-behind bs ∙ ap fields_of (sym e) ∙ fields-split [] (b ∷ rest) ∙ by (is_blank b) (starts_well bs b rest (sym e))
  where
    by : (t : Bool) → t ≡ false
        → field_before (take (cond (not t) (1 + position_or_len is_blank rest) 0) (b ∷ rest)) (fields_of (drop (cond (not t) (1 + position_or_len is_blank rest) 0) (b ∷ rest)))
        ≡ take (cond (not t) (1 + position_or_len is_blank rest) 0) (b ∷ rest) ∷ fields_of (drop (cond (not t) (1 + position_or_len is_blank rest) 0) (b ∷ rest))
    by true h = cc
    by false h = subst (λ n. field_before (take n (b ∷ rest)) (fields_of (drop n (b ∷ rest))) ≡ take n (b ∷ rest) ∷ fields_of (drop n (b ∷ rest))) (one_more (position_or_len is_blank rest)) refl

-- none is left
pub fields-none : (bs from : List ℕ) → from ≡ drop (position_or_len is_other bs) bs → from ≡ [] → fields_of bs ≡ []
fields-none bs from e none = fields-behind bs ∙ ap fields_of (sym e ∙ none)

-- ---- how many fields there are

before_few : (front : List ℕ) (fields : List (List ℕ)) → length (field_before front fields) ≤ length front + length fields
before_few [] fields = omega arith
before_few (b ∷ bs) fields = omega arith

few_from : (front bs : List ℕ) → length (fields_from front bs) ≤ length front + length bs
few_from front [] = before_few front []
few_from front (b ∷ bs) = by (is_blank b) (few_from [] bs) (few_from (front ++ b ∷ []) bs)
  where
    by : (t : Bool) → length (fields_from [] bs) ≤ 0 + length bs → length (fields_from (front ++ b ∷ []) bs) ≤ length (front ++ b ∷ []) + length bs
        → length (cond t (field_before front (fields_from [] bs)) (fields_from (front ++ b ∷ []) bs)) ≤ length front + suc (length bs)
    by true h k = omega (arith, before_few front (fields_from [] bs))
    by false h k = omega (arith, length-append front (b ∷ []))

-- no more than there are bytes
pub fields-few : (line : List ℕ) → length (fields_of line) ≤ length line
fields-few line = omega (arith, few_from [] line)
