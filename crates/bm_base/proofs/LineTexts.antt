-- Lines of texts.
use Rattle.std.proofs.Common.{◌≡◌, ℕ, ◌+◌, ◌<◌, ◌≤◌, suc, refl, sym, ap, ◌∙◌, arith, Bool, true, false, List, [], ◌∷◌, ◌++◌, length, take, drop, append_assoc, append-nil, true≢false, cond, Some, None, inl, inr}
use Rattle.std.specs.Prelude.{nat_lt, position, ◌==◌}
use Rattle.std.specs.List.{AllByRecursion, position_or_len}
use Rattle.std.proofs.lemmas.List.Recursion.{is_position_or_len}
use Rattle.std.proofs.Math.Seq.{take_all}
use Rattle.std.proofs.lemmas.Bool.Decides.{nat_tests}
use Rattle.bm_base.proofs.StrictTexts.{chosen, none_some, some_same}
use Rattle.bm_base.specs.Lines.{front_of, behind_of, has_byte, line_front, behind_line, has_end, unlines, whole_from, cut_from}

pub front-short : (s : ℕ) (bs : List ℕ) → length (front_of s bs) ≤ length bs
front-short s [] = omega arith
front-short s (b ∷ bs) = (elim (b == s) as (λ t. length (cond t [] (b ∷ front_of s bs)) ≤ suc (length bs)) [
  | true ↦ (omega arith)
  | false ↦ (omega (arith, front-short s bs))
])

pub take-front : (s : ℕ) (bs : List ℕ) → take (length (front_of s bs)) bs ≡ front_of s bs
take-front s [] = refl
take-front s (b ∷ bs) = (elim (b == s) as (λ t. take (length (cond t [] (b ∷ front_of s bs))) (b ∷ bs) ≡ cond t [] (b ∷ front_of s bs)) [
  | true ↦ (refl)
  | false ↦ (ap (λ (x : List ℕ). b ∷ x) (take-front s bs))
])

pub has_byte-length : (s : ℕ) (bs : List ℕ) → has_byte s bs ≡ nat_lt (length (front_of s bs)) (length bs)
has_byte-length s [] = refl
has_byte-length s (b ∷ bs) = (elim (b == s) as (λ t. cond t true (has_byte s bs) ≡ nat_lt (length (cond t [] (b ∷ front_of s bs))) (suc (length bs))) [
  | true ↦ (sym (grind (arith, nat_tests)))
  | false ↦ (has_byte-length s bs ∙ grind (arith, nat_tests))
])

pub drop-front : (s : ℕ) (bs : List ℕ) → length (front_of s bs) < length bs → drop (length (front_of s bs) + 1) bs ≡ behind_of s bs
drop-front s [] h = absurd (omega arith)
drop-front s (b ∷ bs) h = (elim (b == s) as (λ t. length (cond t [] (b ∷ front_of s bs)) < suc (length bs) → drop (length (cond t [] (b ∷ front_of s bs)) + 1) (b ∷ bs) ≡ cond t bs (behind_of s bs)) [
  | true ↦ λ l. refl
  | false ↦ λ l. (let e : suc (length (front_of s bs)) + 1 ≡ suc (length (front_of s bs) + 1) = omega arith in ap (λ (n : ℕ). drop n (b ∷ bs)) e ∙ drop-front s bs (omega arith))
]) h

pub take-none : (s : ℕ) (bs : List ℕ) → length bs ≤ length (front_of s bs) → front_of s bs ≡ bs
take-none s bs h = sym (take-front s bs) ∙ take_all (length (front_of s bs)) bs h

pub no_byte-behind : (s : ℕ) (bs : List ℕ) → has_byte s bs ≡ false → behind_of s bs ≡ []
no_byte-behind s [] h = refl
no_byte-behind s (b ∷ bs) h = (elim (b == s) as (λ t. cond t true (has_byte s bs) ≡ false → cond t bs (behind_of s bs) ≡ []) [
  | true ↦ λ l. (absurd (true≢false l))
  | false ↦ λ l. (no_byte-behind s bs l)
]) h

-- one line at a time
pub whole-step : (front bs : List ℕ) → whole_from front bs ≡ cond (has_end bs) ((front ++ line_front bs) ∷ whole_from [] (behind_line bs)) []
whole-step front [] = refl
whole-step front (b ∷ bs) = (elim (b == 10) as (λ t. cond t (front ∷ whole_from [] bs) (whole_from (front ++ b ∷ []) bs) ≡ cond (cond t true (has_end bs)) ((front ++ cond t [] (b ∷ line_front bs)) ∷ whole_from [] (cond t bs (behind_line bs))) []) [
  | true ↦ (ap (λ (x : List ℕ). x ∷ whole_from [] bs) (sym (append-nil front)))
  | false ↦ (whole-step (front ++ b ∷ []) bs ∙ ap (λ (x : List ℕ). cond (has_end bs) (x ∷ whole_from [] (behind_line bs)) []) (append_assoc front (b ∷ []) (line_front bs)))
])

pub cut-step : (front bs : List ℕ) → cut_from front bs ≡ cond (has_end bs) (cut_from [] (behind_line bs)) (front ++ line_front bs)
cut-step front [] = sym (append-nil front)
cut-step front (b ∷ bs) = (elim (b == 10) as (λ t. cond t (cut_from [] bs) (cut_from (front ++ b ∷ []) bs) ≡ cond (cond t true (has_end bs)) (cut_from [] (cond t bs (behind_line bs))) (front ++ cond t [] (b ∷ line_front bs))) [
  | true ↦ (refl)
  | false ↦ (cut-step (front ++ b ∷ []) bs ∙ ap (λ (x : List ℕ). cond (has_end bs) (cut_from [] (behind_line bs)) x) (append_assoc front (b ∷ []) (line_front bs)))
])

line_more : (front : List ℕ) (b : ℕ) (bs : List ℕ) → unlines (whole_from [] bs) ++ cut_from [] bs ≡ bs → unlines (whole_from (front ++ b ∷ []) bs) ++ cut_from (front ++ b ∷ []) bs ≡ (front ++ b ∷ []) ++ bs
    → unlines (whole_from front (b ∷ bs)) ++ cut_from front (b ∷ bs) ≡ front ++ b ∷ bs
line_more front b bs p q = by (b == 10) refl
  where
    by : (t : Bool) → (b == 10) ≡ t → unlines (cond t (front ∷ whole_from [] bs) (whole_from (front ++ b ∷ []) bs)) ++ cond t (cut_from [] bs) (cut_from (front ++ b ∷ []) bs) ≡ front ++ b ∷ bs
    by true e =
        let s : 10 ≡ b = sym (grind (arith, nat_tests)) in
        append_assoc front (10 ∷ unlines (whole_from [] bs)) (cut_from [] bs) ∙ ap (λ (x : List ℕ). front ++ 10 ∷ x) p ∙ ap (λ (x : ℕ). front ++ x ∷ bs) s
    by false e = q ∙ append_assoc front (b ∷ []) bs

-- the lines and the rest are the text
pub lines-text : (front bs : List ℕ) → unlines (whole_from front bs) ++ cut_from front bs ≡ front ++ bs
lines-text front [] = sym (append-nil front)
lines-text front (b ∷ bs) = line_more front b bs (lines-text [] bs) (lines-text (front ++ b ∷ []) bs)

-- a byte more behind a text
has_byte-push : (s : ℕ) (front : List ℕ) (b : ℕ) → has_byte s front ≡ false → (b == s) ≡ false → has_byte s (front ++ b ∷ []) ≡ false
has_byte-push s [] b h e = rw e refl
has_byte-push s (x ∷ front) b h e = by (x == s) h (λ n. has_byte-push s front b n e)
  where
    by : (t : Bool) → cond t true (has_byte s front) ≡ false → (has_byte s front ≡ false → has_byte s (front ++ b ∷ []) ≡ false)
        → cond t true (has_byte s (front ++ b ∷ [])) ≡ false
    by true n more = absurd (true≢false n)
    by false n more = more n

abbrev IsPlain : List ℕ → Type 0
IsPlain line = has_end line ≡ false

-- no line has an LF inside
pub lines-plain : (front bs : List ℕ) → IsPlain front → AllByRecursion IsPlain (whole_from front bs)
lines-plain front [] h = tt
lines-plain front (b ∷ bs) h = by (b == 10) refl (λ k. lines-plain k bs)
  where
    by : (t : Bool) → (b == 10) ≡ t → ((k : List ℕ) → IsPlain k → AllByRecursion IsPlain (whole_from k bs))
        → AllByRecursion IsPlain (cond t (front ∷ whole_from [] bs) (whole_from (front ++ b ∷ []) bs))
    by true e more = (h, more [] refl)
    by false e more = more (front ++ b ∷ []) (has_byte-push 10 front b h e)

pub cut-plain : (front bs : List ℕ) → IsPlain front → IsPlain (cut_from front bs)
cut-plain front [] h = h
cut-plain front (b ∷ bs) h = by (b == 10) refl (λ k. cut-plain k bs)
  where
    by : (t : Bool) → (b == 10) ≡ t → ((k : List ℕ) → IsPlain k → IsPlain (cut_from k bs)) → IsPlain (cond t (cut_from [] bs) (cut_from (front ++ b ∷ []) bs))
    by true e more = more [] refl
    by false e more = more (front ++ b ∷ []) (has_byte-push 10 front b h e)

-- how many bytes stand before the first s
front-length : (s : ℕ) (bs : List ℕ) → length (front_of s bs) ≡ position_or_len (λ b. b == s) bs
front-length s bs = is_position_or_len (λ (xs : List ℕ). length (front_of s xs)) (λ b. b == s) refl (λ x xs. step x xs (x == s)) bs
  where
    step : (x : ℕ) (xs : List ℕ) (t : Bool) → length (cond t [] (x ∷ front_of s xs)) ≡ cond t 0 (1 + length (front_of s xs))
    step x xs true = refl
    step x xs false = omega arith

-- where the first s stands, as many bytes stand before it
pub place-some : (s n : ℕ) (bs : List ℕ) → position (λ b. b == s) bs ≡ Some n → (n ≡ length (front_of s bs)) × (length (front_of s bs) < length bs)
place-some s n bs e = elim (chosen (nat_lt (position_or_len (λ b. b == s) bs) (length bs)) (Some (position_or_len (λ b. b == s) bs)) None (Some n) e) [
  | inl p ↦
      (let same : position_or_len (λ b. b == s) bs ≡ n = some_same p.1 in
      let l : position_or_len (λ b. b == s) bs < length bs = grind (arith, nat_tests) in
      (omega (arith, front-length s bs), omega (arith, front-length s bs)))
  | inr p ↦ absurd (none_some p.1)
]

-- and where there is none, all bytes do
pub place-none : (s : ℕ) (bs : List ℕ) → position (λ b. b == s) bs ≡ None → length bs ≤ length (front_of s bs)
place-none s bs e = elim (chosen (nat_lt (position_or_len (λ b. b == s) bs) (length bs)) (Some (position_or_len (λ b. b == s) bs)) None None e) [
  | inl p ↦ absurd (none_some (sym p.1))
  | inr p ↦
      (let l : length bs ≤ position_or_len (λ b. b == s) bs = grind (arith, nat_tests) in
      omega (arith, front-length s bs))
]
