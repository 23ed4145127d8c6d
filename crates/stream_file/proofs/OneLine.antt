-- A text, one line at a time.
use Rattle.std.proofs.Common.{◌≡◌, ℕ, ◌+◌, ◌<◌, ◌≤◌, suc, refl, sym, ap, ◌∙◌, arith, Bool, true, false, List, [], ◌∷◌, length, Some, None, Option, Result, Err, cond}
use Rattle.std.specs.Prelude.{nat_lt, ◌==◌}
use Rattle.std.proofs.lemmas.Bool.Decides.{nat_tests}
use Rattle.bm_base.specs.Lines.{behind_of, line_front, behind_line, has_end, whole_lines, cut_line}
use Rattle.bm_base.proofs.LineTexts.{whole-step, cut-step, take-none, has_byte-length}
use Rattle.stream_file.specs.Draft.{Draft, reading_from, take_line, finished}

module _ (k : ℕ) (d : Draft) (bs : List ℕ) where
  -- what follows a whole line
  whole : has_end bs ≡ true → reading_from k d (whole_lines bs) (cut_line bs) ≡ reading_from k d (line_front bs ∷ whole_lines (behind_line bs)) (cut_line (behind_line bs))
  whole h =
      let w = whole-step [] bs ∙ ap (λ (t : Bool). cond t (line_front bs ∷ whole_lines (behind_line bs)) []) h in
      let c = cut-step [] bs ∙ ap (λ (t : Bool). cond t (cut_line (behind_line bs)) (line_front bs)) h in
      λ i. reading_from k d (w i) (c i)

  abbrev next : Option Draft → Result Draft ℕ
  next None = Err (k + 1)
  next (Some e) = reading_from (k + 1) e (whole_lines (behind_line bs)) (cut_line (behind_line bs))

  -- a whole line that is taken
  pub line_taken : (e : Draft) → has_end bs ≡ true → take_line d (line_front bs) ≡ Some e
      → reading_from (k + 1) e (whole_lines (behind_line bs)) (cut_line (behind_line bs)) ≡ reading_from k d (whole_lines bs) (cut_line bs)
  line_taken e h t = sym (whole h ∙ ap next t)

  -- one that is not
  pub line_refused : has_end bs ≡ true → take_line d (line_front bs) ≡ None → reading_from k d (whole_lines bs) (cut_line bs) ≡ Err (k + 1)
  line_refused h t = whole h ∙ ap next t

  -- one that is cut
  pub line_cut : has_end bs ≡ false → (bs ≡ [] → ⊥) → reading_from k d (whole_lines bs) (cut_line bs) ≡ Err (k + 1)
  line_cut h some =
      let w = whole-step [] bs ∙ ap (λ (t : Bool). cond t (line_front bs ∷ whole_lines (behind_line bs)) []) h in
      let c = cut-step [] bs ∙ ap (λ (t : Bool). cond t (cut_line (behind_line bs)) (line_front bs)) h in
      let all : line_front bs ≡ bs = take-none 10 bs (long h) in
      (λ i. reading_from k d (w i) (c i)) ∙ ap (finished k d) all ∙ filled bs some
    where
      long : has_end bs ≡ false → length bs ≤ length (line_front bs)
      long e = let t : nat_lt (length (line_front bs)) (length bs) ≡ false = sym (has_byte-length 10 bs) ∙ e in grind (arith, nat_tests)

      filled : (xs : List ℕ) → (xs ≡ [] → ⊥) → finished k d xs ≡ Err (k + 1)
      filled [] n = absurd (n refl)
      filled (x ∷ xs) n = refl

-- no line is left
pub lines_end : (k : ℕ) (d : Draft) (bs : List ℕ) → bs ≡ [] → reading_from k d (whole_lines bs) (cut_line bs) ≡ finished k d []
lines_end k d bs e = ap (λ (x : List ℕ). reading_from k d (whole_lines x) (cut_line x)) e

behind_le : (s : ℕ) (bs : List ℕ) → length (behind_of s bs) ≤ length bs
behind_le s [] = omega arith
behind_le s (b ∷ bs) = elim (b == s) as (λ t. length (cond t bs (behind_of s bs)) ≤ suc (length bs)) [ true ↦ omega arith | false ↦ omega (arith, behind_le s bs) ]

pub behind_short : (s : ℕ) (bs : List ℕ) → (bs ≡ [] → ⊥) → length (behind_of s bs) < length bs
behind_short s [] h = absurd (h refl)
behind_short s (b ∷ bs) h = elim (b == s) as (λ t. length (cond t bs (behind_of s bs)) < suc (length bs)) [ true ↦ omega arith | false ↦ omega (arith, behind_le s bs) ]
