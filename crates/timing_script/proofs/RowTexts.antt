-- The rows of a text, one line at a time.
use Rattle.std.proofs.Common.{◌≡◌, ℕ, ◌+◌, ◌<◌, ◌≤◌, suc, refl, sym, ap, ◌∙◌, arith, Bool, true, false, List, [], ◌∷◌, ◌++◌, append-nil, cond, length}
use Rattle.std.specs.Prelude.{◌==◌}
use Rattle.bm_base.specs.Lines.{LinesLeft, behind_of, line_front, behind_line, has_end, whole_lines, cut_line}
use Rattle.bm_base.proofs.LineTexts.{whole-step, cut-step, no_byte-behind}
use Rattle.timing_script.specs.Rows.{TextRow, fields_of, is_passed_over, row_at, text_row, trimmed, rows_from}

-- the rows of what is left
abbrev pub rows_left : LinesLeft → List TextRow
rows_left l = rows_from l.count (whole_lines l.rest) (cut_line l.rest)

rows-line : (n : ℕ) (bs : List ℕ)
    → rows_from n (whole_lines bs) (cut_line bs) ≡ row_at (n + 1) (fields_of (trimmed (has_end bs) (line_front bs))) ++ rows_from (n + 1) (whole_lines (behind_line bs)) (cut_line (behind_line bs))
rows-line n bs = by (has_end bs) refl
  where
    by : (t : Bool) → has_end bs ≡ t
        → rows_from n (whole_lines bs) (cut_line bs) ≡ row_at (n + 1) (fields_of (trimmed t (line_front bs))) ++ rows_from (n + 1) (whole_lines (behind_line bs)) (cut_line (behind_line bs))
    by true e =
        let w = whole-step [] bs ∙ ap (λ (t : Bool). cond t (line_front bs ∷ whole_lines (behind_line bs)) []) e in
        let c = cut-step [] bs ∙ ap (λ (t : Bool). cond t (cut_line (behind_line bs)) (line_front bs)) e in
        λ i. rows_from n (w i) (c i)
    by false e =
        let w = whole-step [] bs ∙ ap (λ (t : Bool). cond t (line_front bs ∷ whole_lines (behind_line bs)) []) e in
        let c = cut-step [] bs ∙ ap (λ (t : Bool). cond t (cut_line (behind_line bs)) (line_front bs)) e in
        (λ i. rows_from n (w i) (c i))
        ∙ sym (append-nil (row_at (n + 1) (fields_of (line_front bs))))
        ∙ ap (λ (x : List ℕ). row_at (n + 1) (fields_of (line_front bs)) ++ rows_from (n + 1) (whole_lines x) (cut_line x)) (sym (no_byte-behind 10 bs e))

-- one line more
pub rows-next : (before after : LinesLeft) (number : ℕ) (bytes text : List ℕ) (ended : Bool)
    → bytes ≡ line_front before.rest → ended ≡ has_end before.rest → number ≡ before.count + 1
    → after ≡ record { count = before.count + 1; rest = behind_line before.rest } → text ≡ trimmed ended bytes
    → rows_left before ≡ row_at number (fields_of text) ++ rows_left after
rows-next before after number bytes text ended b e n l t =
    rows-line before.count before.rest
    ∙ (λ i. row_at (sym n i) (fields_of (trimmed (sym e i) (sym b i))) ++ rows_left (sym l i))
    ∙ ap (λ (x : List ℕ). row_at number (fields_of x) ++ rows_left after) (sym t)

pub row-taken : (number : ℕ) (fields : List (List ℕ)) (rows : List TextRow) → is_passed_over fields ≡ false → row_at number fields ++ rows ≡ text_row number fields ∷ rows
row-taken number fields rows h = ap (λ (t : Bool). cond t [] (text_row number fields ∷ []) ++ rows) h

pub row-passed : (number : ℕ) (fields : List (List ℕ)) (rows : List TextRow) → is_passed_over fields ≡ true → row_at number fields ++ rows ≡ rows
row-passed number fields rows h = ap (λ (t : Bool). cond t [] (text_row number fields ∷ []) ++ rows) h

behind_le : (s : ℕ) (bs : List ℕ) → length (behind_of s bs) ≤ length bs
behind_le s [] = omega arith
behind_le s (b ∷ bs) = elim (b == s) as (λ t. length (cond t bs (behind_of s bs)) ≤ suc (length bs)) [ true ↦ omega arith | false ↦ omega (arith, behind_le s bs) ]

-- fewer bytes are left
pub behind_short : (s : ℕ) (bs : List ℕ) → (bs ≡ [] → ⊥) → length (behind_of s bs) < length bs
behind_short s [] h = absurd (h refl)
behind_short s (b ∷ bs) h = elim (b == s) as (λ t. length (cond t bs (behind_of s bs)) < suc (length bs)) [ true ↦ omega arith | false ↦ omega (arith, behind_le s bs) ]
