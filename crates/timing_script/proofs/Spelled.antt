-- Rows of plain fields have a text.
use Rattle.std.proofs.Common.{◌≡◌, ℕ, zero, suc, ◌+◌, ◌-◌, ◌≤◌, refl, sym, ap, ◌∙◌, arith, true, false, List, [], ◌∷◌, ◌++◌, length, map, take, get_or, append_assoc, append-nil, cond, true≢false, inl, inr}
use Rattle.std.specs.Prelude.{◌==◌}
use Rattle.std.specs.List.{AllByRecursion}
use Rattle.std.proofs.lemmas.Bool.Decides.{nat_tests}
use Rattle.bm_base.specs.Lines.{has_byte, has_end, unlines, whole_from, cut_from, whole_lines, cut_line}
use Rattle.bm_base.proofs.StrictTexts.{chosen}
use Rattle.timing_script.specs.Rows.{is_blank, field_before, fields_from, fields_of, is_comment, is_passed_over, text_row, row_at, without_cr, rows_from, rows_of}
use Rattle.timing_script.specs.Spelling.{is_plain, IsPlainField, IsPlainRow, spaced, numbered}

record Plain (b : ℕ) : Type 0 where
  pub no_end : (b == 10) ≡ false
  pub no_cr : (b == 13) ≡ false
  pub no_blank : is_blank b ≡ false
  pub no_comment : (b == 35) ≡ false

plain : (b : ℕ) → is_plain b ≡ true → Plain b
plain b h = record { no_end = grind (arith, nat_tests); no_cr = grind (arith, nat_tests); no_blank = grind (arith, nat_tests); no_comment = grind (arith, nat_tests) }

abbrev ArePlain : List ℕ → Type 0
ArePlain f = AllByRecursion (λ b. is_plain b ≡ true) f

-- ---- the fields of a line

field_again : (front f rest : List ℕ) → ArePlain f → fields_from front (f ++ 32 ∷ rest) ≡ field_before (front ++ f) (fields_of rest)
field_again front [] rest h = ap (λ (x : List ℕ). field_before x (fields_of rest)) (sym (append-nil front))
field_again front (b ∷ bs) rest h =
    let p = plain b h.0 in
    rw p.no_blank (field_again (front ++ b ∷ []) bs rest h.1 ∙ ap (λ (x : List ℕ). field_before x (fields_of rest)) (append_assoc front (b ∷ []) bs))

kept : (f : List ℕ) (fs : List (List ℕ)) → 1 ≤ length f → field_before f fs ≡ f ∷ fs
kept [] fs h = absurd (omega arith)
kept (b ∷ bs) fs h = refl

fields_again : (fs : List (List ℕ)) → AllByRecursion IsPlainField fs → fields_of (spaced fs) ≡ fs
fields_again [] h = refl
fields_again (f ∷ fs) h = field_again [] f (spaced fs) h.0.each ∙ kept f (fields_of (spaced fs)) h.0.some ∙ ap (λ x. f ∷ x) (fields_again fs h.1)

-- ---- bytes that do not stand in such a line

abbrev Lacks : ℕ → List ℕ → Type 0
Lacks s bs = AllByRecursion (λ b. (b == s) ≡ false) bs

lacks_more : (s : ℕ) (a b : List ℕ) → Lacks s a → Lacks s b → Lacks s (a ++ b)
lacks_more s [] b h k = k
lacks_more s (x ∷ a) b h k = (h.0, lacks_more s a b h.1 k)

field_ends : (f : List ℕ) → ArePlain f → Lacks 10 f
field_ends [] h = tt
field_ends (b ∷ bs) h = (let p = plain b h.0 in p.no_end, field_ends bs h.1)

field_crs : (f : List ℕ) → ArePlain f → Lacks 13 f
field_crs [] h = tt
field_crs (b ∷ bs) h = (let p = plain b h.0 in p.no_cr, field_crs bs h.1)

line_lacks : (s : ℕ) (fs : List (List ℕ)) → ((f : List ℕ) → ArePlain f → Lacks s f) → (32 == s) ≡ false → AllByRecursion IsPlainField fs → Lacks s (spaced fs)
line_lacks s [] each space h = tt
line_lacks s (f ∷ fs) each space h = lacks_more s f (32 ∷ spaced fs) (each f h.0.each) (space, line_lacks s fs each space h.1)

never : (s : ℕ) (bs : List ℕ) → Lacks s bs → has_byte s bs ≡ false
never s [] h = refl
never s (b ∷ bs) h = ap (λ t. cond t true (has_byte s bs)) h.0 ∙ never s bs h.1

no_cr-at : (bs : List ℕ) (n : ℕ) → Lacks 13 bs → (get_or bs n 0 == 13) ≡ false
no_cr-at [] n h = refl
no_cr-at (b ∷ bs) zero h = h.0
no_cr-at (b ∷ bs) (suc n) h = no_cr-at bs n h.1

trimmed_again : (line : List ℕ) → Lacks 13 line → without_cr line ≡ line
trimmed_again line h = ap (λ t. cond t (take (length line - 1) line) line) (no_cr-at line (length line - 1) h)

-- ---- lines

abbrev IsWhole : List ℕ → Type 0
IsWhole line = has_end line ≡ false

whole_front : (front l rest : List ℕ) → IsWhole l → (whole_from front (l ++ 10 ∷ rest) ≡ (front ++ l) ∷ whole_from [] rest) × (cut_from front (l ++ 10 ∷ rest) ≡ cut_from [] rest)
whole_front front [] rest h = (ap (λ (x : List ℕ). x ∷ whole_from [] rest) (sym (append-nil front)), refl)
whole_front front (b ∷ bs) rest h = elim (chosen (b == 10) true (has_byte 10 bs) false h) [
  | inl p ↦ absurd (true≢false p.1)
  | inr p ↦ (let k = whole_front (front ++ b ∷ []) bs rest p.1 in (rw p.0 (k.0 ∙ ap (λ (x : List ℕ). x ∷ whole_from [] rest) (append_assoc front (b ∷ []) bs)), rw p.0 k.1))
]

unlines_again : (ls : List (List ℕ)) → AllByRecursion IsWhole ls → (whole_lines (unlines ls) ≡ ls) × (cut_line (unlines ls) ≡ [])
unlines_again [] h = (refl, refl)
unlines_again (l ∷ ls) h =
    let k = whole_front [] l (unlines ls) h.0 in
    let r = unlines_again ls h.1 in
    (k.0 ∙ ap (λ (x : List (List ℕ)). l ∷ x) r.0, k.1 ∙ r.1)

-- ---- rows

begins_well : (f : List ℕ) → ArePlain f → is_comment f ≡ false
begins_well [] h = refl
begins_well (b ∷ bs) h = let p = plain b h.0 in p.no_comment

not_passed : (fields : List (List ℕ)) → IsPlainRow fields → is_passed_over fields ≡ false
not_passed [] h = absurd (omega (arith, h.some))
not_passed (f ∷ fs) h = begins_well f h.each.0.each

row_again : (n : ℕ) (fields : List (List ℕ)) → IsPlainRow fields → row_at n (fields_of (without_cr (spaced fields))) ≡ text_row n fields ∷ []
row_again n fields h =
    ap (λ (l : List ℕ). row_at n (fields_of l)) (trimmed_again (spaced fields) (line_lacks 13 fields field_crs refl h.each))
    ∙ ap (row_at n) (fields_again fields h.each)
    ∙ ap (λ t. cond t [] (text_row n fields ∷ [])) (not_passed fields h)

rows_again : (n : ℕ) (rows : List (List (List ℕ))) → AllByRecursion IsPlainRow rows → rows_from n (map spaced rows) [] ≡ numbered n rows
rows_again n [] h = refl
rows_again n (fields ∷ rows) h = λ i. row_again (n + 1) fields h.0 i ++ rows_again (n + 1) rows h.1 i

all_whole : (rows : List (List (List ℕ))) → AllByRecursion IsPlainRow rows → AllByRecursion IsWhole (map spaced rows)
all_whole [] h = tt
all_whole (fields ∷ rows) h = (never 10 (spaced fields) (line_lacks 10 fields field_ends refl h.0.each), all_whole rows h.1)

pub spelled : (rows : List (List (List ℕ))) → AllByRecursion IsPlainRow rows → rows_of (unlines (map spaced rows)) ≡ numbered 0 rows
spelled rows h =
    let k = unlines_again (map spaced rows) (all_whole rows h) in
    (λ i. rows_from 0 (k.0 i) (k.1 i)) ∙ rows_again 0 rows h
