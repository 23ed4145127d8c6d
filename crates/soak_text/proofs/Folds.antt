-- Words that are folded one after another.
use Rattle.std.proofs.Common.{◌≡◌, ℕ, suc, ◌+◌, ◌%◌, ◌<◌, ◌^◌, List, [], ◌∷◌, length, ap, ◌∙◌, arith}
use Rattle.std.specs.List.{fold}
use Rattle.std.specs.Prelude.{ℤ, pos, ◌+ℤ◌, ◌*ℤ◌}
use Rattle.bm_base.specs.Word.{wrap}
use Rattle.bm_io.specs.FoldValues.{with_value}
use Rattle.bm_io.specs.declared.fold_values.FoldValues.{FoldValues}
use Rattle.soak_text.specs.Lines.{summed}

abbrev held : ℕ → ℤ → FoldValues
held count h = record { count = count; fold = h }

abbrev step : ℤ → ℤ → ℤ
step h v = wrap ((h *ℤ pos 31) +ℤ v)

folds : (words : List ℤ) (count : ℕ) (h : ℤ) → count < 2 ^ 64 → fold with_value (held count h) words ≡ held ((count + length words) % 2 ^ 64) (fold step h words)
folds [] count h l = let e : count ≡ (count + 0) % 2 ^ 64 = omega arith in ap (λ c. held c h) e
folds (v ∷ vs) count h l =
    let below : (count + 1) % 2 ^ 64 < 2 ^ 64 = omega arith in
    let e : ((count + 1) % 2 ^ 64 + length vs) % 2 ^ 64 ≡ (count + suc (length vs)) % 2 ^ 64 = omega arith in
    folds vs ((count + 1) % 2 ^ 64) (step h v) below ∙ ap (λ c. held c (fold step (step h v) vs)) e

-- from no word on
pub folds_all : (words : List ℤ) → fold with_value (held 0 (pos 0)) words ≡ summed words
folds_all words =
    let e : (0 + length words) % 2 ^ 64 ≡ length words % 2 ^ 64 = omega arith in
    folds words 0 (pos 0) (omega arith) ∙ ap (λ c. held c (fold step (pos 0) words)) e
