-- What an edit leaves, and what it takes.
use Rattle.std.proofs.Common.{◌≡◌, ℕ, zero, suc, ◌<◌, Bool, true, false, nat_eq, List, [], ◌∷◌, length, refl, sym, ap, ◌∙◌, arith}
use Rattle.bm_base.specs.Mask.{has_bit}
use Rattle.line_model.specs.declared.line.Item.{Item}
use Rattle.line_model.specs.declared.line.Item.TheVariants.{Run, Bar}
use Rattle.line_model.specs.declared.line.StreamItem.{StreamItem}
use Rattle.line_model.specs.declared.line.StreamItem.TheVariants.{Do, Wait}
use Rattle.line_model.specs.Streams.{stream, masks, own}
use Rattle.line_model.specs.Reductions.{without_bar, merged_at}
use Rattle.time_interval.specs.declared.edit.Edit.{Edit}
use Rattle.time_interval.specs.declared.edit.Edit.TheVariants.{Remove, Merge}
use Rattle.time_interval.specs.Edits.{edited, IsEdit}
use Rattle.time_interval.specs.Lines.{tuples}
use Rattle.time_interval.proofs.EditFacts.{removed_tuples, merged_tuples}
use Rattle.mask_merge.specs.Laws.{works, KeepsTuples}

-- ---- tuples stay

pub edited_tuples : (edit : Edit) (line : List Item) → tuples (edited edit line) ≡ tuples line
edited_tuples (Remove j) line = removed_tuples j line
edited_tuples (Merge j) line = merged_tuples j line

wait_is_none : (b : Bool) (xs : List StreamItem) → works (own b Wait xs) ≡ works xs
wait_is_none true xs = refl
wait_is_none false xs = refl

run_is_same : (b : Bool) (t : ℕ) (xs ys : List StreamItem) → works xs ≡ works ys → works (own b (Do t) xs) ≡ works (own b (Do t) ys)
run_is_same true t xs ys e = ap (λ us. t ∷ us) e
run_is_same false t xs ys e = e

bar_is_same : (b : Bool) (xs ys : List StreamItem) → works xs ≡ works ys → works (own b Wait xs) ≡ works (own b Wait ys)
bar_is_same true xs ys e = e
bar_is_same false xs ys e = e

removed_works : (p j : ℕ) (line : List Item) → works (stream p (without_bar j line)) ≡ works (stream p line)
removed_works p j [] = refl
removed_works p j (Run q t ∷ line) = run_is_same (nat_eq q p) t (stream p (without_bar j line)) (stream p line) (removed_works p j line)
removed_works p zero (Bar m ∷ line) = sym (wait_is_none (has_bit m p) (stream p line))
removed_works p (suc j) (Bar m ∷ line) = bar_is_same (has_bit m p) (stream p (without_bar j line)) (stream p line) (removed_works p j line)

merged_works : (p j : ℕ) (line : List Item) → works (stream p (merged_at j line)) ≡ works (stream p line)
merged_works p j [] = refl
merged_works p j (Run q t ∷ line) = run_is_same (nat_eq q p) t (stream p (merged_at j line)) (stream p line) (merged_works p j line)
merged_works p zero (Bar m ∷ line) = wait_is_none _ (stream p (without_bar 0 line)) ∙ removed_works p 0 line ∙ sym (wait_is_none (has_bit m p) (stream p line))
merged_works p (suc j) (Bar m ∷ line) = bar_is_same (has_bit m p) (stream p (merged_at j line)) (stream p line) (merged_works p j line)

edited_works : (p : ℕ) (edit : Edit) (line : List Item) → works (stream p (edited edit line)) ≡ works (stream p line)
edited_works p (Remove j) line = removed_works p j line
edited_works p (Merge j) line = merged_works p j line

pub same_tuples : (line : List Item) → KeepsTuples line line
same_tuples line = record { whole = refl; streams = λ p. refl }

pub edit_keeps_tuples : (edit : Edit) (line result : List Item) → KeepsTuples (edited edit line) result → KeepsTuples line result
edit_keeps_tuples edit line result k = record { whole = k.whole ∙ edited_tuples edit line; streams = λ p. k.streams p ∙ edited_works p edit line }

-- ---- one Bar goes

removed_one : (j : ℕ) (line : List Item) → j < length (masks line) → suc (length (masks (without_bar j line))) ≡ length (masks line)
removed_one j [] h = absurd (omega arith)
removed_one j (Run q t ∷ line) h = removed_one j line h
removed_one zero (Bar m ∷ line) h = refl
removed_one (suc j) (Bar m ∷ line) h = ap suc (removed_one j line (omega arith))

merged_one : (j : ℕ) (line : List Item) → suc j < length (masks line) → suc (length (masks (merged_at j line))) ≡ length (masks line)
merged_one j [] h = absurd (omega arith)
merged_one j (Run q t ∷ line) h = merged_one j line h
merged_one zero (Bar m ∷ line) h = ap suc (removed_one 0 line (omega arith))
merged_one (suc j) (Bar m ∷ line) h = ap suc (merged_one j line (omega arith))

pub edited_one : (edit : Edit) (line : List Item) → IsEdit line edit → suc (length (masks (edited edit line))) ≡ length (masks line)
edited_one (Remove j) line h = removed_one j line h
edited_one (Merge j) line h = merged_one j line h.0
