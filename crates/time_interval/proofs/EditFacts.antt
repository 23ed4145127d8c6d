-- Lines with one Bar fewer are lines.
use Rattle.std.proofs.Common.{◌≡◌, ℕ, zero, suc, ◌+◌, ◌<◌, ◌≤◌, Bool, true, false, nat_eq, ◌||◌, List, [], ◌∷◌, length, get_or, set, take, refl, sym, ap, ap₂, ◌∙◌, arith, ◌⊎◌, inl, inr, subst, subst₂, All, bit_or, if◌then◌else◌, ext_get_or, add-one, Some, None}
use Rattle.std.specs.List.{IsDistinct, AllByRecursion}
use Rattle.std.proofs.lemmas.List.Elements.{All-cons, All-head, All-tail, All-take}
use Rattle.std.proofs.lemmas.Bool.{cases_lt}
use Rattle.bm_base.specs.Mask.{has_bit}
use Rattle.bm_base.proofs.MaskBits.{has_bit-or}
use Rattle.line_model.specs.declared.line.Item.{Item}
use Rattle.line_model.specs.declared.line.Item.TheVariants.{Run, Bar}
use Rattle.line_model.specs.Streams.{masks}
use Rattle.line_model.specs.Reductions.{without_bar, merged_at, mask_at}
use Rattle.time_interval.specs.declared.edit.Edit.{Edit}
use Rattle.time_interval.specs.declared.edit.Edit.TheVariants.{Remove, Merge}
use Rattle.time_interval.specs.Bounds.{Pace}
use Rattle.time_interval.specs.Lines.{IsItem, IsLine, Timed, IsTimed, tuples}
use Rattle.time_interval.specs.Edits.{edited, IsEdit}
use Rattle.time_interval.specs.Places.{IsSpare, place_of_bar, without_place}

-- ---- removal

pub removed_tuples : (j : ℕ) (line : List Item) → tuples (without_bar j line) ≡ tuples line
removed_tuples j [] = refl
removed_tuples j (Run q t ∷ line) = ap (λ l. t ∷ l) (removed_tuples j line)
removed_tuples zero (Bar m ∷ line) = refl
removed_tuples (suc j) (Bar m ∷ line) = removed_tuples j line

pub removed_all : (P : Item → Type 0) (j : ℕ) (line : List Item) → All P line → All P (without_bar j line)
removed_all P j [] h = h
removed_all P j (Run q t ∷ line) h = All-cons P (Run q t) _ (All-head P (Run q t) line h) (removed_all P j line (All-tail P (Run q t) line h))
removed_all P zero (Bar m ∷ line) h = All-tail P (Bar m) line h
removed_all P (suc j) (Bar m ∷ line) h = All-cons P (Bar m) _ (All-head P (Bar m) line h) (removed_all P j line (All-tail P (Bar m) line h))

pub removed_masks : (j : ℕ) (line : List Item) → length (masks (without_bar j line)) ≤ length (masks line)
removed_masks j [] = omega arith
removed_masks j (Run q t ∷ line) = removed_masks j line
removed_masks zero (Bar m ∷ line) = omega arith
removed_masks (suc j) (Bar m ∷ line) = let r : length (masks (without_bar j line)) ≤ length (masks line) = removed_masks j line in omega arith

pub removed_length : (j : ℕ) (line : List Item) → j < length (masks line) → suc (length (without_bar j line)) ≡ length line
removed_length j [] h = absurd (omega arith)
removed_length j (Run q t ∷ line) h = ap suc (removed_length j line h)
removed_length zero (Bar m ∷ line) h = refl
removed_length (suc j) (Bar m ∷ line) h = ap suc (removed_length j line (omega arith))

pub removed_at : (j : ℕ) (line : List Item) → j < length (masks line) → without_place (place_of_bar j line) line ≡ without_bar j line
removed_at j [] h = refl
removed_at j (Run q t ∷ line) h = ap (λ l. Run q t ∷ l) (removed_at j line h)
removed_at zero (Bar m ∷ line) h = refl
removed_at (suc j) (Bar m ∷ line) h = ap (λ l. Bar m ∷ l) (removed_at j line (omega arith))

pub bar_inside : (j : ℕ) (line : List Item) → j < length (masks line) → place_of_bar j line < length line
bar_inside j [] h = absurd (omega arith)
bar_inside j (Run q t ∷ line) h = let r : place_of_bar j line < length line = bar_inside j line h in omega arith
bar_inside zero (Bar m ∷ line) h = omega arith
bar_inside (suc j) (Bar m ∷ line) h = let r : place_of_bar j line < length line = bar_inside j line (omega arith) in omega arith

-- ---- merge

pub merged_tuples : (j : ℕ) (line : List Item) → tuples (merged_at j line) ≡ tuples line
merged_tuples j [] = refl
merged_tuples j (Run q t ∷ line) = ap (λ l. t ∷ l) (merged_tuples j line)
merged_tuples zero (Bar m ∷ line) = removed_tuples 0 line
merged_tuples (suc j) (Bar m ∷ line) = merged_tuples j line

pub merged_masks : (j : ℕ) (line : List Item) → length (masks (merged_at j line)) ≤ length (masks line)
merged_masks j [] = omega arith
merged_masks j (Run q t ∷ line) = merged_masks j line
merged_masks zero (Bar m ∷ line) = let r : length (masks (without_bar 0 line)) ≤ length (masks line) = removed_masks 0 line in omega arith
merged_masks (suc j) (Bar m ∷ line) = let r : length (masks (merged_at j line)) ≤ length (masks line) = merged_masks j line in omega arith

-- the first mask of items, where there is one
first_item : (n p : ℕ) (line : List Item) → 0 < length (masks line) → All (IsItem n p) line → IsItem n p (Bar (mask_at line 0))
first_item n p [] h all = absurd (omega arith)
first_item n p (Run q t ∷ line) h all = first_item n p line h (All-tail (IsItem n p) (Run q t) line all)
first_item n p (Bar m ∷ line) h all = All-head (IsItem n p) (Bar m) line all

both_item : (n p m w : ℕ) → IsItem n p (Bar m) → IsItem n p (Bar w) → IsItem n p (Bar (bit_or m w))
both_item n p m w h k = ((h.0.0, has_bit-or m w h.0.0 ∙ ap (λ b. b || has_bit w h.0.0) h.0.1), λ q e. either q (has_bit m q) refl (has_bit w q) refl (sym (has_bit-or m w q) ∙ e))
  where
    either : (q : ℕ) (a : Bool) → has_bit m q ≡ a → (b : Bool) → has_bit w q ≡ b → (has_bit m q || has_bit w q) ≡ true → q < p
    either q true ea b eb e = h.1 q ea
    either q false ea true eb e = k.1 q eb
    either q false ea false eb e = let z : (false || false) ≡ true = ap₂ (λ x y. x || y) (sym ea) (sym eb) ∙ e in absurd (cc)

pub merged_all : (n p j : ℕ) (line : List Item) → suc j < length (masks line) → All (IsItem n p) line → All (IsItem n p) (merged_at j line)
merged_all n p j [] h all = absurd (omega arith)
merged_all n p j (Run q t ∷ line) h all = All-cons (IsItem n p) (Run q t) _ (All-head (IsItem n p) (Run q t) line all) (merged_all n p j line h (All-tail (IsItem n p) (Run q t) line all))
merged_all n p zero (Bar m ∷ line) h all =
    let rest = All-tail (IsItem n p) (Bar m) line all in
    All-cons (IsItem n p) (Bar (bit_or m (mask_at line 0))) (without_bar 0 line) (both_item n p m (mask_at line 0) (All-head (IsItem n p) (Bar m) line all) (first_item n p line (omega arith) rest)) (removed_all (IsItem n p) 0 line rest)
merged_all n p (suc j) (Bar m ∷ line) h all = All-cons (IsItem n p) (Bar m) _ (All-head (IsItem n p) (Bar m) line all) (merged_all n p j line (omega arith) (All-tail (IsItem n p) (Bar m) line all))

pub merged_length : (j : ℕ) (line : List Item) → suc j < length (masks line) → suc (length (merged_at j line)) ≡ length line
merged_length j [] h = absurd (omega arith)
merged_length j (Run q t ∷ line) h = ap suc (merged_length j line h)
merged_length zero (Bar m ∷ line) h = ap suc (removed_length 0 line (omega arith))
merged_length (suc j) (Bar m ∷ line) h = ap suc (merged_length j line (omega arith))

pub merged_from : (j : ℕ) (line : List Item) → suc j < length (masks line) → set (without_place (place_of_bar (suc j) line) line) (place_of_bar j line) (Bar (bit_or (mask_at line j) (mask_at line (suc j)))) ≡ merged_at j line
merged_from j [] h = absurd (omega arith)
merged_from j (Run q t ∷ line) h = ap (λ l. Run q t ∷ l) (merged_from j line h)
merged_from zero (Bar m ∷ line) h = ap (λ l. Bar (bit_or m (mask_at line 0)) ∷ l) (removed_at 0 line (omega arith))
merged_from (suc j) (Bar m ∷ line) h = ap (λ l. Bar m ∷ l) (merged_from j line (omega arith))

-- ---- an edited line is a line, one item shorter

pub edited_line : (n p : ℕ) (line : List Item) (edit : Edit) → IsEdit line edit → IsLine n p line → IsLine n p (edited edit line)
edited_line n p line (Remove j) e h = record {
  items = removed_all (IsItem n p) j line h.items;
  once = subst (IsDistinct nat_eq) (sym (removed_tuples j line)) h.once;
  few = omega (arith, removed_masks j line, h.few);
}
edited_line n p line (Merge j) e h = record {
  items = merged_all n p j line e.0 h.items;
  once = subst (IsDistinct nat_eq) (sym (merged_tuples j line)) h.once;
  few = omega (arith, merged_masks j line, h.few);
}

pub edited_length : (line : List Item) (edit : Edit) → IsEdit line edit → suc (length (edited edit line)) ≡ length line
edited_length line (Remove j) e = removed_length j line e
edited_length line (Merge j) e = merged_length j line e.0

-- ---- a front of a line is a line

pub taken_masks : (k : ℕ) (line : List Item) → length (masks (take k line)) ≤ length (masks line)
taken_masks zero line = omega arith
taken_masks (suc k) [] = omega arith
taken_masks (suc k) (Run q t ∷ line) = taken_masks k line
taken_masks (suc k) (Bar m ∷ line) = let r : length (masks (take k line)) ≤ length (masks line) = taken_masks k line in omega arith

taken_apart : (P : ℕ → Type 0) (k : ℕ) (line : List Item) → AllByRecursion P (tuples line) → AllByRecursion P (tuples (take k line))
taken_apart P zero line h = tt
taken_apart P (suc k) [] h = tt
taken_apart P (suc k) (Run q t ∷ line) h = (h.0, taken_apart P k line h.1)
taken_apart P (suc k) (Bar m ∷ line) h = taken_apart P k line h

pub taken_once : (k : ℕ) (line : List Item) → IsDistinct nat_eq (tuples line) → IsDistinct nat_eq (tuples (take k line))
unfolding IsDistinct
taken_once zero line h = tt
taken_once (suc k) [] h = tt
taken_once (suc k) (Run q t ∷ line) h = (taken_apart (λ y. nat_eq t y ≡ false) k line h.0, taken_once k line h.1)
taken_once (suc k) (Bar m ∷ line) h = taken_once k line h

pub taken_line : (n p k : ℕ) (line : List Item) → IsLine n p line → IsLine n p (take k line)
taken_line n p k line h = record { items = All-take (IsItem n p) k line h.items; once = taken_once k line h.once; few = omega (arith, taken_masks k line, h.few) }

-- ---- a list by its elements

without_length : (d : ℕ) (xs : List Item) → d < length xs → suc (length (without_place d xs)) ≡ length xs
without_length d [] h = absurd (omega arith)
without_length zero (x ∷ xs) h = refl
without_length (suc d) (x ∷ xs) h = ap suc (without_length d xs (omega arith))

without_at_less : (d k : ℕ) (xs : List Item) (z : Item) → k < d → d < length xs → get_or (without_place d xs) k z ≡ get_or xs k z
without_at_less d k [] z l h = absurd (omega arith)
without_at_less zero k (x ∷ xs) z l h = absurd (omega arith)
without_at_less (suc d) zero (x ∷ xs) z l h = refl
without_at_less (suc d) (suc k) (x ∷ xs) z l h = without_at_less d k xs z (omega arith) (omega arith)

without_at_more : (d k : ℕ) (xs : List Item) (z : Item) → d ≤ k → d < length xs → get_or (without_place d xs) k z ≡ get_or xs (suc k) z
without_at_more d k [] z l h = absurd (omega arith)
without_at_more zero k (x ∷ xs) z l h = refl
without_at_more (suc d) zero (x ∷ xs) z l h = absurd (omega arith)
without_at_more (suc d) (suc k) (x ∷ xs) z l h = without_at_more d k xs z (omega arith) (omega arith)

pub without_from : (d : ℕ) (xs ys : List Item) → d < length xs → suc (length ys) ≡ length xs → ((k : ℕ) (z : Item) → k < length ys → (k < d → get_or ys k z ≡ get_or xs k z) × (d ≤ k → get_or ys k z ≡ get_or xs (suc k) z)) → ys ≡ without_place d xs
without_from d xs ys h e f =
    let n : suc (length (without_place d xs)) ≡ length xs = without_length d xs h in
    ext_get_or (Run 0 0) ys (without_place d xs) (omega arith) (λ k lt. go k (f k (Run 0 0) lt) (cases_lt k d))
  where
    go : (k : ℕ) → (k < d → get_or ys k (Run 0 0) ≡ get_or xs k (Run 0 0)) × (d ≤ k → get_or ys k (Run 0 0) ≡ get_or xs (suc k) (Run 0 0)) → (k < d) ⊎ (d ≤ k) → get_or ys k (Run 0 0) ≡ get_or (without_place d xs) k (Run 0 0)
    go k g (inl l) = g.0 l ∙ sym (without_at_less d k xs (Run 0 0) l h)
    go k g (inr l) = g.1 l ∙ sym (without_at_more d k xs (Run 0 0) l h)

-- ---- what an edit is made of

pub timed_edit : (from : Timed) (pace : Pace) (ys : List Item) (edit : Edit) → IsTimed from → pace ≡ from.pace → IsEdit from.line edit → ys ≡ edited edit from.line → IsTimed (record { pace = pace; line = ys })
timed_edit from pace ys edit h e k f = subst₂ (λ q zs. IsTimed (record { pace = q; line = zs })) (sym e) (sym f) (record { pace = h.pace; few = h.few; line = edited_line (length from.pace.times) from.pace.processors from.line edit k h.line })

pub timed_take : (from : Timed) (k : ℕ) (ys : List Item) → IsTimed from → ys ≡ take k from.line → IsTimed (record { pace = from.pace; line = ys })
timed_take from k ys h e = subst (λ zs. IsTimed (record { pace = from.pace; line = zs })) (sym e) (record { pace = h.pace; few = h.few; line = taken_line (length from.pace.times) from.pace.processors k from.line h.line })

pub place_inside : (line items : List Item) (edit : Edit) (j n : ℕ) → items ≡ line → IsEdit line edit → edit ≡ Remove j → n ≡ place_of_bar j items → n < length items
place_inside line items edit j n e h f g =
    let k : j < length (masks line) = subst (IsEdit line) f h in
    let r : place_of_bar j items < length items = bar_inside j items (subst (λ xs. j < length (masks xs)) (sym e) k) in
    omega arith

pub made_by_removal : (line items ys : List Item) (edit : Edit) (j n : ℕ) → items ≡ line → IsEdit line edit → edit ≡ Remove j → n ≡ place_of_bar j items → ys ≡ without_place n items → ys ≡ edited edit line
made_by_removal line items ys edit j n e h f g k =
    k ∙ ap₂ (λ d xs. without_place d xs) (g ∙ ap (place_of_bar j) e) e ∙ removed_at j line (subst (IsEdit line) f h) ∙ ap (λ d. edited d line) (sym f)

pub place_inside_merge : (line items : List Item) (edit : Edit) (j n : ℕ) → items ≡ line → IsEdit line edit → edit ≡ Merge j → n ≡ place_of_bar (j + 1) items → n < length items
place_inside_merge line items edit j n e h f g =
    let k : suc j < length (masks line) = (subst (IsEdit line) f h).0 in
    let s : place_of_bar (j + 1) items ≡ place_of_bar (suc j) items = ap (λ i. place_of_bar i items) (add-one j) in
    let r : place_of_bar (suc j) items < length items = bar_inside (suc j) items (subst (λ xs. suc j < length (masks xs)) (sym e) k) in
    omega arith

-- an earlier Bar's place stays inside when a later one is gone
earlier_inside : (j : ℕ) (line : List Item) → suc j < length (masks line) → suc (place_of_bar j line) < length line
earlier_inside j [] h = absurd (omega arith)
earlier_inside j (Run q t ∷ line) h = let r : suc (place_of_bar j line) < length line = earlier_inside j line h in omega arith
earlier_inside zero (Bar m ∷ line) h = let r : place_of_bar 0 line < length line = bar_inside 0 line (omega arith) in omega arith
earlier_inside (suc j) (Bar m ∷ line) h = let r : suc (place_of_bar j line) < length line = earlier_inside j line (omega arith) in omega arith

pub earlier_place : (line items ys : List Item) (edit : Edit) (j n d : ℕ) → items ≡ line → IsEdit line edit → edit ≡ Merge j → n ≡ place_of_bar j items → d < length items → ys ≡ without_place d items → n < length ys
earlier_place line items ys edit j n d e h f g lt k =
    let m : suc j < length (masks line) = (subst (IsEdit line) f h).0 in
    let r : suc (place_of_bar j items) < length items = earlier_inside j items (subst (λ xs. suc j < length (masks xs)) (sym e) m) in
    let l : suc (length (without_place d items)) ≡ length items = without_length d items lt in
    let y : length ys ≡ length (without_place d items) = ap length k in
    omega arith

pub made_by_merge : (line items ys zs : List Item) (edit : Edit) (j n d m w u : ℕ) → items ≡ line → IsEdit line edit → edit ≡ Merge j → d ≡ place_of_bar (j + 1) items → n ≡ place_of_bar j items → m ≡ mask_at items j → w ≡ mask_at items (j + 1) → u ≡ bit_or m w → ys ≡ without_place d items → zs ≡ set ys n (Bar u) → zs ≡ edited edit line
made_by_merge line items ys zs edit j n d m w u e h f gd gn gm gw gu ky kz =
    let k : suc j < length (masks line) = (subst (IsEdit line) f h).0 in
    let pd : d ≡ place_of_bar (suc j) line = gd ∙ ap₂ (λ i xs. place_of_bar i xs) (add-one j) e in
    let pn : n ≡ place_of_bar j line = gn ∙ ap (place_of_bar j) e in
    let pu : u ≡ bit_or (mask_at line j) (mask_at line (suc j)) = gu ∙ ap₂ bit_or (gm ∙ ap (λ xs. mask_at xs j) e) (gw ∙ ap₂ (λ i xs. mask_at xs i) (add-one j) e) in
    let py : ys ≡ without_place (place_of_bar (suc j) line) line = ky ∙ ap₂ without_place pd e in
    kz ∙ ap₂ (λ xs i. set xs i (Bar u)) py pn ∙ ap (λ v. set (without_place (place_of_bar (suc j) line) line) (place_of_bar j line) (Bar v)) pu ∙ merged_from j line k ∙ ap (λ x. edited x line) (sym f)

pub spare_after : (settled edited_before edited_after : Timed) (edit : Edit) → IsEdit settled.line edit → edited_after.line ≡ edited edit settled.line → edited_after.pace ≡ settled.pace → IsSpare settled edited_after
spare_after settled eb ea edit h e p =
    let l : suc (length (edited edit settled.line)) ≡ length settled.line = edited_length settled.line edit h in
    let s : length ea.line ≡ length (edited edit settled.line) = ap length e in
    record { shorter = omega arith; pace = p }

pub at_rest : (stands : Bool) (settled after : List Item) (edit : Edit) → (if stands then Some settled else None) ≡ None → IsEdit (if stands then after else settled) edit → IsEdit settled edit
at_rest true settled after edit e h = absurd (cc)
at_rest false settled after edit e h = h
