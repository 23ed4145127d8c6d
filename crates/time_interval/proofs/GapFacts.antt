-- The places of Bars, and a gap that moves along a line.
use Rattle.std.proofs.Common.{◌≡◌, ℕ, zero, suc, ◌+◌, ◌<◌, ◌≤◌, List, [], ◌∷◌, ◌++◌, length, take, set, get_or, slice_index, get_or-set_same, get_or-set_other, refl, sym, ap, ◌∙◌, arith, ◌⊎◌, inl, inr, subst, ◌≢◌, add-one, bit_or}
use Rattle.std.proofs.lemmas.List.{set-get_or, get_or_past}
use Rattle.line_model.specs.declared.line.Item.{Item}
use Rattle.line_model.specs.declared.line.Item.TheVariants.{Run, Bar}
use Rattle.line_model.specs.Streams.{masks}
use Rattle.line_model.specs.Reductions.{mask_at, merged_at}
use Rattle.line_model.proofs.LineFacts.{masks_bar, masks_run}
use Rattle.time_interval.specs.Gaps.{AreFirstPlaces}
use Rattle.time_interval.specs.Places.{place_of_bar, without_place, IsSpare}
use Rattle.time_interval.specs.Lines.{Timed}
use Rattle.time_interval.proofs.EditFacts.{bar_inside, merged_from, merged_length, taken_masks}
use Rattle.time_interval.proofs.AheadFacts.{taken_next}

-- ---- places in a line that grows

place_more : (j : ℕ) (xs more : List Item) → j < length (masks xs) → place_of_bar j (xs ++ more) ≡ place_of_bar j xs
place_more j [] more h = absurd (omega arith)
place_more j (Run q t ∷ xs) more h = ap suc (place_more j xs more h)
place_more zero (Bar m ∷ xs) more h = refl
place_more (suc j) (Bar m ∷ xs) more h = ap suc (place_more j xs more (omega arith))

place_new : (xs : List Item) (m : ℕ) → place_of_bar (length (masks xs)) (xs ++ Bar m ∷ []) ≡ length xs
place_new [] m = refl
place_new (Run q t ∷ xs) m = ap suc (place_new xs m)
place_new (Bar w ∷ xs) m = ap suc (place_new xs m)

same_or : (u t : ℕ) → (u ≡ t) ⊎ (u ≢ t)
same_or u t = grind arith

pub places_none : (places : List ℕ) → AreFirstPlaces [] 0 places
places_none places = record { bars_are = refl; at = λ j l. absurd (omega arith) }

pub places_run : (xs : List Item) (q t bars : ℕ) (places : List ℕ) → AreFirstPlaces xs bars places → AreFirstPlaces (xs ++ Run q t ∷ []) bars places
places_run xs q t bars places h = record {
  bars_are = h.bars_are ∙ sym (masks_run xs q t);
  at = λ j l. let w : j < length (masks xs) = (let e : length (masks (xs ++ Run q t ∷ [])) ≡ length (masks xs) = masks_run xs q t in omega arith) in h.at j w ∙ sym (place_more j xs (Run q t ∷ []) w);
}

pub places_bar : (xs : List Item) (m bars n : ℕ) (places : List ℕ) → bars < length places → n ≡ length xs → AreFirstPlaces xs bars places → AreFirstPlaces (xs ++ Bar m ∷ []) (bars + 1) (set places bars n)
places_bar xs m bars n places of_list is h = record {
  bars_are = (let e : length (masks (xs ++ Bar m ∷ [])) ≡ suc (length (masks xs)) = masks_bar xs m in let b : bars ≡ length (masks xs) = h.bars_are in omega arith);
  at = λ j l. elim (same_or j bars) [
    | inl e ↦ ap (slice_index (set places bars n)) e ∙ get_or-set_same places bars n 0 of_list ∙ is ∙ sym (place_new xs m) ∙ ap (λ k. place_of_bar k (xs ++ Bar m ∷ [])) (sym (e ∙ h.bars_are))
    | inr ne ↦ (let w : j < length (masks xs) = (let e : length (masks (xs ++ Bar m ∷ [])) ≡ suc (length (masks xs)) = masks_bar xs m in let b : bars ≡ length (masks xs) = h.bars_are in omega arith) in get_or-set_other places bars j n 0 ne ∙ h.at j w ∙ sym (place_more j xs (Bar m ∷ []) w))
  ];
}

-- the item there is the Bar
pub bar_at : (j : ℕ) (line : List Item) (x : Item) → j < length (masks line) → get_or line (place_of_bar j line) x ≡ Bar (mask_at line j)
bar_at j [] x h = absurd (omega arith)
bar_at j (Run q t ∷ line) x h = bar_at j line x h
bar_at zero (Bar m ∷ line) x h = refl
bar_at (suc j) (Bar m ∷ line) x h = bar_at j line x (omega arith)

pub no_mask : (line : List Item) (j : ℕ) → length (masks line) ≤ j → mask_at line j ≡ 0
no_mask line j h = get_or_past (masks line) j 0 h

-- ---- a gap that moves

pub gap_on : (k : ℕ) (xs : List Item) (x : Item) → suc k < length xs → x ≡ get_or xs k x → set (without_place k xs) k x ≡ without_place (k + 1) xs
gap_on k xs x h e = go k xs h e ∙ ap (λ n. without_place n xs) (sym (add-one k))
  where
    go : (k : ℕ) (xs : List Item) → suc k < length xs → x ≡ get_or xs k x → set (without_place k xs) k x ≡ without_place (suc k) xs
    go k [] h e = absurd (omega arith)
    go zero (y ∷ []) h e = absurd (omega arith)
    go zero (y ∷ z ∷ xs) h e = ap (λ w. w ∷ xs) e
    go (suc k) (y ∷ xs) h e = ap (λ l. y ∷ l) (go k xs (omega arith) e)

pub gap_back : (k : ℕ) (xs : List Item) (x : Item) → suc k < length xs → x ≡ get_or xs (k + 1) x → set (without_place (k + 1) xs) k x ≡ without_place k xs
gap_back k xs x h e = ap (λ n. set (without_place n xs) k x) (add-one k) ∙ go k xs h (e ∙ ap (λ n. get_or xs n x) (add-one k))
  where
    go : (k : ℕ) (xs : List Item) → suc k < length xs → x ≡ get_or xs (suc k) x → set (without_place (suc k) xs) k x ≡ without_place k xs
    go k [] h e = absurd (omega arith)
    go zero (y ∷ []) h e = absurd (omega arith)
    go zero (y ∷ z ∷ xs) h e = ap (λ w. w ∷ xs) e
    go (suc k) (y ∷ xs) h e = ap (λ l. y ∷ l) (go k xs (omega arith) e)

-- ---- an edited line that gets back what it lacks but for the gap

set_again : (xs : List Item) (n : ℕ) (x y : Item) → set (set xs n x) n y ≡ set xs n y
set_again [] n x y = refl
set_again (z ∷ xs) zero x y = refl
set_again (z ∷ xs) (suc n) x y = ap (λ l. z ∷ l) (set_again xs n x y)

kept_at : (n d : ℕ) (xs : List Item) (x : Item) → n < d → d < length xs → get_or (without_place d xs) n x ≡ get_or xs n x
kept_at n d [] x l h = absurd (omega arith)
kept_at n zero (y ∷ xs) x l h = absurd (omega arith)
kept_at zero (suc d) (y ∷ xs) x l h = refl
kept_at (suc n) (suc d) (y ∷ xs) x l h = kept_at n d xs x (omega arith) (omega arith)

pub earlier_bar : (j : ℕ) (line : List Item) → suc j < length (masks line) → place_of_bar j line < place_of_bar (suc j) line
earlier_bar j [] h = absurd (omega arith)
earlier_bar j (Run q t ∷ line) h = let r : place_of_bar j line < place_of_bar (suc j) line = earlier_bar j line h in omega arith
earlier_bar zero (Bar m ∷ line) h = omega arith
earlier_bar (suc j) (Bar m ∷ line) h = let r : place_of_bar j line < place_of_bar (suc j) line = earlier_bar j line (omega arith) in omega arith

pub split_again : (j : ℕ) (line : List Item) (x : Item) → suc j < length (masks line) → x ≡ get_or line (place_of_bar j line) x → set (merged_at j line) (place_of_bar j line) x ≡ without_place (place_of_bar (suc j) line) line
split_again j line x h e =
    let n = place_of_bar j line in
    let d = place_of_bar (suc j) line in
    let w = without_place (place_of_bar (suc j) line) line in
    let y = Bar (bit_or (mask_at line j) (mask_at line (suc j))) in
    ap (λ l. set l n x) (sym (merged_from j line h)) ∙ set_again w n y x ∙ ap (set w n) (e ∙ sym (kept_at n d line x (earlier_bar j line h) (bar_inside (suc j) line h))) ∙ set-get_or w n x

pub room_for : (items : List Item) (k m : ℕ) (x : Item) → k < length items → x ≡ get_or items k x → x ≡ Bar m → suc (length (masks (take k items))) ≤ length (masks items)
room_for items k m x l e f =
    let n : length (masks (take (suc k) items)) ≡ suc (length (masks (take k items))) = ap (λ ys. length (masks ys)) (taken_next items k (Bar m) l (sym (subst (λ y. y ≡ get_or items k y) f e))) ∙ masks_bar (take k items) m in
    let t : length (masks (take (suc k) items)) ≤ length (masks items) = taken_masks (suc k) items in
    omega arith

pub without_short : (d : ℕ) (xs : List Item) → d < length xs → suc (length (without_place d xs)) ≡ length xs
without_short d [] h = absurd (omega arith)
without_short zero (x ∷ xs) h = refl
without_short (suc d) (x ∷ xs) h = ap suc (without_short d xs (omega arith))

pub places_other : (xs : List Item) (x : Item) (bars : ℕ) (places : List ℕ) → ((m : ℕ) → x ≡ Bar m → ⊥) → AreFirstPlaces xs bars places → AreFirstPlaces (xs ++ x ∷ []) bars places
places_other xs (Run q t) bars places n h = places_run xs q t bars places h
places_other xs (Bar m) bars places n h = absurd (n m refl)

pub taken_on : (xs : List Item) (k : ℕ) (x : Item) → k < length xs → x ≡ get_or xs k x → take (k + 1) xs ≡ take k xs ++ x ∷ []
taken_on xs k x l e = ap (λ n. take n xs) (add-one k) ∙ taken_next xs k x l (sym e)

-- an earlier Bar's place is one of the shorter line
pub place_short : (j : ℕ) (line : List Item) → suc j < length (masks line) → place_of_bar j line < length (merged_at j line)
place_short j line h =
    let a : place_of_bar j line < place_of_bar (suc j) line = earlier_bar j line h in
    let b : place_of_bar (suc j) line < length line = bar_inside (suc j) line h in
    let c : suc (length (merged_at j line)) ≡ length line = merged_length j line h in
    omega arith

pub spare_gap : (settled after : Timed) (gap : ℕ) → after.line ≡ without_place gap settled.line → gap < length settled.line → after.pace ≡ settled.pace → IsSpare settled after
spare_gap settled after gap e l p =
    let n : length after.line ≡ length (without_place gap settled.line) = ap length e in
    let m : suc (length (without_place gap settled.line)) ≡ length settled.line = without_short gap settled.line l in
    record { shorter = omega arith; pace = p }
