-- The items of a stream's text, one at a time.
use Rattle.std.proofs.Common.{◌≡◌, ℕ, ◌+◌, ◌<◌, ◌≤◌, refl, sym, ap, ◌∙◌, arith, Bool, true, false, List, [], ◌∷◌, ◌++◌, length, Some, None, Option, append_assoc, append-nil, cond}
use Rattle.std.specs.Prelude.{◌==◌}
use Rattle.bm_base.specs.Lines.{front_of, behind_of, has_byte}
use Rattle.line_model.specs.declared.line.StreamItem.{StreamItem}
use Rattle.stream_file.specs.Cuts.{◌>>=◌}
use Rattle.stream_file.specs.Rows.{item_of}
use Rattle.stream_file.specs.Draft.{split_from, all_items, items_of}

-- these items and the ones to come, where there are more
abbrev pub with_items : List StreamItem → Option (List StreamItem) → Option (List StreamItem)
with_items front None = None
with_items front (Some items) = Some (front ++ items)

abbrev pub items_left : Bool → List StreamItem → List ℕ → Option (List StreamItem)
items_left true front rest = with_items front (items_of rest)
items_left false front rest = Some front

abbrev pub measure : Bool → List ℕ → ℕ
measure true rest = length rest + 1
measure false rest = 0

pub with_none : (o : Option (List StreamItem)) → with_items [] o ≡ o
with_none None = refl
with_none (Some items) = refl

-- one field at a time
pub split-step : (front bs : List ℕ) → split_from front bs ≡ cond (has_byte 32 bs) ((front ++ front_of 32 bs) ∷ split_from [] (behind_of 32 bs)) ((front ++ front_of 32 bs) ∷ [])
split-step front [] = ap (λ (x : List ℕ). x ∷ []) (sym (append-nil front))
split-step front (b ∷ bs) = elim (b == 32) as (λ t. cond t (front ∷ split_from [] bs) (split_from (front ++ b ∷ []) bs) ≡ cond (cond t true (has_byte 32 bs)) ((front ++ cond t [] (b ∷ front_of 32 bs)) ∷ split_from [] (cond t bs (behind_of 32 bs))) ((front ++ cond t [] (b ∷ front_of 32 bs)) ∷ [])) [
  | true ↦ ap (λ (x : List ℕ). x ∷ split_from [] bs) (sym (append-nil front))
  | false ↦ split-step (front ++ b ∷ []) bs ∙ ap (λ (x : List ℕ). cond (has_byte 32 bs) (x ∷ split_from [] (behind_of 32 bs)) (x ∷ [])) (append_assoc front (b ∷ []) (front_of 32 bs))
]

-- one item more
pub next_item : (front : List StreamItem) (rest : List ℕ) (item : StreamItem) (found : Bool) (behind : List ℕ) → item_of (front_of 32 rest) ≡ Some item → found ≡ has_byte 32 rest → behind ≡ behind_of 32 rest
    → items_left found (front ++ item ∷ []) behind ≡ items_left true front rest
next_item front rest item found behind h f b = by (has_byte 32 rest) refl
  where
    read : (t : Bool) → has_byte 32 rest ≡ t → items_of rest ≡ all_items (cond t (front_of 32 rest ∷ split_from [] (behind_of 32 rest)) (front_of 32 rest ∷ []))
    read t e = ap all_items (split-step [] rest ∙ ap (λ (x : Bool). cond x (front_of 32 rest ∷ split_from [] (behind_of 32 rest)) (front_of 32 rest ∷ [])) e)

    more : (o : Option (List StreamItem)) → with_items (front ++ item ∷ []) o ≡ with_items front (o >>= (λ (items : List StreamItem). Some (item ∷ items)))
    more None = refl
    more (Some items) = ap Some (append_assoc front (item ∷ []) items)

    by : (t : Bool) → has_byte 32 rest ≡ t → items_left found (front ++ item ∷ []) behind ≡ items_left true front rest
    by true e = rw (f, e, b) (more (items_of (behind_of 32 rest)) ∙ ap (with_items front) (ap (λ (o : Option StreamItem). o >>= (λ (i : StreamItem). items_of (behind_of 32 rest) >>= (λ (items : List StreamItem). Some (i ∷ items)))) (sym h) ∙ sym (read true e)))
    by false e = rw (f, e) (ap (with_items front) (ap (λ (o : Option StreamItem). o >>= (λ (i : StreamItem). Some (i ∷ []))) (sym h) ∙ sym (read false e)))

pub bad_item : (front : List StreamItem) (rest : List ℕ) → item_of (front_of 32 rest) ≡ None → items_left true front rest ≡ None
bad_item front rest h = by (has_byte 32 rest) refl
  where
    read : (t : Bool) → has_byte 32 rest ≡ t → items_of rest ≡ all_items (cond t (front_of 32 rest ∷ split_from [] (behind_of 32 rest)) (front_of 32 rest ∷ []))
    read t e = ap all_items (split-step [] rest ∙ ap (λ (x : Bool). cond x (front_of 32 rest ∷ split_from [] (behind_of 32 rest)) (front_of 32 rest ∷ [])) e)

    by : (t : Bool) → has_byte 32 rest ≡ t → items_left true front rest ≡ None
    by true e = ap (with_items front) (read true e ∙ ap (λ (o : Option StreamItem). o >>= (λ (i : StreamItem). items_of (behind_of 32 rest) >>= (λ (items : List StreamItem). Some (i ∷ items)))) h)
    by false e = ap (with_items front) (read false e ∙ ap (λ (o : Option StreamItem). o >>= (λ (i : StreamItem). Some (i ∷ []))) h)

pub shorter : (rest behind : List ℕ) (found : Bool) → found ≡ has_byte 32 rest → (length rest ≡ 0 → ⊥) → length behind + 1 ≤ length rest → measure found behind < measure true rest
shorter rest behind true f n h = omega arith
shorter rest behind false f n h = omega arith
