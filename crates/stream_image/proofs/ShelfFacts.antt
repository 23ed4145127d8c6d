-- The blocks of columns, one block more, and each of them.
use Rattle.std.proofs.Common.{◌≡◌, ℕ, ◌+◌, ◌<◌, ◌≤◌, List, [], ◌∷◌, ◌++◌, length, length-append, get_or, refl, sym, ap, ap₂, ◌∙◌, arith, subst, Result, Ok, Err, OnOk}
use Rattle.std.specs.Prelude.{slice_range}
use Rattle.tuple_ir.specs.declared.tuple.Tuple.{Tuple}
use Rattle.tuple_ir.specs.declared.block.Next.{Next}
use Rattle.stream_image.specs.declared.given.Stream.{Stream}
use Rattle.stream_image.specs.declared.shelf.Columns.{Columns}
use Rattle.stream_image.specs.Flat.{parts, IsCut, start_of, HeldBlock, held_at, blocks_of}
use Rattle.stream_image.specs.Columns.{held_in, AreColumns}
use Rattle.stream_image.proofs.FlatLists.{parts_length, parts_push, parts_at, cut_push, bounds_at}
use Rattle.stream_image.proofs.ColumnFacts.{blocks_length, blocks_push, block_at}

pub both_ok : {A E : Type 0} {X Y Z : Type 0} (r : Result A E) → OnOk r X → OnOk r Y → (X → Y → Z) → OnOk r Z
both_ok (Ok u) x y f = f x y
both_ok (Err e) x y f = tt

-- ---- one block more

module _ (old : Columns) (h : AreColumns old) (n : Next) (t : List Tuple) (m : List ℕ) (s : List Stream) where
  -- the columns with it
  pub record IsPut (nexts : List Next) (tuples : List (List Tuple)) (masks : List (List ℕ)) (streams : List Stream) (ends : List ℕ) : Type 0 where
    pub nexts_are : nexts ≡ old.nexts.items ++ n ∷ []
    pub tuples_are : tuples ≡ old.tuples ++ t ∷ []
    pub masks_are : masks ≡ old.masks ++ m ∷ []
    pub streams_are : streams ≡ old.streams ++ s
    pub ends_are : ends ≡ old.ends.items ++ length streams ∷ []

  long : {A B : Type 0} (xs : List A) (ys : List B) (x : A) (y : B) → length xs ≡ length ys → length (xs ++ x ∷ []) ≡ length (ys ++ y ∷ [])
  long xs ys x y e = omega (arith, e, length-append xs (x ∷ []), length-append ys (y ∷ []))

  module _ (nexts : List Next) (tuples : List (List Tuple)) (masks : List (List ℕ)) (streams : List Stream) (ends : List ℕ) (k : IsPut nexts tuples masks streams ends) where
    pub tuples_long : length tuples ≡ length nexts
    tuples_long = ap length k.tuples_are ∙ long old.tuples old.nexts.items t n h.tuples ∙ sym (ap length k.nexts_are)

    pub masks_long : length masks ≡ length nexts
    masks_long = ap length k.masks_are ∙ long old.masks old.nexts.items m n h.masks ∙ sym (ap length k.nexts_are)

    pub ends_long : length ends ≡ length nexts
    ends_long = ap length k.ends_are ∙ long old.ends.items old.nexts.items (length streams) n h.ends ∙ sym (ap length k.nexts_are)

    end_is : length streams ≡ length old.streams + length s
    end_is = let e = ap length k.streams_are in omega (arith, e, length-append old.streams s)

    pub still_cut : IsCut ends 0 (length streams)
    still_cut = let e = end_is in subst (λ es. IsCut es 0 (length streams)) (sym k.ends_are) (cut_push old.ends.items 0 (length old.streams) (length streams) (length streams) h.cut (omega (arith, e)) refl)

    pub put_is : blocks_of nexts tuples masks (parts ends 0 streams) ≡ held_in old ++ record { block = record { tuples = t; next = n }; streams = s; masks = m } ∷ []
    put_is =
        let e : parts ends 0 streams ≡ parts old.ends.items 0 old.streams ++ s ∷ [] = ap₂ (λ es xs. parts es 0 xs) k.ends_are k.streams_are ∙ parts_push old.ends.items 0 old.streams s (length streams) h.cut end_is in
        ap (λ ns. blocks_of ns tuples masks (parts ends 0 streams)) k.nexts_are ∙
        ap₂ (λ ts ms. blocks_of (old.nexts.items ++ n ∷ []) ts ms (parts ends 0 streams)) k.tuples_are k.masks_are ∙
        ap (blocks_of (old.nexts.items ++ n ∷ []) (old.tuples ++ t ∷ []) (old.masks ++ m ∷ [])) e ∙
        blocks_push old.nexts.items old.tuples old.masks (parts old.ends.items 0 old.streams) n t m s h.tuples h.masks (parts_length old.ends.items 0 old.streams ∙ h.ends)

-- ---- each block

module _ (k : Columns) (held : List HeldBlock) (h : AreColumns k) (e : held_in k ≡ held) where
  pub held_long : length held ≡ length k.nexts.items
  held_long = ap length (sym e) ∙ blocks_length k.nexts.items k.tuples k.masks (parts k.ends.items 0 k.streams) h.tuples h.masks (parts_length k.ends.items 0 k.streams ∙ h.ends)

  module _ (b : ℕ) (l : b < length held) where
    within : b < length k.nexts.items
    within = let n = held_long in omega (arith, n, l)

    pub within_tuples : b < length k.tuples
    within_tuples = let n = within in let t = h.tuples in omega (arith, n, t)

    pub within_masks : b < length k.masks
    within_masks = let n = within in let t = h.masks in omega (arith, n, t)

    pub within_ends : b < length k.ends.items
    within_ends = let n = within in let t = h.ends in omega (arith, n, t)

    block_is : (d : Next) → held_at held b ≡ record { block = record { tuples = get_or k.tuples b []; next = get_or k.nexts.items b d }; streams = get_or (parts k.ends.items 0 k.streams) b []; masks = get_or k.masks b [] }
    block_is d = ap (λ xs. held_at xs b) (sym e) ∙ block_at k.nexts.items k.tuples k.masks (parts k.ends.items 0 k.streams) b h.tuples h.masks (parts_length k.ends.items 0 k.streams ∙ h.ends) within d

    pub next_is : (d : Next) → get_or k.nexts.items b d ≡ (held_at held b).block.next
    next_is d = sym (ap (λ (x : HeldBlock). x.block.next) (block_is d))

    pub tuples_are : (d : Next) → get_or k.tuples b [] ≡ (held_at held b).block.tuples
    tuples_are d = sym (ap (λ (x : HeldBlock). x.block.tuples) (block_is d))

    pub masks_are : (d : Next) → get_or k.masks b [] ≡ (held_at held b).masks
    masks_are d = sym (ap (λ (x : HeldBlock). x.masks) (block_is d))

    pub streams_are : (d : Next) → slice_range k.streams (start_of k.ends.items 0 b) (get_or k.ends.items b 0) ≡ (held_at held b).streams
    streams_are d = sym (ap (λ (x : HeldBlock). x.streams) (block_is d) ∙ parts_at k.ends.items 0 k.streams b within_ends)

    pub range_is : (start_of k.ends.items 0 b ≤ get_or k.ends.items b 0) × (get_or k.ends.items b 0 ≤ length k.streams)
    range_is = bounds_at k.ends.items 0 (length k.streams) b h.cut within_ends
