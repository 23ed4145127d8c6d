-- The items of a stream's text: what is read is spelled so, and what is spelled so is read.
use Rattle.std.proofs.Common.{◌≡◌, ℕ, ◌≤◌, suc, refl, sym, ap, subst, ◌∙◌, arith, Bool, true, false, List, [], ◌∷◌, ◌++◌, length, Some, Option, true≢false, cond, append_assoc, append-nil}
use Rattle.std.specs.Prelude.{◌==◌, decimal, codes}
use Rattle.std.proofs.Common.{inl, inr}
use Rattle.std.specs.List.{AllByRecursion}
use Rattle.std.proofs.lemmas.Bool.Decides.{nat_tests}
use Rattle.std.specs.Str.{bytes_eq}
use Rattle.bm_base.specs.Lines.{has_byte}
use Rattle.std.proofs.lemmas.Slice.Eq.{bytes_eq-Decides}
use Rattle.bm_base.proofs.StrictTexts.{none_some, some_same, chosen}
use Rattle.line_model.specs.declared.line.StreamItem.{StreamItem}
use Rattle.line_model.specs.declared.line.StreamItem.TheVariants.{Do, Wait}
use Rattle.stream_file.specs.Cuts.{◌>>=◌, count_within}
use Rattle.stream_file.specs.Rows.{◌‿◌, mapped, item_of, item_text}
use Rattle.stream_file.specs.Fields.{items_text, ItemFits}
use Rattle.stream_file.specs.Draft.{split_from, all_items, items_of}
use Rattle.stream_file.proofs.Parts.{bind_some, mapped_some, named, decimal_plain, count_is, count_again}

-- fields as a text
abbrev pub joined : List (List ℕ) → List ℕ
joined [] = []
joined (f ∷ []) = f
joined (f ∷ g ∷ gs) = f ‿ joined (g ∷ gs)

split_some : (front bs : List ℕ) → 1 ≤ length (split_from front bs)
split_some front [] = omega arith
split_some front (b ∷ bs) = elim (b == 32) as (λ t. 1 ≤ length (cond t (front ∷ split_from [] bs) (split_from (front ++ b ∷ []) bs))) [ true ↦ omega arith | false ↦ split_some (front ++ b ∷ []) bs ]

joined_more : (f : List ℕ) (gs : List (List ℕ)) → 1 ≤ length gs → joined (f ∷ gs) ≡ f ‿ joined gs
joined_more f [] h = absurd (omega arith)
joined_more f (g ∷ gs) h = refl

split_step : (front : List ℕ) (b : ℕ) (bs : List ℕ) (t : Bool) → (b == 32) ≡ t → joined (split_from [] bs) ≡ bs → joined (split_from (front ++ b ∷ []) bs) ≡ (front ++ b ∷ []) ++ bs
    → joined (cond t (front ∷ split_from [] bs) (split_from (front ++ b ∷ []) bs)) ≡ front ++ b ∷ bs
split_step front b bs true e p q = let s : 32 ≡ b = sym (grind (arith, nat_tests)) in joined_more front (split_from [] bs) (split_some [] bs) ∙ (λ i. front ++ s i ∷ p i)
split_step front b bs false e p q = q ∙ append_assoc front (b ∷ []) bs

-- the fields of a text, joined, are the text
pub split_joined : (front bs : List ℕ) → joined (split_from front bs) ≡ front ++ bs
split_joined front [] = sym (append-nil front)
split_joined front (b ∷ bs) = split_step front b bs (b == 32) refl (split_joined [] bs) (split_joined (front ++ b ∷ []) bs)

item_is : (f : List ℕ) (i : StreamItem) → item_of f ≡ Some i → (f ≡ item_text i) × ItemFits i
item_is f i e = elim (named f (codes "w") (Some Wait) (mapped (λ (t : ℕ). Do t) (count_within 0 255 f)) i e) [
  | inl p ↦ subst (λ (x : StreamItem). (f ≡ item_text x) × ItemFits x) (some_same p.1) (p.0, tt)
  | inr p ↦
      (let m = mapped_some (λ (t : ℕ). Do t) (count_within 0 255 f) i p in
      let k = count_is 0 255 f m.x m.first in
      subst (λ (x : StreamItem). (f ≡ item_text x) × ItemFits x) m.same (k.0, k.2))
]

abbrev AllAre : List (List ℕ) → List StreamItem → Type 0
AllAre fs is = (joined fs ≡ items_text is) × AllByRecursion ItemFits is × (length is ≡ length fs)

add_item : (f : List ℕ) (fs : List (List ℕ)) (i : StreamItem) (is : List StreamItem) → (f ≡ item_text i) × ItemFits i → AllAre fs is → AllAre (f ∷ fs) (i ∷ is)
add_item f [] i [] p q = (p.0, (p.1, q.1), refl)
add_item f [] i (j ∷ js) p q = absurd (omega (arith, q.2))
add_item f (g ∷ gs) i [] p q = absurd (omega (arith, q.2))
add_item f (g ∷ gs) i (j ∷ js) p q = ((λ k. p.0 k ‿ q.0 k), (p.1, q.1), ap suc q.2)

all_items-are : (fs : List (List ℕ)) (is : List StreamItem) → all_items fs ≡ Some is → AllAre fs is
all_items-are [] is e = subst (AllAre []) (some_same e) (refl, tt, refl)
all_items-are (f ∷ fs) is e =
    let a = bind_some (item_of f) (λ (i : StreamItem). all_items fs >>= (λ (js : List StreamItem). Some (i ∷ js))) is e in
    let b = bind_some (all_items fs) (λ (js : List StreamItem). Some (a.x ∷ js)) is a.next in
    subst (AllAre (f ∷ fs)) (some_same b.next) (add_item f fs a.x b.x (item_is f a.x a.first) (all_items-are fs b.x b.first))

-- what is read is spelled so
pub items_is : (text : List ℕ) (is : List StreamItem) → items_of text ≡ Some is → (text ≡ items_text is) × AllByRecursion ItemFits is × (1 ≤ length is)
items_is text is e =
    let a = all_items-are (split_from [] text) is e in
    let some : 1 ≤ length (split_from [] text) = split_some [] text in
    (sym (split_joined [] text) ∙ a.0, a.1, omega (arith, a.2))

-- ---- what is spelled so is read

split_plain : (front bs : List ℕ) → has_byte 32 bs ≡ false → split_from front bs ≡ (front ++ bs) ∷ []
split_plain front [] h = ap (λ (x : List ℕ). x ∷ []) (sym (append-nil front))
split_plain front (b ∷ bs) h = elim (chosen (b == 32) true (has_byte 32 bs) false h) [
  | inl p ↦ absurd (true≢false p.1)
  | inr p ↦ rw p.0 (split_plain (front ++ b ∷ []) bs p.1 ∙ ap (λ (x : List ℕ). x ∷ []) (append_assoc front (b ∷ []) bs))
]

split_again : (front bs rest : List ℕ) → has_byte 32 bs ≡ false → split_from front (bs ‿ rest) ≡ (front ++ bs) ∷ split_from [] rest
split_again front [] rest h = ap (λ (x : List ℕ). x ∷ split_from [] rest) (sym (append-nil front))
split_again front (b ∷ bs) rest h = elim (chosen (b == 32) true (has_byte 32 bs) false h) [
  | inl p ↦ absurd (true≢false p.1)
  | inr p ↦ rw p.0 (split_again (front ++ b ∷ []) bs rest p.1 ∙ ap (λ (x : List ℕ). x ∷ split_from [] rest) (append_assoc front (b ∷ []) bs))
]

item_plain : (i : StreamItem) → ItemFits i → has_byte 32 (item_text i) ≡ false
item_plain Wait h = refl
item_plain (Do t) h = let k : t ≤ 255 = h in decimal_plain t (omega arith)

not_wait : (bs : List ℕ) (n : ℕ) → count_within 0 255 bs ≡ Some n → bytes_eq bs (codes "w") ≡ false
not_wait bs n e = by (bytes_eq bs (codes "w")) refl
  where
    by : (t : Bool) → bytes_eq bs (codes "w") ≡ t → t ≡ false
    by true h = absurd (none_some (sym (ap (count_within 0 255) ((bytes_eq-Decides bs (codes "w")).0 h)) ∙ e))
    by false h = refl

item_again : (i : StreamItem) → ItemFits i → item_of (item_text i) ≡ Some i
item_again Wait h = refl
item_again (Do t) h =
    let k : t ≤ 255 = h in
    let e = count_again 0 255 t (omega arith) k (omega arith) in
    rw (not_wait (decimal t) t e, e) refl

pub items_again : (i : StreamItem) (is : List StreamItem) → ItemFits i → AllByRecursion ItemFits is → items_of (items_text (i ∷ is)) ≡ Some (i ∷ is)
items_again i [] h hs = ap all_items (split_plain [] (item_text i) (item_plain i h)) ∙ ap (λ (o : Option StreamItem). o >>= (λ (x : StreamItem). Some (x ∷ []))) (item_again i h)
items_again i (j ∷ js) h hs =
    ap all_items (split_again [] (item_text i) (items_text (j ∷ js)) (item_plain i h))
    ∙ (λ k. item_again i h k >>= (λ (x : StreamItem). items_again j js hs.0 hs.1 k >>= (λ (xs : List StreamItem). Some (x ∷ xs))))
