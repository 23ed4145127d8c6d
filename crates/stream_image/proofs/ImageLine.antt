-- The line of a block from its streams and masks.
use Rattle.std.proofs.Common.{◌≡◌, ℕ, ◌+◌, ◌<◌, List, [], ◌∷◌, ◌++◌, Result, Ok, Err, sym, ap, subst, ◌∙◌, arith, ◌⊎◌, inl, inr, cond}
use Rattle.std.specs.Prelude.{◌==◌, IfOk}
use Rattle.std.proofs.lemmas.Bool.{cases_eq}
use Rattle.line_model.specs.declared.line.Item.{Item}
use Rattle.line_model.specs.declared.line.StreamItem.{StreamItem}
use Rattle.line_model.specs.Streams.{stream, masks}
use Rattle.stream_image.specs.declared.given.Stream.{Stream}
use Rattle.stream_image.specs.Line.{items_of, line_of, IsOwnLine, AreOf, AreBelow}
use Rattle.stream_image.proofs.Keeping.{eq_true, ne_false}
use Rattle.stream_image.proofs.LineStreams.{line_same}

items_same : (xs : List Stream) (s : Stream) (p : ℕ) → (s.processor ≡ p → ⊥) → items_of (xs ++ s ∷ []) p ≡ items_of xs p
items_same [] s p n = ap (λ t. cond t s.items []) (ne_false s.processor p n)
items_same (x ∷ xs) s p n = ap (λ rest. cond (x.processor == p) x.items rest) (items_same xs s p n)

items_new : (xs : List Stream) (s : Stream) (n : ℕ) → s.processor ≡ n → AreBelow n xs → items_of (xs ++ s ∷ []) n ≡ s.items
items_new [] s n e h = ap (λ t. cond t s.items []) (eq_true s.processor n e)
items_new (x ∷ xs) s n e h = ap (λ t. cond t x.items (items_of (xs ++ s ∷ []) n)) (ne_false x.processor n (λ f. let l = h.0 in absurd (omega arith))) ∙ items_new xs s n e h.1

below_more : (n : ℕ) (xs : List Stream) (s : Stream) → s.processor ≡ n → AreBelow n xs → AreBelow (n + 1) (xs ++ s ∷ [])
below_more n [] s e h = (omega arith, tt)
below_more n (x ∷ xs) s e h = (let l = h.0 in omega arith, below_more n xs s e h.1)

-- one processor more
pub one_more : (n : ℕ) (streams : ℕ → List StreamItem) (given again : List Stream) (s : Stream) → s.processor ≡ n → s.items ≡ streams n → again ≡ given ++ s ∷ [] → AreOf n streams given × AreBelow n given
    → AreOf (n + 1) streams again × AreBelow (n + 1) again
one_more n streams given again s e f g h = subst (λ xs. AreOf (n + 1) streams xs × AreBelow (n + 1) xs) (sym g) (all, below_more n given s e h.1)
  where
    by : (p : ℕ) → p < n + 1 → (p ≡ n) ⊎ (p ≡ n → ⊥) → items_of (given ++ s ∷ []) p ≡ streams p
    by p l (inl same) = subst (λ q. items_of (given ++ s ∷ []) q ≡ streams q) (sym same) (items_new given s n e h.1 ∙ f)
    by p l (inr other) = items_same given s p (λ same. other (sym same ∙ e)) ∙ h.0 p (omega arith)

    all : AreOf (n + 1) streams (given ++ s ∷ [])
    all p l = by p l (cases_eq p n)

pub block_line : (n k : ℕ) (line : List Item) (given again : List Stream) (queue : List ℕ) → k ≡ n → again ≡ given → queue ≡ masks line → AreOf n (λ p. stream p line) given → IsOwnLine n line
    → line_of k (items_of again) queue ≡ line
block_line n k line given again queue e f g of own = (λ i. line_of (e i) (items_of (f i)) (g i)) ∙ line_same n (masks line) (items_of given) (λ p. stream p line) of ∙ sym own

pub if_ok : {A E : Type 0} {P Q : A → Type 0} (r : Result A E) → ((x : A) → P x → Q x) → IfOk r P → IfOk r Q
if_ok (Ok x) f h = f x h
if_ok (Err e) f h = tt
