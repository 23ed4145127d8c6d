-- The streams of a line, without the empty ones.
use Rattle.std.proofs.Common.{◌≡◌, ℕ, zero, suc, append-nil, ◌+◌, ◌<◌, ◌≤◌, Bool, true, false, List, [], ◌∷◌, ◌++◌, refl, sym, ap, ◌∙◌, arith, ◌⊎◌, inl, inr, subst, if◌then◌else◌}
use Rattle.std.specs.Prelude.{◌==◌}
use Rattle.std.specs.List.{AllByRecursion}
use Rattle.std.proofs.lemmas.Bool.{cases_lt}
use Rattle.std.proofs.lemmas.Bool.Decides.{nat_tests}
use Rattle.line_model.specs.declared.line.Item.{Item}
use Rattle.line_model.specs.declared.line.StreamItem.{StreamItem}
use Rattle.line_model.specs.Streams.{stream}
use Rattle.stream_image.specs.declared.given.Stream.{Stream}
use Rattle.stream_image.specs.Flat.{some_stream, streams_on}
use Rattle.stream_image.specs.Line.{items_of}

apart : (q p : ℕ) → (q ≡ p → ⊥) → (q == p) ≡ false
apart q p h = grind (arith, nat_tests)

same : (q p : ℕ) → q ≡ p → (q == p) ≡ true
same q p h = grind (arith, nat_tests)

true_same : (q p : ℕ) → (q == p) ≡ true → q ≡ p
true_same q p h = grind (arith, nat_tests)

abbrev pub AreBelow : ℕ → List Stream → Type 0
AreBelow p ss = AllByRecursion (λ (s : Stream). s.processor < p) ss

pub none_own : (p : ℕ) (ss : List Stream) → AreBelow p ss → items_of ss p ≡ []
none_own p [] h = refl
none_own p (s ∷ ss) h = ap (λ b. if b then s.items else items_of ss p) (apart s.processor p (λ e. let l : s.processor < p = h.0 in omega arith)) ∙ none_own p ss h.1

with_last : (ss : List Stream) (s : Stream) (q : ℕ) → AreBelow s.processor ss → items_of (ss ++ s ∷ []) q ≡ (if s.processor == q then s.items else items_of ss q)
with_last [] s q h = refl
with_last (t ∷ ss) s q h = go (t.processor == q) refl (with_last ss s q h.1)
  where
    go : (b : Bool) → (t.processor == q) ≡ b → items_of (ss ++ s ∷ []) q ≡ (if s.processor == q then s.items else items_of ss q) → (if t.processor == q then t.items else items_of (ss ++ s ∷ []) q) ≡ (if s.processor == q then s.items else (if t.processor == q then t.items else items_of ss q))
    go true e r =
        let x = true_same t.processor q e in
        let l : t.processor < s.processor = h.0 in
        ap (λ b. if b then t.items else items_of (ss ++ s ∷ []) q) e ∙ sym (ap (λ b. if b then s.items else (if t.processor == q then t.items else items_of ss q)) (apart s.processor q (λ y. absurd (omega arith))) ∙ ap (λ b. if b then t.items else items_of ss q) e)
    go false e r = ap (λ b. if b then t.items else items_of (ss ++ s ∷ []) q) e ∙ r ∙ sym (ap (λ b. if s.processor == q then s.items else (if b then t.items else items_of ss q)) e)

below_more : (p : ℕ) (ss : List Stream) → AreBelow p ss → AreBelow (p + 1) ss
below_more p [] h = tt
below_more p (s ∷ ss) h = (let l : s.processor < p = h.0 in omega arith, below_more p ss h.1)

below_last : (p : ℕ) (ss : List Stream) (s : Stream) → s.processor < p → AreBelow p ss → AreBelow p (ss ++ s ∷ [])
below_last p [] s l h = (l, tt)
below_last p (t ∷ ss) s l h = (h.0, below_last p ss s l h.1)

module _ (streams : ℕ → List StreamItem) (p : ℕ) (ss : List Stream) (done : (q : ℕ) → q < p → items_of ss q ≡ streams q) (below : AreBelow p ss) where
  abbrev IsDone : List Stream → Type 0
  IsDone more = ((q : ℕ) → q < p + 1 → items_of more q ≡ streams q) × AreBelow (p + 1) more

  pub one_more : (items : List StreamItem) (more : List Stream) → more ≡ ss ++ record { processor = p; items = items } ∷ [] → items ≡ streams p → IsDone more
  one_more items more e i = (λ q l. ap (λ x. items_of x q) e ∙ with_last ss (record { processor = p; items = items }) q below ∙ go q (cases_lt q p) l, subst (AreBelow (p + 1)) (sym e) (below_last (p + 1) ss (record { processor = p; items = items }) (omega arith) (below_more p ss below)))
    where
      go : (q : ℕ) → (q < p) ⊎ (p ≤ q) → q < p + 1 → (if p == q then items else items_of ss q) ≡ streams q
      go q (inl lt) l = ap (λ b. if b then items else items_of ss q) (apart p q (λ y. absurd (omega arith))) ∙ done q lt
      go q (inr le) l = let x : p ≡ q = omega arith in ap (λ b. if b then items else items_of ss q) (same p q x) ∙ i ∙ ap streams x

  pub none_more : (more : List Stream) → more ≡ ss → streams p ≡ [] → IsDone more
  none_more more e n = (λ q l. ap (λ x. items_of x q) e ∙ go q (cases_lt q p) l, subst (AreBelow (p + 1)) (sym e) (below_more p ss below))
    where
      go : (q : ℕ) → (q < p) ⊎ (p ≤ q) → q < p + 1 → items_of ss q ≡ streams q
      go q (inl lt) l = done q lt
      go q (inr le) l = let x : p ≡ q = omega arith in subst (λ k. items_of ss k ≡ streams k) x (none_own p ss below ∙ sym n)

-- the streams of a line on processors below n
pub own_done : (line : List Item) (n : ℕ) → ((q : ℕ) → q < n → items_of (streams_on n line) q ≡ stream q line) × AreBelow n (streams_on n line)
own_done line zero = (λ q l. absurd (omega arith), tt)
own_done line (suc p) = go (own_done line p) (stream p line) refl
  where
    wide : (ss : List Stream) → ((q : ℕ) → q < p + 1 → items_of ss q ≡ stream q line) × AreBelow (p + 1) ss → ((q : ℕ) → q < suc p → items_of ss q ≡ stream q line) × AreBelow (suc p) ss
    wide ss d = (λ q l. d.0 q (omega (arith, l)), subst (λ k. AreBelow k ss) (let z : p + 1 ≡ suc p = omega arith in z) d.1)

    go : ((q : ℕ) → q < p → items_of (streams_on p line) q ≡ stream q line) × AreBelow p (streams_on p line) → (is : List StreamItem) → stream p line ≡ is → ((q : ℕ) → q < suc p → items_of (streams_on p line ++ some_stream p is) q ≡ stream q line) × AreBelow (suc p) (streams_on p line ++ some_stream p is)
    go r [] e = wide (streams_on p line ++ []) (none_more (λ q. stream q line) p (streams_on p line) r.0 r.1 (streams_on p line ++ []) (append-nil (streams_on p line)) e)
    go r (i ∷ is) e = wide (streams_on p line ++ some_stream p (i ∷ is)) (one_more (λ q. stream q line) p (streams_on p line) r.0 r.1 (i ∷ is) (streams_on p line ++ some_stream p (i ∷ is)) refl (sym e))
