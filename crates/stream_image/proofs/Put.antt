-- One processor more has put its runs into the line.
use Rattle.std.proofs.Common.{◌≡◌, ℕ, zero, suc, ◌+◌, ◌<◌, ◌≤◌, Bool, true, false, List, [], ◌∷◌, ◌++◌, length, get_or, set, replicate, drop, refl, sym, ap, ap₂, ◌∙◌, arith, ◌⊎◌, inl, inr, subst, if◌then◌else◌, append_assoc, append-nil}
use Rattle.std.proofs.lemmas.Bool.{cases_lt}
use Rattle.std.proofs.lemmas.List.{get_or-set_same, get_or-set_other}
use Rattle.bm_base.specs.Mask.{has_bit}
use Rattle.line_model.specs.declared.line.Item.{Item}
use Rattle.line_model.specs.declared.line.Item.TheVariants.{Bar}
use Rattle.line_model.specs.declared.line.StreamItem.{StreamItem}
use Rattle.stream_image.specs.declared.given.Stream.{Stream}
use Rattle.stream_image.specs.Line.{items_of, runs_ahead, behind_wait, ahead, passed, line_of}
use Rattle.stream_image.specs.Rest.{rest_of}
use Rattle.stream_image.proofs.LineStreams.{line_same}

pub more_runs : (old items new : List Item) (p : ℕ) (chosen : ℕ → Bool) (ss : ℕ → List StreamItem) (own : List StreamItem) → items ≡ old ++ ahead p chosen ss → new ≡ items ++ runs_ahead p own → own ≡ ss p → chosen p ≡ true → new ≡ old ++ ahead (p + 1) chosen ss
more_runs old items new p chosen ss own e f g h =
    let s : p + 1 ≡ suc p = omega arith in
    f ∙ ap₂ (λ a b. a ++ runs_ahead p b) e g ∙ append_assoc old (ahead p chosen ss) (runs_ahead p (ss p)) ∙ ap (λ b. old ++ (ahead p chosen ss ++ (if b then runs_ahead p (ss p) else []))) (sym h) ∙ ap (λ k. old ++ ahead k chosen ss) (sym s)

pub same_runs : (old items : List Item) (p : ℕ) (chosen : ℕ → Bool) (ss : ℕ → List StreamItem) → items ≡ old ++ ahead p chosen ss → chosen p ≡ false → items ≡ old ++ ahead (p + 1) chosen ss
same_runs old items p chosen ss e h =
    let s : p + 1 ≡ suc p = omega arith in
    e ∙ ap (λ x. old ++ x) (sym (append-nil (ahead p chosen ss))) ∙ ap (λ b. old ++ (ahead p chosen ss ++ (if b then runs_ahead p (ss p) else []))) (sym h) ∙ ap (λ k. old ++ ahead k chosen ss) (sym s)

module _ (ss : List Stream) (m : ℕ) (before : List ℕ) where
  -- below a place the members have passed, from there on nobody has
  abbrev pub DoneTo : ℕ → List ℕ → Type 0
  DoneTo p places = (q : ℕ) → q < p → rest_of ss places q ≡ passed m (rest_of ss before) q

  abbrev pub LeftFrom : ℕ → List ℕ → Type 0
  LeftFrom p places = (q : ℕ) → p ≤ q → get_or places q 0 ≡ get_or before q 0

  pub done_more : (p next : ℕ) (places : List ℕ) (own : List StreamItem) → p < length places → own ≡ items_of ss p → drop next own ≡ behind_wait (drop (get_or places p 0) own) → has_bit m p ≡ true → DoneTo p places → LeftFrom p places → DoneTo (p + 1) (set places p next)
  done_more p next places own l e f h done left q k = go (cases_lt q p)
    where
      go : (q < p) ⊎ (p ≤ q) → rest_of ss (set places p next) q ≡ passed m (rest_of ss before) q
      go (inl lt) = ap (λ n. drop n (items_of ss q)) (get_or-set_other places p q next 0 (λ x. let y : q ≡ p = x in absurd (omega arith))) ∙ done q lt
      go (inr le) =
          let s : p ≡ q = omega arith in
          subst (λ x. rest_of ss (set places p next) x ≡ passed m (rest_of ss before) x) s
          (ap (λ n. drop n (items_of ss p)) (get_or-set_same places p next 0 l) ∙
          ap (λ o. drop next o) (sym e) ∙ f ∙ ap (λ o. behind_wait (drop (get_or places p 0) o)) e ∙
          ap (λ n. behind_wait (drop n (items_of ss p))) (left p (omega arith)) ∙
          ap (λ b. if b then behind_wait (rest_of ss before p) else rest_of ss before p) (sym h))

  pub left_more : (p next : ℕ) (places : List ℕ) → LeftFrom p places → LeftFrom (p + 1) (set places p next)
  left_more p next places left q k = get_or-set_other places p q next 0 (λ x. let y : q ≡ p = x in absurd (omega arith)) ∙ left q (omega arith)

  pub done_same : (p : ℕ) (places : List ℕ) → has_bit m p ≡ false → DoneTo p places → LeftFrom p places → DoneTo (p + 1) places
  done_same p places h done left q k = go (cases_lt q p)
    where
      go : (q < p) ⊎ (p ≤ q) → rest_of ss places q ≡ passed m (rest_of ss before) q
      go (inl lt) = done q lt
      go (inr le) =
          let s : p ≡ q = omega arith in
          subst (λ x. rest_of ss places x ≡ passed m (rest_of ss before) x) s
          (ap (λ n. drop n (items_of ss p)) (left p (omega arith)) ∙ ap (λ b. if b then behind_wait (rest_of ss before p) else rest_of ss before p) (sym h))

-- one mask more
pub one_mask : (n m : ℕ) (ms : List ℕ) (ss after : ℕ → List StreamItem) (items mid new whole : List Item) → items ++ line_of n ss (m ∷ ms) ≡ whole → mid ≡ items ++ ahead n (has_bit m) ss → new ≡ mid ++ Bar m ∷ [] → ((p : ℕ) → p < n → after p ≡ passed m ss p) → new ++ line_of n after ms ≡ whole
one_mask n m ms ss after items mid new whole e f g h =
    ap₂ (λ a b. a ++ b) (g ∙ ap (λ x. x ++ Bar m ∷ []) f) (line_same n ms after (passed m ss) h) ∙
    append_assoc (items ++ ahead n (has_bit m) ss) (Bar m ∷ []) (line_of n (passed m ss) ms) ∙
    append_assoc items (ahead n (has_bit m) ss) (Bar m ∷ line_of n (passed m ss) ms) ∙ e

pub at_first : (n : ℕ) (ms : List ℕ) (ss : List Stream) (places : List ℕ) → ((p : ℕ) → get_or places p 0 ≡ 0) → line_of n (rest_of ss places) ms ≡ line_of n (items_of ss) ms
at_first n ms ss places h = line_same n ms (rest_of ss places) (items_of ss) (λ p l. ap (λ k. drop k (items_of ss p)) (h p))

pub next_mask : (ms : List ℕ) (i m : ℕ) → i < length ms → m ≡ get_or ms i m → drop i ms ≡ m ∷ drop (i + 1) ms
next_mask [] i m l e = absurd (omega arith)
next_mask (x ∷ ms) zero m l e = ap (λ y. y ∷ ms) (sym e)
next_mask (x ∷ ms) (suc i) m l e = next_mask ms i m (omega arith) e ∙ (let s : suc i + 1 ≡ suc (i + 1) = omega arith in ap (λ k. m ∷ drop k (x ∷ ms)) (sym s))

abbrev zeros : ℕ → List ℕ
zeros n = replicate n 0

pub zero_at : (n p : ℕ) → get_or (zeros n) p 0 ≡ 0
zero_at zero p = refl
zero_at (suc n) zero = refl
zero_at (suc n) (suc p) = zero_at n p
