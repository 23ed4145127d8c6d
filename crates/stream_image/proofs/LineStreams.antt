-- The line of streams and masks has these streams and masks.
use Rattle.std.proofs.Common.{◌≡◌, ℕ, zero, suc, ◌+◌, ◌<◌, ◌≤◌, Bool, true, false, nat_eq, List, [], ◌∷◌, ◌++◌, refl, sym, ap, ap₂, ◌∙◌, arith, ◌⊎◌, inl, inr, subst, eqb-true, eq-eqb, if◌then◌else◌, append-nil}
use Rattle.std.specs.List.{AllByRecursion}
use Rattle.std.proofs.lemmas.Bool.{cases_lt}
use Rattle.bm_base.specs.Mask.{has_bit}
use Rattle.line_model.specs.declared.line.Item.{Item}
use Rattle.line_model.specs.declared.line.Item.TheVariants.{Run, Bar}
use Rattle.line_model.specs.declared.line.StreamItem.{StreamItem}
use Rattle.line_model.specs.declared.line.StreamItem.TheVariants.{Do, Wait}
use Rattle.line_model.specs.Streams.{stream, masks, own}
use Rattle.line_model.proofs.LineFacts.{stream-append, masks-append}
use Rattle.stream_image.specs.Check.{waits_in, masks_of}
use Rattle.stream_image.specs.Line.{runs_ahead, behind_wait, ahead, passed, line_of, IsOwnLine}

-- each processor has as many waits as masks
abbrev pub AreEven : ℕ → (ℕ → List StreamItem) → List ℕ → Type 0
AreEven n ss ms = (p : ℕ) → p < n → waits_in (ss p) ≡ masks_of p ms

-- the items before the first wait
abbrev pub front : List StreamItem → List StreamItem
front [] = []
front (Do t ∷ items) = Do t ∷ front items
front (Wait ∷ items) = []

-- ---- runs of one processor

runs_own : (p : ℕ) (items : List StreamItem) → stream p (runs_ahead p items) ≡ front items
runs_own p [] = refl
runs_own p (Do t ∷ items) = ap (λ b. own b (Do t) (stream p (runs_ahead p items))) (eq-eqb p p refl) ∙ ap (λ l. Do t ∷ l) (runs_own p items)
runs_own p (Wait ∷ items) = refl

runs_other : (q p : ℕ) (items : List StreamItem) → nat_eq q p ≡ false → stream p (runs_ahead q items) ≡ []
runs_other q p [] h = refl
runs_other q p (Do t ∷ items) h = ap (λ b. own b (Do t) (stream p (runs_ahead q items))) h ∙ runs_other q p items h
runs_other q p (Wait ∷ items) h = refl

runs_masks : (p : ℕ) (items : List StreamItem) → masks (runs_ahead p items) ≡ []
runs_masks p [] = refl
runs_masks p (Do t ∷ items) = runs_masks p items
runs_masks p (Wait ∷ items) = refl

-- ---- runs of the chosen processors

abbrev chosen_runs : Bool → ℕ → List StreamItem → List Item
chosen_runs b p items = if b then runs_ahead p items else []

part_other : (q p : ℕ) (b : Bool) (items : List StreamItem) → nat_eq q p ≡ false → stream p (chosen_runs b q items) ≡ []
part_other q p true items h = runs_other q p items h
part_other q p false items h = refl

part_own : (p : ℕ) (b : Bool) (items : List StreamItem) → stream p (chosen_runs b p items) ≡ (if b then front items else [])
part_own p true items = runs_own p items
part_own p false items = refl

part_masks : (p : ℕ) (b : Bool) (items : List StreamItem) → masks (chosen_runs b p items) ≡ []
part_masks p true items = runs_masks p items
part_masks p false items = refl

not_same : (q p : ℕ) → (q ≡ p → ⊥) → nat_eq q p ≡ false
not_same q p h = go (nat_eq q p) refl
  where
    go : (b : Bool) → nat_eq q p ≡ b → nat_eq q p ≡ false
    go true e = absurd (h (eqb-true q p e))
    go false e = e

ahead_past : (n p : ℕ) (c : ℕ → Bool) (ss : ℕ → List StreamItem) → n ≤ p → stream p (ahead n c ss) ≡ []
ahead_past zero p c ss h = refl
ahead_past (suc q) p c ss h = stream-append p (ahead q c ss) (chosen_runs (c q) q (ss q)) ∙ ap₂ (λ a b. a ++ b) (ahead_past q p c ss (omega arith)) (part_other q p (c q) (ss q) (not_same q p (λ e. let x : q ≡ p = e in absurd (omega arith))))

ahead_own : (n p : ℕ) (c : ℕ → Bool) (ss : ℕ → List StreamItem) → p < n → stream p (ahead n c ss) ≡ (if c p then front (ss p) else [])
ahead_own zero p c ss h = absurd (omega arith)
ahead_own (suc q) p c ss h = stream-append p (ahead q c ss) (chosen_runs (c q) q (ss q)) ∙ go (cases_lt p q) (ahead_own q p c ss)
  where
    go : (p < q) ⊎ (q ≤ p) → (p < q → stream p (ahead q c ss) ≡ (if c p then front (ss p) else [])) → stream p (ahead q c ss) ++ stream p (chosen_runs (c q) q (ss q)) ≡ (if c p then front (ss p) else [])
    go (inl lt) rec = ap₂ (λ a b. a ++ b) (rec lt) (part_other q p (c q) (ss q) (not_same q p (λ e. let x : q ≡ p = e in absurd (omega arith)))) ∙ append-nil (if c p then front (ss p) else [])
    go (inr le) rec = let e : q ≡ p = omega arith in ap₂ (λ a b. a ++ b) (ahead_past q p c ss le) (subst (λ k. stream p (chosen_runs (c k) k (ss k)) ≡ (if c p then front (ss p) else [])) (sym e) (part_own p (c p) (ss p)))

ahead_masks : (n : ℕ) (c : ℕ → Bool) (ss : ℕ → List StreamItem) → masks (ahead n c ss) ≡ []
ahead_masks zero c ss = refl
ahead_masks (suc q) c ss = masks-append (ahead q c ss) (chosen_runs (c q) q (ss q)) ∙ ap₂ (λ a b. a ++ b) (ahead_masks q c ss) (part_masks q (c q) (ss q))

ahead_same : (n : ℕ) (c : ℕ → Bool) (ss tt' : ℕ → List StreamItem) → ((p : ℕ) → p < n → ss p ≡ tt' p) → ahead n c ss ≡ ahead n c tt'
ahead_same zero c ss tt' h = refl
ahead_same (suc q) c ss tt' h = ap₂ (λ a b. a ++ chosen_runs (c q) q b) (ahead_same q c ss tt' (λ p l. h p (omega arith))) (h q (omega arith))

-- ---- waits

pub no_waits : (items : List StreamItem) → waits_in items ≡ 0 → front items ≡ items
no_waits [] h = refl
no_waits (Do t ∷ items) h = ap (λ l. Do t ∷ l) (no_waits items h)
no_waits (Wait ∷ items) h = absurd (omega arith)

front_wait : (items : List StreamItem) (k : ℕ) → waits_in items ≡ k + 1 → front items ++ Wait ∷ behind_wait items ≡ items
front_wait [] k h = absurd (omega arith)
front_wait (Do t ∷ items) k h = ap (λ l. Do t ∷ l) (front_wait items k h)
front_wait (Wait ∷ items) k h = refl

behind_waits : (items : List StreamItem) (k : ℕ) → waits_in items ≡ k + 1 → waits_in (behind_wait items) ≡ k
behind_waits [] k h = absurd (omega arith)
behind_waits (Do t ∷ items) k h = behind_waits items k h
behind_waits (Wait ∷ items) k h = omega arith

pub even_next : (n m : ℕ) (ss : ℕ → List StreamItem) (ms : List ℕ) → AreEven n ss (m ∷ ms) → AreEven n (passed m ss) ms
even_next n m ss ms h p l = go (has_bit m p) (h p l)
  where
    go : (b : Bool) → waits_in (ss p) ≡ (if b then masks_of p ms + 1 else masks_of p ms) → waits_in (if b then behind_wait (ss p) else ss p) ≡ masks_of p ms
    go true e = behind_waits (ss p) (masks_of p ms) e
    go false e = e

join : (b : Bool) (items : List StreamItem) (k : ℕ) → waits_in items ≡ (if b then k + 1 else k) → (if b then front items else []) ++ own b Wait (if b then behind_wait items else items) ≡ items
join true items k h = front_wait items k h
join false items k h = refl

-- ---- the whole line

pub stream_is : (n p : ℕ) (ms : List ℕ) (ss : ℕ → List StreamItem) → p < n → AreEven n ss ms → stream p (line_of n ss ms) ≡ ss p
stream_is n p [] ss l h = ahead_own n p (λ q. true) ss l ∙ no_waits (ss p) (h p l)
stream_is n p (m ∷ ms) ss l h =
    stream-append p (ahead n (has_bit m) ss) (Bar m ∷ line_of n (passed m ss) ms) ∙
    ap₂ (λ a b. a ++ own (has_bit m p) Wait b) (ahead_own n p (has_bit m) ss l) (stream_is n p ms (passed m ss) l (even_next n m ss ms h)) ∙
    join (has_bit m p) (ss p) (masks_of p ms) (h p l)

pub stream_past : (n p : ℕ) (ms : List ℕ) (ss : ℕ → List StreamItem) → n ≤ p → AllByRecursion (λ m. has_bit m p ≡ false) ms → stream p (line_of n ss ms) ≡ []
stream_past n p [] ss l h = ahead_past n p (λ q. true) ss l
stream_past n p (m ∷ ms) ss l h =
    stream-append p (ahead n (has_bit m) ss) (Bar m ∷ line_of n (passed m ss) ms) ∙
    ap₂ (λ a b. a ++ own (has_bit m p) Wait b) (ahead_past n p (has_bit m) ss l) (stream_past n p ms (passed m ss) l h.1) ∙
    ap (λ b. own b Wait []) h.0

pub masks_are : (n : ℕ) (ms : List ℕ) (ss : ℕ → List StreamItem) → masks (line_of n ss ms) ≡ ms
masks_are n [] ss = ahead_masks n (λ q. true) ss
masks_are n (m ∷ ms) ss = masks-append (ahead n (has_bit m) ss) (Bar m ∷ line_of n (passed m ss) ms) ∙ ap₂ (λ a b. a ++ m ∷ b) (ahead_masks n (has_bit m) ss) (masks_are n ms (passed m ss))

pub line_same : (n : ℕ) (ms : List ℕ) (ss tt' : ℕ → List StreamItem) → ((p : ℕ) → p < n → ss p ≡ tt' p) → line_of n ss ms ≡ line_of n tt' ms
line_same n [] ss tt' h = ahead_same n (λ q. true) ss tt' h
line_same n (m ∷ ms) ss tt' h = ap₂ (λ a b. a ++ Bar m ∷ b) (ahead_same n (has_bit m) ss tt' h) (line_same n ms (passed m ss) (passed m tt') (λ p l. ap (λ x. if has_bit m p then behind_wait x else x) (h p l)))

-- so it is the line of its own streams and masks
pub own_line : (n : ℕ) (ms : List ℕ) (ss : ℕ → List StreamItem) → AreEven n ss ms → IsOwnLine n (line_of n ss ms)
own_line n ms ss h = line_same n ms ss (λ p. stream p (line_of n ss ms)) (λ p l. sym (stream_is n p ms ss l h)) ∙ ap (λ l. line_of n (λ p. stream p (line_of n ss ms)) l) (sym (masks_are n ms ss))

-- a line's streams have as many waits as its masks have members
pub even_line : (p : ℕ) (line : List Item) → waits_in (stream p line) ≡ masks_of p (masks line)
even_line p [] = refl
even_line p (Run q t ∷ items) = go (nat_eq q p) (even_line p items)
  where
    go : (b : Bool) → waits_in (stream p items) ≡ masks_of p (masks items) → waits_in (own b (Do t) (stream p items)) ≡ masks_of p (masks items)
    go true e = e
    go false e = e
even_line p (Bar m ∷ items) = go (has_bit m p) (even_line p items)
  where
    go : (b : Bool) → waits_in (stream p items) ≡ masks_of p (masks items) → waits_in (own b Wait (stream p items)) ≡ (if b then masks_of p (masks items) + 1 else masks_of p (masks items))
    go true e = ap (λ k. k + 1) e
    go false e = e
