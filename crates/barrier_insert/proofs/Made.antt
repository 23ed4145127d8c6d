-- What holds of a line that is made along an order: each tuple stands once, with its producers, which are ordered before it.
use Rattle.std.proofs.Common.{◌≡◌, ℕ, zero, suc, ◌+◌, ◌<◌, ◌≤◌, true, false, nat_eq, List, [], ◌∷◌, ◌++◌, length, refl, sym, ap, ◌∙◌, arith, ◌⊎◌, inl, inr, subst, true≢false, Contains, All, append_assoc, append-nil, length-append}
use Rattle.std.specs.List.{IsDistinct, list_any}
use Rattle.std.proofs.lemmas.Map.Keys.{IsDistinct-push}
use Rattle.std.proofs.lemmas.Cmp.{nat_eq_equiv}
use Rattle.std.proofs.lemmas.List.Elements.{All-append}
use Rattle.line_model.specs.declared.line.Item.{Item}
use Rattle.line_model.specs.declared.line.Item.TheVariants.{Run, Bar}
use Rattle.line_model.specs.Streams.{masks}
use Rattle.line_model.proofs.LineFacts.{item_front, masks-append}
use Rattle.time_interval.specs.Lines.{tuples, IsItem}
use Rattle.time_interval.specs.Ordered.{IsOrdered}
use Rattle.time_interval.specs.Seen.{StandsOn}
use Rattle.time_interval.proofs.Parts.{stands_more}
use Rattle.time_interval.proofs.NextFacts.{tuples-append}
use Rattle.time_interval.proofs.Extend.{ordered_more, kept_by_bar, made_by_bar}
use Rattle.barrier_insert.specs.Inserted.{Assignment, producers_for, then_run, IsOrderedNext, IsMissing, IsBarFor, IsPut, IsMade}
use Rattle.barrier_insert.specs.Inserted.IsPut.{free, barred}
use Rattle.barrier_insert.specs.Inserted.IsMade.{nothing, next}
use Rattle.time_interval.proofs.Decided.{decided}
use Rattle.barrier_insert.proofs.Fits.{Fits, fits_front, last_new, last_there, last_placed, last_below, any_front, any_last, any_seam}

-- ---- what is put adds one tuple, and one Bar at most

pub bar_adds_none : (part : List Item) (m : ℕ) → tuples (part ++ Bar m ∷ []) ≡ tuples part
bar_adds_none part m = tuples-append part (Bar m ∷ []) ∙ append-nil (tuples part)

pub put_tuples : (a : Assignment) (part line : List Item) (i : ℕ) → IsPut a part i line → tuples line ≡ tuples part ++ i ∷ []
put_tuples a part _ i (free f) = tuples-append part (Run (a.place i) i ∷ [])
put_tuples a part _ i (barred m w) = tuples-append (part ++ Bar m ∷ []) (Run (a.place i) i ∷ []) ∙ ap (λ us. us ++ i ∷ []) (bar_adds_none part m)

run_adds_none : (a : Assignment) (part : List Item) (i : ℕ) → masks (then_run a part i) ≡ masks part
run_adds_none a part i = masks-append part (Run (a.place i) i ∷ []) ∙ append-nil (masks part)

pub put_masks : (a : Assignment) (part line : List Item) (i : ℕ) → IsPut a part i line → length (masks line) ≤ length (masks part) + 1
put_masks a part _ i (free f) = let e : length (masks (then_run a part i)) ≡ length (masks part) = ap length (run_adds_none a part i) in omega arith
put_masks a part _ i (barred m w) =
    let e : length (masks (then_run a (part ++ Bar m ∷ []) i)) ≡ length (masks part ++ m ∷ []) = ap length (run_adds_none a (part ++ Bar m ∷ []) i ∙ masks-append part (Bar m ∷ [])) in
    let f : length (masks part ++ m ∷ []) ≡ length (masks part) + 1 = length-append (masks part) (m ∷ []) in
    omega arith

pub made_tuples : (a : Assignment) (order : List ℕ) (line : List Item) → IsMade a order line → tuples line ≡ order
made_tuples a _ _ nothing = refl
made_tuples a _ line (next {order = order} {part = part} i h p) = put_tuples a part line i p ∙ ap (λ us. us ++ i ∷ []) (made_tuples a order part h)

pub made_masks : (a : Assignment) (order : List ℕ) (line : List Item) → IsMade a order line → length (masks line) ≤ length order
made_masks a _ _ nothing = omega arith
made_masks a _ line (next {order = order} {part = part} i h p) =
    let m : length (masks part) ≤ length order = made_masks a order part h in
    let e : length (order ++ i ∷ []) ≡ length order + 1 = length-append order (i ∷ []) in
    omega (arith, put_masks a part line i p)

-- ---- order

-- each tuple of the part stands once, on its processor, with its producers, which are ordered before it
pub record IsGood (a : Assignment) (count : ℕ) (part : List Item) : Type 0 where
  pub once : IsDistinct nat_eq (tuples part)
  pub items : All (IsItem count a.pace.processors) part
  pub stands : (t : ℕ) → list_any (nat_eq t) (tuples part) ≡ true → StandsOn part (a.place t) t
  pub closed : (t g : ℕ) → list_any (nat_eq t) (tuples part) ≡ true → Contains (producers_for a t) g → list_any (nat_eq g) (tuples part) ≡ true
  pub ordered : (t g : ℕ) → list_any (nat_eq t) (tuples part) ≡ true → Contains (producers_for a t) g → IsOrdered a.pace part g t

distinct_none : IsDistinct nat_eq []
unfolding IsDistinct
distinct_none = tt

good_none : (a : Assignment) (count : ℕ) → IsGood a count []
good_none a count = record { once = distinct_none; items = λ k d l. absurd (omega arith); stands = λ t e. absurd (true≢false (sym e)); closed = λ t g e c. absurd (true≢false (sym e)); ordered = λ t g e c. absurd (true≢false (sym e)) }

-- i may be put behind the part
pub record MayBePut (a : Assignment) (count : ℕ) (part : List Item) (i : ℕ) : Type 0 where
  pub new : list_any (nat_eq i) (tuples part) ≡ false
  pub there : (g : ℕ) → Contains (producers_for a i) g → list_any (nat_eq g) (tuples part) ≡ true
  pub on : a.place i < a.pace.processors
  pub below : i < count
  pub good : IsGood a count part
  pub placed : (t : ℕ) → list_any (nat_eq t) (tuples part) ≡ true → a.place t < a.pace.processors

module _ (a : Assignment) (count : ℕ) (part : List Item) (i : ℕ) (may : MayBePut a count part i) where
  run_item : All (IsItem count a.pace.processors) (Run (a.place i) i ∷ [])
  run_item zero d l = (may.on, may.below)
  run_item (suc k) d l = absurd (omega arith)

  bar_item : (m : ℕ) → IsBarFor a part i m → All (IsItem count a.pace.processors) (Bar m ∷ [])
  bar_item m w zero d l = ((a.place i, w.own), λ p e. member p (w.no_other p e))
    where
      member : (p : ℕ) → (p ≡ a.place i) ⊎ ((g : ℕ) × IsMissing a part g i × (a.place g ≡ p)) → p < a.pace.processors
      member p (inl e) = subst (λ x. x < a.pace.processors) (sym e) may.on
      member p (inr (g, n, e)) = subst (λ x. x < a.pace.processors) e (may.placed g (may.there g n.producer))
  bar_item m w (suc k) d l = absurd (omega arith)

  run_items : All (IsItem count a.pace.processors) (then_run a part i)
  run_items = All-append (IsItem count a.pace.processors) part (Run (a.place i) i ∷ []) may.good.items run_item

  run_once : IsDistinct nat_eq (tuples (then_run a part i))
  run_once = subst (IsDistinct nat_eq) (sym (tuples-append part (Run (a.place i) i ∷ []))) (IsDistinct-push nat_eq_equiv (tuples part) i may.good.once may.new)

  -- whether a tuple would be ordered before i is decided
  pub decided_next : (g : ℕ) → IsOrderedNext a part g i ⊎ (¬ IsOrderedNext a part g i)
  decided_next g = decided a.pace (then_run a part i) count run_items run_once g i (ap (list_any (nat_eq i)) (tuples-append part (Run (a.place i) i ∷ [])) ∙ any_seam (tuples part) i [])

  module _ (line : List Item) (put : IsPut a part i line) where
    -- the line is the part with more, and i at its end
    longer : (P : List Item → Type 0) → ((more : List Item) → P (part ++ more)) → P line
    longer P f = go put
      where
        go : {l : List Item} → IsPut a part i l → P l
        go (free h) = f _
        go (barred m w) = subst P (sym (append_assoc part (Bar m ∷ []) (Run (a.place i) i ∷ []))) (f _)

    last_stands : StandsOn line (a.place i) i
    last_stands = go put
      where
        go : {l : List Item} → IsPut a part i l → StandsOn l (a.place i) i
        go (free h) = (_, record { item = item_front part (a.place i) i [] })
        go (barred m w) = (_, record { item = item_front (part ++ Bar m ∷ []) (a.place i) i [] })

    last_ordered : (g : ℕ) → Contains (producers_for a i) g → IsOrdered a.pace line g i
    last_ordered g c = go put
      where
        either : (m : ℕ) → IsBarFor a part i m → IsOrderedNext a part g i ⊎ (¬ IsOrderedNext a part g i) → IsOrderedNext a (part ++ Bar m ∷ []) g i
        either m w (inl o) = kept_by_bar a.pace part m (a.place i) g i may.good.once (may.there g c) may.new w.own may.on o
        either m w (inr u) = made_by_bar a.pace part m (a.place i) g i may.good.once (may.there g c) may.new (a.place g) w.own (w.theirs g (record { producer = c; unordered = u })) (may.good.stands g (may.there g c))

        go : {l : List Item} → IsPut a part i l → IsOrdered a.pace l g i
        go (free h) = h g c
        go (barred m w) = either m w (decided_next g)

    tuples_are : tuples line ≡ tuples part ++ i ∷ []
    tuples_are = put_tuples a part line i put

    kept : (g : ℕ) → list_any (nat_eq g) (tuples part) ≡ true → list_any (nat_eq g) (tuples line) ≡ true
    kept g e = ap (list_any (nat_eq g)) tuples_are ∙ any_front (tuples part) (i ∷ []) g e

    which : (t : ℕ) → list_any (nat_eq t) (tuples line) ≡ true → (list_any (nat_eq t) (tuples part) ≡ true) ⊎ (t ≡ i)
    which t e = any_last (tuples part) i t (sym (ap (list_any (nat_eq t)) tuples_are) ∙ e)

    items_are : All (IsItem count a.pace.processors) line
    items_are = go put
      where
        go : {l : List Item} → IsPut a part i l → All (IsItem count a.pace.processors) l
        go (free h) = run_items
        go (barred m w) = All-append (IsItem count a.pace.processors) (part ++ Bar m ∷ []) (Run (a.place i) i ∷ []) (All-append (IsItem count a.pace.processors) part (Bar m ∷ []) may.good.items (bar_item m w)) run_item

    pub good_next : IsGood a count line
    good_next = record {
      once = subst (IsDistinct nat_eq) (sym tuples_are) (IsDistinct-push nat_eq_equiv (tuples part) i may.good.once may.new);
      items = items_are;
      stands = λ t e. stands t (which t e);
      closed = λ t g e c. closed t g (which t e) c;
      ordered = λ t g e c. ordered t g (which t e) c;
    }
      where
        stands : (t : ℕ) → (list_any (nat_eq t) (tuples part) ≡ true) ⊎ (t ≡ i) → StandsOn line (a.place t) t
        stands t (inl e) = let s = may.good.stands t e in longer (λ l. StandsOn l (a.place t) t) (λ more. (s.0, stands_more part more t (a.place t) s.0 s.1))
        stands t (inr e) = subst (λ x. StandsOn line (a.place x) x) (sym e) last_stands

        closed : (t g : ℕ) → (list_any (nat_eq t) (tuples part) ≡ true) ⊎ (t ≡ i) → Contains (producers_for a t) g → list_any (nat_eq g) (tuples line) ≡ true
        closed t g (inl e) c = kept g (may.good.closed t g e c)
        closed t g (inr e) c = kept g (may.there g (subst (λ x. Contains (producers_for a x) g) e c))

        ordered : (t g : ℕ) → (list_any (nat_eq t) (tuples part) ≡ true) ⊎ (t ≡ i) → Contains (producers_for a t) g → IsOrdered a.pace line g t
        ordered t g (inl e) c = longer (λ l. IsOrdered a.pace l g t) (λ more. ordered_more a.pace part more g t (may.good.closed t g e c) e (may.good.ordered t g e c))
        ordered t g (inr e) c = subst (λ x. IsOrdered a.pace line g x) (sym e) (last_ordered g (subst (λ x. Contains (producers_for a x) g) e c))

-- ---- along the order

-- a tuple of a fitting order may be put behind what was made of those in front
pub may_be_put : (a : Assignment) (count : ℕ) (order : List ℕ) (i : ℕ) (rest : List ℕ) (part : List Item) → Fits a count (order ++ i ∷ rest) → tuples part ≡ order → IsGood a count part → MayBePut a count part i
may_be_put a count order i rest part f e good = record {
  new = ap (list_any (nat_eq i)) e ∙ last_new a count order i rest f;
  there = λ g c. ap (list_any (nat_eq g)) e ∙ last_there a count order i rest f g c;
  on = last_placed a count order i rest f;
  below = last_below a count order i rest f;
  good = good;
  placed = λ t h. f.placed t (any_front order (i ∷ rest) t (ap (list_any (nat_eq t)) (sym e) ∙ h));
}

pub made_good : (a : Assignment) (count : ℕ) (order : List ℕ) (line : List Item) → Fits a count order → IsMade a order line → IsGood a count line
made_good a count _ _ f nothing = good_none a count
made_good a count _ line f (next {order = order} {part = part} i h p) =
    let good = made_good a count order part (fits_front a count order (i ∷ []) f) h in
    good_next a count part i (may_be_put a count order i [] part f (made_tuples a order part h) good) line p
