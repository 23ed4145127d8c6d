-- From what is seen at a tuple to the reason that is told.
use Rattle.std.proofs.Common.{◌≡◌, ℕ, suc, ◌<◌, Bool, true, false, nat_eq, ◌&&◌, ◌||◌, List, [], ◌∷◌, ◌++◌, length, Some, slice_get, refl, sym, ap, ◌∙◌, arith, ◌⊎◌, inl, inr, subst, subst₂, eqb-true, eq-eqb, true≢false, Contains, All, Decides}
use Rattle.std.proofs.lemmas.List.Elements.{All-contains, Contains-append_right}
use Rattle.bm_base.specs.Mask.{has_bit}
use Rattle.line_model.specs.declared.line.Item.{Item}
use Rattle.line_model.specs.declared.line.Item.TheVariants.{Run, Bar}
use Rattle.line_model.specs.declared.line.StreamItem.TheVariants.{Do, Wait}
use Rattle.line_model.specs.Streams.{stream, own}
use Rattle.line_model.specs.Order.{IsOrderedByProcessor, IsOrderedByBarrier}
use Rattle.time_interval.specs.declared.reference.Reason.{Reason}
use Rattle.time_interval.specs.declared.reference.Reason.TheVariants.{SameProcessor, ByBarrier, ByTime}
use Rattle.time_interval.specs.declared.reference.Reference.{Reference}
use Rattle.time_interval.specs.Bounds.{Pace, front_of_run, processor_of}
use Rattle.time_interval.specs.Lines.{Timed, IsTimed, IsItem, tuples}
use Rattle.time_interval.specs.Ordered.{IsReason, IsOrdered, IsInTime, IsReference}
use Rattle.time_interval.specs.Ordered.IsReason.{processor, barrier, time}
use Rattle.time_interval.specs.Seen.{StandsBehind, StandsOn, IsSeen, stands_on, seen_along}
use Rattle.time_interval.proofs.Once.{own_some, stands_behind, any_of_contains}
use Rattle.time_interval.proofs.SeenFacts.{by_processor_is, by_barrier_is, seen_tells}

pub stands_on_tells : (items : List Item) (p t : ℕ) → Decides (stands_on items p t) (StandsOn items p t)
stands_on_tells [] p t = (λ e. absurd (true≢false (sym e)), λ s. absurd (let e : slice_get [] s.0 ≡ Some (Do t) = s.1.item in cc))
stands_on_tells (Run q u ∷ items) p t = go (nat_eq q p) refl (nat_eq u t) refl (stands_on_tells items p t)
  where
    deeper : (b : Bool) → nat_eq q p ≡ b → StandsOn items p t → StandsOn (Run q u ∷ items) p t
    deeper true e (k, s) = (suc k, record { item = ap (λ b. slice_get (own b (Do u) (stream p items)) (suc k)) e ∙ s.item })
    deeper false e (k, s) = (k, record { item = ap (λ b. slice_get (own b (Do u) (stream p items)) k) e ∙ s.item })

    higher : StandsOn (Run q u ∷ items) p t → ((nat_eq q p ≡ true) × (u ≡ t)) ⊎ StandsOn items p t
    higher (k, s) = elim (own_some (nat_eq q p) (Do u) (stream p items) k (Do t) s.item) [ inl (b, z, d) ↦ (let w : u ≡ t = cc in inl (b, w)) | inr (i, g, c) ↦ inr (i, record { item = g }) ]

    go : (a : Bool) → nat_eq q p ≡ a → (b : Bool) → nat_eq u t ≡ b → Decides (stands_on items p t) (StandsOn items p t) → Decides ((a && b) || stands_on items p t) (StandsOn (Run q u ∷ items) p t)
    go true ea true eb r = (λ _. (0, record { item = ap (λ b. slice_get (own b (Do u) (stream p items)) 0) ea ∙ ap (λ x. Some (Do x)) (eqb-true u t eb) }), λ _. refl)
    go true ea false eb r = (λ e. deeper (nat_eq q p) refl (r.0 e), λ s. back (higher s))
      where
        back : ((nat_eq q p ≡ true) × (u ≡ t)) ⊎ StandsOn items p t → stands_on items p t ≡ true
        back (inl (x, y)) = absurd (true≢false (sym (eq-eqb u t y) ∙ eb))
        back (inr s) = r.1 s
    go false ea b eb r = (λ e. deeper (nat_eq q p) refl (r.0 e), λ s. back (higher s))
      where
        back : ((nat_eq q p ≡ true) × (u ≡ t)) ⊎ StandsOn items p t → stands_on items p t ≡ true
        back (inl (x, y)) = absurd (true≢false (sym x ∙ ea))
        back (inr s) = r.1 s
stands_on_tells (Bar m ∷ items) p t = (λ e. deeper (has_bit m p) refl ((stands_on_tells items p t).0 e), λ s. (stands_on_tells items p t).1 (higher s))
  where
    deeper : (b : Bool) → has_bit m p ≡ b → StandsOn items p t → StandsOn (Bar m ∷ items) p t
    deeper true e (k, s) = (suc k, record { item = ap (λ b. slice_get (own b Wait (stream p items)) (suc k)) e ∙ s.item })
    deeper false e (k, s) = (k, record { item = ap (λ b. slice_get (own b Wait (stream p items)) k) e ∙ s.item })

    higher : StandsOn (Bar m ∷ items) p t → StandsOn items p t
    higher (k, s) = elim (own_some (has_bit m p) Wait (stream p items) k (Do t) s.item) [ inl (b, z, d) ↦ absurd (cc) | inr (i, g, c) ↦ (i, record { item = g }) ]

-- a tuple of a timed line behind its front
pub at_tuple : (timed : Timed) → IsTimed timed → (i : ℕ) → Contains (tuples timed.line) i → (items front : List Item) (p : ℕ) → items ≡ timed.line → front ≡ front_of_run i items → p ≡ processor_of i items → StandsBehind timed.line front p i
at_tuple timed h i c items front p e f g =
    subst₂ (λ xs q. StandsBehind timed.line xs q i) (sym (f ∙ ap (front_of_run i) e)) (sym (g ∙ ap (processor_of i) e)) (stands_behind timed.line i h.line.once (any_of_contains (tuples timed.line) i c))

pub processor_below : (timed : Timed) → IsTimed timed → (front : List Item) (p i : ℕ) → StandsBehind timed.line front p i → p < timed.pace.processors
processor_below timed h front p i s =
    let c : Contains (front ++ Run p i ∷ s.back) (Run p i) = Contains-append_right front (Run p i ∷ s.back) (Run p i) (0, omega arith, refl) in
    (All-contains (IsItem (length timed.pace.times) timed.pace.processors) (front ++ Run p i ∷ s.back) (Run p i) (subst (All (IsItem (length timed.pace.times) timed.pace.processors)) s.split h.line.items) c).0

-- what the two tests tell
pub on_processor : (line front : List Item) (p i g : ℕ) → StandsBehind line front p i → stands_on front p g ≡ true → IsOrderedByProcessor line g i
on_processor line front p i g s e = (by_processor_is line front p i g s).1 ((stands_on_tells front p g).0 e)

pub not_on_processor : (line front : List Item) (p i g : ℕ) → StandsBehind line front p i → stands_on front p g ≡ false → ¬ IsOrderedByProcessor line g i
not_on_processor line front p i g s e o = true≢false (sym ((stands_on_tells front p g).1 ((by_processor_is line front p i g s).0 o)) ∙ e)

pub by_barriers : (n c : ℕ) (line front : List Item) (p i g : ℕ) → All (IsItem c n) front → StandsBehind line front p i → stands_on front p g ≡ false → seen_along n (λ p g. false) front p g ≡ true → IsOrderedByBarrier line g i
by_barriers n c line front p i g all s off e = go ((seen_tells n c front all p g).0 e)
  where
    go : IsSeen front p g → IsOrderedByBarrier line g i
    go (inl t) = absurd (true≢false (sym ((stands_on_tells front p g).1 t) ∙ off))
    go (inr k) = (by_barrier_is line front p i g s).1 k

pub not_by_barriers : (n c : ℕ) (line front : List Item) (p i g : ℕ) → All (IsItem c n) front → StandsBehind line front p i → seen_along n (λ p g. false) front p g ≡ false → ¬ IsOrderedByBarrier line g i
not_by_barriers n c line front p i g all s e o = true≢false (sym ((seen_tells n c front all p g).1 (inr ((by_barrier_is line front p i g s).0 o))) ∙ e)

pub no_reason : (pace : Pace) (line : List Item) (g i : ℕ) → ¬ IsOrderedByProcessor line g i → ¬ IsOrderedByBarrier line g i → ((q : Reference) → IsReference line q → ¬ IsInTime pace line g i q) → ¬ IsOrdered pace line g i
no_reason pace line g i np nb nt (inl (inl o)) = np o
no_reason pace line g i np nb nt (inl (inr o)) = nb o
no_reason pace line g i np nb nt (inr (r, of_line, in_time)) = nt r of_line in_time

-- a reason is an order
pub ordered_of : (pace : Pace) (line : List Item) (g i : ℕ) (reason : Reason) → IsReason pace line g i reason → IsOrdered pace line g i
ordered_of pace line g i SameProcessor (processor o) = inl (inl o)
ordered_of pace line g i ByBarrier (barrier _ o) = inl (inr o)
ordered_of pace line g i (ByTime r) (time _ _ f) = inr (r, f.of_line, f.in_time)
