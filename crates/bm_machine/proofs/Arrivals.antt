-- A set to which one processor after another is added, where it passes a test.
use Rattle.std.proofs.Common.{◌≡◌, ℕ, Bool, true, false, ◌&&◌, ◌||◌, nat_eq, refl, sym, ap, ◌∙◌, ◌⊎◌, inl, inr}
use Rattle.std.proofs.lemmas.Bool.{and_parts, both_ways}
use Rattle.std.proofs.lemmas.Bool.Decides.{eqb_tells}

or_true : (x y : Bool) → (x || y) ≡ true → (x ≡ true) ⊎ (y ≡ true)
or_true true y e = inl refl
or_true false y e = inr e

-- once p is added where it passes, nobody is in it that does not pass
module _ (f old new : ℕ → Bool) (p : ℕ) (w : Bool) (is : w ≡ f p) (bits : (q : ℕ) → new q ≡ (old q || (w && nat_eq q p))) (within : (q : ℕ) → old q ≡ true → f q ≡ true) where
  pub told_within : (q : ℕ) → new q ≡ true → f q ≡ true
  told_within q e = go (or_true (old q) (w && nat_eq q p) (sym (bits q) ∙ e))
    where
      go : (old q ≡ true) ⊎ ((w && nat_eq q p) ≡ true) → f q ≡ true
      go (inl o) = within q o
      go (inr a) = here (and_parts w (nat_eq q p) a) (eqb_tells q p)
        where
          here : (w ≡ true) × (nat_eq q p ≡ true) → ((nat_eq q p ≡ true) × (q ≡ p)) ⊎ ((nat_eq q p ≡ false) × (q ≡ p → ⊥)) → f q ≡ true
          here t (inl s) = ap f s.1 ∙ sym is ∙ t.0
          here t (inr s) = absurd (both_ways (nat_eq q p) s.0 t.1)
