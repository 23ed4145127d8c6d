-- Steps of loops that look for the least or the best.
use Rattle.std.proofs.Common.{◌≡◌, ℕ, ◌+◌, ◌<◌, ◌⊎◌, min, sym, ap, ◌∙◌, inl, inr, arith, refl, le_refl}
use Rattle.list_schedule.specs.Steps.{never, IsLeast}

which : (a b : ℕ) → (min a b ≡ a) ⊎ (min a b ≡ b)
which a b = grind arith

last_or : (k n : ℕ) → k < n + 1 → (k < n) ⊎ (k ≡ n)
last_or k n h = grind arith

pub least_none : (f : ℕ → ℕ) → IsLeast f 0 never
least_none f = record { some = inl refl; all = λ k lt. absurd (omega arith); most = le_refl never }

pub least_more : (f : ℕ → ℕ) (n least v now : ℕ) → IsLeast f n least → v ≡ f n → now ≡ min least v → IsLeast f (n + 1) now
least_more f n least v now g is e = record {
  some = elim (which least v) [ inl old ↦ (elim g.some [ inl top ↦ inl (e ∙ old ∙ top) | inr h ↦ inr (h.0, omega (arith, h.1), h.2 ∙ sym old ∙ sym e) ]) | inr new ↦ inr (n, omega arith, sym is ∙ sym new ∙ sym e) ];
  all = λ k lt. elim (last_or k n lt) [ inl h ↦ omega (arith, g.all k h) | inr h ↦ omega (arith, ap f h) ];
  most = omega (arith, g.most);
}
