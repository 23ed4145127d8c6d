use Rattle.std.proofs.Common.{◌≡◌, ℕ, replicate, Option, None, Some, refl, ap, ◌∙◌, subst}
use Rattle.std.specs.Option.{SomeIff}
use Rattle.dbm_unit.proofs.lists.Lists.new.Goals as goal

only_none : (P : Option ℕ → Type 0) → ((x : ℕ) → P (Some x) → ⊥) → (y : Option ℕ) → P y → y ≡ None
only_none P h None p = refl
only_none P h (Some x) p = absurd (h x p)

some_value : (P : Type 0) {o : Option ℕ} {v x : ℕ} → SomeIff o P v → o ≡ Some x → x ≡ v
some_value P {o = o} {v = v} {x = x} s e = (subst (λ o. SomeIff o P v) e s).1

pub returns-clause-first : goal.returns-clause-first
returns-clause-first c = c.in_ok-first.ensures.items_if_clones_equal (only_none _ (λ x p. p))

pub returns-clause-next : goal.returns-clause-next
returns-clause-next c = c.in_ok-next.ensures.items_if_clones_equal (only_none _ (λ x p. p)) ∙ ap (λ n. replicate n None) (some_value _ c.checked_mul.ensures c.in_ok-nodes.ensures.ok_part)
