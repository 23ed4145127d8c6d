-- Of two tuples of a line it is decided whether the one is ordered before the other.
use Rattle.std.proofs.Common.{◌≡◌, ℕ, zero, suc, ◌<◌, ◌≤◌, true, false, nat_eq, List, length, Option, Some, None, refl, sym, ◌∙◌, arith, ◌⊎◌, inl, inr, subst, All}
use Rattle.std.specs.List.{IsDistinct, list_any}
use Rattle.std.proofs.lemmas.Bool.{cases_lt, cases_Bool}
use Rattle.line_model.specs.declared.line.Item.{Item}
use Rattle.line_model.specs.Streams.{masks}
use Rattle.time_interval.specs.declared.reference.Reference.{Reference}
use Rattle.time_interval.specs.declared.reference.Reference.TheVariants as since
use Rattle.time_interval.specs.declared.reference.Point.TheVariants.{StartOf, FinishOf}
use Rattle.time_interval.specs.Bounds.{Pace, lo_of, up_of, front_of_run, processor_of}
use Rattle.time_interval.specs.Lines.{IsItem, tuples}
use Rattle.time_interval.specs.Ordered.{IsOrdered, IsInTime, IsOrderedByTime, IsReference}
use Rattle.time_interval.specs.Seen.{StandsBehind, stands_on, seen_along}
use Rattle.time_interval.proofs.Fronts.{front_of_run_all}
use Rattle.time_interval.proofs.Once.{stands_behind}
use Rattle.time_interval.proofs.OrderFacts.{on_processor, not_on_processor, by_barriers, not_by_barriers, no_reason}

in_time_or_not : (pace : Pace) (line : List Item) (g i : ℕ) (r : Reference) → IsInTime pace line g i r ⊎ (¬ IsInTime pace line g i r)
in_time_or_not pace line g i r = go (up_of pace line r (FinishOf g)) refl (lo_of pace line r (StartOf i)) refl
  where
    go : (u : Option ℕ) → up_of pace line r (FinishOf g) ≡ u → (l : Option ℕ) → lo_of pace line r (StartOf i) ≡ l → IsInTime pace line g i r ⊎ (¬ IsInTime pace line g i r)
    go None eu l el = inr (λ t. let f : None ≡ Some t.latest = sym eu ∙ t.finish in cc)
    go (Some u) eu None el = inr (λ t. let f : None ≡ Some t.earliest = sym el ∙ t.start in cc)
    go (Some u) eu (Some l) el = elim (cases_lt l u) [
      | inl less ↦ inr (λ t. let f : Some u ≡ Some t.latest = sym eu ∙ t.finish in let h : Some l ≡ Some t.earliest = sym el ∙ t.start in let x : u ≡ t.latest = cc in let y : l ≡ t.earliest = cc in let o : t.latest ≤ t.earliest = t.order in omega arith)
      | inr most ↦ inl (record { latest = u; earliest = l; finish = eu; start = el; order = most })
    ]

-- since one of the first n Bars, or since none of them
since_bars : (pace : Pace) (line : List Item) (g i n : ℕ) → ((j : ℕ) × (j < n) × IsInTime pace line g i (since.Bar j)) ⊎ ((j : ℕ) → j < n → ¬ IsInTime pace line g i (since.Bar j))
since_bars pace line g i zero = inr (λ j l. absurd (omega arith))
since_bars pace line g i (suc n) = elim (since_bars pace line g i n) [
  | inl (j, l, t) ↦ inl (j, omega arith, t)
  | inr none ↦ elim (in_time_or_not pace line g i (since.Bar n)) [
    | inl t ↦ inl (n, omega arith, t)
    | inr not ↦ inr (λ j l. at j (cases_lt j n) l none not)
  ]
]
  where
    at : (j : ℕ) → (j < n) ⊎ (n ≤ j) → j < suc n → ((j : ℕ) → j < n → ¬ IsInTime pace line g i (since.Bar j)) → ¬ IsInTime pace line g i (since.Bar n) → ¬ IsInTime pace line g i (since.Bar j)
    at j (inl l) _ none not = none j l
    at j (inr l) m none not = let e : n ≡ j = omega arith in subst (λ k. ¬ IsInTime pace line g i (since.Bar k)) e not

some_or_none : (pace : Pace) (line : List Item) (g i : ℕ) → IsOrderedByTime pace line g i ⊎ ((r : Reference) → IsReference line r → ¬ IsInTime pace line g i r)
some_or_none pace line g i = elim (in_time_or_not pace line g i since.Start) [
  | inl t ↦ inl (since.Start, tt, t)
  | inr not ↦ elim (since_bars pace line g i (length (masks line))) [
    | inl (j, l, t) ↦ inl (since.Bar j, l, t)
    | inr none ↦ inr (each not none)
  ]
]
  where
    each : ¬ IsInTime pace line g i since.Start → ((j : ℕ) → j < length (masks line) → ¬ IsInTime pace line g i (since.Bar j)) → (r : Reference) → IsReference line r → ¬ IsInTime pace line g i r
    each not none since.Start h = not
    each not none (since.Bar j) h = none j h

by_front : (pace : Pace) (line front : List Item) (p g i count : ℕ) → All (IsItem count pace.processors) front → StandsBehind line front p i → IsOrdered pace line g i ⊎ (¬ IsOrdered pace line g i)
by_front pace line front p g i count all s = elim (cases_Bool (stands_on front p g)) [
  | inl on ↦ inl (inl (inl (on_processor line front p i g s on)))
  | inr off ↦ elim (cases_Bool (seen_along pace.processors (λ p g. false) front p g)) [
    | inl seen ↦ inl (inl (inr (by_barriers pace.processors count line front p i g all s off seen)))
    | inr unseen ↦ elim (some_or_none pace line g i) [
      | inl t ↦ inl (inr t)
      | inr none ↦ inr (no_reason pace line g i (not_on_processor line front p i g s off) (not_by_barriers pace.processors count line front p i g all s unseen) none)
    ]
  ]
]

pub decided : (pace : Pace) (line : List Item) (count : ℕ) → All (IsItem count pace.processors) line → IsDistinct nat_eq (tuples line) → (g i : ℕ) → list_any (nat_eq i) (tuples line) ≡ true → IsOrdered pace line g i ⊎ (¬ IsOrdered pace line g i)
decided pace line count all once g i here = by_front pace line (front_of_run i line) (processor_of i line) g i count (front_of_run_all (IsItem count pace.processors) i line all) (stands_behind line i once here)
