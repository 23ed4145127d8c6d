-- Of an ordered pair of tuples there is a reason.
use Rattle.std.proofs.Common.{◌≡◌, ℕ, zero, suc, ◌<◌, ◌≤◌, false, List, length, Option, Some, None, refl, sym, ◌∙◌, arith, ◌⊎◌, inl, inr, subst, All, Contains}
use Rattle.std.proofs.lemmas.Bool.{cases_lt, cases_Bool}
use Rattle.line_model.specs.declared.line.Item.{Item}
use Rattle.line_model.specs.Streams.{masks}
use Rattle.line_model.specs.Order.{IsOrderedByProcessor, IsOrderedByBarrier}
use Rattle.time_interval.specs.declared.reference.Reference.{Reference}
use Rattle.time_interval.specs.declared.reference.Reference.TheVariants as since
use Rattle.time_interval.specs.declared.reference.Reason.{Reason}
use Rattle.time_interval.specs.declared.reference.Reason.TheVariants.{SameProcessor, ByBarrier, ByTime}
use Rattle.time_interval.specs.declared.reference.Point.TheVariants.{StartOf, FinishOf}
use Rattle.time_interval.specs.Bounds.{Pace, lo_of, up_of, front_of_run, processor_of}
use Rattle.time_interval.specs.Lines.{IsItem, IsLine, tuples}
use Rattle.time_interval.specs.Ordered.{IsOrdered, IsInTime, IsFirstInTime, IsReference, ComesBefore, IsReason}
use Rattle.time_interval.specs.Ordered.IsReason.{processor, barrier, time}
use Rattle.time_interval.specs.Seen.{StandsBehind, stands_on, seen_along}
use Rattle.time_interval.proofs.Fronts.{front_of_run_all}
use Rattle.time_interval.proofs.Once.{stands_behind, any_of_contains}
use Rattle.time_interval.proofs.OrderFacts.{on_processor, not_on_processor, by_barriers, not_by_barriers, no_reason}

module _ (pace : Pace) (line : List Item) (g i : ℕ) where
  in_time_or_not : (r : Reference) → IsInTime pace line g i r ⊎ (¬ IsInTime pace line g i r)
  in_time_or_not r = go (up_of pace line r (FinishOf g)) refl (lo_of pace line r (StartOf i)) refl
    where
      go : (u : Option ℕ) → up_of pace line r (FinishOf g) ≡ u → (l : Option ℕ) → lo_of pace line r (StartOf i) ≡ l → IsInTime pace line g i r ⊎ (¬ IsInTime pace line g i r)
      go None eu l el = inr (λ t. let f : None ≡ Some t.latest = sym eu ∙ t.finish in cc)
      go (Some u) eu None el = inr (λ t. let f : None ≡ Some t.earliest = sym el ∙ t.start in cc)
      go (Some u) eu (Some l) el = elim (cases_lt l u) [
        | inl less ↦ inr (λ t. let f : Some u ≡ Some t.latest = sym eu ∙ t.finish in let h : Some l ≡ Some t.earliest = sym el ∙ t.start in let x : u ≡ t.latest = cc in let y : l ≡ t.earliest = cc in let o : t.latest ≤ t.earliest = t.order in omega arith)
        | inr most ↦ inl (record { latest = u; earliest = l; finish = eu; start = el; order = most })
      ]

  -- since the block's start, or none of the first n Bars, it is in time
  abbrev NoneBefore : ℕ → Type 0
  NoneBefore n = (¬ IsInTime pace line g i since.Start) × ((j : ℕ) → j < n → ¬ IsInTime pace line g i (since.Bar j))

  first_is : (r : Reference) → IsReference line r → IsInTime pace line g i r → ((q : Reference) → ComesBefore q r → ¬ IsInTime pace line g i q) → IsFirstInTime pace line g i r
  first_is r l t h = record { of_line = l; in_time = t; first = h }

  nothing_before : (q : Reference) → ComesBefore q since.Start → ¬ IsInTime pace line g i q
  nothing_before since.Start h = absurd h
  nothing_before (since.Bar j) h = absurd h

  before_bar : (n : ℕ) → NoneBefore n → (q : Reference) → ComesBefore q (since.Bar n) → ¬ IsInTime pace line g i q
  before_bar n none since.Start h = none.0
  before_bar n none (since.Bar j) h = none.1 j h

  -- the first of the start and the first n Bars, or none of them
  first_of : (n : ℕ) → n ≤ length (masks line) → ((r : Reference) × IsFirstInTime pace line g i r) ⊎ NoneBefore n
  first_of zero l = elim (in_time_or_not since.Start) [
    | inl t ↦ inl (since.Start, first_is since.Start tt t nothing_before)
    | inr not ↦ inr (not, λ j k. absurd (omega arith))
  ]
  first_of (suc n) l = elim (first_of n (omega arith)) [
    | inl found ↦ inl found
    | inr none ↦ elim (in_time_or_not (since.Bar n)) [
      | inl t ↦ inl (since.Bar n, first_is (since.Bar n) (omega arith) t (before_bar n none))
      | inr not ↦ inr (none.0, λ j k. at j (cases_lt j n) k none not)
    ]
  ]
    where
      at : (j : ℕ) → (j < n) ⊎ (n ≤ j) → j < suc n → NoneBefore n → ¬ IsInTime pace line g i (since.Bar n) → ¬ IsInTime pace line g i (since.Bar j)
      at j (inl k) _ none not = none.1 j k
      at j (inr k) m none not = let e : n ≡ j = omega arith in subst (λ b. ¬ IsInTime pace line g i (since.Bar b)) e not

  of_none : NoneBefore (length (masks line)) → (r : Reference) → IsReference line r → ¬ IsInTime pace line g i r
  of_none none since.Start h = none.0
  of_none none (since.Bar j) h = none.1 j h

  pub time_reason : ¬ IsOrderedByProcessor line g i → ¬ IsOrderedByBarrier line g i → IsOrdered pace line g i → (r : Reference) × IsReason pace line g i (ByTime r)
  time_reason off unseen o = elim (first_of (length (masks line)) (omega arith)) [
    | inl found ↦ (found.0, time off unseen found.1)
    | inr none ↦ absurd (no_reason pace line g i off unseen (of_none none) o)
  ]

  by_front : (front : List Item) (p count : ℕ) → All (IsItem count pace.processors) front → StandsBehind line front p i → IsOrdered pace line g i → (r : Reason) × IsReason pace line g i r
  by_front front p count all s o = elim (cases_Bool (stands_on front p g)) [
    | inl on ↦ (SameProcessor, processor (on_processor line front p i g s on))
    | inr off ↦ elim (cases_Bool (seen_along pace.processors (λ p g. false) front p g)) [
      | inl seen ↦ (ByBarrier, barrier (not_on_processor line front p i g s off) (by_barriers pace.processors count line front p i g all s off seen))
      | inr unseen ↦ (let t = time_reason (not_on_processor line front p i g s off) (not_by_barriers pace.processors count line front p i g all s unseen) o in (ByTime t.0, t.1))
    ]
  ]

  pub reason_some : (count : ℕ) → IsLine count pace.processors line → Contains (tuples line) i → IsOrdered pace line g i → (r : Reason) × IsReason pace line g i r
  reason_some count h c o = by_front (front_of_run i line) (processor_of i line) count (front_of_run_all (IsItem count pace.processors) i line h.items) (stands_behind line i h.once (any_of_contains (tuples line) i c)) o
