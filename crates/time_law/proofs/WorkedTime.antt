-- The worked program keeps all that the law asks, and one of its pairs is in order by time alone.
use Rattle.std.proofs.Common.{◌≡◌, ℕ, zero, suc, ◌<◌, ◌≤◌, ◌^◌, ◌%◌, Bool, true, false, nat_eq, [], ◌∷◌, reverse, if◌then◌else◌, Some, None, slice_get, pos, refl, sym, ap, ◌∙◌, subst, le_refl, arith, ◌⊎◌, inl, inr}
use Rattle.std.proofs.Math.Nat.{div-eq_of_lt}
use Rattle.std.proofs.Math.Pow.{pow_mono}
use Rattle.std.proofs.lemmas.Bool.{cases_lt, both_ways, ne_eqb}
use Rattle.bm_base.specs.Mask.{has_bit}
use Rattle.bm_base.specs.declared.word.Un.TheVariants.{Neg}
use Rattle.bm_base.specs.declared.word.Bin.TheVariants.{Div}
use Rattle.tuple_ir.specs.declared.tuple.Tuple.{Tuple}
use Rattle.tuple_ir.specs.declared.tuple.Tuple.TheVariants.{Const, Load, One, Two}
use Rattle.tuple_ir.specs.Conflict.{Conflict}
use Rattle.line_model.specs.declared.line.StreamItem.TheVariants.{Do}
use Rattle.line_model.specs.Streams.{stream, masks, before}
use Rattle.line_model.specs.Order.{HasMember, StandsAt, IsOrderedBySync}
use Rattle.unit_law.specs.State.{code_at}
use Rattle.unit_law.specs.Fit.{AllFit, HasTimes}
use Rattle.unit_law.specs.Sound.{IsCodeSound, IsSound}
use Rattle.tuple_ir.specs.Sound.{IsTupleSound}
use Rattle.bm_base.specs.Names.{IsVariableOf}
use Rattle.unit_law.specs.Determinate.{IsDeterminate}
use Rattle.unit_law.specs.Units.{static_choice}
use Rattle.unit_law.specs.Steps.{IsRun}
use Rattle.unit_law.specs.Canonical.{IsTiming, canonical}
use Rattle.unit_law.specs.Worked.{worked_memory, worked_names}
use Rattle.unit_law.proofs.WorkedFits.{worked_times}
use Rattle.unit_law.proofs.CanonicalRuns.{canonical_runs, canonical_begins}
use Rattle.unit_law.proofs.Fronts.{static_is_lawful}
use Rattle.unit_law.proofs.RunsOn.{runs_on}
use Rattle.bm_base.proofs.Kept.{IsMemoryOf-initial}
use Rattle.timing_law.specs.Duration.{IsWithin}
use Rattle.time_interval.specs.declared.reference.Reference.TheVariants as since
use Rattle.time_interval.specs.Ordered.{IsOrdered}
use Rattle.time_law.specs.Conflicts.{pace_of, ConflictsOrdered}
use Rattle.time_law.specs.Worked.{timed, timed_line, closest, closest_run}
use Rattle.time_law.proofs.ByTime.{sound_determinate}

no_bit : (p : ℕ) → 2 ≤ p → has_bit 3 p ≡ false
no_bit p le = let m : 2 ^ 2 ≤ 2 ^ p = pow_mono le in ap (λ q. nat_eq (q % 2) 1) (div-eq_of_lt {n = 3} {m = 2 ^ p} (omega arith))

members_fit : (j p : ℕ) → HasMember timed_line j p → p < 4
members_fit zero p h = go (cases_lt p 2)
  where
    go : (p < 2) ⊎ (2 ≤ p) → p < 4
    go (inl l) = omega arith
    go (inr le) = absurd (let e : 3 ≡ h.mask = (let a = h.at in cc) in both_ways _ (no_bit p le) (ap (λ n. has_bit n p) e ∙ h.has))
members_fit (suc j) p h = absurd (let a = h.at in cc)

none_past : (p : ℕ) → 2 ≤ p → stream p timed_line ≡ []
none_past p le =
    let a : nat_eq 0 p ≡ false = ne_eqb _ _ (omega arith) in
    let b : nat_eq 1 p ≡ false = ne_eqb _ _ (omega arith) in
    rw a (rw b (rw (no_bit p le) refl))

-- where each tuple stands
abbrev Where : ℕ → ℕ → ℕ → Type 0
Where t p k = ((t ≡ 0) × (p ≡ 0) × (k ≡ 1)) ⊎ ((t ≡ k) × (p ≡ 1) × (1 ≤ k) × (k ≤ 3))

record Placed (t p k : ℕ) : Type 0 where
  by_tuple : Where t p k

placed : (t p k : ℕ) → slice_get (stream p timed_line) k ≡ Some (Do t) → Placed t p k
placed t zero zero e = absurd (cc)
placed t zero (suc zero) e = let q : 0 ≡ t = cc in record { by_tuple = inl (sym q, refl, refl) }
placed t zero (suc (suc k)) e = absurd (cc)
placed t (suc zero) zero e = absurd (cc)
placed t (suc zero) (suc zero) e = let q : 1 ≡ t = cc in record { by_tuple = inr (sym q, refl, omega arith, omega arith) }
placed t (suc zero) (suc (suc zero)) e = let q : 2 ≡ t = cc in record { by_tuple = inr (sym q, refl, omega arith, omega arith) }
placed t (suc zero) (suc (suc (suc zero))) e = let q : 3 ≡ t = cc in record { by_tuple = inr (sym q, refl, omega arith, omega arith) }
placed t (suc zero) (suc (suc (suc (suc k)))) e = absurd (cc)
placed t (suc (suc p)) k e = absurd (let n : None ≡ Some (Do t) = sym (ap (λ l. slice_get l k) (none_past (suc (suc p)) (omega arith))) ∙ e in cc)

within : (t p k : ℕ) → Placed t p k → (p < 4) × (t < 4)
within t p k w = go w.by_tuple
  where
    go : Where t p k → (p < 4) × (t < 4)
    go (inl (a, b, c)) = (omega arith, omega arith)
    go (inr (a, b, c, d)) = (omega arith, omega arith)

once : (t p k q l : ℕ) → Placed t p k → Placed t q l → (p ≡ q) × (k ≡ l)
once t p k q l v w = go v.by_tuple w.by_tuple
  where
    go : Where t p k → Where t q l → (p ≡ q) × (k ≡ l)
    go (inl (a, b, c)) (inl (x, y, z)) = (omega arith, omega arith)
    go (inl (a, b, c)) (inr (x, y, z, w)) = absurd (omega arith)
    go (inr (a, b, c, d)) (inl (x, y, z)) = absurd (omega arith)
    go (inr (a, b, c, d)) (inr (x, y, z, w)) = (omega arith, omega arith)

timed_fits : AllFit timed
timed_fits zero = record {
  members = members_fit;
  stands = λ t p k s. within t p k (placed t p k s.item);
  once = λ t p k q l s r. once t p k q l (placed t p k s.item) (placed t q l r.item);
}
timed_fits (suc b) = record {
  members = λ j p h. absurd (let a = h.at in cc);
  stands = λ t p k s. absurd (let a = s.item in cc);
  once = λ t p k q l s r. absurd (let a = s.item in cc);
}

in_order : (x y : ℕ) → Conflict (code_at timed 0).tuples x y → IsOrdered (pace_of timed (code_at timed 0)) timed_line x y
in_order zero zero c = absurd (let l = c.before in omega arith)
in_order zero (suc zero) c = absurd (both_ways true (sym c.shared) refl)
in_order zero (suc (suc zero)) c = absurd (both_ways true (sym c.shared) refl)
in_order zero (suc (suc (suc zero))) c = inr (since.Start, tt, record { latest = 6; earliest = 7; finish = refl; start = refl; order = omega arith })
in_order zero (suc (suc (suc (suc y)))) c = absurd (both_ways true (sym c.shared) refl)
in_order (suc zero) zero c = absurd (let l = c.before in omega arith)
in_order (suc zero) (suc zero) c = absurd (let l = c.before in omega arith)
in_order (suc zero) (suc (suc zero)) c = inl (inl (record { p = 1; kg = 1; ki = 2; g_at = record { item = refl }; i_at = record { item = refl }; first = omega arith }))
in_order (suc zero) (suc (suc (suc zero))) c = absurd (both_ways true (sym c.shared) refl)
in_order (suc zero) (suc (suc (suc (suc y)))) c = absurd (both_ways true (sym c.shared) refl)
in_order (suc (suc zero)) zero c = absurd (let l = c.before in omega arith)
in_order (suc (suc zero)) (suc zero) c = absurd (let l = c.before in omega arith)
in_order (suc (suc zero)) (suc (suc zero)) c = absurd (let l = c.before in omega arith)
in_order (suc (suc zero)) (suc (suc (suc zero))) c = absurd (both_ways true (sym c.shared) refl)
in_order (suc (suc zero)) (suc (suc (suc (suc y)))) c = absurd (both_ways true (sym c.shared) refl)
in_order (suc (suc (suc zero))) zero c = absurd (let l = c.before in omega arith)
in_order (suc (suc (suc zero))) (suc zero) c = absurd (let l = c.before in omega arith)
in_order (suc (suc (suc zero))) (suc (suc zero)) c = absurd (let l = c.before in omega arith)
in_order (suc (suc (suc zero))) (suc (suc (suc zero))) c = absurd (let l = c.before in omega arith)
in_order (suc (suc (suc zero))) (suc (suc (suc (suc y)))) c = absurd (both_ways true (sym c.shared) refl)
in_order (suc (suc (suc (suc x)))) y c = absurd (both_ways true (sym c.shared) refl)

pub timed_ordered : ConflictsOrdered timed
timed_ordered zero x y c = in_order x y c
timed_ordered (suc b) x y c = absurd (both_ways true (sym c.shared) refl)

stands : (t : ℕ) → t < 4 → (p k : ℕ) × StandsAt timed_line t p k
stands zero lt = (0, 1, record { item = refl })
stands (suc zero) lt = (1, 1, record { item = refl })
stands (suc (suc zero)) lt = (1, 2, record { item = refl })
stands (suc (suc (suc zero))) lt = (1, 3, record { item = refl })
stands (suc (suc (suc (suc t)))) lt = absurd (omega arith)

x_is : IsVariableOf worked_names 0
x_is = record { name = 120 ∷ []; initial = pos 0; here = refl }

tuple_sound : (i : ℕ) (t : Tuple) → slice_get (code_at timed 0).tuples i ≡ Some t → IsTupleSound worked_names (code_at timed 0).tuples i t
tuple_sound zero t e = subst (IsTupleSound worked_names (code_at timed 0).tuples 0) (let x : Load 0 ≡ t = cc in x) (record { each = (x_is, tt) })
tuple_sound (suc zero) t e = subst (IsTupleSound worked_names (code_at timed 0).tuples 1) (let x : Const (pos 2) ≡ t = cc in x) (record { each = tt })
tuple_sound (suc (suc zero)) t e = subst (IsTupleSound worked_names (code_at timed 0).tuples 2) (let x : Two Div 1 1 ≡ t = cc in x) (record { each = ((omega arith, (Const (pos 2), refl, refl)), ((omega arith, (Const (pos 2), refl, refl)), tt)) })
tuple_sound (suc (suc (suc zero))) t e = subst (IsTupleSound worked_names (code_at timed 0).tuples 3) (let x : One Neg 0 ≡ t = cc in x) (record { each = ((omega arith, (Load 0, refl, refl)), tt) })
tuple_sound (suc (suc (suc (suc i)))) t e = absurd (cc)

none_empty : (j mask : ℕ) → slice_get (masks timed_line) j ≡ Some mask → (p : ℕ) × (has_bit mask p ≡ true)
none_empty zero mask at = let e : 3 ≡ mask = cc in (0, ap (λ n. has_bit n 0) (sym e))
none_empty (suc j) mask at = absurd (cc)

pub timed_sound : IsSound timed
timed_sound = record { some = omega arith; one_each = refl; each = each }
  where
    each : (b : ℕ) → b < 1 → IsCodeSound timed (code_at timed b)
    each zero lt = record {
      block = record { few = (let x : 4 ≤ 128 = omega arith in x); each = tuple_sound; next = record { leads = tt; asks = tt } };
      fit = timed_fits 0;
      whole = stands;
      few_masks = (let x : 1 ≤ 128 = omega arith in x);
      none_empty = none_empty;
    }
    each (suc b) lt = absurd (omega arith)

pub timed_times : HasTimes timed
timed_times = worked_times

pub timed_determinate : IsDeterminate timed
timed_determinate = sound_determinate timed timed_sound timed_times timed_ordered

-- no barrier stands between, so by processor and by barrier they are not in order
pub timed_not_synced : IsOrderedBySync timed_line 0 3 → ⊥
timed_not_synced (inl o) = go (placed 0 o.p o.kg o.g_at.item).by_tuple (placed 3 o.p o.ki o.i_at.item).by_tuple
  where
    go : Where 0 o.p o.kg → Where 3 o.p o.ki → ⊥
    go (inl (a, b, c)) (inl (x, y, z)) = omega arith
    go (inl (a, b, c)) (inr (x, y, z, w)) = omega arith
    go (inr (a, b, c, d)) w = omega arith
timed_not_synced (inr o) = first o.a o.p o.kg o.first o.after_g (placed 0 o.p o.kg o.g_at.item).by_tuple
  where
    first : (j p k : ℕ) → HasMember timed_line j p → k < before p j timed_line → Where 0 p k → ⊥
    first zero p k h lt w = absurd (let e : before p 0 timed_line ≡ 0 = refl in omega arith)
    first (suc j) p k h lt w = absurd (let a = h.at in cc)

closest_within : IsTiming closest
closest_within p k interval le = go (nat_eq p 0) refl
  where
    go : (v : Bool) → nat_eq p 0 ≡ v → IsWithin interval (if v then interval.most else interval.least)
    go true e = record { low = le; high = le_refl _ }
    go false e = record { low = le_refl _; high = le }

pub closest_is_run : IsRun timed worked_memory (reverse closest_run)
closest_is_run = runs_on static_choice timed (static_is_lawful timed) worked_memory (reverse closest_run) (IsMemoryOf-initial timed.names) (canonical_runs static_choice closest timed timed_fits worked_times closest_within worked_memory (canonical static_choice closest timed worked_memory 12) (canonical_begins static_choice closest timed worked_memory 12))
