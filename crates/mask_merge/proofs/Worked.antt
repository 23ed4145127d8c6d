-- In the line `divided` each conflicting pair is ordered.
use Rattle.std.proofs.Common.{◌≡◌, ℕ, zero, suc, ◌+◌, ◌<◌, true, List, Some, slice_get, [], ◌∷◌, length, slice_index_or, refl, arith, inl, inr, subst, Contains}
use Rattle.line_model.specs.declared.line.Item.{Item}
use Rattle.bm_base.specs.Mask.{has_bit}
use Rattle.line_model.specs.Streams.{masks, before}
use Rattle.line_model.specs.Order.{StandsAt}
use Rattle.line_model.specs.Order.Chain.{one}
use Rattle.dependence.specs.Producers.{producers_of}
use Rattle.time_interval.specs.declared.reference.Reference.TheVariants as since
use Rattle.time_interval.specs.Bounds.{Pace, pace_on}
use Rattle.time_interval.specs.Examples.{divided}
use Rattle.time_interval.specs.Lines.{tuples}
use Rattle.time_interval.specs.Ordered.{IsOrdered, AllOrdered}
use Rattle.mask_merge.specs.Examples.{divided_tuples, divided_machine}

-- each producer of tuple i, one after the other; and each tuple from i on
abbrev RowOrdered : Pace → List Item → ℕ → List ℕ → Type 0
RowOrdered pace line i [] = Unit {0}
RowOrdered pace line i (g ∷ gs) = IsOrdered pace line g i × RowOrdered pace line i gs

abbrev RowsOrdered : Pace → List Item → ℕ → List (List ℕ) → Type 0
RowsOrdered pace line i [] = Unit {0}
RowsOrdered pace line i (row ∷ rows) = RowOrdered pace line i row × RowsOrdered pace line (suc i) rows

row_of : (pace : Pace) (line : List Item) (i : ℕ) (row : List ℕ) → RowOrdered pace line i row → (g : ℕ) → Contains row g → IsOrdered pace line g i
row_of pace line i [] h g (k, l, e) = absurd (omega arith)
row_of pace line i (x ∷ row) h g (zero, l, e) = subst (λ y. IsOrdered pace line y i) e h.0
row_of pace line i (x ∷ row) h g (suc k, l, e) = row_of pace line i row h.1 g (k, omega arith, e)

rows_of : (pace : Pace) (line : List Item) (i : ℕ) (rows : List (List ℕ)) → RowsOrdered pace line i rows → (k t g : ℕ) → i + k ≡ t → k < length rows → Contains (slice_index_or rows k []) g → IsOrdered pace line g t
rows_of pace line i [] h k t g s l c = absurd (omega arith)
rows_of pace line i (row ∷ rows) h zero t g s l c = let e : i ≡ t = omega arith in subst (IsOrdered pace line g) e (row_of pace line i row h.0 g c)
rows_of pace line i (row ∷ rows) h (suc k) t g s l c = rows_of pace line (suc i) rows h.1 k t g (omega arith) (omega arith) c

abbrev the_pace : Pace
the_pace = pace_on divided_machine divided_tuples

by_processor : (g i p kg ki : ℕ) → StandsAt divided g p kg → StandsAt divided i p ki → kg < ki → IsOrdered the_pace divided g i
by_processor g i p kg ki x y l = inl (inl (record { p = p; kg = kg; ki = ki; g_at = x; i_at = y; first = l }))

by_barrier : (g i p kg q ki j mask : ℕ) → StandsAt divided g p kg → StandsAt divided i q ki → slice_get (masks divided) j ≡ Some mask → has_bit mask p ≡ true → has_bit mask q ≡ true → kg < before p j divided → before q j divided < ki → IsOrdered the_pace divided g i
by_barrier g i p kg q ki j mask x y at hp hq l m = inl (inr (record { p = p; kg = kg; q = q; ki = ki; a = j; b = j; g_at = x; i_at = y; first = record { mask = mask; at = at; has = hp }; after_g = l; chain = one; last = record { mask = mask; at = at; has = hq }; before_i = m }))

-- the producers, and why each is ordered before its tuple: 6 before 8 by time
rows : RowsOrdered the_pace divided 0 ([] ∷ [] ∷ [] ∷ (2 ∷ []) ∷ [] ∷ (4 ∷ []) ∷ (0 ∷ 1 ∷ []) ∷ (3 ∷ []) ∷ (6 ∷ []) ∷ [])
rows = (tt, (tt, (tt, ((by_processor 2 3 2 0 1 (record { item = refl }) (record { item = refl }) (omega arith), tt), (tt, ((by_processor 4 5 4 0 1 (record { item = refl }) (record { item = refl }) (omega arith), tt), ((by_processor 0 6 0 0 2 (record { item = refl }) (record { item = refl }) (omega arith), (by_barrier 1 6 1 0 0 2 0 3 (record { item = refl }) (record { item = refl }) refl refl refl (omega arith) (omega arith), tt)), ((by_barrier 3 7 2 1 3 1 1 12 (record { item = refl }) (record { item = refl }) refl refl refl (omega arith) (omega arith), tt), ((inr (since.Start, tt, record { latest = 5; earliest = 5; finish = refl; start = refl; order = omega arith }), tt), tt)))))))))

pub divided_ordered : AllOrdered the_pace (producers_of divided_tuples) divided
divided_ordered = λ i g l c. rows_of the_pace divided 0 (producers_of divided_tuples) rows i i g (omega arith) l c

pub divided_stands : (t : ℕ) → t < 9 → Contains (tuples divided) t
divided_stands zero l = (0, omega arith, refl)
divided_stands (suc zero) l = (1, omega arith, refl)
divided_stands (suc (suc zero)) l = (2, omega arith, refl)
divided_stands (suc (suc (suc zero))) l = (3, omega arith, refl)
divided_stands (suc (suc (suc (suc zero)))) l = (4, omega arith, refl)
divided_stands (suc (suc (suc (suc (suc zero))))) l = (5, omega arith, refl)
divided_stands (suc (suc (suc (suc (suc (suc zero)))))) l = (6, omega arith, refl)
divided_stands (suc (suc (suc (suc (suc (suc (suc zero))))))) l = (7, omega arith, refl)
divided_stands (suc (suc (suc (suc (suc (suc (suc (suc zero)))))))) l = (8, omega arith, refl)
divided_stands (suc (suc (suc (suc (suc (suc (suc (suc (suc t))))))))) l = absurd (omega arith)
