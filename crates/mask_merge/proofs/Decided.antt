-- Of a line it is decided which edit is the next turn's, or that there is none.
use Rattle.std.proofs.Common.{◌≡◌, ℕ, zero, suc, ◌<◌, ◌≤◌, List, [], ◌∷◌, length, slice_index_or, refl, sym, ◌∙◌, arith, ◌⊎◌, inl, inr, subst, true≢false, Contains}
use Rattle.std.proofs.lemmas.Bool.{cases_lt, cases_Bool}
use Rattle.bm_base.specs.Mask.{meets}
use Rattle.line_model.specs.declared.line.Item.{Item}
use Rattle.line_model.specs.Streams.{masks}
use Rattle.line_model.specs.Reductions.{mask_at}
use Rattle.time_interval.specs.declared.edit.Edit.{Edit}
use Rattle.time_interval.specs.declared.edit.Edit.TheVariants.{Remove, Merge}
use Rattle.time_interval.specs.Bounds.{Pace}
use Rattle.time_interval.specs.Edits.{edited, IsEdit}
use Rattle.time_interval.specs.Lines.{IsLine, tuples}
use Rattle.time_interval.specs.Ordered.{IsOrdered, AllOrdered}
use Rattle.time_interval.proofs.EditFacts.{edited_line}
use Rattle.time_interval.proofs.Once.{any_of_contains}
use Rattle.time_interval.proofs.Decided.{decided}
use Rattle.mask_merge.specs.Reduced.{IsAdmissible, NoneAdmissible, IsFirst, IsTurn, IsIrreducible}
use Rattle.mask_merge.specs.Reduced.IsTurn.{removal, merge}
use Rattle.mask_merge.proofs.Edited.{edited_tuples}

abbrev Decision : Type 0 → Type 0
Decision A = A ⊎ (¬ A)

-- the first number below n with a property, or none has it
abbrev First : (ℕ → Type 0) → ℕ → Type 0
First P n = ((j : ℕ) × (j < n) × P j × ((k : ℕ) → k < j → ¬ P k)) ⊎ ((k : ℕ) → k < n → ¬ P k)

first : (P : ℕ → Type 0) → ((k : ℕ) → Decision (P k)) → (n : ℕ) → First P n
first P d zero = inr (λ k l. absurd (omega arith))
first P d (suc n) = elim (first P d n) [
  | inl (j, l, h, f) ↦ inl (j, omega arith, h, f)
  | inr none ↦ elim (d n) [
    | inl h ↦ inl (n, omega arith, h, none)
    | inr not ↦ inr (λ k l. at k (cases_lt k n) l none not)
  ]
]
  where
    at : (k : ℕ) → (k < n) ⊎ (n ≤ k) → k < suc n → ((k : ℕ) → k < n → ¬ P k) → ¬ P n → ¬ P k
    at k (inl l) _ none not = none k l
    at k (inr l) m none not = let e : n ≡ k = omega arith in subst (λ x. ¬ P x) e not

module _ (pace : Pace) (producers : List (List ℕ)) (line : List Item) (count : ℕ) (is : IsLine count pace.processors line) (stand : (i : ℕ) → i < length producers → Contains (tuples line) i) where
  pair : (g i : ℕ) → i < length producers → IsOrdered pace line g i ⊎ (¬ IsOrdered pace line g i)
  pair g i l = decided pace line count is.items is.once g i (any_of_contains (tuples line) i (stand i l))

  row : (i : ℕ) → i < length producers → (us : List ℕ) → ((g : ℕ) → Contains us g → IsOrdered pace line g i) ⊎ ((g : ℕ) × Contains us g × (¬ IsOrdered pace line g i))
  row i l [] = inl (λ g c. absurd (let k : c.0 < 0 = c.1 in omega arith))
  row i l (u ∷ us) = elim (pair u i l) [
    | inl o ↦ elim (row i l us) [ inl all ↦ inl (λ g c. at o all g c) | inr (g, c, n) ↦ inr (g, (suc c.0, (let k : c.0 < length us = c.1 in omega arith), c.2), n) ]
    | inr n ↦ inr (u, (0, omega arith, refl), n)
  ]
    where
      at : IsOrdered pace line u i → ((g : ℕ) → Contains us g → IsOrdered pace line g i) → (g : ℕ) → Contains (u ∷ us) g → IsOrdered pace line g i
      at o all g (zero, k, e) = subst (λ x. IsOrdered pace line x i) e o
      at o all g (suc j, k, e) = all g (j, omega arith, e)

  rows : (n : ℕ) → n ≤ length producers → ((i g : ℕ) → i < n → Contains (slice_index_or producers i []) g → IsOrdered pace line g i) ⊎ ((i : ℕ) × (g : ℕ) × (i < length producers) × Contains (slice_index_or producers i []) g × (¬ IsOrdered pace line g i))
  rows zero m = inl (λ i g l c. absurd (omega arith))
  rows (suc n) m = elim (rows n (omega arith)) [
    | inr x ↦ inr x
    | inl all ↦ elim (row n (omega arith) (slice_index_or producers n [])) [ inl here ↦ inl (λ i g l c. at all here i g (cases_lt i n) l c) | inr (g, c, u) ↦ inr (n, g, omega arith, c, u) ]
  ]
    where
      at : ((i g : ℕ) → i < n → Contains (slice_index_or producers i []) g → IsOrdered pace line g i) → ((g : ℕ) → Contains (slice_index_or producers n []) g → IsOrdered pace line g n) → (i g : ℕ) → (i < n) ⊎ (n ≤ i) → i < suc n → Contains (slice_index_or producers i []) g → IsOrdered pace line g i
      at all here i g (inl l) _ c = all i g l c
      at all here i g (inr l) k c = let e : n ≡ i = omega arith in subst (λ x. Contains (slice_index_or producers x []) g → IsOrdered pace line g x) e (here g) c

  -- whether all pairs are ordered
  pub all_or_not : AllOrdered pace producers line ⊎ (¬ AllOrdered pace producers line)
  all_or_not = elim (rows (length producers) (omega arith)) [ inl all ↦ inl all | inr (i, g, l, c, u) ↦ inr (λ all. u (all i g l c)) ]

edit_or_not : (line : List Item) (edit : Edit) → IsEdit line edit ⊎ (¬ IsEdit line edit)
edit_or_not line (Remove j) = elim (cases_lt j (length (masks line))) [ inl l ↦ inl l | inr l ↦ inr (λ h. omega arith) ]
edit_or_not line (Merge j) = elim (cases_lt (suc j) (length (masks line))) [
  | inl l ↦ elim (cases_Bool (meets (mask_at line j) (mask_at line (suc j)))) [ inl t ↦ inr (λ h. true≢false (sym t ∙ h.1)) | inr f ↦ inl (l, f) ]
  | inr l ↦ inr (λ h. let k : suc j < length (masks line) = h.0 in omega arith)
]

module _ (pace : Pace) (producers : List (List ℕ)) (line : List Item) (count : ℕ) (is : IsLine count pace.processors line) (stand : (i : ℕ) → i < length producers → Contains (tuples line) i) where
  admissible_or_not : (edit : Edit) → IsAdmissible pace producers line edit ⊎ (¬ IsAdmissible pace producers line edit)
  admissible_or_not edit = elim (edit_or_not line edit) [
    | inr not ↦ inr (λ a. not a.0)
    | inl e ↦ elim (all_or_not pace producers (edited edit line) count (edited_line count pace.processors line edit e is) (λ i l. subst (λ us. Contains us i) (sym (edited_tuples edit line)) (stand i l))) [ inl all ↦ inl (e, all) | inr not ↦ inr (λ a. not a.1) ]
  ]

  first_admissible : (kind : ℕ → Edit) → ((k : ℕ) → IsEdit line (kind k) → k < length (masks line)) → ((j : ℕ) × IsFirst pace producers line kind j) ⊎ NoneAdmissible pace producers line kind
  first_admissible kind within = elim (first (λ k. IsAdmissible pace producers line (kind k)) (λ k. admissible_or_not (kind k)) (length (masks line))) [
    | inl (j, l, a, f) ↦ inl (j, record { admissible = a; earlier = f })
    | inr none ↦ inr (λ k a. none k (within k a.0) a)
  ]

  -- the edit of the next turn, or none is left
  pub turn_or_none : ((edit : Edit) × IsTurn pace producers line edit) ⊎ IsIrreducible pace producers line
  turn_or_none = elim (first_admissible Remove (λ k e. e)) [
    | inl (j, f) ↦ inl (Remove j, removal j f)
    | inr none ↦ elim (first_admissible Merge (λ k e. let l : suc k < length (masks line) = e.0 in omega arith)) [
      | inl (j, f) ↦ inl (Merge j, merge j none f)
      | inr no_merge ↦ inr (each none no_merge)
    ]
  ]
    where
      each : NoneAdmissible pace producers line Remove → NoneAdmissible pace producers line Merge → (edit : Edit) → ¬ IsAdmissible pace producers line edit
      each none no_merge (Remove j) = none j
      each none no_merge (Merge j) = no_merge j
