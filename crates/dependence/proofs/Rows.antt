-- The lists of producers.
use Rattle.std.proofs.Common.{◌≡◌, ℕ, ◌+◌, ◌<◌, ◌≤◌, List, [], ◌∷◌, ◌++◌, length, get_or, slice_index_or, sym, ap, subst, ◌∙◌, arith, map, All, sum_by, take}
use Rattle.std.specs.List.{range_with_len}
use Rattle.std.specs.List.Sorted.{IsStrictlyIncreasing}
use Rattle.std.proofs.lemmas.List.{map-append, length-map, get_or-map}
use Rattle.std.proofs.lemmas.List.Sums.{sum_by_more}
use Rattle.std.proofs.lemmas.List.FromFn.{length-map-range_with_len, get_or-map-range_with_len, map-range_with_len_more}
use Rattle.smallvec.specs.SmallVec.{SmallVec}
use Rattle.tuple_ir.specs.declared.tuple.Tuple.{Tuple}
use Rattle.dependence.specs.Producers.{in_conflict, producers_at, producers_of, rows_of, AreRows}
use Rattle.dependence.proofs.Kept.{kept_ascend, kept_below, ascending_length}

pub rows_more : (vs ws : List (SmallVec ℕ)) (v : SmallVec ℕ) (ts : List Tuple) (b : ℕ) → ws ≡ vs ++ v ∷ [] → rows_of vs ≡ map (producers_at ts) (range_with_len 0 b) → v.items ≡ producers_at ts b → rows_of ws ≡ map (producers_at ts) (range_with_len 0 (b + 1))
rows_more vs ws v ts b pushed so_far here =
    ap rows_of pushed ∙ map-append (λ (v : SmallVec ℕ). v.items) vs (v ∷ []) ∙ ap (λ rows. rows ++ v.items ∷ []) so_far ∙ ap (λ row. map (producers_at ts) (range_with_len 0 b) ++ row ∷ []) here ∙ sym (map-range_with_len_more (producers_at ts) 0 b b (omega arith))

pub row_at : (ts : List Tuple) (b : ℕ) → b < length ts → slice_index_or (producers_of ts) b [] ≡ producers_at ts b
row_at ts b within = get_or-map-range_with_len (producers_at ts) 0 (length ts) b b [] within (omega arith)

pub as_many : (ts : List Tuple) → length (producers_of ts) ≡ length ts
as_many ts = length-map-range_with_len (producers_at ts) 0 (length ts)

pub are_rows : (ts : List Tuple) → length ts ≤ 128 → AreRows (producers_of ts)
are_rows ts few = record {
  few = omega (arith, as_many ts);
  ascending = λ i within. let P : List ℕ → Type 0 = IsStrictlyIncreasing in subst P (sym (row_at ts i (omega (arith, as_many ts)))) (kept_ascend (in_conflict ts i) i);
  below = λ i within. let P : List ℕ → Type 0 = All (λ a. a < i) in subst P (sym (row_at ts i (omega (arith, as_many ts)))) (kept_below (in_conflict ts i) i);
}

-- a list of producers is no longer than 128
pub short : (rows : List (List ℕ)) (i : ℕ) → AreRows rows → i < length rows → length (slice_index_or rows i []) ≤ 128
short rows i good within = omega (arith, good.few, ascending_length (slice_index_or rows i []) i (good.ascending i within) (good.below i within))

-- the vector at a place holds the list at that place
pub row_is : (vs : List (SmallVec ℕ)) (i : ℕ) (v : SmallVec ℕ) → i < length vs → v ≡ get_or vs i v → slice_index_or (rows_of vs) i [] ≡ v.items
row_is vs i v within at = get_or-map (λ (w : SmallVec ℕ). w.items) vs i v [] within ∙ ap (λ (w : SmallVec ℕ). w.items) (sym at)

-- the facts of a row that a call hands out
pub row_ascends : (vs : List (SmallVec ℕ)) (rows : List (List ℕ)) (i : ℕ) (v : SmallVec ℕ) (row : List ℕ) → rows_of vs ≡ rows → AreRows (rows_of vs) → i < length rows → v ≡ get_or vs i v → row ≡ v.items → IsStrictlyIncreasing row
row_ascends vs rows i v row view good within at given =
    let many : length (rows_of vs) ≡ length rows = ap length view in
    let P : List ℕ → Type 0 = IsStrictlyIncreasing in
    subst P (row_is vs i v (omega (arith, many, length-map vs (λ (w : SmallVec ℕ). w.items))) at ∙ sym given) (good.ascending i (omega (arith, many)))

pub row_below : (vs : List (SmallVec ℕ)) (rows : List (List ℕ)) (i : ℕ) (v : SmallVec ℕ) (row : List ℕ) → rows_of vs ≡ rows → AreRows (rows_of vs) → i < length rows → v ≡ get_or vs i v → row ≡ v.items → All (λ a. a < i) row
row_below vs rows i v row view good within at given =
    let many : length (rows_of vs) ≡ length rows = ap length view in
    let P : List ℕ → Type 0 = All (λ a. a < i) in
    subst P (row_is vs i v (omega (arith, many, length-map vs (λ (w : SmallVec ℕ). w.items))) at ∙ sym given) (good.below i (omega (arith, many)))

-- one row more of the sum of their lengths
pub record Adds (rows : List (List ℕ)) (i len : ℕ) : Type 0 where
  pub sum_is : sum_by length (take (i + 1) rows) ≡ sum_by length (take i rows) + len
  pub small : len ≤ 128
  pub place : i < 128

pub adds : (vs : List (SmallVec ℕ)) (rows : List (List ℕ)) (i len : ℕ) (v : SmallVec ℕ) → rows_of vs ≡ rows → AreRows (rows_of vs) → i < length vs → v ≡ get_or vs i v → len ≡ length v.items → Adds rows i len
adds vs rows i len v view good within at given =
    let many : length (rows_of vs) ≡ length vs = length-map vs (λ (w : SmallVec ℕ). w.items) in
    let P : List (List ℕ) → Type 0 = λ rs. Adds rs i len in
    let len_is : length (slice_index_or (rows_of vs) i []) ≡ len = ap length (row_is vs i v within at) ∙ sym given in
    let inside : i < length (rows_of vs) = omega (arith, many) in
    subst P view (record {
      sum_is = sum_by_more length (rows_of vs) i [] inside ∙ ap (λ n. sum_by length (take i (rows_of vs)) + n) len_is;
      small = omega (arith, len_is, short (rows_of vs) i good inside);
      place = omega (arith, good.few, many);
    })
