-- The producers of the tuples of a block.
use Rattle.std.specs.Prelude.{ℕ, ◌<◌, ◌≤◌, Bool, List, [], map, filter, length, slice_get, slice_index_or, All}
use Rattle.std.specs.List.{range_with_len}
use Rattle.std.specs.List.Sorted.{IsStrictlyIncreasing}
use Rattle.bm_base.specs.declared.limits.TheConstants.{MOST_TUPLES}
use Rattle.smallvec.specs.SmallVec.{SmallVec}
use Rattle.tuple_ir.specs.declared.tuple.Tuple.{Tuple}
use Rattle.tuple_ir.specs.Conflict.{clash}

-- whether tuple a and the later tuple b touch one thing that one of them writes
abbrev pub in_conflict : List Tuple → ℕ → ℕ → Bool
in_conflict ts b a = clash ts a (slice_get ts a) (slice_get ts b)

-- the producers of tuple b: of the numbers 0, 1 .. b - 1 those that conflict with it
abbrev pub producers_at : List Tuple → ℕ → List ℕ
producers_at ts b = filter (in_conflict ts b) (range_with_len 0 b)

-- for each tuple the list of its producers
abbrev pub producers_of : List Tuple → List (List ℕ)
producers_of ts = map (producers_at ts) (range_with_len 0 (length ts))

-- the lists that the vectors hold
abbrev pub rows_of : List (SmallVec ℕ) → List (List ℕ)
rows_of vs = map (λ v. v.items) vs

-- lists of producers: of at most 128 tuples, each ascending, each number below the tuple's
pub record AreRows (rows : List (List ℕ)) : Type 0 where
  pub few : length rows ≤ MOST_TUPLES
  pub ascending : (i : ℕ) → i < length rows → IsStrictlyIncreasing (slice_index_or rows i [])
  pub below : (i : ℕ) → i < length rows → All (λ a. a < i) (slice_index_or rows i [])
