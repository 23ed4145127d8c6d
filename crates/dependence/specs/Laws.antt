-- What the lists of producers are, in the words of conflicts, and what links are.
use Rattle.std.specs.Prelude.{◌≡◌, ℕ, ◌<◌, ◌≤◌, ◌↔◌, true, false, List, [], length, slice_index_or, Contains}
use Rattle.std.specs.List.Sorted.{IsStrictlyIncreasing}
use Rattle.tuple_ir.specs.declared.tuple.Tuple.{Tuple}
use Rattle.tuple_ir.specs.Conflict.{Conflict}
use Rattle.dependence.specs.Producers.{producers_at, producers_of}
use Rattle.dependence.specs.Links.{is_one, thing_at, link_at}

-- a is among the producers of b exactly where a and b conflict
abbrev pub ProducersConflict : Type 0
ProducersConflict = (ts : List Tuple) (a b : ℕ) → Contains (producers_at ts b) a ↔ Conflict ts a b

-- producers ascend, so none stands twice
abbrev pub ProducersAscend : Type 0
ProducersAscend = (ts : List Tuple) (b : ℕ) → IsStrictlyIncreasing (producers_at ts b)

-- there is one list for each tuple
abbrev pub EachTupleHasProducers : Type 0
EachTupleHasProducers = (ts : List Tuple) → length (producers_of ts) ≡ length ts

-- the list at a tuple's number is that of its producers
abbrev pub ProducersStandAtTheirTuple : Type 0
ProducersStandAtTheirTuple = (ts : List Tuple) (b : ℕ) → b < length ts → slice_index_or (producers_of ts) b [] ≡ producers_at ts b

-- where an earlier tuple touches what tuple b touches, so does the one that b is linked to, and none does between them
abbrev pub LinksAreGreatest : Type 0
LinksAreGreatest = (ts : List Tuple) (a b : ℕ) → a < b → is_one (thing_at ts a) (thing_at ts b) ≡ true → (a ≤ link_at ts b)
    × (link_at ts b < b) × (is_one (thing_at ts (link_at ts b)) (thing_at ts b) ≡ true)

-- where none does, the link is 255
abbrev pub LoneTuplesHaveNoLink : Type 0
LoneTuplesHaveNoLink = (ts : List Tuple) (b : ℕ) → ((a : ℕ) → a < b → is_one (thing_at ts a) (thing_at ts b) ≡ false) → link_at ts b ≡ 255
