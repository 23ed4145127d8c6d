-- Small blocks, for the producers to be computed on.
use Rattle.std.specs.Prelude.{ℕ, List, [], ◌∷◌}
use Rattle.bm_base.specs.declared.word.Bin.TheVariants.{Add}
use Rattle.tuple_ir.specs.declared.tuple.Tuple.{Tuple}
use Rattle.tuple_ir.specs.declared.tuple.Tuple.TheVariants.{Load, Store, Two, Print}

-- c = a + b; print c;
abbrev pub added_tuples : List Tuple
added_tuples = Load 0 ∷ Load 1 ∷ Two Add 0 1 ∷ Store 2 2 ∷ Load 2 ∷ Print 4 ∷ []

abbrev pub added_producers : List (List ℕ)
added_producers = [] ∷ [] ∷ (0 ∷ 1 ∷ []) ∷ (2 ∷ []) ∷ (3 ∷ []) ∷ (4 ∷ []) ∷ []
