-- Why the conflicting pairs of a block are in order.
use Rattle.std.specs.Prelude.{ℕ, zero, suc, Bool, true, false, List, [], ◌∷◌, ◌++◌, map, length}
use Rattle.tuple_ir.specs.declared.tuple.Tuple.{Tuple}
use Rattle.line_model.specs.declared.line.Item.{Item}
use Rattle.dependence.specs.Producers.{producers_at}
use Rattle.time_interval.specs.declared.reference.Reason.{Reason}
use Rattle.time_interval.specs.declared.reference.Reason.TheVariants.{SameProcessor, ByBarrier, ByTime}
use Rattle.time_interval.specs.Bounds.{Pace}
use Rattle.time_interval.specs.Ordered.{IsReason}

-- a tuple and an earlier one that conflicts with it
pub record Pair : Type 0 where
  pub earlier : ℕ
  pub later : ℕ

abbrev pub pair : ℕ → ℕ → Pair
pair b a = record { earlier = a; later = b }

-- the conflicting pairs whose later tuple is below n: by the later tuple, then by the earlier one
abbrev pub pairs_below : List Tuple → ℕ → List Pair
pairs_below ts zero = []
pairs_below ts (suc b) = pairs_below ts b ++ map (pair b) (producers_at ts b)

-- all conflicting pairs of a block
abbrev pub pairs_of : List Tuple → List Pair
pairs_of ts = pairs_below ts (length ts)

-- for each pair the reason why it is in order in a line, the first that holds
abbrev pub AreReasons : Pace → List Item → List Pair → List Reason → Type 0
AreReasons pace line [] [] = Unit {0}
AreReasons pace line (x ∷ pairs) (reason ∷ reasons) = IsReason pace line x.earlier x.later reason × AreReasons pace line pairs reasons
AreReasons pace line [] (reason ∷ reasons) = ⊥
AreReasons pace line (x ∷ pairs) [] = ⊥

abbrev pub is_processor : Reason → Bool
is_processor SameProcessor = true
is_processor ByBarrier = false
is_processor (ByTime r) = false

abbrev pub is_barrier : Reason → Bool
is_barrier SameProcessor = false
is_barrier ByBarrier = true
is_barrier (ByTime r) = false

abbrev pub is_time : Reason → Bool
is_time SameProcessor = false
is_time ByBarrier = false
is_time (ByTime r) = true
