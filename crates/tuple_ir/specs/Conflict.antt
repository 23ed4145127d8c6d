-- Which pairs of tuples of a block conflict: they must not change places in time.
use Rattle.std.specs.Prelude.{◌≡◌, ℕ, ◌<◌, Bool, true, false, ◌||◌, ◌&&◌, not, nat_eq, List, Option, Some, slice_get}
use Rattle.std.specs.Ordering.{int_eq}
use Rattle.tuple_ir.specs.declared.tuple.Tuple.{Tuple}
use Rattle.tuple_ir.specs.declared.tuple.Tuple.TheVariants.{Const, Load, Store, LoadEl, StoreEl, Print}
use Rattle.tuple_ir.specs.OperandList.{is_among, cells_of}

-- the tuple has this cell among its operands
abbrev pub uses : Tuple → ℕ → Bool
uses t c = is_among c (cells_of t)

-- both touch one variable, and one of them writes it
abbrev pub share_variable : Tuple → Tuple → Bool
share_variable (Store x v) (Store y w) = nat_eq x y
share_variable (Store x v) (Load y) = nat_eq x y
share_variable (Load x) (Store y w) = nat_eq x y
share_variable _ _ = false

-- two constants of different values
abbrev pub are_apart : Option Tuple → Option Tuple → Bool
are_apart (Some (Const v)) (Some (Const w)) = not (int_eq v w)
are_apart _ _ = false

-- both touch one array, one of them writes it, and their index cells are not two constants of different values
abbrev pub share_array : List Tuple → Tuple → Tuple → Bool
share_array ts (StoreEl x i v) (StoreEl y j w) = nat_eq x y && not (are_apart (slice_get ts i) (slice_get ts j))
share_array ts (StoreEl x i v) (LoadEl y j) = nat_eq x y && not (are_apart (slice_get ts i) (slice_get ts j))
share_array ts (LoadEl x i) (StoreEl y j w) = nat_eq x y && not (are_apart (slice_get ts i) (slice_get ts j))
share_array ts _ _ = false

-- both print
abbrev pub both_print : Tuple → Tuple → Bool
both_print (Print v) (Print w) = true
both_print _ _ = false

-- tuple a and a later tuple touch one thing that one of them writes; the tuples are given by what stands at their numbers
abbrev pub clash : List Tuple → ℕ → Option Tuple → Option Tuple → Bool
clash ts a (Some s) (Some t) = uses t a || share_variable s t || share_array ts s t || both_print s t
clash ts a _ _ = false

-- tuples a and b conflict: a is a producer of b, and b a consumer of a
pub record Conflict (ts : List Tuple) (a b : ℕ) : Type 0 where
  pub before : a < b
  pub shared : clash ts a (slice_get ts a) (slice_get ts b) ≡ true
