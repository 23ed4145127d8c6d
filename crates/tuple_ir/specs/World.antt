-- Cells, memory and output, and what a tuple reads and writes.
use Rattle.std.specs.Prelude.{ℕ, zero, suc, List, [], ◌∷◌, ◌++◌, map, Option, Some, None, slice_get, slice_set, get_or, replicate, ℤ, pos}
use Rattle.bm_base.specs.declared.limits.TheConstants.{MOST_TUPLES}
use Rattle.bm_base.specs.Word.{unary_value, binary_value}
use Rattle.bm_base.specs.Memory.{Content, variable, element, set_variable, set_element}
use Rattle.tuple_ir.specs.declared.tuple.Tuple.{Tuple}
use Rattle.tuple_ir.specs.declared.tuple.Tuple.TheVariants.{Const, Load, Store, LoadEl, StoreEl, One, Two, Print}
use Rattle.tuple_ir.specs.OperandList.{cells_of}

-- what tuples work on: the cells of a block, the memory of the names, and the words printed
pub record World : Type 0 where
  pub cells : List ℤ
  pub memory : List Content
  pub output : List ℤ

-- before anything has run: 128 cells of 0, and nothing printed
abbrev pub at_first : List Content → World
at_first memory = record { cells = replicate MOST_TUPLES (pos 0); memory = memory; output = [] }

abbrev pub cell : World → ℕ → ℤ
cell w c = get_or w.cells c (pos 0)

-- what a tuple reads: the variable or the element of a load, else its cells in the order of its text
abbrev pub reads : Tuple → World → List ℤ
reads (Load x) w = variable w.memory x ∷ []
reads (LoadEl x i) w = element w.memory x (cell w i) ∷ []
reads t w = map (cell w) (cells_of t)

-- the value that a tuple gives, writes or prints, by the words that it read; none where these are too few
abbrev pub value_of : Tuple → List ℤ → Option ℤ
value_of (Const v) rs = Some v
value_of (Load x) (r ∷ rs) = Some r
value_of (Store x v) (r ∷ rs) = Some r
value_of (LoadEl x i) (r ∷ rs) = Some r
value_of (StoreEl x i v) (k ∷ r ∷ rs) = Some r
value_of (One op a) (r ∷ rs) = Some (unary_value op r)
value_of (Two op a b) (r ∷ q ∷ rs) = Some (binary_value op r q)
value_of (Print v) (r ∷ rs) = Some r
value_of t rs = None

-- the world after cell i has taken a value
abbrev pub with_cell : World → ℕ → ℤ → World
with_cell w i v = record w { cells = slice_set w.cells i v }

-- the world after tuple number i has put this value where it belongs: into its variable, into the element at the index that it read
-- first, to the end of the output, or into its cell
abbrev pub put : ℕ → Tuple → List ℤ → ℤ → World → World
put i (Store x v) rs r w = record w { memory = set_variable w.memory x r }
put i (StoreEl x e v) rs r w = record w { memory = set_element w.memory x (get_or rs 0 (pos 0)) r }
put i (Print v) rs r w = record w { output = w.output ++ r ∷ [] }
put i t rs r w = with_cell w i r

-- what tuple number i writes, by what it read
abbrev pub write : ℕ → Tuple → List ℤ → World → World
write i t rs w = elim (value_of t rs) [ Some r ↦ put i t rs r w | None ↦ w ]

-- the tuple of number i, where there is one
abbrev pub do_tuple : ℕ → Option Tuple → World → World
do_tuple i None w = w
do_tuple i (Some t) w = write i t (reads t w) w

-- the first n tuples of a block, in number order
abbrev pub serial : List Tuple → World → ℕ → World
serial ts w zero = w
serial ts w (suc n) = do_tuple n (slice_get ts n) (serial ts w n)
