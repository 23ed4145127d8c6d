-- The ranges that the types of the code give.
use Rattle.std.specs.Prelude.{◌≤◌}
use Rattle.std.specs.Int.{w64}
use Rattle.std.specs.Int.RustNames.{FitsSigned}
use Rattle.tuple_ir.specs.declared.tuple.Tuple.{Tuple}
use Rattle.tuple_ir.specs.declared.tuple.Tuple.TheVariants.{Const, Load, Store, LoadEl, StoreEl, One, Two, Print}

-- a value is a word, a name has 16 bits, a cell 8
abbrev pub TupleFits : Tuple → Type 0
TupleFits (Const v) = FitsSigned w64 v
TupleFits (Load x) = x ≤ 65535
TupleFits (Store x v) = (x ≤ 65535) × (v ≤ 255)
TupleFits (LoadEl x i) = (x ≤ 65535) × (i ≤ 255)
TupleFits (StoreEl x i v) = (x ≤ 65535) × (i ≤ 255) × (v ≤ 255)
TupleFits (One op a) = a ≤ 255
TupleFits (Two op a b) = (a ≤ 255) × (b ≤ 255)
TupleFits (Print v) = v ≤ 255
