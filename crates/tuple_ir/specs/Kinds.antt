-- Kinds of tuples.
use Rattle.std.specs.Prelude.{Bool, true, false}
use Rattle.bm_base.specs.declared.word.Bin.{Bin}
use Rattle.bm_base.specs.declared.word.Bin.TheVariants.{Mul, Div, Rem}
use Rattle.bm_base.specs.declared.spec.Class.{Class}
use Rattle.bm_base.specs.declared.spec.Class.TheVariants
use Rattle.tuple_ir.specs.declared.tuple.Tuple.{Tuple}
use Rattle.tuple_ir.specs.declared.tuple.Tuple.TheVariants.{Const, Load, Store, LoadEl, StoreEl, One, Two, Print}

-- the class of a binary operator
abbrev pub class_of_binary : Bin → Class
class_of_binary Mul = TheVariants.Mul
class_of_binary Div = TheVariants.Div
class_of_binary Rem = TheVariants.Div
class_of_binary _ = TheVariants.Alu

-- the class of a tuple, by which the machine knows its times
abbrev pub class_of : Tuple → Class
class_of (Const v) = TheVariants.Const
class_of (Load x) = TheVariants.Load
class_of (Store x v) = TheVariants.Store
class_of (LoadEl x i) = TheVariants.LoadEl
class_of (StoreEl x i v) = TheVariants.StoreEl
class_of (One op a) = TheVariants.Alu
class_of (Two op a b) = class_of_binary op
class_of (Print v) = TheVariants.Print

-- the tuple gives a value in its cell
abbrev pub has_value : Tuple → Bool
has_value (Store x v) = false
has_value (StoreEl x i v) = false
has_value (Print v) = false
has_value _ = true
