-- The block of the line `divided` of time_interval.
use Rattle.std.specs.Prelude.{List, [], ◌∷◌, pos}
use Rattle.bm_base.specs.Spec.{standard}
use Rattle.bm_base.specs.Machine.{Machine}
use Rattle.bm_base.specs.declared.word.Bin.TheVariants.{Add, Div}
use Rattle.bm_base.specs.declared.word.Un.TheVariants.{Neg}
use Rattle.tuple_ir.specs.declared.tuple.Tuple.{Tuple}
use Rattle.tuple_ir.specs.declared.tuple.Tuple.TheVariants.{Const, Load, One, Two}

-- two loads are added while two numbers are divided; the sum and the first quotient are negated
abbrev pub divided_tuples : List Tuple
divided_tuples = Load 0 ∷ Load 1 ∷ Const (pos 6) ∷ Two Div 2 2 ∷ Const (pos 2) ∷ Two Div 4 4 ∷ Two Add 0 1 ∷ One Neg 3 ∷ One Neg 6 ∷ []

-- the default machine with five processors
abbrev pub divided_machine : Machine
divided_machine = record standard { processors = 5 }
