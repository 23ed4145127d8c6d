-- The operands of a tuple.
use Rattle.std.specs.Prelude.{ℕ, Bool, false, ◌||◌, nat_eq, List, [], ◌∷◌}
use Rattle.tuple_ir.specs.declared.tuple.Tuple.{Tuple}
use Rattle.tuple_ir.specs.declared.tuple.Tuple.TheVariants.{Const, Load, Store, LoadEl, StoreEl, One, Two, Print}

-- a cell, or a declared name that is to be a variable or an array
pub data Operand : Type 0 where
  Cell : (number : ℕ) → Operand
  Variable : (name : ℕ) → Operand
  Array : (name : ℕ) → Operand

-- the operands of a tuple, in the order of its text; the word of a constant is none
abbrev pub operands : Tuple → List Operand
operands (Const v) = []
operands (Load x) = Variable x ∷ []
operands (Store x v) = Variable x ∷ Cell v ∷ []
operands (LoadEl x i) = Array x ∷ Cell i ∷ []
operands (StoreEl x i v) = Array x ∷ Cell i ∷ Cell v ∷ []
operands (One op a) = Cell a ∷ []
operands (Two op a b) = Cell a ∷ Cell b ∷ []
operands (Print v) = Cell v ∷ []

-- the cells among operands
abbrev pub cells_in : List Operand → List ℕ
cells_in [] = []
cells_in (Cell c ∷ os) = c ∷ cells_in os
cells_in (Variable x ∷ os) = cells_in os
cells_in (Array x ∷ os) = cells_in os

-- the cells that a tuple takes, in the order of its text
abbrev pub cells_of : Tuple → List ℕ
cells_of t = cells_in (operands t)

-- whether a number is none of these, the only one, or one of more
abbrev pub is_among : ℕ → List ℕ → Bool
is_among c [] = false
is_among c (d ∷ []) = nat_eq d c
is_among c (d ∷ e ∷ ds) = nat_eq d c || is_among c (e ∷ ds)
