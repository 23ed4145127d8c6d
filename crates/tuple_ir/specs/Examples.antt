-- Small blocks, for the definitions to be computed on.
use Rattle.std.specs.Prelude.{List, [], ◌∷◌, pos}
use Rattle.bm_base.specs.declared.word.Bin.TheVariants.{Add, Lt}
use Rattle.bm_base.specs.Memory.{Content, Word}
use Rattle.tuple_ir.specs.declared.tuple.Tuple.{Tuple}
use Rattle.tuple_ir.specs.declared.tuple.Tuple.TheVariants.{Const, Load, Store, LoadEl, StoreEl, Two, Print}
use Rattle.tuple_ir.specs.declared.block.Next.TheVariants.{Halt, Goto, If}
use Rattle.tuple_ir.specs.declared.block.Block.{Block}

-- x = 2 + 3; print x;
abbrev pub sum_tuples : List Tuple
sum_tuples = Const (pos 2) ∷ Const (pos 3) ∷ Two Add 0 1 ∷ Store 0 2 ∷ Load 0 ∷ Print 4 ∷ []

abbrev pub sum_blocks : List Block
sum_blocks = record { tuples = sum_tuples; next = Halt } ∷ []

-- A[0] = 7; A[1] = 8; print A[x]; A[0] = 9; with tuple numbers: stores 2, 5 and 10, load 7
abbrev pub array_tuples : List Tuple
array_tuples = Const (pos 0) ∷ Const (pos 7) ∷ StoreEl 0 0 1 ∷ Const (pos 1) ∷ Const (pos 8) ∷ StoreEl 0 3 4 ∷ Load 1 ∷ LoadEl 0 6
    ∷ Print 7 ∷ Const (pos 9) ∷ StoreEl 0 0 9 ∷ []

-- while x < 2 { print x; x = x + 1; }: the header is block 1, the body block 2, the exit block 3
abbrev pub loop_blocks : List Block
loop_blocks = record { tuples = []; next = Goto 1 } ∷ record { tuples = Load 0 ∷ Const (pos 2) ∷ Two Lt 0 1 ∷ []; next = If 2 2 3 }
    ∷ record { tuples = Load 0 ∷ Print 0 ∷ Load 0 ∷ Const (pos 1) ∷ Two Add 2 3 ∷ Store 0 4 ∷ []; next = Goto 1 }
    ∷ record { tuples = []; next = Halt } ∷ []

-- one variable that holds 0
abbrev pub zero_memory : List Content
zero_memory = Word (pos 0) ∷ []
