-- Why a block or an image is refused.
use Rattle.std.specs.Prelude.{◌≡◌, ℕ, ◌+◌, nat_lt, if◌then◌else◌, List, [], ◌∷◌, length, MatchOption, Option, Some, None}
use Rattle.bm_base.specs.Machine.{Machine}
use Rattle.tuple_ir.specs.declared.tuple.Tuple.{Tuple}
use Rattle.tuple_ir.specs.declared.block.Next.{Next}
use Rattle.tuple_ir.specs.declared.block.Next.TheVariants.{Halt, Goto, If}
use Rattle.tuple_ir.specs.declared.block.Block.{Block}
use Rattle.line_model.specs.declared.line.Item.{Item}
use Rattle.time_interval.specs.Bounds.{Pace, pace_on}
use Rattle.unit_law.specs.State.{Program}
use Rattle.stream_image.specs.declared.given.Stream.{Stream}
use Rattle.stream_image.specs.declared.fault.ImageFault.{ImageFault}
use Rattle.stream_image.specs.declared.fault.ImageFault.TheVariants.{Order, Unordered, Target}
use Rattle.stream_image.specs.declared.order.Wrong.TheVariants.{Turned, Loose}
use Rattle.stream_image.specs.Check.{first_fault}
use Rattle.stream_image.specs.Line.{items_of, line_of}
use Rattle.stream_image.specs.Order.{NoneWrong, IsFirstWrong}

-- of two tuples that conflict and stand on one processor the later one is first: the first such pair
pub record IsTurned (pace : Pace) (tuples : List Tuple) (line : List Item) (n : ℕ) (fault : ImageFault) : Type 0 where
  pub a : ℕ
  pub b : ℕ
  pub fault_is : fault ≡ Order n a b
  pub first : IsFirstWrong Turned pace tuples line a b

-- of two tuples that conflict the earlier one is not ordered before the later one: the first such pair, where none is turned
pub record IsLoose (pace : Pace) (tuples : List Tuple) (line : List Item) (n : ℕ) (fault : ImageFault) : Type 0 where
  pub a : ℕ
  pub b : ℕ
  pub fault_is : fault ≡ Unordered n a b
  pub none_turned : NoneWrong Turned pace tuples line
  pub first : IsFirstWrong Loose pace tuples line a b

-- why the conflicting pairs of block n are not in order
pub data IsOrderFault (pace : Pace) (tuples : List Tuple) (line : List Item) (n : ℕ) (fault : ImageFault) : Type 0 where
  turned : IsTurned pace tuples line n fault → IsOrderFault pace tuples line n fault
  loose : IsLoose pace tuples line n fault → IsOrderFault pace tuples line n fault

-- all conflicting pairs are in order
pub record AllInOrder (pace : Pace) (tuples : List Tuple) (line : List Item) : Type 0 where
  pub none_turned : NoneWrong Turned pace tuples line
  pub none_loose : NoneWrong Loose pace tuples line

-- Of a private function: all pairs of block n are in order in a line, or this is why they are not
abbrev pub TellsOrder : Machine → Block → List Item → ℕ → Option ImageFault → Type 0
TellsOrder machine block line n found =
    MatchOption found (AllInOrder (pace_on machine block.tuples) block.tuples line)
    (IsOrderFault (pace_on machine block.tuples) block.tuples line n)

-- why the next block of an image is refused: the first fault of its streams and masks, else of its order
abbrev pub fault_of : Program → Block → List Stream → List ℕ → Option ImageFault
fault_of m block streams masks = first_fault (length m.blocks) m.names m.machine.processors block.tuples block.next streams masks

abbrev pub line_in : Program → List Stream → List ℕ → List Item
line_in m streams masks = line_of m.machine.processors (items_of streams) masks

pub data IsRefused (m : Program) (block : Block) (streams : List Stream) (masks : List ℕ) (fault : ImageFault) : Type 0 where
  unkept : fault_of m block streams masks ≡ Some fault → IsRefused m block streams masks fault
  unordered : fault_of m block streams masks ≡ None →
      IsOrderFault (pace_on m.machine block.tuples) block.tuples (line_in m streams masks) (length m.blocks) fault →
      IsRefused m block streams masks fault

-- a block that nothing refuses
pub record IsAccepted (m : Program) (block : Block) (streams : List Stream) (masks : List ℕ) : Type 0 where
  pub kept : fault_of m block streams masks ≡ None
  pub ordered : AllInOrder (pace_on m.machine block.tuples) block.tuples (line_in m streams masks)

-- the first target of a next that is none of so many blocks
abbrev pub bad_target : ℕ → Next → Option ℕ
bad_target count Halt = None
bad_target count (Goto b) = if nat_lt b count then None else Some b
bad_target count (If c one other) = if nat_lt one count then (if nat_lt other count then None else Some other) else Some one

abbrev pub target_at : ℕ → Option ℕ → Option ImageFault → Option ImageFault
target_at b (Some t) rest = Some (Target b t)
target_at b None rest = rest

-- the first block from number b on with such a target
abbrev pub target_from : ℕ → ℕ → List Block → Option ImageFault
target_from count b [] = None
target_from count b (block ∷ blocks) = target_at b (bad_target count block.next) (target_from count (b + 1) blocks)

-- of all blocks
abbrev pub target_fault : List Block → Option ImageFault
target_fault blocks = target_from (length blocks) 0 blocks
