-- Which fault is the first, in the subject's words.
use Rattle.std.specs.Prelude.{ℕ, ◌≡◌, ◌+◌, ◌<◌, ◌≤◌, ◌^◌, ◌==◌, if◌then◌else◌, nat_lt, Bool, true, false, Some}
use Rattle.std.specs.Prelude.{List, [], ◌∷◌, ◌++◌, length, slice_get}
use Rattle.std.specs.List.{AllByRecursion}
use Rattle.bm_base.specs.Entry.{Entry}
use Rattle.tuple_ir.specs.declared.tuple.Tuple.{Tuple}
use Rattle.tuple_ir.specs.declared.block.Next.{Next}
use Rattle.line_model.specs.declared.line.StreamItem.{StreamItem}
use Rattle.line_model.specs.declared.line.StreamItem.TheVariants.{Do, Wait}
use Rattle.stream_image.specs.declared.given.Stream.{Stream}
use Rattle.stream_image.specs.declared.fault.ImageFault.{ImageFault}
use Rattle.stream_image.specs.declared.fault.ImageFault.TheVariants.{Processor, TupleTwice, TupleMissing, Operand}
use Rattle.stream_image.specs.declared.fault.ImageFault.TheVariants.{Cell, Waits, MaskEmpty, MaskBit}
use Rattle.stream_image.specs.Check.{asks, waits_of, masks_of, first_fault}
use Rattle.stream_image.specs.Keeps.{count_all, once_if, IsTrueTest, IsTrueCell, AreItems}

-- the numbers of all streams, by processor, then place
abbrev pub numbers_in : List StreamItem → List ℕ
numbers_in [] = []
numbers_in (Wait ∷ is) = numbers_in is
numbers_in (Do t ∷ is) = t ∷ numbers_in is

abbrev pub numbers : List Stream → List ℕ
numbers [] = []
numbers (s ∷ ss) = numbers_in s.items ++ numbers ss

-- how often a number stands in a list
abbrev pub count_of : ℕ → List ℕ → ℕ
count_of t [] = 0
count_of t (u ∷ us) = if u == t then count_of t us + 1 else count_of t us

-- a stream of this processor, which the machine lacks, and none before
pub record IsForeign (processors : ℕ) (streams : List Stream) (p : ℕ) : Type 0 where
  pub front : List Stream
  pub stream : Stream
  pub rest : List Stream
  pub streams_are : streams ≡ front ++ stream ∷ rest
  pub own : AllByRecursion (λ (s : Stream). s.processor < processors) front
  pub is : stream.processor ≡ p
  pub lacked : processors ≤ p

-- the first mask without a processor
pub record IsEmptyMask (masks : List ℕ) (j : ℕ) : Type 0 where
  pub at : slice_get masks j ≡ Some 0
  pub before : (i m : ℕ) → i < j → slice_get masks i ≡ Some m → m ≡ 0 → ⊥

-- the first processor whose waits are not as many as its masks
pub record IsUneven (processors : ℕ) (streams : List Stream) (masks : List ℕ) (p w m : ℕ) : Type 0 where
  pub within : p < processors
  pub waits : w ≡ waits_of p streams
  pub masks_are : m ≡ masks_of p masks
  pub uneven : w ≡ m → ⊥
  pub before : (q : ℕ) → q < p → waits_of q streams ≡ masks_of q masks

-- the least number that is a tuple and in no stream, or in a stream and no tuple
pub record IsMissing (count : ℕ) (streams : List Stream) (t : ℕ) : Type 0 where
  pub below : t < 256
  pub differs : count_all t streams ≡ once_if (nat_lt t count) → ⊥
  pub before : (u : ℕ) → u < t → count_all u streams ≡ once_if (nat_lt u count)

-- a number that stands before it, and no number before it stands twice
pub record IsTwice (streams : List Stream) (t : ℕ) : Type 0 where
  pub front : List ℕ
  pub rest : List ℕ
  pub numbers_are : numbers streams ≡ front ++ t ∷ rest
  pub again : 1 ≤ count_of t front
  pub before : (u : ℕ) → count_of u front ≤ 1

-- the first tuple with a wrong field, and the first such field
pub record IsWrongOperand (names : List Entry) (tuples : List Tuple) (i place : ℕ) : Type 0 where
  pub tuple : Tuple
  pub at : slice_get tuples i ≡ Some tuple
  pub wrong : slice_get (asks names tuples i tuple) place ≡ Some false
  pub before_place : (k : ℕ) (b : Bool) → k < place → slice_get (asks names tuples i tuple) k ≡ Some b → b ≡ true
  pub before : (j : ℕ) (t : Tuple) → j < i → slice_get tuples j ≡ Some t → AllByRecursion IsTrueTest (asks names tuples j t)

-- the first mask with a processor that the machine lacks
pub record IsForeignBit (processors : ℕ) (masks : List ℕ) (j : ℕ) : Type 0 where
  pub mask : ℕ
  pub at : slice_get masks j ≡ Some mask
  pub lacked : 2 ^ processors ≤ mask
  pub before : (i m : ℕ) → i < j → slice_get masks i ≡ Some m → m < 2 ^ processors

module _ (block : ℕ) (names : List Entry) (processors : ℕ) (tuples : List Tuple) (next : Next) (streams : List Stream) (masks : List ℕ) where
  -- the fault is of this block and stands, and nothing that comes before it in the order of faults
  abbrev pub IsFirst : ImageFault → Type 0
  IsFirst (Processor n p) = (n ≡ block) × IsForeign processors streams p
  IsFirst (TupleTwice n t) = (n ≡ block) × AllByRecursion (λ (s : Stream). s.processor < processors) streams × IsTwice streams t
  IsFirst (TupleMissing n t) =
      (n ≡ block) × AllByRecursion (λ (s : Stream). s.processor < processors) streams ×
      ((u : ℕ) → u < 256 → count_all u streams ≤ 1) × IsMissing (length tuples) streams t
  IsFirst (Operand n i place) =
      (n ≡ block) × ((u : ℕ) → u < 256 → count_all u streams ≡ once_if (nat_lt u (length tuples))) × IsWrongOperand names tuples i place
  IsFirst (Cell n c) =
      (n ≡ block) × ((j : ℕ) (t : Tuple) → slice_get tuples j ≡ Some t → AllByRecursion IsTrueTest (asks names tuples j t)) × (IsTrueCell tuples next → ⊥)
  IsFirst (Waits n p w m) = (n ≡ block) × IsTrueCell tuples next × IsUneven processors streams masks p w m
  IsFirst (MaskEmpty n j) = (n ≡ block) × ((q : ℕ) → q < processors → waits_of q streams ≡ masks_of q masks) × IsEmptyMask masks j
  IsFirst (MaskBit n j) = (n ≡ block) × AllByRecursion (λ (m : ℕ). m ≡ 0 → ⊥) masks × IsForeignBit processors masks j
  IsFirst _ = ⊥

-- what the test tells is the first fault
pub record IsTold : Type 0 where
  pub first : (block : ℕ) (names : List Entry) (processors : ℕ) (tuples : List Tuple) (next : Next) (streams : List Stream) (masks : List ℕ) →
      AreItems streams → (f : ImageFault) → first_fault block names processors tuples next streams masks ≡ Some f →
      IsFirst block names processors tuples next streams masks f
