-- What an image's block keeps, but for the order of conflicting tuples.
use Rattle.std.specs.Prelude.{ℕ, ◌≡◌, ◌+◌, ◌<◌, ◌^◌, ◌==◌, nat_lt, Bool, true, false, if◌then◌else◌, Some, None}
use Rattle.std.specs.Prelude.{List, [], ◌∷◌, length, slice_get}
use Rattle.std.specs.List.{AllByRecursion}
use Rattle.bm_base.specs.Entry.{Entry}
use Rattle.tuple_ir.specs.declared.tuple.Tuple.{Tuple}
use Rattle.tuple_ir.specs.declared.block.Next.{Next}
use Rattle.tuple_ir.specs.declared.block.Next.TheVariants.{Halt, Goto, If}
use Rattle.line_model.specs.declared.line.StreamItem.{StreamItem}
use Rattle.line_model.specs.declared.line.StreamItem.TheVariants.{Do, Wait}
use Rattle.stream_image.specs.declared.given.Stream.{Stream}
use Rattle.stream_image.specs.Check.{asks, is_value, waits_of, masks_of, first_fault}

-- how often a number stands in these items
abbrev pub count_in : ℕ → List StreamItem → ℕ
count_in t [] = 0
count_in t (Wait ∷ is) = count_in t is
count_in t (Do u ∷ is) = if u == t then count_in t is + 1 else count_in t is

-- in all streams
abbrev pub count_all : ℕ → List Stream → ℕ
count_all t [] = 0
count_all t (s ∷ ss) = count_in t s.items + count_all t ss

abbrev pub once_if : Bool → ℕ
once_if true = 1
once_if false = 0

abbrev pub IsTrueCell : List Tuple → Next → Type 0
IsTrueCell tuples Halt = Unit {0}
IsTrueCell tuples (Goto b) = Unit {0}
IsTrueCell tuples (If c one other) = is_value tuples (length tuples) c ≡ true

abbrev pub IsTrueTest : Bool → Type 0
IsTrueTest b = b ≡ true

pub record Keeps (names : List Entry) (processors : ℕ) (tuples : List Tuple) (next : Next)
    (streams : List Stream) (masks : List ℕ) : Type 0 where
  -- no stream is of a processor that the machine lacks
  pub within : AllByRecursion (λ (s : Stream). s.processor < processors) streams
  -- each tuple stands in one stream, once, and nothing else does
  pub once : (t : ℕ) → t < 256 → count_all t streams ≡ once_if (nat_lt t (length tuples))
  -- operands are earlier values, and names of the right kind
  pub operands : (i : ℕ) (t : Tuple) → slice_get tuples i ≡ Some t → AllByRecursion IsTrueTest (asks names tuples i t)
  pub cell : IsTrueCell tuples next
  -- each processor has as many waits as masks
  pub waits : (p : ℕ) → p < processors → waits_of p streams ≡ masks_of p masks
  -- masks are not empty, and have processors of the machine alone
  pub some : AllByRecursion (λ (m : ℕ). m ≡ 0 → ⊥) masks
  pub own : AllByRecursion (λ (m : ℕ). m < 2 ^ processors) masks

abbrev pub ItemFits : StreamItem → Type 0
ItemFits (Do t) = t < 256
ItemFits Wait = Unit {0}

abbrev pub AreItems : List Stream → Type 0
AreItems streams = AllByRecursion (λ (s : Stream). AllByRecursion ItemFits s.items) streams

-- for streams whose items are numbers below 256, as all are
pub record IsTest : Type 0 where
  pub kept : (block : ℕ) (names : List Entry) (processors : ℕ) (tuples : List Tuple) (next : Next) (streams : List Stream) (masks : List ℕ) →
      AreItems streams → first_fault block names processors tuples next streams masks ≡ None → Keeps names processors tuples next streams masks
  pub passes : (block : ℕ) (names : List Entry) (processors : ℕ) (tuples : List Tuple) (next : Next) (streams : List Stream) (masks : List ℕ) →
      AreItems streams → Keeps names processors tuples next streams masks → first_fault block names processors tuples next streams masks ≡ None
