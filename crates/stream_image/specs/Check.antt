-- The first thing that the block of a number does not keep.
use Rattle.std.specs.Prelude.{ℕ, zero, suc, ◌+◌, ◌/◌, ◌^◌, ◌==◌, nat_lt, Bool, true, false, if◌then◌else◌}
use Rattle.std.specs.Prelude.{Option, Some, None, Result, Ok, Err, List, [], ◌∷◌, length, get_or, slice_get, slice_set, replicate}
use Rattle.bm_base.specs.declared.names.Kind.TheVariants.{Var, Array}
use Rattle.bm_base.specs.Entry.{Entry}
use Rattle.bm_base.specs.Mask.{has_bit}
use Rattle.tuple_ir.specs.declared.tuple.Tuple.{Tuple}
use Rattle.tuple_ir.specs.declared.tuple.Tuple.TheVariants.{Const, Load, Store, LoadEl, StoreEl, One, Two, Print}
use Rattle.tuple_ir.specs.declared.block.Next.{Next}
use Rattle.tuple_ir.specs.declared.block.Next.TheVariants.{Halt, Goto, If}
use Rattle.tuple_ir.specs.Kinds.{has_value}
use Rattle.line_model.specs.declared.line.StreamItem.{StreamItem}
use Rattle.line_model.specs.declared.line.StreamItem.TheVariants.{Do, Wait}
use Rattle.stream_image.specs.declared.given.Stream.{Stream}
use Rattle.stream_image.specs.declared.fault.ImageFault.{ImageFault}
use Rattle.stream_image.specs.declared.fault.ImageFault.TheVariants.{Processor, TupleTwice, TupleMissing, Operand}
use Rattle.stream_image.specs.declared.fault.ImageFault.TheVariants.{Cell, Waits, MaskEmpty, MaskBit}

-- the first stream whose processor the machine lacks
abbrev pub foreign : (block : ℕ) → ℕ → List Stream → Option ImageFault
foreign block processors [] = None
foreign block processors (s ∷ ss) = if nat_lt s.processor processors then foreign block processors ss else Some (Processor block s.processor)

-- the numbers seen with those of these items, or the first that was seen before
abbrev pub seeing : List Bool → List StreamItem → Result (List Bool) ℕ
seeing seen [] = Ok seen
seeing seen (Wait ∷ is) = seeing seen is
seeing seen (Do t ∷ is) = if get_or seen t false then Err t else seeing (slice_set seen t true) is

abbrev pub seeing_all : List Bool → List Stream → Result (List Bool) ℕ
seeing_all seen [] = Ok seen
seeing_all seen (s ∷ ss) = elim (seeing seen s.items) [ Ok more ↦ seeing_all more ss | Err t ↦ Err t ]

-- the least number from t on that is seen and no tuple, or a tuple and not seen
abbrev pub missing_from : ℕ → ℕ → List Bool → Option ℕ
missing_from t count [] = None
missing_from t count (b ∷ bs) =
    if nat_lt t count then (if b then missing_from (t + 1) count bs else Some t)
    else (if b then Some t else missing_from (t + 1) count bs)

-- the name is a variable, an array
abbrev pub is_var : Option Entry → Bool
is_var None = false
is_var (Some e) = elim e.kind [ Var initial ↦ true | Array len ↦ false ]

abbrev pub is_array : Option Entry → Bool
is_array None = false
is_array (Some e) = elim e.kind [ Var initial ↦ false | Array len ↦ true ]

abbrev pub is_valued : Option Tuple → Bool
is_valued None = false
is_valued (Some t) = has_value t

-- cell c is that of a tuple before number i that gives a value
abbrev pub is_value : List Tuple → ℕ → ℕ → Bool
is_value tuples i c = if nat_lt c i then is_valued (slice_get tuples c) else false

-- what each field of a tuple's text asks, by place
abbrev pub asks : List Entry → List Tuple → ℕ → Tuple → List Bool
asks names tuples i (Const v) = []
asks names tuples i (Load x) = is_var (slice_get names x) ∷ []
asks names tuples i (Store x v) = is_var (slice_get names x) ∷ is_value tuples i v ∷ []
asks names tuples i (LoadEl x e) = is_array (slice_get names x) ∷ is_value tuples i e ∷ []
asks names tuples i (StoreEl x e v) = is_array (slice_get names x) ∷ is_value tuples i e ∷ is_value tuples i v ∷ []
asks names tuples i (One op a) = is_value tuples i a ∷ []
asks names tuples i (Two op a b) = is_value tuples i a ∷ is_value tuples i b ∷ []
asks names tuples i (Print v) = is_value tuples i v ∷ []

abbrev pub first_false : ℕ → List Bool → Option ℕ
first_false place [] = None
first_false place (b ∷ bs) = if b then first_false (place + 1) bs else Some place

abbrev pub operand_at : (block : ℕ) → ℕ → Option ℕ → Option ImageFault → Option ImageFault
operand_at block i (Some place) rest = Some (Operand block i place)
operand_at block i None rest = rest

-- the first tuple from number i on with such a place
abbrev pub operand_from : (block : ℕ) → List Entry → List Tuple → ℕ → List Tuple → Option ImageFault
operand_from block names tuples i [] = None
operand_from block names tuples i (t ∷ ts) = operand_at block i (first_false 0 (asks names tuples i t)) (operand_from block names tuples (i + 1) ts)

abbrev pub cell_fault : (block : ℕ) → List Tuple → Next → Option ImageFault
cell_fault block tuples Halt = None
cell_fault block tuples (Goto b) = None
cell_fault block tuples (If c one other) = if is_value tuples (length tuples) c then None else Some (Cell block c)

abbrev pub waits_in : List StreamItem → ℕ
waits_in [] = 0
waits_in (Wait ∷ is) = waits_in is + 1
waits_in (Do t ∷ is) = waits_in is

-- the waits of the processor's stream
abbrev pub waits_of : ℕ → List Stream → ℕ
waits_of p [] = 0
waits_of p (s ∷ ss) = if s.processor == p then waits_in s.items else waits_of p ss

abbrev pub masks_of : ℕ → List ℕ → ℕ
masks_of p [] = 0
masks_of p (m ∷ ms) = if has_bit m p then masks_of p ms + 1 else masks_of p ms

-- the first of so many processors from p on whose waits are not as many as its masks
abbrev pub waits_from : (block : ℕ) → ℕ → ℕ → List Stream → List ℕ → Option ImageFault
waits_from block p zero streams masks = None
waits_from block p (suc count) streams masks =
    if waits_of p streams == masks_of p masks then waits_from block (p + 1) count streams masks
    else Some (Waits block p (waits_of p streams) (masks_of p masks))

abbrev pub empty_from : (block : ℕ) → ℕ → List ℕ → Option ImageFault
empty_from block j [] = None
empty_from block j (m ∷ ms) = if m == 0 then Some (MaskEmpty block j) else empty_from block (j + 1) ms

abbrev pub bit_from : (block : ℕ) → ℕ → ℕ → List ℕ → Option ImageFault
bit_from block processors j [] = None
bit_from block processors j (m ∷ ms) = if m / 2 ^ processors == 0 then bit_from block processors (j + 1) ms else Some (MaskBit block j)

infixr 4 ◌orelse◌
-- the first, or else the second
abbrev pub ◌orelse◌ : Option ImageFault → Option ImageFault → Option ImageFault
None orelse second = second
(Some e) orelse second = Some e

abbrev pub none_seen : List Bool
none_seen = replicate 256 false

abbrev pub once_of : (block : ℕ) → ℕ → Result (List Bool) ℕ → Option ImageFault
once_of block count (Err t) = Some (TupleTwice block t)
once_of block count (Ok seen) = elim (missing_from 0 count seen) [ Some t ↦ Some (TupleMissing block t) | None ↦ None ]

abbrev pub first_fault : (block : ℕ) → List Entry → ℕ → List Tuple → Next → List Stream → List ℕ → Option ImageFault
first_fault block names processors tuples next streams masks =
    foreign block processors streams orelse once_of block (length tuples) (seeing_all none_seen streams) orelse operand_from block names tuples 0 tuples
    orelse cell_fault block tuples next orelse waits_from block 0 processors streams masks orelse empty_from block 0 masks orelse bit_from block processors 0 masks
