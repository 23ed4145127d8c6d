-- The lines of an image's text, one by one: what each says, how it is spelled, and what a line says.
use Rattle.std.specs.Prelude.{ℕ, if◌then◌else◌, List, [], ◌∷◌, ◌++◌, Option, Some, None, codes, decimal}
use Rattle.std.specs.Str.{bytes_eq}
use Rattle.std.specs.Fmt.{signed_decimal}
use Rattle.bm_base.specs.declared.limits.TheConstants.{MOST_TICKS}
use Rattle.bm_base.specs.declared.spec.Interval.{Interval}
use Rattle.bm_base.specs.declared.spec.Class.{Class}
use Rattle.bm_base.specs.declared.names.Kind.{Kind}
use Rattle.bm_base.specs.declared.names.Kind.TheVariants.{Var, Array}
use Rattle.bm_base.specs.Entry.{Entry}
use Rattle.bm_base.specs.Numeral.{hexadecimal}
use Rattle.bm_base.specs.Strict.{strict_number_of}
use Rattle.bm_base.specs.Hex.{hex_of}
use Rattle.tuple_ir.specs.declared.tuple.Tuple.{Tuple}
use Rattle.tuple_ir.specs.declared.tuple.Tuple.TheVariants.{Const, Load, Store, LoadEl, StoreEl, One, Two, Print}
use Rattle.tuple_ir.specs.declared.block.Next.{Next}
use Rattle.tuple_ir.specs.declared.block.Next.TheVariants.{Halt, Goto, If}
use Rattle.line_model.specs.declared.line.StreamItem.{StreamItem}
use Rattle.line_model.specs.declared.line.StreamItem.TheVariants.{Do, Wait}
use Rattle.stream_file.specs.Words.{class_word, unary_word, binary_word, class_of_word, unary_of_word, binary_of_word}
use Rattle.stream_file.specs.Cuts.{◌>>=◌, cut, count_within, two_of, three_of}

-- what a line says; a stream's items are still their text
pub data Row : Type 0 where
  Version : (version : ℕ) → Row
  Processors : (count : ℕ) → Row
  Barrier : (delay : ℕ) → Row
  Times : (class : Class) → (time : Interval) → Row
  Named : (entry : Entry) → Row
  Opens : (number : ℕ) → Row
  Does : (tuple : Tuple) → Row
  Masks : (mask : ℕ) → Row
  Streams : (processor : ℕ) → (text : List ℕ) → Row
  Follows : (next : Next) → Row
  Ends : Row

-- ---- how they are spelled

infixr 5 ◌‿◌
-- a space between two fields
abbrev pub ◌‿◌ : List ℕ → List ℕ → List ℕ
a ‿ b = a ++ 32 ∷ b

abbrev pub tuple_text : Tuple → List ℕ
tuple_text (Const v) = codes "const" ‿ signed_decimal v
tuple_text (Load x) = codes "load" ‿ decimal x
tuple_text (Store x v) = codes "store" ‿ (decimal x ‿ decimal v)
tuple_text (LoadEl x i) = codes "loadel" ‿ (decimal x ‿ decimal i)
tuple_text (StoreEl x i v) = codes "storeel" ‿ (decimal x ‿ (decimal i ‿ decimal v))
tuple_text (One op a) = unary_word op ‿ decimal a
tuple_text (Two op a b) = binary_word op ‿ (decimal a ‿ decimal b)
tuple_text (Print v) = codes "print" ‿ decimal v

abbrev pub entry_text : List ℕ → Kind → List ℕ
entry_text name (Var initial) = codes "var" ‿ (name ‿ signed_decimal initial)
entry_text name (Array len) = codes "array" ‿ (name ‿ decimal len)

abbrev pub next_text : Next → List ℕ
next_text Halt = codes "halt"
next_text (Goto b) = codes "goto" ‿ decimal b
next_text (If c one other) = codes "if" ‿ (decimal c ‿ (decimal one ‿ decimal other))

abbrev pub item_text : StreamItem → List ℕ
item_text (Do t) = decimal t
item_text Wait = codes "w"

-- one item at least
abbrev pub items_text : StreamItem → List StreamItem → List ℕ
items_text i [] = item_text i
items_text i (j ∷ js) = item_text i ‿ items_text j js

abbrev pub row_text : Row → List ℕ
row_text (Version v) = codes "bmimd" ‿ decimal v
row_text (Processors n) = codes "processors" ‿ decimal n
row_text (Barrier d) = codes "barrier" ‿ decimal d
row_text (Times c t) = codes "time" ‿ (class_word c ‿ (decimal t.least ‿ decimal t.most))
row_text (Named e) = entry_text e.name e.kind
row_text (Opens b) = codes "block" ‿ decimal b
row_text (Does t) = codes "t" ‿ tuple_text t
row_text (Masks m) = codes "m" ‿ hexadecimal m
row_text (Streams p items) = codes "p" ‿ (decimal p ‿ items)
row_text (Follows n) = next_text n
row_text Ends = codes "end"

-- ---- what a text says

abbrev pub mapped : {A B : Type 0} → (A → B) → Option A → Option B
mapped f None = None
mapped f (Some x) = Some (f x)

abbrev pub operator_of : List ℕ → List ℕ → Option Tuple
operator_of op args = elim (unary_of_word op) [
  | Some u ↦ mapped (λ a. One u a) (count_within 0 255 args)
  | None ↦ elim (binary_of_word op) [
    | Some b ↦ mapped (λ p. Two b p.0 p.1) (two_of 255 255 args)
    | None ↦ None
  ]
]

abbrev pub tuple_by : List ℕ → List ℕ → Option Tuple
tuple_by op args =
    if bytes_eq op (codes "const") then mapped (λ v. Const v) (strict_number_of args)
    else (if bytes_eq op (codes "load") then mapped (λ x. Load x) (count_within 0 65535 args)
    else (if bytes_eq op (codes "store") then mapped (λ p. Store p.0 p.1) (two_of 65535 255 args)
    else (if bytes_eq op (codes "loadel") then mapped (λ p. LoadEl p.0 p.1) (two_of 65535 255 args)
    else (if bytes_eq op (codes "storeel") then mapped (λ p. StoreEl p.0 p.1 p.2) (three_of 65535 255 255 args)
    else (if bytes_eq op (codes "print") then mapped (λ v. Print v) (count_within 0 255 args)
    else operator_of op args)))))

abbrev pub tuple_of : List ℕ → Option Tuple
tuple_of bs = do
  parts ← cut bs
  tuple_by parts.0 parts.1

abbrev pub time_of : List ℕ → Option Row
time_of bs = do
  parts ← cut bs
  class ← class_of_word parts.0
  ends ← cut parts.1
  least ← count_within 1 MOST_TICKS ends.0
  most ← count_within least MOST_TICKS ends.1
  Some (Times class (record { least = least; most = most }))

abbrev pub variable_of : List ℕ → Option Row
variable_of bs = do
  parts ← cut bs
  initial ← strict_number_of parts.1
  Some (Named (record { name = parts.0; kind = Var initial }))

abbrev pub array_of : List ℕ → Option Row
array_of bs = do
  parts ← cut bs
  len ← count_within 0 4294967295 parts.1
  Some (Named (record { name = parts.0; kind = Array len }))

abbrev pub stream_of : List ℕ → Option Row
stream_of bs = do
  parts ← cut bs
  p ← count_within 0 255 parts.0
  Some (Streams p parts.1)

-- the row whose first word is w and that has these further fields
abbrev pub row_by : List ℕ → List ℕ → Option Row
row_by w rest =
    if bytes_eq w (codes "t") then mapped (λ t. Does t) (tuple_of rest)
    else (if bytes_eq w (codes "m") then mapped (λ m. Masks m) (hex_of rest)
    else (if bytes_eq w (codes "p") then stream_of rest
    else (if bytes_eq w (codes "goto") then mapped (λ b. Follows (Goto b)) (count_within 0 4294967295 rest)
    else (if bytes_eq w (codes "if") then mapped (λ p. Follows (If p.0 p.1 p.2)) (three_of 255 4294967295 4294967295 rest)
    else (if bytes_eq w (codes "block") then mapped (λ n. Opens n) (count_within 0 4294967295 rest)
    else (if bytes_eq w (codes "var") then variable_of rest
    else (if bytes_eq w (codes "array") then array_of rest
    else (if bytes_eq w (codes "time") then time_of rest
    else (if bytes_eq w (codes "processors") then mapped (λ n. Processors n) (count_within 0 255 rest)
    else (if bytes_eq w (codes "barrier") then mapped (λ d. Barrier d) (count_within 0 255 rest)
    else (if bytes_eq w (codes "bmimd") then mapped (λ v. Version v) (count_within 0 255 rest) else None)))))))))))

-- the row without further fields
abbrev pub row_alone : List ℕ → Option Row
row_alone bs = if bytes_eq bs (codes "halt") then Some (Follows Halt) else (if bytes_eq bs (codes "end") then Some Ends else None)

abbrev pub row_split : List ℕ → Option (List ℕ × List ℕ) → Option Row
row_split bs None = row_alone bs
row_split bs (Some parts) = row_by parts.0 parts.1

-- what a line says, where it is spelled as some line of an image's text is
abbrev pub row_of : List ℕ → Option Row
row_of bs = row_split bs (cut bs)

-- ---- the items of a stream's text

abbrev pub item_of : List ℕ → Option StreamItem
item_of bs = if bytes_eq bs (codes "w") then Some Wait else mapped (λ t. Do t) (count_within 0 255 bs)
