-- Which conflicting pairs of a block are not in order.
use Rattle.std.specs.Prelude.{ℕ, ◌<◌, List, Contains, MatchOption, Option}
use Rattle.tuple_ir.specs.declared.tuple.Tuple.{Tuple}
use Rattle.tuple_ir.specs.Conflict.{Conflict}
use Rattle.line_model.specs.declared.line.Item.{Item}
use Rattle.line_model.specs.Order.{IsOrderedByProcessor}
use Rattle.time_interval.specs.Bounds.{Pace}
use Rattle.time_interval.specs.Ordered.{IsOrdered}
use Rattle.stream_image.specs.declared.order.Pair.{Pair}
use Rattle.stream_image.specs.declared.order.Wrong.{Wrong}
use Rattle.stream_image.specs.declared.order.Wrong.TheVariants.{Turned, Loose}

-- what is wrong with tuples a and b, of which a is to come first: one processor has both, and b is first; or a is not ordered before b
abbrev pub IsSo : Wrong → Pace → List Item → ℕ → ℕ → Type 0
IsSo Turned pace line a b = IsOrderedByProcessor line b a
IsSo Loose pace line a b = ¬ IsOrdered pace line a b

-- .. and what is right with them
abbrev pub IsRight : Wrong → Pace → List Item → ℕ → ℕ → Type 0
IsRight Turned pace line a b = ¬ IsOrderedByProcessor line b a
IsRight Loose pace line a b = IsOrdered pace line a b

-- a conflicting pair with which this is wrong
pub record IsWrong (wrong : Wrong) (pace : Pace) (tuples : List Tuple) (line : List Item) (a b : ℕ) : Type 0 where
  pub conflict : Conflict tuples a b
  pub so : IsSo wrong pace line a b

-- with no such pair this is wrong
abbrev pub NoneWrong : Wrong → Pace → List Tuple → List Item → Type 0
NoneWrong wrong pace tuples line = (a b : ℕ) → Conflict tuples a b → IsRight wrong pace line a b

-- the first pair with which it is: by the later tuple, then by the earlier one
pub record IsFirstWrong (wrong : Wrong) (pace : Pace) (tuples : List Tuple) (line : List Item) (a b : ℕ) : Type 0 where
  pub stands : IsWrong wrong pace tuples line a b
  pub before : (c d : ℕ) → d < b → Conflict tuples c d → IsRight wrong pace line c d
  pub beside : (c : ℕ) → c < a → Conflict tuples c b → IsRight wrong pace line c b

-- Of private functions: the first of the numbers with which this is wrong before tuple b
pub record IsFirstOf (wrong : Wrong) (pace : Pace) (line : List Item) (numbers : List ℕ) (b a : ℕ) : Type 0 where
  pub listed : Contains numbers a
  pub so : IsSo wrong pace line a b
  pub before : (c : ℕ) → Contains numbers c → c < a → IsRight wrong pace line c b

-- with none of the numbers it is wrong before tuple b
abbrev pub NoneOf : Wrong → Pace → List Item → List ℕ → ℕ → Type 0
NoneOf wrong pace line numbers b = (a : ℕ) → Contains numbers a → IsRight wrong pace line a b

-- with none of the numbers it is wrong before tuple b, or this is the first of them
abbrev pub TellsFirst : Wrong → Pace → List Item → List ℕ → ℕ → Option ℕ → Type 0
TellsFirst wrong pace line numbers b found = MatchOption found (NoneOf wrong pace line numbers b) (IsFirstOf wrong pace line numbers b)

-- with no pair it is wrong, or this is the first one
abbrev pub TellsPair : Wrong → Pace → List Tuple → List Item → Option Pair → Type 0
TellsPair wrong pace tuples line found =
    MatchOption found (NoneWrong wrong pace tuples line) (λ pair. IsFirstWrong wrong pace tuples line pair.a pair.b)
