-- Of private functions: a line that grows by items of streams and masks, each tuple behind its producers.
use Rattle.std.specs.Prelude.{◌≡◌, ℕ, ◌+◌, ◌<◌, ◌≤◌, ◌++◌, ◌∷◌, Bool, true, false, if◌then◌else◌, nat_eq}
use Rattle.std.specs.Prelude.{◌||◌, ◌==◌, set, List, [], Contains, Some, drop, get_or, length, slice_get, slice_index_or}
use Rattle.std.specs.List.{AllByRecursion, list_any}
use Rattle.bm_base.specs.declared.limits.TheConstants.{MOST_TUPLES, MOST_MASKS, MOST_PROCESSORS}
use Rattle.bm_base.specs.Mask.{has_bit}
use Rattle.line_model.specs.declared.line.Item.{Item}
use Rattle.line_model.specs.declared.line.Item.TheVariants.{Run, Bar}
use Rattle.line_model.specs.declared.line.StreamItem.{StreamItem}
use Rattle.line_model.specs.declared.line.StreamItem.TheVariants.{Do, Wait}
use Rattle.line_model.specs.Streams.{stream, masks, own}
use Rattle.time_interval.specs.Bounds.{Pace}
use Rattle.time_interval.specs.Lines.{IsItem, IsLine, tuples}
use Rattle.time_interval.specs.Ordered.{IsOrdered}
use Rattle.stream_image.specs.declared.given.Stream.{Stream}
use Rattle.stream_image.specs.declared.order.Wrong.TheVariants.{Loose}
use Rattle.stream_image.specs.declared.sorted.Sorting.{Sorting}
use Rattle.stream_image.specs.declared.sorted.Ready.{Ready}
use Rattle.stream_image.specs.Laws.{HaveEvenWaits}
use Rattle.stream_image.specs.Line.{AreIncreasing, items_of, line_of}
use Rattle.stream_image.specs.Order.{NoneOf}
use Rattle.stream_image.specs.Rest.{rest_of}

-- all numbers are in the set
abbrev pub all_in : ℕ → List ℕ → Bool
all_in passed [] = true
all_in passed (g ∷ gs) = if has_bit passed g then all_in passed gs else false

-- what is left before an item is what the item is to each processor, and what is left behind it
abbrev pub Takes : Item → (ℕ → List StreamItem) → (ℕ → List StreamItem) → Type 0
Takes item before after = (p : ℕ) → before p ≡ stream p (item ∷ []) ++ after p

-- whatever comes behind the line, the producers of each of its tuples are ordered before it
abbrev pub AreSettled : Pace → List (List ℕ) → List Item → Type 0
AreSettled pace producers walked =
    (back : List Item) (t : ℕ) → list_any (nat_eq t) (tuples walked) ≡ true →
    NoneOf Loose pace (walked ++ back) (slice_index_or producers t []) t

-- the set is that of the line's tuples
abbrev pub IsSetOf : ℕ → List Item → Type 0
IsSetOf passed line = (g : ℕ) → has_bit passed g ≡ list_any (nat_eq g) (tuples line)

-- the numbers are tuples of the line, ordered before what processor p runs next
abbrev pub ComeFirst : Pace → List Item → List ℕ → ℕ → Type 0
ComeFirst pace line numbers p =
    (a i : ℕ) → Contains numbers a → list_any (nat_eq i) (tuples line) ≡ false →
    (list_any (nat_eq a) (tuples line) ≡ true) × IsOrdered pace (line ++ Run p i ∷ []) a i

-- streams of a machine's processors, and masks that a line can have
pub record AreGiven (processors : ℕ) (ss : List Stream) (ms : List ℕ) : Type 0 where
  pub few : processors ≤ MOST_PROCESSORS
  pub increasing : AreIncreasing ss
  pub within : AllByRecursion (λ (s : Stream). s.processor < processors) ss
  pub masks_fit : AllByRecursion (λ (m : ℕ). IsItem 0 processors (Bar m)) ms
  pub few_masks : length ms ≤ MOST_MASKS

-- the line of streams and masks
abbrev pub line_on : ℕ → List Stream → List ℕ → List Item
line_on n ss ms = line_of n (items_of ss) ms

-- they give a line of all of so many tuples, and are its own
pub record AreLined (count n : ℕ) (ss : List Stream) (ms : List ℕ) : Type 0 where
  pub given : AreGiven n ss ms
  pub even : HaveEvenWaits n (items_of ss) ms
  pub line : IsLine count n (line_on n ss ms)
  pub stand : (t : ℕ) → t < count → Contains (tuples (line_on n ss ms)) t

-- the line has the items of streams and masks that are passed, and its tuples are those of the set
pub record IsSorted (producers : List (List ℕ)) (ss : List Stream) (ms : List ℕ) (s : Sorting) : Type 0 where
  pub given : AreGiven s.walked.pace.processors ss ms
  pub long : length s.walked.pace.times ≡ length producers
  pub streams : (p : ℕ) → stream p s.walked.line ++ rest_of ss s.places p ≡ items_of ss p
  pub masks_are : masks s.walked.line ++ drop s.queue ms ≡ ms
  pub passed : IsSetOf s.passed s.walked.line
  pub settled : AreSettled s.walked.pace producers s.walked.line
  pub turn : s.turn ≤ length ss
  pub room : length s.places ≡ MOST_PROCESSORS

-- a tuple of a stream that can come next
pub record IsReady (count : ℕ) (ss : List Stream) (s : Sorting) (r : Ready) : Type 0 where
  pub stream_of : r.stream < length ss
  pub processor : r.processor < s.walked.pace.processors
  pub tuple : r.tuple < count
  pub small : r.tuple < MOST_TUPLES
  pub new : has_bit s.passed r.tuple ≡ false
  pub here : slice_get (items_of ss r.processor) (get_or s.places r.processor 0) ≡ Some (Do r.tuple)
  pub next : r.next ≡ get_or s.places r.processor 0 + 1

-- a tuple more, whose producers are ordered before it
pub record HasRun (producers : List (List ℕ)) (s new : Sorting) (r : Ready) : Type 0 where
  pub pace : new.walked.pace ≡ s.walked.pace
  pub line : new.walked.line ≡ s.walked.line ++ Run r.processor r.tuple ∷ []
  pub passed : (g : ℕ) → has_bit new.passed g ≡ (has_bit s.passed g || g == r.tuple)
  pub places : new.places ≡ set s.places r.processor r.next
  pub queue : new.queue ≡ s.queue
  pub turn : new.turn ≡ r.stream
  pub first : ComeFirst s.walked.pace s.walked.line (slice_index_or producers r.tuple []) r.processor

-- a mask more, whose members have passed their waits
pub record HasFired (n : ℕ) (ss : List Stream) (ms : List ℕ) (s new : Sorting) : Type 0 where
  pub mask : ℕ
  pub at : slice_get ms s.queue ≡ Some mask
  pub pace : new.walked.pace ≡ s.walked.pace
  pub line : new.walked.line ≡ s.walked.line ++ Bar mask ∷ []
  pub passed : new.passed ≡ s.passed
  pub members : (p : ℕ) → p < n → rest_of ss s.places p ≡ own (has_bit mask p) Wait (rest_of ss new.places p)
  pub others : (p : ℕ) → n ≤ p → get_or new.places p 0 ≡ get_or s.places p 0
  pub room : length new.places ≡ length s.places
  pub queue : new.queue ≡ s.queue + 1
  pub turn : new.turn ≡ s.turn

-- an item more
pub record HasGone (producers : List (List ℕ)) (ss : List Stream) (ms : List ℕ) (s new : Sorting) : Type 0 where
  pub pace : new.walked.pace ≡ s.walked.pace
  pub sorted : IsSorted producers ss ms new
