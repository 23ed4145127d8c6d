-- The line of streams and masks.
use Rattle.std.specs.Prelude.{◌≡◌, ℕ, zero, suc, ◌<◌, ◌==◌, Bool, true, if◌then◌else◌, List, [], ◌∷◌, ◌++◌}
use Rattle.std.specs.List.{AllByRecursion}
use Rattle.bm_base.specs.Mask.{has_bit}
use Rattle.line_model.specs.declared.line.Item.{Item}
use Rattle.line_model.specs.declared.line.Item.TheVariants.{Run, Bar}
use Rattle.line_model.specs.declared.line.StreamItem.{StreamItem}
use Rattle.line_model.specs.declared.line.StreamItem.TheVariants.{Do, Wait}
use Rattle.line_model.specs.Streams.{stream, masks}
use Rattle.stream_image.specs.declared.given.Stream.{Stream}

-- streams in increasing order of their processors
abbrev pub AreIncreasing : List Stream → Type 0
AreIncreasing [] = Unit {0}
AreIncreasing (s ∷ ss) = AllByRecursion (λ (other : Stream). s.processor < other.processor) ss × AreIncreasing ss

-- the items of processor p among streams: none where no stream is p's
abbrev pub items_of : List Stream → ℕ → List StreamItem
items_of [] p = []
items_of (s ∷ ss) p = if s.processor == p then s.items else items_of ss p

-- the tuples that stand before the first wait, as runs of processor p
abbrev pub runs_ahead : ℕ → List StreamItem → List Item
runs_ahead p [] = []
runs_ahead p (Do t ∷ items) = Run p t ∷ runs_ahead p items
runs_ahead p (Wait ∷ items) = []

-- the items behind the first wait
abbrev pub behind_wait : List StreamItem → List StreamItem
behind_wait [] = []
behind_wait (Do t ∷ items) = behind_wait items
behind_wait (Wait ∷ items) = items

-- of the processors below n that are chosen, in increasing order: the tuples that stand before their next wait
abbrev pub ahead : ℕ → (ℕ → Bool) → (ℕ → List StreamItem) → List Item
ahead zero chosen streams = []
ahead (suc p) chosen streams = ahead p chosen streams ++ (if chosen p then runs_ahead p (streams p) else [])

-- what is left of the streams behind a mask: its members have passed their next wait
abbrev pub passed : ℕ → (ℕ → List StreamItem) → ℕ → List StreamItem
passed mask streams p = if has_bit mask p then behind_wait (streams p) else streams p

-- the line of the streams of n processors and of masks in queue order: for each mask first its members in increasing order, of each
-- the tuples that stand before its wait for this mask and are not in the line yet, then the Bar; and behind the last mask the tuples
-- that are left, in increasing order of processors
abbrev pub line_of : ℕ → (ℕ → List StreamItem) → List ℕ → List Item
line_of n streams [] = ahead n (λ p. true) streams
line_of n streams (m ∷ ms) = ahead n (has_bit m) streams ++ Bar m ∷ line_of n (passed m streams) ms

-- a line is the one of its own streams and masks
abbrev pub IsOwnLine : ℕ → List Item → Type 0
IsOwnLine n line = line ≡ line_of n (λ p. stream p line) (masks line)

-- Of private functions: among these streams each processor below n has these items
abbrev pub AreOf : ℕ → (ℕ → List StreamItem) → List Stream → Type 0
AreOf n streams given = (p : ℕ) → p < n → items_of given p ≡ streams p

-- .. and no other processor has a stream
abbrev pub AreBelow : ℕ → List Stream → Type 0
AreBelow n given = AllByRecursion (λ (s : Stream). s.processor < n) given
