-- Blocks that run one after another, and where they stand.
use Rattle.std.proofs.Common.{◌≡◌, ◌+◌, ℕ, suc, List, [], ◌∷◌, ◌++◌, length, Option, Some, refl, sym, ap, subst, ◌∙◌, arith, append_assoc, append-nil, length-append}
use Rattle.std.proofs.lemmas.List.{get_or_at}
use Rattle.bm_base.specs.Memory.{Content}
use Rattle.tuple_ir.specs.declared.block.Block.{Block}
use Rattle.tuple_ir.specs.declared.block.Next.{Next}
use Rattle.tuple_ir.specs.declared.tuple.Tuple as t
use Rattle.tuple_ir.specs.World.{World}
use Rattle.tuple_ir.specs.Serial.{follows, block_end, block_at, no_block, one_block, outcome}
use Rattle.tuple_lower.specs.Blocks.{Piece, block}
use Rattle.tuple_lower.proofs.Serially.{after_all, serial-is}

-- From the entry of block b with one world the blocks of the trail run one after another; then block c is entered with the other world.
abbrev pub Reaches : List Block → ℕ → World → List ℕ → ℕ → World → Type 0
Reaches blocks b w [] c v = (b ≡ c) × (w ≡ v)
Reaches blocks b w (x ∷ trail) c v = (next : ℕ) × (x ≡ b) × (follows (block_at blocks b).next (block_end (block_at blocks b) w) ≡ Some next) × Reaches blocks next (block_end (block_at blocks b) w) trail c v

pub reaches-then : (blocks : List Block) (xs ys : List ℕ) (b c d : ℕ) (w v u : World) → Reaches blocks b w xs c v → Reaches blocks c v ys d u → Reaches blocks b w (xs ++ ys) d u
reaches-then blocks [] ys b c d w v u (e, f) k = subst (λ x. Reaches blocks x w ys d u) (sym e) (subst (λ x. Reaches blocks c x ys d u) (sym f) k)
reaches-then blocks (x ∷ xs) ys b c d w v u (n, e, f, h) k = (n, e, f, reaches-then blocks xs ys n c d (block_end (block_at blocks b) w) v u h k)

-- a block that is known runs its tuples
pub runs : (blocks : List Block) (b : ℕ) (ts : List t.Tuple) (next : Next) (w : World) → block_at blocks b ≡ block ts next → block_end (block_at blocks b) w ≡ after_all 0 ts w
runs blocks b ts next w is = ap (λ x. block_end x w) is ∙ serial-is ts w

pub leads : (blocks : List Block) (b : ℕ) (ts : List t.Tuple) (next : Next) (w v : World) (o : Option ℕ) → block_at blocks b ≡ block ts next → after_all 0 ts w ≡ v → follows next v ≡ o → follows (block_at blocks b).next (block_end (block_at blocks b) w) ≡ o
leads blocks b ts next w v o is same f = ap (λ x. follows x.next (block_end (block_at blocks b) w)) is ∙ ap (follows next) (runs blocks b ts next w is ∙ same) ∙ f

-- a block that is known runs, and then block c is entered
pub reaches-one : (blocks : List Block) (b : ℕ) (ts : List t.Tuple) (next : Next) (w v : World) (c : ℕ) → block_at blocks b ≡ block ts next → after_all 0 ts w ≡ v → follows next v ≡ Some c → Reaches blocks b w (b ∷ []) c v
reaches-one blocks b ts next w v c is same f = (c, refl, leads blocks b ts next w v (Some c) is same f, (refl, runs blocks b ts next w is ∙ same))

-- ---- the serial meaning

-- block b is to run next, after these
pub record Stands (blocks : List Block) (memory : List Content) (k : ℕ) (b : ℕ) (w : World) (trail : List ℕ) : Type 0 where
  pub next_is : (outcome blocks memory k).next ≡ Some b
  pub world_is : (outcome blocks memory k).world ≡ w
  pub trail_is : (outcome blocks memory k).trail ≡ trail

stands_next : (blocks : List Block) (memory : List Content) (k b c : ℕ) (w : World) (trail : List ℕ) → Stands blocks memory k b w trail → follows (block_at blocks b).next (block_end (block_at blocks b) w) ≡ Some c → Stands blocks memory (suc k) c (block_end (block_at blocks b) w) (trail ++ b ∷ [])
stands_next blocks memory k b c w trail s f =
    let o = outcome blocks memory k in
    let here : outcome blocks memory (suc k) ≡ one_block blocks (Some b) w trail = ap (λ n. one_block blocks n o.world o.trail) s.next_is ∙ ap (λ v. one_block blocks (Some b) v o.trail) s.world_is ∙ ap (one_block blocks (Some b) w) s.trail_is in
    record { next_is = ap (λ q. q.next) here ∙ f; world_is = ap (λ q. q.world) here; trail_is = ap (λ q. q.trail) here }

pub stands-then : (blocks : List Block) (memory : List Content) (xs : List ℕ) (k b c : ℕ) (w v : World) (trail : List ℕ) → Stands blocks memory k b w trail → Reaches blocks b w xs c v → Stands blocks memory (k + length xs) c v (trail ++ xs)
stands-then blocks memory [] k b c w v trail s (e, f) =
    let n : k ≡ k + 0 = omega arith in
    record { next_is = ap (λ j. (outcome blocks memory j).next) (sym n) ∙ s.next_is ∙ ap Some e; world_is = ap (λ j. (outcome blocks memory j).world) (sym n) ∙ s.world_is ∙ f; trail_is = ap (λ j. (outcome blocks memory j).trail) (sym n) ∙ s.trail_is ∙ sym (append-nil trail) }
stands-then blocks memory (x ∷ xs) k b c w v trail s (n, e, f, h) =
    let one = stands_next blocks memory k b n w trail s f in
    let r = stands-then blocks memory xs (suc k) n c (block_end (block_at blocks b) w) v (trail ++ b ∷ []) one h in
    let j : suc k + length xs ≡ k + length (x ∷ xs) = omega arith in
    let all : (trail ++ b ∷ []) ++ xs ≡ trail ++ x ∷ xs = append_assoc trail (b ∷ []) xs ∙ ap (λ y. trail ++ y ∷ xs) (sym e) in
    subst (λ i. Stands blocks memory i c v (trail ++ x ∷ xs)) j (subst (λ l. Stands blocks memory (suc k + length xs) c v l) all r)

-- ---- where blocks stand

-- these blocks stand one behind the other from number b on
abbrev pub StandFrom : List Block → ℕ → List Block → Type 0
StandFrom blocks b [] = Unit {0}
StandFrom blocks b (x ∷ xs) = (block_at blocks b ≡ x) × StandFrom blocks (b + 1) xs

pub stand-left : (blocks xs ys : List Block) (b : ℕ) → StandFrom blocks b (xs ++ ys) → StandFrom blocks b xs
stand-left blocks [] ys b h = tt
stand-left blocks (x ∷ xs) ys b h = (h.0, stand-left blocks xs ys (b + 1) h.1)

pub stand-right : (blocks xs ys : List Block) (b : ℕ) → StandFrom blocks b (xs ++ ys) → StandFrom blocks (b + length xs) ys
stand-right blocks [] ys b h = subst (λ n. StandFrom blocks n ys) (let e : b ≡ b + 0 = omega arith in e) h
stand-right blocks (x ∷ xs) ys b h = subst (λ n. StandFrom blocks n ys) (let e : b + 1 + length xs ≡ b + length (x ∷ xs) = omega arith in e) (stand-right blocks xs ys (b + 1) h.1)

-- all blocks stand from 0 on
pub stand-in : (front xs : List Block) → StandFrom (front ++ xs) (length front) xs
stand-in front [] = tt
stand-in front (x ∷ xs) =
    let rest = stand-in (front ++ x ∷ []) xs in
    let all : (front ++ x ∷ []) ++ xs ≡ front ++ x ∷ xs = append_assoc front (x ∷ []) xs in
    let n : length (front ++ x ∷ []) ≡ length front + 1 = length-append front (x ∷ []) in
    (get_or_at front x xs no_block (length front) refl, subst (λ j. StandFrom (front ++ x ∷ xs) j xs) n (subst (λ l. StandFrom l (length (front ++ x ∷ [])) xs) all rest))

-- the piece stands from number b on: its blocks, and then one whose tuples begin with those of its current block
pub record Holds (blocks : List Block) (b : ℕ) (p : Piece) : Type 0 where
  pub ended : StandFrom blocks b p.ended
  pub more : List t.Tuple
  pub current : (block_at blocks (b + length p.ended)).tuples ≡ p.current ++ more

-- the first block of a piece begins with these tuples
abbrev pub Begins : List Block → List t.Tuple → List t.Tuple → Type 0
Begins [] current ts = (more : List t.Tuple) × (current ≡ ts ++ more)
Begins (x ∷ xs) current ts = (more : List t.Tuple) × (x.tuples ≡ ts ++ more)

pub first_begins : (blocks : List Block) (b : ℕ) (ended : List Block) (current ts : List t.Tuple) → StandFrom blocks b ended → (rest : List t.Tuple) → (block_at blocks (b + length ended)).tuples ≡ current ++ rest → Begins ended current ts
    → (more : List t.Tuple) × ((block_at blocks b).tuples ≡ ts ++ more)
first_begins blocks b [] current ts s rest c (m, e) =
    let n : b + 0 ≡ b = omega arith in
    (m ++ rest, ap (λ j. (block_at blocks j).tuples) (sym n) ∙ c ∙ ap (λ l. l ++ rest) e ∙ append_assoc ts m rest)
first_begins blocks b (x ∷ xs) current ts s rest c (m, e) = (m, ap (λ y. y.tuples) s.0 ∙ e)
