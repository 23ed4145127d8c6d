-- Blocks that lie in columns.
use Rattle.std.proofs.Common.{◌≡◌, ℕ, zero, suc, ◌+◌, ◌<◌, ◌≤◌, true, false, List, [], ◌∷◌, ◌++◌, length, get_or, take, refl, sym, ap, ◌∙◌, arith, Result, Ok, Err, OnOk, OnErr, if◌then◌else◌}
use Rattle.std.specs.Prelude.{◌==◌, slice_range}
use Rattle.std.proofs.lemmas.Bool.Decides.{nat_tests}
use Rattle.tuple_ir.specs.declared.tuple.Tuple.{Tuple}
use Rattle.tuple_ir.specs.declared.block.Next.{Next}
use Rattle.line_model.specs.declared.line.StreamItem.{StreamItem}
use Rattle.stream_image.specs.declared.given.Stream.{Stream}
use Rattle.stream_image.specs.Flat.{streams_of, no_stream, held_at, blocks_of}
use Rattle.stream_image.specs.Line.{items_of}
use Rattle.stream_image.proofs.FlatLists.{front_taken, all_taken, range_next}

-- ---- streams

pub streams_length : (ps : List ℕ) (items : List (List StreamItem)) → length items ≡ length ps → length (streams_of ps items) ≡ length ps
streams_length [] items h = refl
streams_length (p ∷ ps) [] h = absurd (omega arith)
streams_length (p ∷ ps) (is ∷ items) h = ap suc (streams_length ps items (let z : length items ≡ length ps = omega arith in z))

pub streams_push : (ps : List ℕ) (items : List (List StreamItem)) (p : ℕ) (is : List StreamItem) → length items ≡ length ps → streams_of (ps ++ p ∷ []) (items ++ is ∷ []) ≡ streams_of ps items ++ record { processor = p; items = is } ∷ []
streams_push [] [] p is h = refl
streams_push [] (js ∷ items) p is h = absurd (omega arith)
streams_push (q ∷ ps) [] p is h = absurd (omega arith)
streams_push (q ∷ ps) (js ∷ items) p is h = ap (λ l. record { processor = q; items = js } ∷ l) (streams_push ps items p is (let z : length items ≡ length ps = omega arith in z))

pub streams_take : (k : ℕ) (ps : List ℕ) (items : List (List StreamItem)) → streams_of (take k ps) (take k items) ≡ take k (streams_of ps items)
streams_take zero ps items = refl
streams_take (suc k) [] items = refl
streams_take (suc k) (p ∷ ps) [] = refl
streams_take (suc k) (p ∷ ps) (is ∷ items) = ap (λ l. record { processor = p; items = is } ∷ l) (streams_take k ps items)

pub stream_at : (ps : List ℕ) (items : List (List StreamItem)) (k : ℕ) → length items ≡ length ps → k < length ps → (d : ℕ) → get_or (streams_of ps items) k no_stream ≡ record { processor = get_or ps k d; items = get_or items k [] }
stream_at [] items k h l d = absurd (omega arith)
stream_at (p ∷ ps) [] k h l d = absurd (omega arith)
stream_at (p ∷ ps) (is ∷ items) zero h l d = refl
stream_at (p ∷ ps) (is ∷ items) (suc k) h l d = stream_at ps items k (let z : length items ≡ length ps = omega arith in z) (omega arith) d

-- ---- blocks

pub blocks_length : (ns : List Next) (ts : List (List Tuple)) (ms : List (List ℕ)) (ss : List (List Stream)) → length ts ≡ length ns → length ms ≡ length ns → length ss ≡ length ns → length (blocks_of ns ts ms ss) ≡ length ns
blocks_length [] ts ms ss h k l = refl
blocks_length (n ∷ ns) [] ms ss h k l = absurd (omega arith)
blocks_length (n ∷ ns) (t ∷ ts) [] ss h k l = absurd (omega arith)
blocks_length (n ∷ ns) (t ∷ ts) (m ∷ ms) [] h k l = absurd (omega arith)
blocks_length (n ∷ ns) (t ∷ ts) (m ∷ ms) (s ∷ ss) h k l = ap suc (blocks_length ns ts ms ss (let z : length ts ≡ length ns = omega arith in z) (let z : length ms ≡ length ns = omega arith in z) (let z : length ss ≡ length ns = omega arith in z))

pub blocks_push : (ns : List Next) (ts : List (List Tuple)) (ms : List (List ℕ)) (ss : List (List Stream)) (n : Next) (t : List Tuple) (m : List ℕ) (s : List Stream) → length ts ≡ length ns → length ms ≡ length ns → length ss ≡ length ns → blocks_of (ns ++ n ∷ []) (ts ++ t ∷ []) (ms ++ m ∷ []) (ss ++ s ∷ []) ≡ blocks_of ns ts ms ss ++ record { block = record { tuples = t; next = n }; streams = s; masks = m } ∷ []
blocks_push [] [] [] [] n t m s h k l = refl
blocks_push [] [] [] (s' ∷ ss) n t m s h k l = absurd (omega arith)
blocks_push [] [] (m' ∷ ms) ss n t m s h k l = absurd (omega arith)
blocks_push [] (t' ∷ ts) ms ss n t m s h k l = absurd (omega arith)
blocks_push (n' ∷ ns) [] ms ss n t m s h k l = absurd (omega arith)
blocks_push (n' ∷ ns) (t' ∷ ts) [] ss n t m s h k l = absurd (omega arith)
blocks_push (n' ∷ ns) (t' ∷ ts) (m' ∷ ms) [] n t m s h k l = absurd (omega arith)
blocks_push (n' ∷ ns) (t' ∷ ts) (m' ∷ ms) (s' ∷ ss) n t m s h k l = ap (λ x. record { block = record { tuples = t'; next = n' }; streams = s'; masks = m' } ∷ x) (blocks_push ns ts ms ss n t m s (let z : length ts ≡ length ns = omega arith in z) (let z : length ms ≡ length ns = omega arith in z) (let z : length ss ≡ length ns = omega arith in z))

pub block_at : (ns : List Next) (ts : List (List Tuple)) (ms : List (List ℕ)) (ss : List (List Stream)) (b : ℕ) → length ts ≡ length ns → length ms ≡ length ns → length ss ≡ length ns → b < length ns → (d : Next) → held_at (blocks_of ns ts ms ss) b ≡ record { block = record { tuples = get_or ts b []; next = get_or ns b d }; streams = get_or ss b []; masks = get_or ms b [] }
block_at [] ts ms ss b h k l i d = absurd (omega arith)
block_at (n ∷ ns) [] ms ss b h k l i d = absurd (omega arith)
block_at (n ∷ ns) (t ∷ ts) [] ss b h k l i d = absurd (omega arith)
block_at (n ∷ ns) (t ∷ ts) (m ∷ ms) [] b h k l i d = absurd (omega arith)
block_at (n ∷ ns) (t ∷ ts) (m ∷ ms) (s ∷ ss) zero h k l i d = refl
block_at (n ∷ ns) (t ∷ ts) (m ∷ ms) (s ∷ ss) (suc b) h k l i d = block_at ns ts ms ss b (let z : length ts ≡ length ns = omega arith in z) (let z : length ms ≡ length ns = omega arith in z) (let z : length ss ≡ length ns = omega arith in z) (omega arith) d

-- ---- pushes that are done or not

-- what stood before stands in front
pub begins : {A E : Type 0} (old new : List A) (x : A) (r : Result (Unit {0}) E) → OnOk r (new ≡ old ++ x ∷ []) → OnErr r (new ≡ old) → take (length old) new ≡ old
begins old new x (Ok u) ok err = ap (take (length old)) ok ∙ front_taken old (x ∷ [])
begins old new x (Err e) ok err = ap (take (length old)) err ∙ all_taken old (length old) (omega arith)

-- ---- the stream of a processor

pub streams_long : (ps : List ℕ) (items : List (List StreamItem)) (ss : List Stream) → length items ≡ length ps → streams_of ps items ≡ ss → length ss ≡ length ps
streams_long ps items ss h e = ap length (sym e) ∙ streams_length ps items h

pub stream_in : (ps : List ℕ) (items : List (List StreamItem)) (ss : List Stream) (k d : ℕ) → length items ≡ length ps → streams_of ps items ≡ ss → k < length ss → get_or ss k no_stream ≡ record { processor = get_or ps k d; items = get_or items k [] }
stream_in ps items ss k d h e l = let n = streams_long ps items ss h e in ap (λ xs. get_or xs k no_stream) (sym e) ∙ stream_at ps items k h (omega (arith, n, l)) d

pub found_here : (ss : List Stream) (k to p : ℕ) → k < to → to ≤ length ss → (get_or ss k no_stream).processor ≡ p → items_of (slice_range ss k to) p ≡ (get_or ss k no_stream).items
found_here ss k to p l m e = ap (λ xs. items_of xs p) (range_next ss k to no_stream l m) ∙ ap (λ b. if b then (get_or ss k no_stream).items else items_of (slice_range ss (k + 1) to) p) (same (get_or ss k no_stream).processor p e)
  where
    same : (q p : ℕ) → q ≡ p → (q == p) ≡ true
    same q p h = grind (arith, nat_tests)

pub found_later : (ss : List Stream) (k to p : ℕ) → k < to → to ≤ length ss → ((get_or ss k no_stream).processor ≡ p → ⊥) → items_of (slice_range ss k to) p ≡ items_of (slice_range ss (k + 1) to) p
found_later ss k to p l m e = ap (λ xs. items_of xs p) (range_next ss k to no_stream l m) ∙ ap (λ b. if b then (get_or ss k no_stream).items else items_of (slice_range ss (k + 1) to) p) (apart (get_or ss k no_stream).processor p e)
  where
    apart : (q p : ℕ) → (q ≡ p → ⊥) → (q == p) ≡ false
    apart q p h = grind (arith, nat_tests)
