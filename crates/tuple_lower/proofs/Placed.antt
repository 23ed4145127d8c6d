-- What a lowered statement does: tuples that are put into a block, and pieces one behind the other.
use Rattle.std.proofs.Common.{◌≡◌, ◌≤◌, ◌+◌, ◌-◌, ℕ, ℤ, Bool, true, false, List, [], ◌∷◌, ◌++◌, length, refl, sym, ap, subst, ◌∙◌, arith, append_assoc, append-nil, length-append}
use Rattle.std.specs.Prelude.{if◌then◌else◌, nat_le}
use Rattle.std.proofs.lemmas.Bool.Decides.{nat_tests}
use Rattle.bm_base.specs.Memory.{Content}
use Rattle.src_meaning.specs.declared.evaluate.End.{End}
use Rattle.src_meaning.specs.declared.evaluate.End.TheVariants.{Done, More}
use Rattle.src_meaning.specs.Meaning.{Outcome, Action, behind, continued, and_then}
use Rattle.tuple_ir.specs.declared.block.Block.{Block}
use Rattle.tuple_ir.specs.declared.block.Next.TheVariants.{Goto}
use Rattle.tuple_ir.specs.declared.tuple.Tuple as t
use Rattle.tuple_ir.specs.World.{World}
use Rattle.tuple_ir.specs.Serial.{block_at}
use Rattle.tuple_ir.proofs.Serial.{serial_shape}
use Rattle.tuple_lower.specs.Lowered.{Row}
use Rattle.tuple_lower.specs.Blocks.{Piece, Lowering, block, cut, put, then_lower, current_of}
use Rattle.tuple_lower.proofs.Serially.{after_all, after_all-append, serial-is}
use Rattle.tuple_lower.proofs.Count.{Within, within-nil, within-one, within-more, within-append}
use Rattle.tuple_lower.proofs.Reach.{Reaches, reaches-then, reaches-one, StandFrom, stand-left, stand-right, Holds, Begins, first_begins}
use Rattle.tuple_lower.proofs.Does.{RowDoes}

-- From the entry of block b all the piece's ended blocks ran, and its current block is entered; its tuples give the memory and the output of
-- what was done.
pub record Arrives (blocks : List Block) (b : ℕ) (e : World) (shown : List ℤ) (p : Piece) (n : ℕ) (o : Outcome) : Type 0 where
  pub trail : List ℕ
  pub here : World
  pub reaches : Reaches blocks b e trail (b + length p.ended) here
  pub room : length here.cells ≡ 128
  pub memory : (after_all 0 p.current here).memory ≡ o.memory
  pub output : (after_all 0 p.current here).output ≡ shown ++ o.output
  pub left : o.turns ≤ n
  pub within : Within b (b + length p.ended) trail (n - o.turns + 1)
  pub long : n ≤ length trail + o.turns

-- all turns are spent: some block is entered, and the output is that of the source
pub record Remains (blocks : List Block) (b : ℕ) (e : World) (shown : List ℤ) (p : Piece) (n : ℕ) (o : Outcome) : Type 0 where
  pub trail : List ℕ
  pub place : ℕ
  pub here : World
  pub reaches : Reaches blocks b e trail place here
  pub output : here.output ≡ shown ++ o.output
  pub within : Within b (b + length p.ended) trail (n + 1)
  pub long : n + 1 ≤ length trail

abbrev pub comes : End → List Block → ℕ → World → List ℤ → Piece → ℕ → Outcome → Type 0
comes Done blocks b e shown p n o = Arrives blocks b e shown p n o
comes More blocks b e shown p n o = Remains blocks b e shown p n o

abbrev pub Comes : List Block → ℕ → World → List ℤ → Piece → ℕ → Outcome → Type 0
Comes blocks b e shown p n o = comes o.end blocks b e shown p n o

-- Wherever the piece stands, it does what is to be done: from the entry of its first block with a world from which the tuples so far give
-- the memory and the output before it.
abbrev pub Performs : Lowering → Action → Type 0
Performs l a = (blocks : List Block) (b : ℕ) (ts : List t.Tuple) (e : World) (n : ℕ) → length e.cells ≡ 128 → length ts ≤ 128 → Holds blocks b (l b ts) → Comes blocks b e (after_all 0 ts e).output (l b ts) n (a n (after_all 0 ts e).memory)

-- the current block stays within its room, and the first block begins with the tuples so far
pub record Tidy (l : Lowering) : Type 0 where
  pub fits : (b : ℕ) (ts : List t.Tuple) → length ts ≤ 128 → length (l b ts).current ≤ 128
  pub begins : (b : ℕ) (ts : List t.Tuple) → Begins (l b ts).ended (l b ts).current ts

pub after_room : (ts : List t.Tuple) (w : World) → length w.cells ≡ 128 → length (after_all 0 ts w).cells ≡ 128
after_room ts w room = ap (λ x. length x.cells) (sym (serial-is ts w)) ∙ ap (λ q. q.0) (serial_shape ts w (length ts)) ∙ room

-- ---- a cut

pub record Cuts (blocks : List Block) (b : ℕ) (e : World) (ts : List t.Tuple) (q : Piece) : Type 0 where
  pub trail : List ℕ
  pub here : World
  pub reaches : Reaches blocks b e trail (b + length q.ended) here
  pub room : length here.cells ≡ 128
  pub same : after_all 0 q.current here ≡ after_all 0 ts e
  pub within : Within b (b + length q.ended) trail 1

abbrev pub cut_if : Bool → ℕ → List t.Tuple → Piece
cut_if c b ts = if c then record { ended = []; current = ts } else record { ended = block ts (Goto (b + 1)) ∷ []; current = [] }

cut_cases : (blocks : List Block) (b : ℕ) (e : World) (ts : List t.Tuple) (c : Bool) → length e.cells ≡ 128 → StandFrom blocks b (cut_if c b ts).ended → Cuts blocks b e ts (cut_if c b ts)
cut_cases blocks b e ts true room h = record {
  trail = [];
  here = e;
  reaches = (let n : b ≡ b + 0 = omega arith in n, refl);
  room = room;
  same = refl;
  within = within-nil b (b + 0) 1;
}
cut_cases blocks b e ts false room h = record {
  trail = b ∷ [];
  here = after_all 0 ts e;
  reaches = reaches-one blocks b ts (Goto (b + 1)) e (after_all 0 ts e) (b + 1) h.0 refl refl;
  room = after_room ts e room;
  same = refl;
  within = within-one b b (b + 1) 1 (omega arith) (omega arith) (omega arith);
}

pub cut_comes : (blocks : List Block) (b : ℕ) (e : World) (ts : List t.Tuple) (m : ℕ) → length e.cells ≡ 128 → StandFrom blocks b (cut m b ts).ended → Cuts blocks b e ts (cut m b ts)
cut_comes blocks b e ts m room h = cut_cases blocks b e ts (nat_le (length ts + m) 128) room h

fits_cases : (c : Bool) (b m : ℕ) (ts : List t.Tuple) → (c ≡ true → length ts + m ≤ 128) → m ≤ 128 → length (cut_if c b ts).current + m ≤ 128
fits_cases true b m ts h k = h refl
fits_cases false b m ts h k = omega (arith, k)

pub cut_fits : (b m : ℕ) (ts : List t.Tuple) → m ≤ 128 → length (cut m b ts).current + m ≤ 128
cut_fits b m ts h = fits_cases (nat_le (length ts + m) 128) b m ts (λ q. grind (arith, nat_tests)) h

begins_cases : (c : Bool) (b : ℕ) (ts us : List t.Tuple) → Begins (cut_if c b ts).ended ((cut_if c b ts).current ++ us) ts
begins_cases true b ts us = (us, refl)
begins_cases false b ts us = ([], sym (append-nil ts))

pub put_begins : (row : Row) (b : ℕ) (ts : List t.Tuple) → Begins (put row b ts).ended (put row b ts).current ts
put_begins row b ts = begins_cases (nat_le (length ts + length (row (length ts))) 128) b ts (row (length (cut (length (row (length ts))) b ts).current))

-- ---- a row that is put

-- a row has as many tuples wherever it stands
pub record HasSize (row : Row) (size : ℕ) : Type 0 where
  pub size_is : (n : ℕ) → length (row n) ≡ size
  pub few : size ≤ 128

pub put_fits : (row : Row) (size b : ℕ) (ts : List t.Tuple) → HasSize row size → length (put row b ts).current ≤ 128
put_fits row size b ts h =
    let m = length (row (length ts)) in
    let q = cut m b ts in
    let k = length q.current in
    let s1 = h.size_is (length ts) in
    let s2 = h.size_is k in
    let few = h.few in
    let c = cut_fits b m ts (omega (arith, s1, few)) in
    let l = length-append q.current (row k) in
    omega (arith, s1, s2, c, l)

-- the row's tuples run behind the tuples so far
pub record PutRuns (blocks : List Block) (b : ℕ) (e : World) (ts : List t.Tuple) (row : Row) (p : Piece) : Type 0 where
  pub trail : List ℕ
  pub here : World
  pub reaches : Reaches blocks b e trail (b + length p.ended) here
  pub room : length here.cells ≡ 128
  pub from : ℕ
  pub fits : from + length (row from) ≤ 128
  pub whole : length p.current ≡ from + length (row from)
  pub runs : after_all 0 p.current here ≡ after_all from (row from) (after_all 0 ts e)
  pub within : Within b (b + length p.ended) trail 1

pub put_runs : (blocks : List Block) (b : ℕ) (e : World) (ts : List t.Tuple) (row : Row) (size : ℕ) → HasSize row size → length e.cells ≡ 128 → StandFrom blocks b (put row b ts).ended → PutRuns blocks b e ts row (put row b ts)
put_runs blocks b e ts row size h room stands =
    let m = length (row (length ts)) in
    let q = cut m b ts in
    let k = length q.current in
    let c = cut_comes blocks b e ts m room stands in
    let s1 = h.size_is (length ts) in
    let s2 = h.size_is k in
    let few = h.few in
    let fits = cut_fits b m ts (omega (arith, s1, few)) in
    let n : 0 + k ≡ k = omega arith in
    record {
      trail = c.trail;
      here = c.here;
      reaches = c.reaches;
      room = c.room;
      from = k;
      fits = omega (arith, s1, s2, fits);
      whole = length-append q.current (row k);
      runs = after_all-append 0 q.current (row k) c.here ∙ ap (λ w. after_all (0 + k) (row k) w) c.same ∙ ap (λ j. after_all j (row k) (after_all 0 ts e)) n;
      within = c.within;
    }

-- what a row does is done in one go, and spends no turn
pub record Puts (row : Row) (size : ℕ) (a : Action) : Type 0 where
  pub has_size : HasSize row size
  pub does : RowDoes row a
  pub spends : (n : ℕ) (memory : List Content) → (a n memory).turns ≡ n

pub put_performs : (row : Row) (size : ℕ) (a : Action) → Puts row size a → Performs (put row) a
put_performs row size a h blocks b ts e n room few holds =
    let r = put_runs blocks b e ts row size h.has_size room holds.ended in
    let w = after_all 0 ts e in
    let d = h.does r.from w n (after_room ts e room) r.fits in
    let o = a n w.memory in
    let left : o.turns ≡ n = h.spends n w.memory in
    let here : Arrives blocks b e w.output (put row b ts) n o = record {
      trail = r.trail;
      here = r.here;
      reaches = r.reaches;
      room = r.room;
      memory = ap (λ x. x.memory) r.runs ∙ d.same_memory;
      output = ap (λ x. x.output) r.runs ∙ d.more_output;
      left = omega (arith, left);
      within = within-more b (b + length (put row b ts).ended) 1 b (b + length (put row b ts).ended) (n - o.turns + 1) r.trail (omega arith) (omega arith) (omega arith) r.within;
      long = omega (arith, left);
    } in
    subst (λ end. comes end blocks b e w.output (put row b ts) n o) (sym d.end) here

pub put_tidy : (row : Row) (size : ℕ) → HasSize row size → Tidy (put row)
put_tidy row size h = record { fits = λ b ts l. put_fits row size b ts h; begins = put_begins row }

-- ---- pieces one behind the other

pub done_as : (blocks : List Block) (b : ℕ) (e : World) (shown : List ℤ) (p : Piece) (n : ℕ) (o : Outcome) (end : End) → o.end ≡ end → comes end blocks b e shown p n o → Comes blocks b e shown p n o
done_as blocks b e shown p n o end is h = subst (λ x. comes x blocks b e shown p n o) (sym is) h

module _ (blocks : List Block) (b : ℕ) (e : World) (shown : List ℤ) (p q : Piece) (n : ℕ) (o : Outcome) where
  abbrev whole : Piece
  whole = record { ended = p.ended ++ q.ended; current = q.current }

  place_is : b + length p.ended + length q.ended ≡ b + length (p.ended ++ q.ended)
  place_is = let l = length-append p.ended q.ended in omega (arith, l)

  more_then : (end : End) (oc : Outcome) (x : Arrives blocks b e shown p n o) → comes end blocks (b + length p.ended) x.here (after_all 0 p.current x.here).output q o.turns oc → comes end blocks b e shown whole n (behind o.output oc)
  more_then Done oc x y =
      let mid = b + length p.ended in
      let hi = b + length (p.ended ++ q.ended) in
      let left1 = x.left in
      let left2 = y.left in
      let long1 = x.long in
      let long2 = y.long in
      let l = length-append x.trail y.trail in
      let n2 = place_is in
      record {
        trail = x.trail ++ y.trail;
        here = y.here;
        reaches = reaches-then blocks x.trail y.trail b mid hi e x.here y.here x.reaches (subst (λ j. Reaches blocks mid x.here y.trail j y.here) place_is y.reaches);
        room = y.room;
        memory = y.memory;
        output = y.output ∙ ap (λ s. s ++ oc.output) x.output ∙ append_assoc shown o.output oc.output;
        left = omega (arith, left1, left2);
        within = within-append b mid hi (n - oc.turns + 1) x.trail y.trail (omega arith) (omega (arith, n2))
            (within-more b mid (n - o.turns + 1) b mid (n - oc.turns + 1) x.trail (omega arith) (omega arith) (omega (arith, left1, left2)) x.within)
            (within-more mid (mid + length q.ended) (o.turns - oc.turns + 1) mid hi (n - oc.turns + 1) y.trail (omega arith) (omega (arith, n2)) (omega (arith, left1, left2)) y.within);
        long = omega (arith, long1, long2, l);
      }
  more_then More oc x y =
      let mid = b + length p.ended in
      let hi = b + length (p.ended ++ q.ended) in
      let left1 = x.left in
      let long1 = x.long in
      let long2 = y.long in
      let l = length-append x.trail y.trail in
      let n2 = place_is in
      record {
        trail = x.trail ++ y.trail;
        place = y.place;
        here = y.here;
        reaches = reaches-then blocks x.trail y.trail b mid y.place e x.here y.here x.reaches y.reaches;
        output = y.output ∙ ap (λ s. s ++ oc.output) x.output ∙ append_assoc shown o.output oc.output;
        within = within-append b mid hi (n + 1) x.trail y.trail (omega arith) (omega (arith, n2))
            (within-more b mid (n - o.turns + 1) b mid (n + 1) x.trail (omega arith) (omega arith) (omega (arith, left1)) x.within)
            (within-more mid (mid + length q.ended) (o.turns + 1) mid hi (n + 1) y.trail (omega arith) (omega (arith, n2)) (omega (arith, left1)) y.within);
        long = omega (arith, long1, long2, l);
      }

  module _ (c : Action) (rest : (here : World) (k : ℕ) → length here.cells ≡ 128 → Comes blocks (b + length p.ended) here (after_all 0 p.current here).output q k (c k (after_all 0 p.current here).memory)) where
    then_cases : (end : End) → o.end ≡ end → comes end blocks b e shown p n o → Comes blocks b e shown whole n (continued end o c)
    then_cases Done is x =
        let oc = c o.turns o.memory in
        let next : Comes blocks (b + length p.ended) x.here (after_all 0 p.current x.here).output q o.turns oc = subst (λ m. Comes blocks (b + length p.ended) x.here (after_all 0 p.current x.here).output q o.turns (c o.turns m)) x.memory (rest x.here o.turns x.room) in
        more_then oc.end oc x next
    then_cases More is x =
        let n2 = place_is in
        let here : Remains blocks b e shown whole n o = record {
          trail = x.trail;
          place = x.place;
          here = x.here;
          reaches = x.reaches;
          output = x.output;
          within = within-more b (b + length p.ended) (n + 1) b (b + length (p.ended ++ q.ended)) (n + 1) x.trail (omega arith) (omega (arith, n2)) (omega arith) x.within;
          long = x.long;
        } in
        done_as blocks b e shown whole n o More is here

pub then_performs : (l m : Lowering) (a c : Action) → Tidy l → Tidy m → Performs l a → Performs m c → Performs (λ b ts. then_lower b (l b ts) m) (λ n memory. and_then (a n memory) c)
then_performs l m a c tl tm f g blocks b ts e n room few holds =
    let p = l b ts in
    let mid = b + length p.ended in
    let q = m mid p.current in
    let w = after_all 0 ts e in
    let o = a n w.memory in
    let left = stand-left blocks p.ended q.ended b holds.ended in
    let right = stand-right blocks p.ended q.ended b holds.ended in
    let at : b + length (p.ended ++ q.ended) ≡ mid + length q.ended = let k = length-append p.ended q.ended in omega (arith, k) in
    let last : (block_at blocks (mid + length q.ended)).tuples ≡ q.current ++ holds.more = ap (λ j. (block_at blocks j).tuples) (sym at) ∙ holds.current in
    let hq : Holds blocks mid q = record { ended = right; more = holds.more; current = last } in
    let fb = first_begins blocks mid q.ended q.current p.current right holds.more last (tm.begins mid p.current) in
    let hp : Holds blocks b p = record { ended = left; more = fb.0; current = fb.1 } in
    let first : Comes blocks b e w.output p n o = f blocks b ts e n room few hp in
    then_cases blocks b e w.output p q n o c (λ here k r. g blocks mid p.current here k r (tl.fits b ts few) hq) o.end refl first

begins_then : (x y : List Block) (current now ts : List t.Tuple) → Begins x current ts → Begins y now current → Begins (x ++ y) now ts
begins_then [] [] current now ts (m, e) (k, f) = (m ++ k, f ∙ ap (λ l. l ++ k) e ∙ append_assoc ts m k)
begins_then [] (y ∷ ys) current now ts (m, e) (k, f) = (m ++ k, f ∙ ap (λ l. l ++ k) e ∙ append_assoc ts m k)
begins_then (x ∷ xs) y current now ts h k = h

pub then_tidy : (l m : Lowering) → Tidy l → Tidy m → Tidy (λ b ts. then_lower b (l b ts) m)
then_tidy l m tl tm = record {
  fits = λ b ts k. tm.fits (current_of b (l b ts)) (l b ts).current (tl.fits b ts k);
  begins = λ b ts. begins_then (l b ts).ended (m (current_of b (l b ts)) (l b ts).current).ended (l b ts).current (m (current_of b (l b ts)) (l b ts).current).current ts (tl.begins b ts) (tm.begins (current_of b (l b ts)) (l b ts).current);
}
