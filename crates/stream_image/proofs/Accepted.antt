-- What is accepted is held, and what a line gives is held.
use Rattle.std.proofs.Common.{◌≡◌, ℕ, zero, suc, ◌+◌, ◌-◌, ◌<◌, ◌≤◌, ◌^◌, Bool, true, false, nat_eq, List, [], ◌∷◌, ◌++◌, map, All, length, Option, Some, None, Result, Ok, Err, OnOk, OnErr, refl, sym, ap, ap₂, ◌∙◌, arith, ◌⊎◌, inl, inr, subst, eq-eqb, cond}
use Rattle.std.specs.Prelude.{◌==◌, nat_lt}
use Rattle.std.specs.List.{AllByRecursion}
use Rattle.std.proofs.lemmas.Bool.{cases_lt}
use Rattle.std.proofs.lemmas.Bool.Decides.{nat_tests}
use Rattle.std.proofs.lemmas.List.Elements.{All-from_recursion, All-head, All-tail}
use Rattle.bm_base.specs.Mask.{has_bit}
use Rattle.bm_base.specs.Entry.{Entry}
use Rattle.bm_base.specs.Machine.{Machine}
use Rattle.tuple_ir.specs.declared.tuple.Tuple.{Tuple}
use Rattle.tuple_ir.specs.declared.block.Block.{Block}
use Rattle.tuple_ir.specs.declared.block.Next.{Next}
use Rattle.tuple_ir.specs.declared.block.Next.TheVariants.{Halt, Goto, If}
use Rattle.tuple_ir.specs.Sound.{leads_below}
use Rattle.line_model.specs.declared.line.Item.{Item}
use Rattle.line_model.specs.declared.line.Item.TheVariants.{Run, Bar}
use Rattle.line_model.specs.declared.line.StreamItem.{StreamItem}
use Rattle.line_model.specs.declared.line.StreamItem.TheVariants.{Do, Wait}
use Rattle.line_model.specs.Streams.{stream, masks, own}
use Rattle.time_interval.specs.Bounds.{pace_on}
use Rattle.time_interval.specs.Lines.{IsItem, tuples}
use Rattle.time_interval.specs.Laws.{AreAlike}
use Rattle.time_interval.proofs.AlikeOrder.{alike_order}
use Rattle.time_interval.proofs.Once.{stand_once}
use Rattle.unit_law.specs.State.{Program}
use Rattle.stream_image.specs.declared.given.Stream.{Stream}
use Rattle.stream_image.specs.Flat.{HeldBlock}
use Rattle.stream_image.specs.declared.fault.ImageFault.{ImageFault}
use Rattle.stream_image.specs.declared.fault.ImageFault.{ImageFault}
use Rattle.stream_image.specs.Check.{first_fault, waits_in, masks_of}
use Rattle.stream_image.specs.Keeps.{AreItems, count_in}
use Rattle.stream_image.specs.Firsts.{count_of}
use Rattle.stream_image.specs.Line.{items_of, line_of, AreIncreasing}
use Rattle.stream_image.specs.Image.{IsKept, with_line}
use Rattle.stream_image.specs.Held.{IsHeld, AreHeld, AllLeadBelow, line_held, program_of}
use Rattle.stream_image.specs.declared.order.Wrong.TheVariants.{Turned, Loose}
use Rattle.stream_image.specs.Refused.IsRefused.{unkept, unordered}
use Rattle.stream_image.specs.Refused.IsOrderFault.{turned, loose}
use Rattle.stream_image.proofs.OrderPairs.{never_both}
use Rattle.stream_image.proofs.Once.{some_none}
use Rattle.stream_image.specs.Refused.{IsRefused, line_in, IsAccepted, bad_target, target_at, target_from}
use Rattle.stream_image.specs.Sorted.{AreLined}
use Rattle.stream_image.proofs.Keeping.{keeps_all}
use Rattle.stream_image.proofs.LineStreams.{AreEven, stream_is, stream_past, masks_are, line_same, even_line}
use Rattle.stream_image.proofs.LineCounts.{IsBelow, total, line_count, line_items, distinct_of, count_distinct, contains_of, count_contains}
use Rattle.stream_image.proofs.LineKept.{tuple_sound, cell_sound, even, line_is, all_stand, mask_items}
use Rattle.stream_image.proofs.ImageFacts.{each_push, long_map}

pub accepted_held : (m : Program) (block : Block) (ss : List Stream) (ms : List ℕ) → m.machine.processors ≤ 128 → AreItems ss → AreIncreasing ss → length block.tuples ≤ 128 → length ms ≤ 128 → IsAccepted m block ss ms → IsHeld m.machine m.names (record { block = block; streams = ss; masks = ms })
accepted_held m block ss ms most items up few short h =
    let k = keeps_all (length m.blocks) m.names m.machine.processors block.tuples block.next ss ms items h.kept in
    record {
      kept = record {
        few = few;
        operands = λ i t e. tuple_sound m.names block.tuples i t (k.operands i t e);
        cell = cell_sound block.tuples block.next k.cell;
        is_line = line_is k items up few most short;
        whole = all_stand k items up few;
        ordered = h.ordered.none_loose;
      };
      even = even k items up few;
    }

pub held_more : (machine : Machine) (names : List Entry) (held more : List HeldBlock) (h : HeldBlock) → more ≡ held ++ h ∷ [] → length held < 2 ^ 32 - 1 → AreHeld machine names held → IsHeld machine names h → AreHeld machine names more
held_more machine names held more h e l k x = subst (AreHeld machine names) (sym e) (record { each = each_push (IsHeld machine names) held h k.each x; few = let n = longer held in omega arith })
  where
    longer : (xs : List HeldBlock) → length (xs ++ h ∷ []) ≡ length xs + 1
    longer [] = refl
    longer (x ∷ xs) = let e = longer xs in omega arith

-- a push that is done or not
pub after_push : {A E : Type 0} (P : List A → Type 0) (old new more : List A) (r : Result (Unit {0}) E) → OnOk r (new ≡ more) → OnErr r (new ≡ old) → P old → P more → P new
after_push P old new more (Ok u) ok err h k = subst P (sym ok) k
after_push P old new more (Err e) ok err h k = subst P (sym err) h

pub map_push : {A B : Type 0} (f : A → B) (xs : List A) (x : A) → map f (xs ++ x ∷ []) ≡ map f xs ++ f x ∷ []
map_push f [] x = refl
map_push f (y ∷ xs) x = ap (λ l. f y ∷ l) (map_push f xs x)

-- ---- targets

leads_of : (count : ℕ) (next : Next) → bad_target count next ≡ None → leads_below count next
leads_of count Halt h = tt
leads_of count (Goto b) h = go (nat_lt b count) refl h
  where
    go : (t : Bool) → nat_lt b count ≡ t → cond t None (Some b) ≡ None → b < count
    go true e k = grind (arith, nat_tests)
    go false e k = absurd (cc)
leads_of count (If c one other) h = go (nat_lt one count) (nat_lt other count) refl refl h
  where
    below : (a : ℕ) → nat_lt a count ≡ true → a < count
    below a e = grind (arith, nat_tests)

    go : (t u : Bool) → nat_lt one count ≡ t → nat_lt other count ≡ u → cond t (cond u None (Some other)) (Some one) ≡ None → (one < count) × (other < count)
    go true true e f k = (below one e, below other f)
    go true false e f k = absurd (cc)
    go false u e f k = absurd (cc)

pub no_target : (count b : ℕ) (held : List HeldBlock) → target_from count b (map (λ h. h.block) held) ≡ None → AllLeadBelow count held
no_target count b [] h = tt
no_target count b (x ∷ held) h = go (bad_target count x.block.next) refl h (no_target count (b + 1) held)
  where
    go : (o : Option ℕ) → bad_target count x.block.next ≡ o → target_at b o (target_from count (b + 1) (map (λ h. h.block) held)) ≡ None → (target_from count (b + 1) (map (λ h. h.block) held) ≡ None → AllLeadBelow count held) → AllLeadBelow count (x ∷ held)
    go (Some t) e k r = absurd (cc)
    go None e k r = (leads_of count x.block.next e, r k)

-- ---- the line of the streams and masks of a line

pub stream_none : (c n p : ℕ) (line : List Item) → n ≤ p → All (IsItem c n) line → stream p line ≡ []
stream_none c n p [] l h = refl
stream_none c n p (Run q t ∷ items) l h = ap (λ b. own b (Do t) (stream p items)) (apart q p (λ e. let k = (All-head (IsItem c n) (Run q t) items h).0 in let x : q ≡ p = e in absurd (omega arith))) ∙ stream_none c n p items l (All-tail (IsItem c n) (Run q t) items h)
  where
    apart : (q p : ℕ) → (q ≡ p → ⊥) → (q == p) ≡ false
    apart q p h = grind (arith, nat_tests)
stream_none c n p (Bar m ∷ items) l h = ap (λ b. own b Wait (stream p items)) (outside (has_bit m p) refl) ∙ stream_none c n p items l (All-tail (IsItem c n) (Bar m) items h)
  where
    outside : (b : Bool) → has_bit m p ≡ b → has_bit m p ≡ false
    outside true e = let k = (All-head (IsItem c n) (Bar m) items h).1 p e in absurd (omega arith)
    outside false e = e

masks_none : (c n p : ℕ) (line : List Item) → n ≤ p → All (IsItem c n) line → AllByRecursion (λ m. has_bit m p ≡ false) (masks line)
masks_none c n p [] l h = tt
masks_none c n p (Run q t ∷ items) l h = masks_none c n p items l (All-tail (IsItem c n) (Run q t) items h)
masks_none c n p (Bar m ∷ items) l h = (outside (has_bit m p) refl, masks_none c n p items l (All-tail (IsItem c n) (Bar m) items h))
  where
    outside : (b : Bool) → has_bit m p ≡ b → has_bit m p ≡ false
    outside true e = let k = (All-head (IsItem c n) (Bar m) items h).1 p e in absurd (omega arith)
    outside false e = e

pub masks_items : (c n : ℕ) (line : List Item) → All (IsItem c n) line → AllByRecursion (λ m. IsItem c n (Bar m)) (masks line)
masks_items c n [] h = tt
masks_items c n (Run q t ∷ items) h = masks_items c n items (All-tail (IsItem c n) (Run q t) items h)
masks_items c n (Bar m ∷ items) h = (All-head (IsItem c n) (Bar m) items h, masks_items c n items (All-tail (IsItem c n) (Bar m) items h))

pub streams_below : (c n p : ℕ) (line : List Item) → All (IsItem c n) line → AllByRecursion (IsBelow c) (stream p line)
streams_below c n p [] h = tt
streams_below c n p (Run q t ∷ items) h = go (nat_eq q p) (streams_below c n p items (All-tail (IsItem c n) (Run q t) items h))
  where
    go : (b : Bool) → AllByRecursion (IsBelow c) (stream p items) → AllByRecursion (IsBelow c) (own b (Do t) (stream p items))
    go true r = ((All-head (IsItem c n) (Run q t) items h).1, r)
    go false r = r
streams_below c n p (Bar m ∷ items) h = go (has_bit m p) (streams_below c n p items (All-tail (IsItem c n) (Bar m) items h))
  where
    go : (b : Bool) → AllByRecursion (IsBelow c) (stream p items) → AllByRecursion (IsBelow c) (own b Wait (stream p items))
    go true r = (tt, r)
    go false r = r

-- one processor has one tuple more
total_point : (n t q k : ℕ) (f g : ℕ → List StreamItem) → q < n → ((p : ℕ) → (q ≡ p → ⊥) → count_in t (f p) ≡ count_in t (g p)) → count_in t (f q) ≡ k + count_in t (g q) → total n t f ≡ k + total n t g
total_point zero t q k f g l h e = absurd (omega arith)
total_point (suc m) t q k f g l h e = go (cases_lt q m) (λ x. total_point m t q k f g x h e)
  where
    equal : (n : ℕ) → n ≤ q → total n t f ≡ total n t g
    equal zero x = refl
    equal (suc n) x = let a = equal n (omega arith) in let b = h n (λ y. let z : q ≡ n = y in absurd (omega arith)) in omega arith

    go : (q < m) ⊎ (m ≤ q) → (q < m → total m t f ≡ k + total m t g) → total m t f + count_in t (f m) ≡ k + (total m t g + count_in t (g m))
    go (inl x) r = let a = r x in let b = h m (λ y. let z : q ≡ m = y in absurd (omega arith)) in omega arith
    go (inr x) r =
        let s : q ≡ m = omega arith in
        let a = equal m x in
        let b : count_in t (f m) ≡ k + count_in t (g m) = subst (λ z. count_in t (f z) ≡ k + count_in t (g z)) s e in
        omega arith

total_alike : (n t : ℕ) (f g : ℕ → List StreamItem) → ((p : ℕ) → count_in t (f p) ≡ count_in t (g p)) → total n t f ≡ total n t g
total_alike zero t f g h = refl
total_alike (suc n) t f g h = ap₂ (λ a b. a + b) (total_alike n t f g h) (h n)

total_nothing : (n t : ℕ) → total n t (λ p. stream p []) ≡ 0
total_nothing zero t = refl
total_nothing (suc n) t = let e = total_nothing n t in omega arith

pub total_line : (c n t : ℕ) (line : List Item) → All (IsItem c n) line → total n t (λ p. stream p line) ≡ count_of t (tuples line)
total_line c n t [] h = total_nothing n t
total_line c n t (Run q u ∷ items) h =
    let r = total_line c n t items (All-tail (IsItem c n) (Run q u) items h) in
    let k = cond (u == t) 1 0 in
    let e : total n t (λ p. stream p (Run q u ∷ items)) ≡ k + total n t (λ p. stream p items) = total_point n t q k (λ p. stream p (Run q u ∷ items)) (λ p. stream p items) (All-head (IsItem c n) (Run q u) items h).0 (λ p x. ap (λ b. count_in t (own b (Do u) (stream p items))) (apart q p x)) (ap (λ b. count_in t (own b (Do u) (stream q items))) (eq-eqb q q refl) ∙ plus (u == t) (count_in t (stream q items))) in
    e ∙ ap (λ x. k + x) r ∙ sym (plus (u == t) (count_of t (tuples items)))
  where
    apart : (q p : ℕ) → (q ≡ p → ⊥) → (q == p) ≡ false
    apart q p h = grind (arith, nat_tests)

    plus : (b : Bool) (x : ℕ) → cond b (x + 1) x ≡ cond b 1 0 + x
    plus true x = omega arith
    plus false x = omega arith
total_line c n t (Bar m ∷ items) h = total_alike n t (λ p. stream p (Bar m ∷ items)) (λ p. stream p items) (λ p. go p (has_bit m p)) ∙ total_line c n t items (All-tail (IsItem c n) (Bar m) items h)
  where
    go : (p : ℕ) (b : Bool) → count_in t (own b Wait (stream p items)) ≡ count_in t (stream p items)
    go p true = refl
    go p false = refl

line_held_is : (n : ℕ) (line : List Item) (ss : List Stream) (ms : List ℕ) → ((p : ℕ) → p < n → items_of ss p ≡ stream p line) → ms ≡ masks line → line_of n (items_of ss) ms ≡ line_of n (λ p. stream p line) (masks line)
line_held_is n line ss ms e f = ap (line_of n (items_of ss)) f ∙ line_same n (masks line) (items_of ss) (λ p. stream p line) e

module _ (machine : Machine) (names : List Entry) (block : Block) (line : List Item) (h : IsKept machine names block line) where
  abbrev n : ℕ
  n = machine.processors

  abbrev again : List Item
  again = line_of n (λ p. stream p line) (masks line)

  even_own : AreEven n (λ p. stream p line) (masks line)
  even_own p l = even_line p line

  same_count : (t : ℕ) → count_of t (tuples again) ≡ count_of t (tuples line)
  same_count t = line_count n t (masks line) (λ p. stream p line) even_own ∙ total_line (length block.tuples) n t line h.is_line.items

  alike : AreAlike line again
  alike = record { streams = λ p. go p (cases_lt p n); masks = sym (masks_are n (masks line) (λ p. stream p line)) }
    where
      go : (p : ℕ) → (p < n) ⊎ (n ≤ p) → stream p line ≡ stream p again
      go p (inl l) = sym (stream_is n p (masks line) (λ p. stream p line) l even_own)
      go p (inr l) = stream_none (length block.tuples) n p line l h.is_line.items ∙ sym (stream_past n p (masks line) (λ p. stream p line) l (masks_none (length block.tuples) n p line l h.is_line.items))

  pub kept_again : IsKept machine names block again
  kept_again = record {
    few = h.few;
    operands = h.operands;
    cell = h.cell;
    is_line = record {
      items = All-from_recursion (IsItem (length block.tuples) n) again (line_items (length block.tuples) n (masks line) (λ p. stream p line) (λ p l. streams_below (length block.tuples) n p line h.is_line.items) (masks_items (length block.tuples) n line h.is_line.items));
      once = distinct_of (tuples again) (λ t. let e = same_count t in let d = count_distinct (tuples line) h.is_line.once t in omega arith);
      few = subst (λ l. length l ≤ 128) (sym (masks_are n (masks line) (λ p. stream p line))) h.is_line.few;
    };
    whole = λ t l. contains_of (tuples again) t (let e = same_count t in let d = count_contains (tuples line) t (h.whole t l) in omega arith);
    ordered = λ a b k. (alike_order (pace_on machine block.tuples) line again (λ t p k q l x y. stand_once line t p k q l h.is_line.once x.item y.item) alike a b).0 (h.ordered a b k);
  }

  pub given_held : (ss : List Stream) (ms : List ℕ) → ((p : ℕ) → p < n → items_of ss p ≡ stream p line) → ms ≡ masks line → IsHeld machine names (record { block = block; streams = ss; masks = ms })
  given_held ss ms e f = record {
    kept = subst (IsKept machine names block) (sym (line_held_is n line ss ms e f)) kept_again;
    even = λ p l. ap waits_in (e p l) ∙ even_line p line ∙ ap (masks_of p) (sym f);
  }

pub room_held : (machine : Machine) (names : List Entry) (held : List HeldBlock) (m : Program) → program_of machine names held ≡ m → length m.blocks < 2 ^ 32 - 1 → length held < 2 ^ 32 - 1
room_held machine names held m e l =
    let k = long_map (λ (h : HeldBlock). h.block) held in
    let r : length (map (λ (h : HeldBlock). h.block) held) < 2 ^ 32 - 1 = subst (λ (m : Program). length m.blocks < 2 ^ 32 - 1) (sym e) l in
    omega arith

pub line_pushed : {E : Type 0} (machine : Machine) (names : List Entry) (block : Block) (line : List Item) (held new : List HeldBlock) (ss : List Stream) (ms : List ℕ) (m : Program) (r : Result (Unit {0}) E) → OnOk r (new ≡ held ++ record { block = block; streams = ss; masks = ms } ∷ []) → program_of machine names held ≡ m → ((p : ℕ) → p < machine.processors → items_of ss p ≡ stream p line) → ms ≡ masks line → OnOk r (program_of machine names new ≡ with_line m block line)
line_pushed machine names block line held new ss ms m (Err x) ok v e f = ok
line_pushed machine names block line held new ss ms m (Ok u) ok v e f =
    let h : HeldBlock = record { block = block; streams = ss; masks = ms } in
    ap (program_of machine names) ok ∙
    ap₂ (λ (bs : List Block) (ls : List (List Item)). record { machine = machine; names = names; blocks = bs; lines = ls }) (map_push (λ (h : HeldBlock). h.block) held h) (map_push (line_held machine.processors) held h) ∙
    ap (λ (l : List Item). record { machine = machine; names = names; blocks = map (λ (h : HeldBlock). h.block) held ++ block ∷ []; lines = map (line_held machine.processors) held ++ l ∷ [] }) (line_held_is machine.processors line ss ms e f) ∙
    ap (λ (m : Program). with_line m block line) v

-- ---- what the test of a block tells

pub told : (number : ℕ) (o : Option ImageFault) (names : List Entry) (n m : ℕ) (ts us : List Tuple) (next : Next) (ss : List Stream) (ms : List ℕ) → o ≡ first_fault number names m us next ss ms → m ≡ n → us ≡ ts → o ≡ first_fault number names n ts next ss ms
told number o names n m ts us next ss ms e f g = e ∙ ap₂ (λ k (xs : List Tuple). first_fault number names k xs next ss ms) f g

pub lined_told : (number : ℕ) (names : List Entry) (n : ℕ) (block : Block) (ss : List Stream) (ms : List ℕ) → first_fault number names n block.tuples block.next ss ms ≡ None → n ≤ 128 → AreItems ss → AreIncreasing ss → length block.tuples ≤ 128 → length ms ≤ 128 → AreLined (length block.tuples) n ss ms
lined_told number names n block ss ms h most bytes up few short =
    let k = keeps_all number names n block.tuples block.next ss ms bytes h in
    record {
      given = record { few = most; increasing = up; within = k.within; masks_fit = mask_items 0 n ms most k.some k.own; few_masks = short };
      even = even k bytes up few;
      line = line_is k bytes up few most short;
      stand = all_stand k bytes up few;
    }

pub not_both : (m : Program) (block : Block) (ss : List Stream) (ms : List ℕ) (fault : ImageFault) → IsRefused m block ss ms fault → IsAccepted m block ss ms → ⊥
not_both m block ss ms fault (unkept e) h = absurd (some_none (sym e ∙ h.kept))
not_both m block ss ms fault (unordered e (turned t)) h = never_both Turned (pace_on m.machine block.tuples) (line_in m ss ms) t.a t.b (h.ordered.none_turned t.a t.b t.first.stands.conflict) t.first.stands.so
not_both m block ss ms fault (unordered e (loose t)) h = never_both Loose (pace_on m.machine block.tuples) (line_in m ss ms) t.a t.b (h.ordered.none_loose t.a t.b t.first.stands.conflict) t.first.stands.so
