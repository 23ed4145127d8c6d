-- Streams and masks that keep all give a line that bounds can be made of, in which each tuple stands.
use Rattle.std.proofs.Common.{◌≡◌, ℕ, zero, suc, ◌+◌, ◌-◌, ◌/◌, ◌%◌, ◌^◌, ◌<◌, ◌≤◌, Bool, true, false, nat_eq, List, [], ◌∷◌, Contains, length, Option, Some, None, slice_get, refl, sym, ap, ap₂, ◌∙◌, arith, ◌⊎◌, inl, inr, subst, if◌then◌else◌, true≢false, cond}
use Rattle.std.specs.Prelude.{◌==◌, nat_lt}
use Rattle.std.specs.List.{AllByRecursion}
use Rattle.std.specs.Int.{w128, trailing_zeros}
use Rattle.std.proofs.lemmas.Bool.{cases_lt}
use Rattle.std.proofs.lemmas.Bool.Decides.{nat_tests}
use Rattle.std.proofs.lemmas.List.Elements.{All-from_recursion}
use Rattle.std.proofs.lemmas.Nat.Bits.{bit_at-trailing_zeros}
use Rattle.bm_base.specs.Mask.{has_bit}
use Rattle.bm_base.specs.Names.{IsVariableOf, IsArrayOf}
use Rattle.bm_base.specs.Entry.{Entry}
use Rattle.bm_base.specs.declared.names.Kind.{Kind}
use Rattle.bm_base.specs.declared.names.Kind.TheVariants.{Var, Array}
use Rattle.tuple_ir.specs.declared.tuple.Tuple.{Tuple}
use Rattle.tuple_ir.specs.declared.tuple.Tuple.TheVariants.{Const, Load, Store, LoadEl, StoreEl, One, Two, Print}
use Rattle.tuple_ir.specs.declared.block.Next.{Next}
use Rattle.tuple_ir.specs.declared.block.Next.TheVariants.{Halt, Goto, If}
use Rattle.tuple_ir.specs.OperandList.{operands}
use Rattle.tuple_ir.specs.Kinds.{has_value}
use Rattle.tuple_ir.specs.Sound.{IsValueBefore, IsOperandSound, IsTupleSound, asks_value}
use Rattle.line_model.specs.declared.line.Item.TheVariants.{Bar}
use Rattle.line_model.specs.declared.line.StreamItem.{StreamItem}
use Rattle.line_model.specs.declared.line.StreamItem.TheVariants.{Do, Wait}
use Rattle.time_interval.specs.Lines.{IsItem, IsLine, tuples}
use Rattle.stream_image.specs.declared.given.Stream.{Stream}
use Rattle.stream_image.specs.Check.{is_var, is_array, is_valued, is_value, asks, waits_in, waits_of}
use Rattle.stream_image.specs.Keeps.{count_in, count_all, once_if, IsTrueTest, IsTrueCell, Keeps, AreItems, ItemFits}
use Rattle.stream_image.specs.Firsts.{count_of}
use Rattle.stream_image.specs.Line.{items_of, line_of, AreIncreasing}
use Rattle.stream_image.proofs.Bits.{pow_grows}
use Rattle.stream_image.proofs.LineStreams.{AreEven, masks_are}
use Rattle.stream_image.proofs.LineCounts.{total, IsBelow, line_count, distinct_of, contains_of, line_items, below_of}

-- ---- operands

value_of : (ts : List Tuple) (i c : ℕ) → is_value ts i c ≡ true → IsValueBefore ts i c
value_of ts i c h = go (nat_lt c i) refl h
  where
    found : (o : Option Tuple) → is_valued o ≡ true → (t : Tuple) × (o ≡ Some t) × (has_value t ≡ true)
    found None e = absurd (true≢false (sym e))
    found (Some t) e = (t, refl, e)

    go : (b : Bool) → nat_lt c i ≡ b → cond b (is_valued (slice_get ts c)) false ≡ true → IsValueBefore ts i c
    go true e k = (let l : c < i = grind (arith, nat_tests) in l, found (slice_get ts c) k)
    go false e k = absurd (true≢false (sym k))

var_of : (names : List Entry) (x : ℕ) → is_var (slice_get names x) ≡ true → IsVariableOf names x
var_of names x h = go (slice_get names x) refl h
  where
    kind : (e : Entry) (k : Kind) → e.kind ≡ k → slice_get names x ≡ Some e → elim k as (λ _. Bool) [ Var initial ↦ true | Array len ↦ false ] ≡ true → IsVariableOf names x
    kind e (Var initial) q s t = record { name = e.name; initial = initial; here = s ∙ ap (λ k. Some (record { name = e.name; kind = k })) q }
    kind e (Array len) q s t = absurd (true≢false (sym t))

    go : (o : Option Entry) → slice_get names x ≡ o → is_var o ≡ true → IsVariableOf names x
    go None s t = absurd (true≢false (sym t))
    go (Some e) s t = kind e e.kind refl s t

array_of : (names : List Entry) (x : ℕ) → is_array (slice_get names x) ≡ true → IsArrayOf names x
array_of names x h = go (slice_get names x) refl h
  where
    kind : (e : Entry) (k : Kind) → e.kind ≡ k → slice_get names x ≡ Some e → elim k as (λ _. Bool) [ Var initial ↦ false | Array len ↦ true ] ≡ true → IsArrayOf names x
    kind e (Var initial) q s t = absurd (true≢false (sym t))
    kind e (Array len) q s t = record { name = e.name; len = len; here = s ∙ ap (λ k. Some (record { name = e.name; kind = k })) q }

    go : (o : Option Entry) → slice_get names x ≡ o → is_array o ≡ true → IsArrayOf names x
    go None s t = absurd (true≢false (sym t))
    go (Some e) s t = kind e e.kind refl s t

pub tuple_sound : (names : List Entry) (ts : List Tuple) (i : ℕ) (t : Tuple) → AllByRecursion IsTrueTest (asks names ts i t) → IsTupleSound names ts i t
tuple_sound names ts i t h = record { each = go t h }
  where
    go : (t : Tuple) → AllByRecursion IsTrueTest (asks names ts i t) → AllByRecursion (IsOperandSound names ts i) (operands t)
    go (Const v) h = tt
    go (Load x) h = (var_of names x h.0, tt)
    go (Store x v) h = (var_of names x h.0, (value_of ts i v h.1.0, tt))
    go (LoadEl x e) h = (array_of names x h.0, (value_of ts i e h.1.0, tt))
    go (StoreEl x e v) h = (array_of names x h.0, (value_of ts i e h.1.0, (value_of ts i v h.1.1.0, tt)))
    go (One op a) h = (value_of ts i a h.0, tt)
    go (Two op a b) h = (value_of ts i a h.0, (value_of ts i b h.1.0, tt))
    go (Print v) h = (value_of ts i v h.0, tt)

pub cell_sound : (ts : List Tuple) (next : Next) → IsTrueCell ts next → asks_value ts next
cell_sound ts Halt h = tt
cell_sound ts (Goto b) h = tt
cell_sound ts (If c one other) h = value_of ts (length ts) c h

-- ---- masks

low_bit : (a : ℕ) → 0 < a → a < 2 ^ 128 → (q : ℕ) × (has_bit a q ≡ true)
low_bit a h l = let t = bit_at-trailing_zeros w128 a h l in (trailing_zeros w128 a, rw t.1 refl)

pow_above : (a b : ℕ) → a ≤ b → 2 ^ a ≤ 2 ^ b
pow_above a b l = let e : a + (b - a) ≡ b = omega arith in subst (λ (k : ℕ). 2 ^ a ≤ 2 ^ k) e (pow_grows a (b - a))

small_quotient : (a b : ℕ) → a < b → a / b ≡ 0
small_quotient a b s = grind arith

pub no_bit : (n m p : ℕ) → m < 2 ^ n → n ≤ p → has_bit m p ≡ false
no_bit n m p l h =
    let g = pow_above n p h in
    let z : m / 2 ^ p ≡ 0 = small_quotient m (2 ^ p) (omega arith) in
    ap (λ (k : ℕ). nat_eq (k % 2) 1) z

mask_item : (c n m : ℕ) → n ≤ 128 → (m ≡ 0 → ⊥) → m < 2 ^ n → IsItem c n (Bar m)
mask_item c n m few some own = (low_bit m (let z : 0 < m = pos m some in z) (let g = pow_above n 128 few in omega (arith, own, g)), λ p e. below p (cases_lt p n) e)
  where
    pos : (m : ℕ) → (m ≡ 0 → ⊥) → 0 < m
    pos zero h = absurd (h refl)
    pos (suc m) h = omega arith

    below : (p : ℕ) → (p < n) ⊎ (n ≤ p) → has_bit m p ≡ true → p < n
    below p (inl l) e = l
    below p (inr l) e = absurd (true≢false (sym e ∙ no_bit n m p own l))

pub mask_items : (c n : ℕ) (ms : List ℕ) → n ≤ 128 → AllByRecursion (λ (m : ℕ). m ≡ 0 → ⊥) ms → AllByRecursion (λ (m : ℕ). m < 2 ^ n) ms → AllByRecursion (λ m. IsItem c n (Bar m)) ms
mask_items c n [] few some own = tt
mask_items c n (m ∷ ms) few some own = (mask_item c n m few some.0 own.0, mask_items c n ms few some.1 own.1)

pub none_has : (n p : ℕ) (ms : List ℕ) → n ≤ p → AllByRecursion (λ (m : ℕ). m < 2 ^ n) ms → AllByRecursion (λ m. has_bit m p ≡ false) ms
none_has n p [] l h = tt
none_has n p (m ∷ ms) l h = (no_bit n m p h.0 l, none_has n p ms l h.1)

-- ---- streams

pub waits_items : (p : ℕ) (ss : List Stream) → waits_in (items_of ss p) ≡ waits_of p ss
waits_items p [] = refl
waits_items p (s ∷ ss) = go (s.processor == p) (waits_items p ss)
  where
    go : (b : Bool) → waits_in (items_of ss p) ≡ waits_of p ss → waits_in (if b then s.items else items_of ss p) ≡ (if b then waits_in s.items else waits_of p ss)
    go true e = refl
    go false e = e

apart : (q p : ℕ) → (q ≡ p → ⊥) → (q == p) ≡ false
apart q p h = grind (arith, nat_tests)

pub absent : (p : ℕ) (ss : List Stream) → AllByRecursion (λ (s : Stream). p < s.processor) ss → items_of ss p ≡ []
absent p [] h = refl
absent p (s ∷ ss) h = ap (λ b. if b then s.items else items_of ss p) (apart s.processor p (λ e. let l : p < s.processor = h.0 in omega arith)) ∙ absent p ss h.1

pub total_same : (n t : ℕ) (f g : ℕ → List StreamItem) → ((p : ℕ) → p < n → count_in t (f p) ≡ count_in t (g p)) → total n t f ≡ total n t g
total_same zero t f g h = refl
total_same (suc n) t f g h = ap₂ (λ a b. a + b) (total_same n t f g (λ p l. h p (omega arith))) (h n (omega arith))

total_empty : (n t : ℕ) (f : ℕ → List StreamItem) → ((p : ℕ) → f p ≡ []) → total n t f ≡ 0
total_empty zero t f h = refl
total_empty (suc n) t f h = let a = total_empty n t f h in let b : count_in t (f n) ≡ 0 = ap (count_in t) (h n) in omega arith

abbrev put : ℕ → List StreamItem → (ℕ → List StreamItem) → ℕ → List StreamItem
put q items f p = if q == p then items else f p

put_other : (q p : ℕ) (items : List StreamItem) (f : ℕ → List StreamItem) → (q ≡ p → ⊥) → put q items f p ≡ f p
put_other q p items f h = ap (λ b. if b then items else f p) (apart q p h)

put_own : (q : ℕ) (items : List StreamItem) (f : ℕ → List StreamItem) → put q items f q ≡ items
put_own q items f = ap (λ b. if b then items else f q) (same q)
  where
    same : (q : ℕ) → (q == q) ≡ true
    same q = grind (arith, nat_tests)

total_put : (n t q : ℕ) (items : List StreamItem) (f : ℕ → List StreamItem) → q < n → f q ≡ [] → total n t (put q items f) ≡ count_in t items + total n t f
total_put zero t q items f l h = absurd (omega arith)
total_put (suc k) t q items f l h = go (cases_lt q k) (λ m. total_put k t q items f m h)
  where
    go : (q < k) ⊎ (k ≤ q) → (q < k → total k t (put q items f) ≡ count_in t items + total k t f) → total k t (put q items f) + count_in t (put q items f k) ≡ count_in t items + (total k t f + count_in t (f k))
    go (inl m) rec =
        let a = rec m in
        let b : count_in t (put q items f k) ≡ count_in t (f k) = ap (count_in t) (put_other q k items f (λ e. let x : q ≡ k = e in absurd (omega arith))) in
        omega arith
    go (inr m) rec =
        let e : q ≡ k = omega arith in
        let a : total k t (put q items f) ≡ total k t f = total_same k t (put q items f) f (λ p u. ap (count_in t) (put_other q p items f (λ x. let y : q ≡ p = x in absurd (omega arith)))) in
        let b : count_in t (put q items f k) ≡ count_in t items = subst (λ x. count_in t (put q items f x) ≡ count_in t items) e (ap (count_in t) (put_own q items f)) in
        let z : count_in t (f k) ≡ 0 = subst (λ x. count_in t (f x) ≡ 0) e (ap (count_in t) h) in
        omega arith

pub total_of : (n t : ℕ) (ss : List Stream) → AreIncreasing ss → AllByRecursion (λ (s : Stream). s.processor < n) ss → total n t (items_of ss) ≡ count_all t ss
total_of n t [] i h = total_empty n t (items_of []) (λ p. refl)
total_of n t (s ∷ ss) i h =
    let a : total n t (items_of (s ∷ ss)) ≡ count_in t s.items + total n t (items_of ss) = total_put n t s.processor s.items (items_of ss) h.0 (absent s.processor ss i.0) in
    let b = total_of n t ss i.1 h.1 in
    omega arith

count_below : (t p : ℕ) (ss : List Stream) → count_in t (items_of ss p) ≤ count_all t ss
count_below t p [] = omega arith
count_below t p (s ∷ ss) = go (s.processor == p) (count_below t p ss)
  where
    go : (b : Bool) → count_in t (items_of ss p) ≤ count_all t ss → count_in t (if b then s.items else items_of ss p) ≤ count_in t s.items + count_all t ss
    go true e = omega arith
    go false e = omega arith

-- ---- numbers that are no bytes stand nowhere

no_such : (t : ℕ) (items : List StreamItem) → 256 ≤ t → AllByRecursion ItemFits items → count_in t items ≡ 0
no_such t [] l h = refl
no_such t (Wait ∷ items) l h = no_such t items l h.1
no_such t (Do u ∷ items) l h = ap (λ b. cond b (count_in t items + 1) (count_in t items)) (apart u t (λ e. let x : u < 256 = h.0 in let y : u ≡ t = e in absurd (omega arith))) ∙ no_such t items l h.1

none_such : (t : ℕ) (ss : List Stream) → 256 ≤ t → AreItems ss → count_all t ss ≡ 0
none_such t [] l h = refl
none_such t (s ∷ ss) l h = let a = no_such t s.items l h.0 in let b = none_such t ss l h.1 in omega arith

-- ---- what is kept

module _ {names : List Entry} {n : ℕ} {ts : List Tuple} {next : Next} {ss : List Stream} {ms : List ℕ} (h : Keeps names n ts next ss ms) (items : AreItems ss) (increasing : AreIncreasing ss) (few : length ts ≤ 128) where
  once_all : (t : ℕ) → count_all t ss ≡ once_if (nat_lt t (length ts))
  once_all t = go (cases_lt t 256)
    where
      above : (a b : ℕ) → b ≤ a → nat_lt a b ≡ false
      above a b l = grind (arith, nat_tests)

      go : (t < 256) ⊎ (256 ≤ t) → count_all t ss ≡ once_if (nat_lt t (length ts))
      go (inl l) = h.once t l
      go (inr l) = none_such t ss l items ∙ sym (ap once_if (above t (length ts) (omega arith)))

  pub even : AreEven n (items_of ss) ms
  even p l = waits_items p ss ∙ h.waits p l

  line_once : (t : ℕ) → count_of t (tuples (line_of n (items_of ss) ms)) ≡ once_if (nat_lt t (length ts))
  line_once t = line_count n t ms (items_of ss) even ∙ total_of n t ss increasing h.within ∙ once_all t

  within : (p : ℕ) → AllByRecursion (IsBelow (length ts)) (items_of ss p)
  within p = below_of (length ts) (items_of ss p) (λ t l. let a = count_below t p ss in let b = once_all t in go t (nat_lt t (length ts)) refl (omega arith))
    where
      go : (t : ℕ) (b : Bool) → nat_lt t (length ts) ≡ b → 1 ≤ once_if (nat_lt t (length ts)) → t < length ts
      go t true e l = grind (arith, nat_tests)
      go t false e l = absurd (let z : once_if (nat_lt t (length ts)) ≡ 0 = ap once_if e in omega arith)

  pub line_is : n ≤ 128 → length ms ≤ 128 → IsLine (length ts) n (line_of n (items_of ss) ms)
  line_is most short = record {
    items = All-from_recursion (IsItem (length ts) n) (line_of n (items_of ss) ms) (line_items (length ts) n ms (items_of ss) (λ p l. within p) (mask_items (length ts) n ms most h.some h.own));
    once = distinct_of (tuples (line_of n (items_of ss) ms)) (λ t. let e = line_once t in go t (nat_lt t (length ts)) e);
    few = subst (λ l. length l ≤ 128) (sym (masks_are n ms (items_of ss))) short;
  }
    where
      go : (t : ℕ) (b : Bool) → count_of t (tuples (line_of n (items_of ss) ms)) ≡ once_if b → count_of t (tuples (line_of n (items_of ss) ms)) ≤ 1
      go t true e = omega arith
      go t false e = omega arith

  pub all_stand : (t : ℕ) → t < length ts → Contains (tuples (line_of n (items_of ss) ms)) t
  all_stand t l = contains_of (tuples (line_of n (items_of ss) ms)) t (let e = line_once t in let b : once_if (nat_lt t (length ts)) ≡ 1 = ap once_if (below t (length ts) l) in omega arith)
    where
      below : (a b : ℕ) → a < b → nat_lt a b ≡ true
      below a b l = grind (arith, nat_tests)
