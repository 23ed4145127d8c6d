-- An image's own blocks are taken again.
use Rattle.std.proofs.Common.{◌≡◌, ℕ, zero, suc, ◌+◌, ◌*◌, ◌/◌, ◌%◌, ◌^◌, ◌<◌, ◌≤◌, true, false, nat_eq, List, [], ◌∷◌, ◌++◌, All, length, take, get_or, Some, None, slice_get, slice_index_or, refl, sym, ap, ap₂, ◌∙◌, arith, ◌⊎◌, inl, inr, subst, true≢false, cond, pow-suc, if◌then◌else◌}
use Rattle.std.specs.Prelude.{◌==◌, nat_lt}
use Rattle.std.specs.List.{AllByRecursion}
use Rattle.std.proofs.Math.Nat.{div-add-mod}
use Rattle.std.proofs.Math.Seq.{take-suc}
use Rattle.std.proofs.lemmas.Bool.{cases_lt}
use Rattle.std.proofs.lemmas.Bool.Decides.{nat_tests}
use Rattle.bm_base.specs.Mask.{has_bit}
use Rattle.bm_base.specs.Names.{IsVariableOf, IsArrayOf}
use Rattle.bm_base.specs.Entry.{Entry}
use Rattle.bm_base.specs.Machine.{Machine}
use Rattle.bm_base.specs.Spec.{interval}
use Rattle.tuple_ir.specs.declared.tuple.Tuple.{Tuple}
use Rattle.tuple_ir.specs.declared.tuple.Tuple.TheVariants.{Const, Load, Store, LoadEl, StoreEl, One, Two, Print}
use Rattle.tuple_ir.specs.declared.block.Block.{Block}
use Rattle.tuple_ir.specs.declared.block.Next.{Next}
use Rattle.tuple_ir.specs.declared.block.Next.TheVariants.{Halt, Goto, If}
use Rattle.tuple_ir.specs.OperandList.{operands}
use Rattle.tuple_ir.specs.Conflict.{Conflict}
use Rattle.tuple_ir.specs.Serial.{no_block}
use Rattle.tuple_ir.specs.Sound.{IsValueBefore, IsOperandSound, asks_value, leads_below}
use Rattle.line_model.specs.declared.line.Item.{Item}
use Rattle.line_model.specs.declared.line.Item.TheVariants.{Bar}
use Rattle.line_model.specs.declared.line.StreamItem.{StreamItem}
use Rattle.line_model.specs.declared.line.StreamItem.TheVariants.{Do, Wait}
use Rattle.line_model.specs.Order.{StandsAt}
use Rattle.line_model.specs.Streams.{stream, masks}
use Rattle.time_interval.specs.Bounds.{times_of, pace_on}
use Rattle.time_interval.specs.Lines.{IsItem, IsLine, tuples}
use Rattle.time_interval.specs.Ordered.{IsOrdered}
use Rattle.time_interval.proofs.Fronts.{tuple_below}
use Rattle.time_interval.proofs.Once.{any_of_contains}
use Rattle.unit_law.specs.State.{Code, Program, code_at}
use Rattle.unit_law.specs.Sound.{block_of, IsCodeSound}
use Rattle.stream_image.specs.declared.given.Stream.{Stream}
use Rattle.stream_image.specs.declared.order.Wrong.TheVariants.{Turned, Loose}
use Rattle.stream_image.specs.Check.{is_var, is_array, is_valued, is_value, asks, waits_in, first_fault}
use Rattle.stream_image.specs.Keeps.{IsTrueTest, IsTrueCell, Keeps, AreItems, ItemFits, count_in, count_all, once_if}
use Rattle.stream_image.specs.Firsts.{count_of}
use Rattle.stream_image.specs.Line.{items_of, line_of, AreIncreasing, IsOwnLine}
use Rattle.stream_image.specs.Image.{IsLawful}
use Rattle.stream_image.specs.Order.{NoneWrong}
use Rattle.stream_image.specs.Refused.{IsAccepted, AllInOrder, bad_target, target_at, target_from}
use Rattle.stream_image.specs.Again.{first_blocks, AreStreamsOf, AreBuiltAgain}
use Rattle.stream_image.proofs.Accepted.{stream_none, masks_items, streams_below, total_line}
use Rattle.stream_image.proofs.Contrary.{not_ordered}
use Rattle.stream_image.proofs.Keeping.{no_get, kept_none, pow_some, small_zero, zero_small, lt_true}
use Rattle.stream_image.proofs.LineCounts.{IsBelow, contains_of, count_contains, count_distinct}
use Rattle.stream_image.proofs.LineKept.{waits_items, absent, total_of, total_same}
use Rattle.stream_image.proofs.LineStreams.{even_line, line_same}
use Rattle.stream_image.proofs.SoundLines.{sound_line, sound_stand}

-- ---- operands

of_value : (ts : List Tuple) (i c : ℕ) → IsValueBefore ts i c → is_value ts i c ≡ true
of_value ts i c h = ap (λ b. cond b (is_valued (slice_get ts c)) false) (lt_true c i h.0) ∙ ap is_valued h.1.1 ∙ h.1.2

of_var : (names : List Entry) (x : ℕ) → IsVariableOf names x → is_var (slice_get names x) ≡ true
of_var names x h = ap is_var h.here

of_array : (names : List Entry) (x : ℕ) → IsArrayOf names x → is_array (slice_get names x) ≡ true
of_array names x h = ap is_array h.here

of_sound : (names : List Entry) (ts : List Tuple) (i : ℕ) (t : Tuple) → AllByRecursion (IsOperandSound names ts i) (operands t) → AllByRecursion IsTrueTest (asks names ts i t)
of_sound names ts i (Const v) h = tt
of_sound names ts i (Load x) h = (of_var names x h.0, tt)
of_sound names ts i (Store x v) h = (of_var names x h.0, (of_value ts i v h.1.0, tt))
of_sound names ts i (LoadEl x e) h = (of_array names x h.0, (of_value ts i e h.1.0, tt))
of_sound names ts i (StoreEl x e v) h = (of_array names x h.0, (of_value ts i e h.1.0, (of_value ts i v h.1.1.0, tt)))
of_sound names ts i (One op a) h = (of_value ts i a h.0, tt)
of_sound names ts i (Two op a b) h = (of_value ts i a h.0, (of_value ts i b h.1.0, tt))
of_sound names ts i (Print v) h = (of_value ts i v h.0, tt)

of_asks : (ts : List Tuple) (next : Next) → asks_value ts next → IsTrueCell ts next
of_asks ts Halt h = tt
of_asks ts (Goto b) h = tt
of_asks ts (If c one other) h = of_value ts (length ts) c h

-- ---- masks

none_of_zero : (p : ℕ) → has_bit 0 p ≡ true → ⊥
none_of_zero p h =
    let z : 0 / 2 ^ p ≡ 0 = small_zero 0 (2 ^ p) (pow_some p) in
    let e : has_bit 0 p ≡ false = ap (λ k. nat_eq (k % 2) 1) z in
    true≢false (sym h ∙ e)

quotient : (m b q r : ℕ) → b * q + r ≡ m → m < b * 2 → q < 2
quotient m b zero r e l = omega arith
quotient m b (suc zero) r e l = omega arith
quotient m b (suc (suc q)) r e l = let x : b * suc (suc q) ≡ b * q + b * 2 = grind arith in absurd (omega (arith, e, l, x))

half : (m n : ℕ) → m < 2 ^ suc n → m / 2 ^ n < 2
half m n l = quotient m (2 ^ n) (m / 2 ^ n) (m % 2 ^ n) (div-add-mod m (2 ^ n)) (subst (λ (j : ℕ). m < j) (pow-suc 2 n) l)

no_top : (m n q : ℕ) → (has_bit m n ≡ true → ⊥) → q < 2 → m / 2 ^ n ≡ q → m / 2 ^ n ≡ 0
no_top m n zero h l e = e
no_top m n (suc zero) h l e = absurd (h (ap (λ j. nat_eq (j % 2) 1) e))
no_top m n (suc (suc q)) h l e = absurd (omega arith)

-- a number without the bits from n on, below 2 ^ (n + k)
below_power : (n m k : ℕ) → ((p : ℕ) → has_bit m p ≡ true → p < n) → m < 2 ^ (n + k) → m < 2 ^ n
below_power n m zero h l = let z : n + 0 ≡ n = omega arith in subst (λ (j : ℕ). m < 2 ^ j) z l
below_power n m (suc k) h l =
    let z : n + suc k ≡ suc (n + k) = omega arith in
    let s = half m (n + k) (subst (λ (j : ℕ). m < 2 ^ j) z l) in
    below_power n m k h (zero_small m (2 ^ (n + k)) (pow_some (n + k)) (no_top m (n + k) (m / 2 ^ (n + k)) (λ b. let x = h (n + k) b in absurd (omega (arith, x))) s refl))

less_power : (m : ℕ) → m < 2 ^ m
less_power zero = pow_some 0
less_power (suc m) = omega (arith, less_power m, pow-suc 2 m)

own_bits : (n m : ℕ) → ((p : ℕ) → has_bit m p ≡ true → p < n) → m < 2 ^ n
own_bits n m h = below_power n m m h (more n m (2 ^ m) refl (less_power m))
  where
    more : (n m b : ℕ) → 2 ^ m ≡ b → m < b → m < 2 ^ (n + m)
    more zero m b e l = let z : m ≡ 0 + m = omega arith in subst (λ j. m < 2 ^ j) z (subst (λ j. m < j) (sym e) l)
    more (suc n) m b e l = let r = more n m b e l in let z : suc n + m ≡ suc (n + m) = omega arith in subst (λ j. m < 2 ^ j) (sym z) (omega (arith, r, pow-suc 2 (n + m)))

some_masks : (c n : ℕ) (ms : List ℕ) → AllByRecursion (λ m. IsItem c n (Bar m)) ms → AllByRecursion (λ (m : ℕ). m ≡ 0 → ⊥) ms
some_masks c n [] h = tt
some_masks c n (m ∷ ms) h = (λ e. none_of_zero h.0.0.0 (subst (λ k. has_bit k h.0.0.0 ≡ true) e h.0.0.1), some_masks c n ms h.1)

own_masks : (c n : ℕ) (ms : List ℕ) → AllByRecursion (λ m. IsItem c n (Bar m)) ms → AllByRecursion (λ (m : ℕ). m < 2 ^ n) ms
own_masks c n [] h = tt
own_masks c n (m ∷ ms) h = (own_bits n m h.0.1, own_masks c n ms h.1)

-- ---- streams

-- the stream of a processor is the one that is found
first_is : (s : Stream) (ss : List Stream) → items_of (s ∷ ss) s.processor ≡ s.items
first_is s ss = ap (λ b. if b then s.items else items_of ss s.processor) (same s.processor)
  where
    same : (q : ℕ) → (q == q) ≡ true
    same q = grind (arith, nat_tests)

later_is : (s : Stream) (ss : List Stream) (p : ℕ) → s.processor < p → items_of (s ∷ ss) p ≡ items_of ss p
later_is s ss p l = ap (λ b. if b then s.items else items_of ss p) (apart s.processor p l)
  where
    apart : (q p : ℕ) → q < p → (q == p) ≡ false
    apart q p h = grind (arith, nat_tests)

all_above : (p q : ℕ) (ss : List Stream) → p ≤ q → AllByRecursion (λ (s : Stream). q < s.processor) ss → AllByRecursion (λ (s : Stream). p < s.processor) ss
all_above p q [] l h = tt
all_above p q (s ∷ ss) l h = (let x : q < s.processor = h.0 in omega arith, all_above p q ss l h.1)

-- what holds of no items, and of those that each processor finds, holds of each stream
each_found : (P : List StreamItem → Type 0) (n : ℕ) → P [] → (ss : List Stream) → AreIncreasing ss → AllByRecursion (λ (s : Stream). s.processor < n) ss → ((p : ℕ) → p < n → P (items_of ss p)) → AllByRecursion (λ (s : Stream). P s.items) ss
each_found P n nil [] up w h = tt
each_found P n nil (s ∷ ss) up w h = (subst P (first_is s ss) (h s.processor w.0), each_found P n nil ss up.1 w.1 (λ p l. tail p l (cases_lt s.processor p)))
  where
    tail : (p : ℕ) → p < n → (s.processor < p) ⊎ (p ≤ s.processor) → P (items_of ss p)
    tail p l (inl lt) = subst P (later_is s ss p lt) (h p l)
    tail p l (inr le) = subst P (sym (absent p ss (all_above p s.processor ss le up.0))) nil

below_fit : (c : ℕ) (items : List StreamItem) → c ≤ 128 → AllByRecursion (IsBelow c) items → AllByRecursion ItemFits items
below_fit c [] l h = tt
below_fit c (Do t ∷ items) l h = (let x : t < c = h.0 in omega arith, below_fit c items l h.1)
below_fit c (Wait ∷ items) l h = (tt, below_fit c items l h.1)

-- ---- the times of a machine

pub lawful_time : (machine : Machine) → IsLawful machine → (ts : List Tuple) (t : ℕ) → (0 < (slice_index_or (times_of machine ts) t (interval 1 1)).least) × ((slice_index_or (times_of machine ts) t (interval 1 1)).least ≤ (slice_index_or (times_of machine ts) t (interval 1 1)).most)
lawful_time machine h [] t = (omega arith, omega arith)
lawful_time machine h (x ∷ ts) zero = h.times x
lawful_time machine h (x ∷ ts) (suc t) = lawful_time machine h ts t

-- a tuple stands on a processor of the machine
stands_below : (c n : ℕ) (line : List Item) (t p k : ℕ) → All (IsItem c n) line → StandsAt line t p k → p < n
stands_below c n line t p k h s = go (cases_lt p n)
  where
    go : (p < n) ⊎ (n ≤ p) → p < n
    go (inl l) = l
    go (inr l) = absurd (no_get k (Do t) (subst (λ items. slice_get items k ≡ Some (Do t)) (stream_none c n p line l h) s.item))

-- where all pairs are ordered none is turned
pub none_turned : (machine : Machine) (ts : List Tuple) (line : List Item) → IsLawful machine → IsLine (length ts) machine.processors line → NoneWrong Loose (pace_on machine ts) ts line → NoneWrong Turned (pace_on machine ts) ts line
none_turned machine ts line lawful h ordered = λ x y k before. not_ordered (pace_on machine ts) line x y h.once before (stands_below (length ts) machine.processors line y before.p before.kg h.items before.g_at) (lawful_time machine lawful ts) (ordered x y k)

-- ---- a block

module _ (m so_far : Program) (b : ℕ) (ss : List Stream) (lawful : IsLawful m.machine) (sound : IsCodeSound m (code_at m b)) (given : AreStreamsOf m.machine.processors (code_at m b).line ss) where
  code : Code
  code = code_at m b

  n : ℕ
  n = m.machine.processors

  line_is : IsLine (length (code_at m b).tuples) m.machine.processors (code_at m b).line
  line_is = sound_line m (code_at m b) sound

  bars : AllByRecursion (λ mask. IsItem (length (code_at m b).tuples) m.machine.processors (Bar mask)) (masks (code_at m b).line)
  bars = masks_items (length (code_at m b).tuples) m.machine.processors (code_at m b).line line_is.items

  bytes : AreItems ss
  bytes = each_found (AllByRecursion ItemFits) m.machine.processors tt ss given.increasing given.within (λ p l. subst (AllByRecursion ItemFits) (sym (given.items p l)) (below_fit (length (code_at m b).tuples) (stream p (code_at m b).line) sound.block.few (streams_below (length (code_at m b).tuples) m.machine.processors p (code_at m b).line line_is.items)))

  once : (t : ℕ) → count_all t ss ≡ once_if (nat_lt t (length (code_at m b).tuples))
  once t =
      let counted : count_all t ss ≡ count_of t (tuples (code_at m b).line) = sym (total_of m.machine.processors t ss given.increasing given.within) ∙ total_same m.machine.processors t (items_of ss) (λ p. stream p (code_at m b).line) (λ p l. ap (count_in t) (given.items p l)) ∙ total_line (length (code_at m b).tuples) m.machine.processors t (code_at m b).line line_is.items in
      counted ∙ go (cases_lt t (length (code_at m b).tuples))
    where
      most : count_of t (tuples (code_at m b).line) ≤ 1
      most = count_distinct (tuples (code_at m b).line) line_is.once t

      above : (a c : ℕ) → c ≤ a → nat_lt a c ≡ false
      above a c l = grind (arith, nat_tests)

      go : (t < length (code_at m b).tuples) ⊎ (length (code_at m b).tuples ≤ t) → count_of t (tuples (code_at m b).line) ≡ once_if (nat_lt t (length (code_at m b).tuples))
      go (inl l) =
          let least = count_contains (tuples (code_at m b).line) t (sound_stand m (code_at m b) sound t l) in
          let e : once_if (nat_lt t (length (code_at m b).tuples)) ≡ 1 = ap once_if (lt_true t (length (code_at m b).tuples) l) in
          omega (arith, least, e, most)
      go (inr l) =
          let e : once_if (nat_lt t (length (code_at m b).tuples)) ≡ 0 = ap once_if (above t (length (code_at m b).tuples) l) in
          none (cases_lt 0 (count_of t (tuples (code_at m b).line))) e
        where
          none : (0 < count_of t (tuples (code_at m b).line)) ⊎ (count_of t (tuples (code_at m b).line) ≤ 0) → once_if (nat_lt t (length (code_at m b).tuples)) ≡ 0 → count_of t (tuples (code_at m b).line) ≡ once_if (nat_lt t (length (code_at m b).tuples))
          none (inl c) e =
              let k = tuple_below (length (code_at m b).tuples) m.machine.processors t (code_at m b).line line_is.items (any_of_contains (tuples (code_at m b).line) t (contains_of (tuples (code_at m b).line) t (omega (arith, c)))) in
              absurd (omega (arith, k, l))
          none (inr c) e = omega (arith, c, e)

  keeps : Keeps m.names m.machine.processors (code_at m b).tuples (code_at m b).next ss (masks (code_at m b).line)
  keeps = record {
    within = given.within;
    once = λ t l. once t;
    operands = λ i t e. of_sound m.names (code_at m b).tuples i t (sound.block.each i t e).each;
    cell = of_asks (code_at m b).tuples (code_at m b).next sound.block.next.asks;
    waits = λ p l. sym (waits_items p ss) ∙ ap waits_in (given.items p l) ∙ even_line p (code_at m b).line;
    some = some_masks (length (code_at m b).tuples) m.machine.processors (masks (code_at m b).line) bars;
    own = own_masks (length (code_at m b).tuples) m.machine.processors (masks (code_at m b).line) bars;
  }

  line_again : line_of m.machine.processors (items_of ss) (masks (code_at m b).line) ≡ line_of m.machine.processors (λ p. stream p (code_at m b).line) (masks (code_at m b).line)
  line_again = line_same m.machine.processors (masks (code_at m b).line) (items_of ss) (λ p. stream p (code_at m b).line) given.items

  module _ (ordered : (x y : ℕ) → Conflict (code_at m b).tuples x y → IsOrdered (pace_on m.machine (code_at m b).tuples) (code_at m b).line x y) (own : IsOwnLine m.machine.processors (code_at m b).line) where
    in_order : AllInOrder (pace_on m.machine (code_at m b).tuples) (code_at m b).tuples (code_at m b).line
    in_order = record {
      none_turned = none_turned m.machine (code_at m b).tuples (code_at m b).line lawful line_is ordered;
      none_loose = ordered;
    }

    pub accepted_again : so_far.machine ≡ m.machine → so_far.names ≡ m.names → IsAccepted so_far (block_of (code_at m b)) ss (masks (code_at m b).line)
    accepted_again e f = record {
      kept = ap₂ (λ (machine : Machine) (names : List Entry). first_fault (length so_far.blocks) names machine.processors (code_at m b).tuples (code_at m b).next ss (masks (code_at m b).line)) e f ∙ kept_none (length so_far.blocks) m.names m.machine.processors (code_at m b).tuples (code_at m b).next ss (masks (code_at m b).line) bytes keeps;
      ordered = subst (λ (machine : Machine). AllInOrder (pace_on machine (code_at m b).tuples) (code_at m b).tuples (line_of machine.processors (items_of ss) (masks (code_at m b).line))) (sym e) (subst (AllInOrder (pace_on m.machine (code_at m b).tuples) (code_at m b).tuples) (own ∙ sym line_again) in_order);
    }

-- ---- all blocks

take_all : {A : Type 0} (xs : List A) → take (length xs) xs ≡ xs
take_all [] = refl
take_all (x ∷ xs) = ap (λ l. x ∷ l) (take_all xs)

take_more : {A : Type 0} (xs : List A) (b : ℕ) (d : A) → b < length xs → take b xs ++ get_or xs b d ∷ [] ≡ take (b + 1) xs
take_more xs b d l = let e : suc b ≡ b + 1 = omega arith in sym (take-suc xs b d l) ∙ ap (λ k. take k xs) e

below_target : (count : ℕ) (next : Next) → leads_below count next → bad_target count next ≡ None
below_target count Halt h = refl
below_target count (Goto c) h = ap (λ b. if b then None else Some c) (lt_true c count h)
below_target count (If c one other) h = ap₂ (λ a b. if a then (if b then None else Some other) else Some one) (lt_true one count h.0) (lt_true other count h.1)

no_targets : (count b : ℕ) (blocks : List Block) → ((i : ℕ) → i < length blocks → leads_below count (get_or blocks i no_block).next) → target_from count b blocks ≡ None
no_targets count b [] h = refl
no_targets count b (x ∷ blocks) h = ap (λ o. target_at b o (target_from count (b + 1) blocks)) (below_target count x.next (h 0 (omega arith))) ∙ no_targets count (b + 1) blocks (λ i l. h (suc i) (omega arith))

pub built_again : AreBuiltAgain
built_again = record {
  none = λ m. refl;
  each = λ m b ss h l given. record {
    few_tuples = (h.sound.each b l).block.few;
    few_masks = (h.sound.each b l).few_masks;
    accepted = accepted_again m (first_blocks m b) b ss h.machine (h.sound.each b l) given (h.ordered b) (h.lines b l) refl refl;
    same = ap₂ (λ (bs : List Block) (ls : List (List Item)). record { machine = m.machine; names = m.names; blocks = bs; lines = ls }) (take_more m.blocks b no_block l)
        (ap (λ x. take b m.lines ++ x ∷ []) (line_again m (first_blocks m b) b ss h.machine (h.sound.each b l) given ∙ sym (h.lines b l)) ∙ take_more m.lines b [] (let e = h.sound.one_each in omega (arith, e, l)));
  };
  all = λ m h. ap₂ (λ (bs : List Block) (ls : List (List Item)). record { machine = m.machine; names = m.names; blocks = bs; lines = ls }) (take_all m.blocks) (ap (λ k. take k m.lines) (sym h.sound.one_each) ∙ take_all m.lines);
  targets = λ m h. no_targets (length m.blocks) 0 m.blocks (λ i l. (h.sound.each i l).block.next.leads);
}
