-- What an image's text says is that image.
use Rattle.std.proofs.Common.{◌≡◌, ℕ, zero, suc, ◌+◌, ◌<◌, ◌≤◌, ◌^◌, refl, sym, ap, subst, ◌∙◌, arith, Bool, true, false, List, [], ◌∷◌, length, map, add-one, Some, None, inl, inr}
use Rattle.std.specs.Prelude.{◌&&◌, nat_le, nat_eq, slice_get}
use Rattle.std.proofs.lemmas.Bool.{cases_lt}
use Rattle.std.proofs.lemmas.Bool.Decides.{nat_tests}
use Rattle.std.proofs.lemmas.Option.{unwrap_or-slice_get}
use Rattle.std.proofs.Math.Pow.{pow_mono}
use Rattle.std.specs.List.{AllByRecursion, list_all}
use Rattle.bm_base.specs.declared.spec.Interval.{Interval}
use Rattle.bm_base.specs.declared.names.Kind.{Kind}
use Rattle.bm_base.specs.declared.names.Kind.TheVariants.{Var, Array}
use Rattle.bm_base.specs.Entry.{Entry}
use Rattle.bm_base.specs.Mask.{has_bit}
use Rattle.bm_base.specs.Machine.{Machine, IsMachine, IsTime}
use Rattle.bm_base.specs.Names.{has_element}
use Rattle.bm_base.specs.Spec.{time_of}
use Rattle.bm_base.proofs.MaskBits.{is_below-bits}
use Rattle.tuple_ir.specs.declared.tuple.Tuple.{Tuple}
use Rattle.tuple_ir.specs.declared.block.Next.{Next}
use Rattle.tuple_ir.specs.declared.block.Next.TheVariants.{Halt, Goto, If}
use Rattle.tuple_ir.specs.Sound.{leads_below, asks_value}
use Rattle.line_model.specs.declared.line.Item.{Item}
use Rattle.line_model.specs.declared.line.StreamItem.{StreamItem}
use Rattle.line_model.specs.declared.line.StreamItem.TheVariants.{Do, Wait}
use Rattle.line_model.specs.Streams.{stream, masks}
use Rattle.unit_law.specs.State.{Program, Code, code_at}
use Rattle.unit_law.specs.Sound.{IsCodeSound}
use Rattle.stream_image.specs.declared.given.Stream.{Stream}
use Rattle.stream_image.specs.Line.{items_of}
use Rattle.stream_image.specs.Image.{IsImage}
use Rattle.stream_image.specs.Refused.{target_fault}
use Rattle.stream_image.specs.Again.{first_blocks, AreStreamsOf}
use Rattle.stream_image.proofs.Again.{built_again}
use Rattle.stream_file.specs.Words.{classes}
use Rattle.stream_file.specs.RowFits.{InRange}
use Rattle.stream_file.specs.Fields.{BlockFields, Fits, HeadFits, TupleFits, ItemFits, NextFits, KindFits, StreamFits, AreAbove, BlockFits, text_of, fits_mask}
use Rattle.stream_file.specs.Images.{with_fields, with_all, program_of, head_of, machine_of, AllTaken, IsTextOfImage}
use Rattle.stream_file.specs.Written.{version_of, given_by, streams_from, fields_at, blocks_from, fields_of}
use Rattle.stream_file.specs.Typed.{IsTyped}
use Rattle.stream_file.proofs.Loaded.{nine_are, increasing}

-- ---- the head

head_fits : (p d : ℕ) → 1 ≤ p → p ≤ 128 → d ≤ 100 → HeadFits (version_of p d) p d
head_fits p d low high quick = elim (cases_lt 64 p) [
  | inl more ↦ (let t : nat_le p 64 ≡ false = grind (arith, nat_tests) in subst (λ v. HeadFits v p d) (sym (three t)) (record {
    low = omega arith;
    high = omega arith;
    processors_fit = grind (arith, nat_tests);
    barrier_fits = (λ e. absurd (omega (arith, e)), λ _. grind (arith, nat_tests));
  }))
  | inr few ↦ (let t : nat_le p 64 ≡ true = grind (arith, nat_tests) in by_delay t d quick)
]
  where
    three : nat_le p 64 ≡ false → version_of p d ≡ 3
    three t = rw t refl

    two : nat_le p 64 ≡ true → (d : ℕ) → version_of p (suc d) ≡ 2
    two t d = let z : nat_eq (suc d) 0 ≡ false = grind (arith, nat_tests) in rw t (rw z refl)

    by_delay : nat_le p 64 ≡ true → (d : ℕ) → d ≤ 100 → HeadFits (version_of p d) p d
    by_delay t zero q = rw t (record {
      low = omega arith;
      high = omega arith;
      processors_fit = grind (arith, nat_tests);
      barrier_fits = (λ _. refl, λ n. absurd (n refl));
    })
    by_delay t (suc d) q = subst (λ v. HeadFits v p (suc d)) (sym (two t d)) (record {
      low = omega arith;
      high = omega arith;
      processors_fit = grind (arith, nat_tests);
      barrier_fits = (λ e. absurd (omega (arith, e)), λ _. grind (arith, nat_tests));
    })

times_are : (m : Machine) → length m.times ≡ 9 → map (time_of m) classes ≡ m.times
times_are m h =
    let d : Interval = record { least = 1; most = 1 } in
    (λ i. unwrap_or-slice_get m.times 0 d i ∷ unwrap_or-slice_get m.times 1 d i ∷ unwrap_or-slice_get m.times 2 d i ∷ unwrap_or-slice_get m.times 3 d i ∷ unwrap_or-slice_get m.times 4 d i ∷ unwrap_or-slice_get m.times 5 d i ∷ unwrap_or-slice_get m.times 6 d i ∷ unwrap_or-slice_get m.times 7 d i ∷ unwrap_or-slice_get m.times 8 d i ∷ []) ∙ nine_are m.times h d

kinds_fit : (es : List Entry) → AllByRecursion (λ (e : Entry). InRange e.kind) es → list_all (λ (e : Entry). has_element e.kind) es ≡ true → AllByRecursion (λ (e : Entry). KindFits e.kind) es
kinds_fit [] h k = tt
kinds_fit (e ∷ es) h k = (one e.kind h.0 (first _ _ k), kinds_fit es h.1 (second _ _ k))
  where
    first : (a b : Bool) → (a && b) ≡ true → a ≡ true
    first true b e = refl
    first false b e = e

    second : (a b : Bool) → (a && b) ≡ true → b ≡ true
    second true b e = e
    second false b e = absurd (cc)

    one : (k : Kind) → InRange k → has_element k ≡ true → KindFits k
    one (Var initial) r t = r
    one (Array len) r t = (grind (arith, nat_tests), r)

-- ---- streams

weaker : (p : ℕ) (ss : List Stream) → AreAbove (suc p) ss → AreAbove p ss
weaker p [] h = tt
weaker p (s ∷ ss) h = (omega (arith, h.0), h.1)

given_above : (p : ℕ) (items : List StreamItem) (ss : List Stream) → AreAbove (suc p) ss → AreAbove p (given_by p items ss)
given_above p [] ss h = weaker p ss h
given_above p (i ∷ items) ss h = (omega arith, h)

rising : (p k : ℕ) (line : List Item) → AreAbove p (streams_from p k line)
rising p zero line = tt
rising p (suc k) line = given_above p (stream p line) (streams_from (suc p) k line) (rising (suc p) k line)

none_below : (least q : ℕ) (ss : List Stream) → q < least → AreAbove least ss → items_of ss q ≡ []
none_below least q [] l h = refl
none_below least q (s ∷ ss) l h =
    let t : nat_eq s.processor q ≡ false = apart s.processor q (omega (arith, h.0)) in
    rw t (none_below (suc s.processor) q ss (omega (arith, h.0)) h.1)
  where
    apart : (a q : ℕ) → q < a → nat_eq a q ≡ false
    apart a q l = grind (arith, nat_tests)

given_own : (p : ℕ) (items : List StreamItem) (ss : List Stream) → AreAbove (suc p) ss → items_of (given_by p items ss) p ≡ items
given_own p [] ss h = none_below (suc p) p ss (omega arith) h
given_own p (i ∷ items) ss h = let t : nat_eq p p ≡ true = grind (arith, nat_tests) in rw t refl

given_other : (p q : ℕ) (items : List StreamItem) (ss : List Stream) → p < q → items_of (given_by p items ss) q ≡ items_of ss q
given_other p q [] ss l = refl
given_other p q (i ∷ items) ss l = let t : nat_eq p q ≡ false = grind (arith, nat_tests) in rw t refl

streams_are : (p k q : ℕ) (line : List Item) → p ≤ q → q < p + k → items_of (streams_from p k line) q ≡ stream q line
streams_are p zero q line l h = absurd (omega arith)
streams_are p (suc k) q line l h = elim (cases_lt p q) [
  | inl more ↦ given_other p q (stream p line) (streams_from (suc p) k line) more ∙ streams_are (suc p) k q line (omega arith) (omega arith)
  | inr less ↦ (let e : p ≡ q = omega arith in subst (λ (x : ℕ). items_of (given_by p (stream p line) (streams_from (suc p) k line)) x ≡ stream x line) e (given_own p (stream p line) (streams_from (suc p) k line) (rising (suc p) k line)))
]

items_fit : (c : ℕ) (is : List StreamItem) → c ≤ 128 → ((k t : ℕ) → slice_get is k ≡ Some (Do t) → t < c) → AllByRecursion ItemFits is
items_fit c [] l h = tt
items_fit c (Wait ∷ is) l h = (tt, items_fit c is l (λ k t e. h (suc k) t e))
items_fit c (Do t ∷ is) l h = (omega (arith, h 0 t refl), items_fit c is l (λ k u e. h (suc k) u e))

given_fits : (p : ℕ) (items : List StreamItem) (ss : List Stream) → p ≤ 255 → AllByRecursion ItemFits items → AllByRecursion StreamFits ss → AllByRecursion StreamFits (given_by p items ss)
given_fits p [] ss l h k = k
given_fits p (i ∷ items) ss l h k = (record { processor = l; some = omega arith; each = h }, k)

streams_fit : (p k : ℕ) (line : List Item) → p + k ≤ 256 → ((q : ℕ) → AllByRecursion ItemFits (stream q line)) → AllByRecursion StreamFits (streams_from p k line)
streams_fit p zero line l h = tt
streams_fit p (suc k) line l h = given_fits p (stream p line) (streams_from (suc p) k line) (omega arith) (h p) (streams_fit (suc p) k line (omega arith) h)

-- ---- masks

mask_fits : (p d m : ℕ) → p ≤ 128 → m < 2 ^ p → fits_mask (version_of p d) m ≡ true
mask_fits p d m high h = elim (cases_lt 64 p) [
  | inl more ↦ (let t : nat_le p 64 ≡ false = grind (arith, nat_tests) in let k : m < 2 ^ 128 = wide high in rw t (grind (arith, nat_tests)))
  | inr few ↦ (let t : nat_le p 64 ≡ true = grind (arith, nat_tests) in let k : m < 2 ^ 64 = narrow few in by_delay t d k)
]
  where
    wide : p ≤ 128 → m < 2 ^ 128
    wide l = let g : 2 ^ p ≤ 2 ^ 128 = pow_mono l in omega (arith, g, h)

    narrow : p ≤ 64 → m < 2 ^ 64
    narrow l = let g : 2 ^ p ≤ 2 ^ 64 = pow_mono l in omega (arith, g, h)

    by_delay : nat_le p 64 ≡ true → (d : ℕ) → m < 2 ^ 64 → fits_mask (version_of p d) m ≡ true
    by_delay t zero k = rw t (grind (arith, nat_tests))
    by_delay t (suc d) k = rw t (grind (arith, nat_tests))

masks_fit : (p d : ℕ) (ms : List ℕ) → p ≤ 128 → ((j q m : ℕ) → slice_get ms j ≡ Some m → has_bit m q ≡ true → q < p) → AllByRecursion (λ m. fits_mask (version_of p d) m ≡ true) ms
masks_fit p d [] high h = tt
masks_fit p d (m ∷ ms) high h = (mask_fits p d m high (is_below-bits m p (λ q l. foreign q l (has_bit m q) refl)), masks_fit p d ms high (λ j q x e k. h (suc j) q x e k))
  where
    foreign : (q : ℕ) → p ≤ q → (b : Bool) → has_bit m q ≡ b → has_bit m q ≡ false
    foreign q l true e = absurd (omega (arith, h 0 q m refl e))
    foreign q l false e = e

-- ---- blocks

next_fits : (count : ℕ) (tuples : List Tuple) (next : Next) → count ≤ 4294967296 → length tuples ≤ 128 → leads_below count next → asks_value tuples next → NextFits next
next_fits count tuples Halt few l h k = tt
next_fits count tuples (Goto b) few l h k = omega (arith, h)
next_fits count tuples (If c one other) few l h k = (omega (arith, k.0, l), omega (arith, h.0), omega (arith, h.1))

long_blocks : (m : Program) (b k : ℕ) → length (blocks_from m b k) ≡ k
long_blocks m b zero = refl
long_blocks m b (suc k) = ap suc (long_blocks m (suc b) k)

code_fits : (m : Program) (b : ℕ) → m.machine.processors ≤ 128 → length m.blocks ≤ 4294967296 → IsCodeSound m (code_at m b) → AllByRecursion TupleFits (code_at m b).tuples → BlockFits (version_of m.machine.processors m.machine.delay) (fields_at m b)
code_fits m b high few sound typed =
    let code : Code = code_at m b in
    record {
      open_fits = record {
        few_tuples = sound.block.few;
        tuples_fit = typed;
        few_masks = sound.few_masks;
        masks_fit = masks_fit m.machine.processors m.machine.delay (masks code.line) high (λ j q x e k. sound.fit.members j q (record { mask = x; at = e; has = k }));
        streams_fit = streams_fit 0 m.machine.processors code.line (omega arith) (λ q. items_fit (length code.tuples) (stream q code.line) sound.block.few (λ k t e. (sound.fit.stands t q k (record { item = e })).1));
        rising = rising 0 m.machine.processors code.line;
      };
      next = next_fits (length m.blocks) code.tuples code.next few sound.block.few sound.block.next.leads sound.block.next.asks;
    }

all_fit : (m : Program) (b k : ℕ) → b + k ≡ length m.blocks → ((i : ℕ) → i < length m.blocks → BlockFits (version_of m.machine.processors m.machine.delay) (fields_at m i)) → AllByRecursion (BlockFits (version_of m.machine.processors m.machine.delay)) (blocks_from m b k)
all_fit m b zero e h = tt
all_fit m b (suc k) e h = (h b (omega arith), all_fit m (suc b) k (omega arith) h)

-- ---- the whole

pub fields_fit : (m : Program) → IsImage m → IsTyped m → Fits (fields_of m)
fields_fit m image typed = record {
  head = head_fits m.machine.processors m.machine.delay typed.machine.some typed.machine.few typed.machine.quick;
  count = refl;
  times = subst (AllByRecursion IsTime) (sym (times_are m.machine typed.machine.count)) typed.machine.each;
  names = record { declared = typed.names; each = kinds_fit m.names typed.kinds typed.names.filled };
  some = subst (λ (k : ℕ). 1 ≤ k) (sym (long_blocks m 0 (length m.blocks))) image.sound.some;
  few = subst (λ (k : ℕ). k ≤ 4294967296) (sym (long_blocks m 0 (length m.blocks))) typed.few;
  each = all_fit m 0 (length m.blocks) (omega arith) (λ i l. code_fits m i typed.machine.few typed.few (image.sound.each i l) (typed.tuples i l));
}

-- ---- the blocks are taken again

within : (p k : ℕ) (line : List Item) (n : ℕ) → p + k ≤ n → AllByRecursion (λ (s : Stream). s.processor < n) (streams_from p k line)
within p zero line n l = tt
within p (suc k) line n l = by (stream p line) (within (suc p) k line n (omega arith))
  where
    by : (items : List StreamItem) → AllByRecursion (λ (s : Stream). s.processor < n) (streams_from (suc p) k line) → AllByRecursion (λ (s : Stream). s.processor < n) (given_by p items (streams_from (suc p) k line))
    by [] h = h
    by (i ∷ items) h = (omega arith, h)

own_streams : (n : ℕ) (line : List Item) → AreStreamsOf n line (streams_from 0 n line)
own_streams n line = record {
  increasing = increasing 0 (streams_from 0 n line) (rising 0 n line);
  within = within 0 n line n (omega arith);
  items = λ p l. streams_are 0 n p line (omega arith) (omega (arith, l));
}

-- behind the first b blocks of an image, its further ones are taken, and give the image
pub record GoesOn (m : Program) (b : ℕ) (bs : List BlockFields) : Type 0 where
  pub taken : AllTaken (first_blocks m b) bs
  pub whole : with_all (first_blocks m b) bs ≡ m

goes_on : (m : Program) → IsImage m → (b k : ℕ) → b + k ≡ length m.blocks → GoesOn m b (blocks_from m b k)
goes_on m image b zero e = record { taken = tt; whole = subst (λ (k : ℕ). first_blocks m k ≡ m) (sym (omega arith)) (built_again.all m image) }
goes_on m image b (suc k) e =
    let n : ℕ = m.machine.processors in
    let line : List Item = (code_at m b).line in
    let again = built_again.each m b (streams_from 0 n line) image (omega arith) (own_streams n line) in
    let same : with_fields (first_blocks m b) (fields_at m b) ≡ first_blocks m (suc b) = again.same ∙ ap (first_blocks m) (add-one b) in
    let rest = goes_on m image (suc b) k (omega arith) in
    record {
      taken = (again.accepted, subst (λ (p : Program). AllTaken p (blocks_from m (suc b) k)) (sym same) rest.taken);
      whole = ap (λ (p : Program). with_all p (blocks_from m (suc b) k)) same ∙ rest.whole;
    }

machine_again : (m : Program) → IsMachine m.machine → machine_of (fields_of m) ≡ m.machine
machine_again m h = λ i. record { processors = m.machine.processors; delay = m.machine.delay; times = times_are m.machine h.count i }

head_again : (m : Program) → IsMachine m.machine → head_of (fields_of m) ≡ first_blocks m 0
head_again m h = (λ i. record { machine = machine_again m h i; names = m.names; blocks = []; lines = [] }) ∙ sym (built_again.none m)

-- the text of an image is the text of this image
pub image_text : (m : Program) → IsImage m → IsTyped m → IsTextOfImage (text_of (fields_of m)) m
image_text m image typed =
    let on : GoesOn m 0 (blocks_from m 0 (length m.blocks)) = goes_on m image 0 (length m.blocks) (omega arith) in
    let head : head_of (fields_of m) ≡ first_blocks m 0 = head_again m typed.machine in
    let same : program_of (fields_of m) ≡ m = ap (λ (p : Program). with_all p (blocks_from m 0 (length m.blocks))) head ∙ on.whole in
    record {
      fields = fields_of m;
      text = record { fits = fields_fit m image typed; text = refl };
      taken = record {
        each = subst (λ (p : Program). AllTaken p (blocks_from m 0 (length m.blocks))) (sym head) on.taken;
        targets = subst (λ (p : Program). target_fault p.blocks ≡ None) (sym same) (built_again.targets m image);
      };
      image = same;
    }
