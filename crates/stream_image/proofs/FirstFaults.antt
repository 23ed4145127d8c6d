-- The fault that is told is the first.
use Rattle.std.proofs.Common.{◌≡◌, ℕ, ◌+◌, ◌/◌, ◌^◌, ◌<◌, ◌≤◌, zero, suc, refl, sym, ap, subst, ◌∙◌, arith, Bool, true, false, List, [], ◌∷◌, ◌++◌, length, Some, None, Option, Ok, Err, Result, true≢false, cond, get_or, append_assoc}
use Rattle.std.specs.Prelude.{◌==◌, nat_lt, slice_get, slice_set, ◌⊎◌}
use Rattle.std.proofs.Common.{inl, inr}
use Rattle.std.specs.List.{AllByRecursion}
use Rattle.std.proofs.lemmas.Bool.Decides.{nat_tests}
use Rattle.bm_base.specs.Entry.{Entry}
use Rattle.tuple_ir.specs.declared.tuple.Tuple.{Tuple}
use Rattle.tuple_ir.specs.declared.block.Next.{Next}
use Rattle.tuple_ir.specs.declared.block.Next.TheVariants.{Halt, Goto, If}
use Rattle.line_model.specs.declared.line.StreamItem.{StreamItem}
use Rattle.line_model.specs.declared.line.StreamItem.TheVariants.{Do, Wait}
use Rattle.stream_image.specs.declared.given.Stream.{Stream}
use Rattle.stream_image.specs.declared.fault.ImageFault.{ImageFault}
use Rattle.stream_image.specs.declared.fault.ImageFault.TheVariants.{Processor, TupleMissing, Operand, Cell, Waits, MaskEmpty, MaskBit}
use Rattle.stream_image.specs.Check.{foreign, seeing, seeing_all, missing_from, none_seen, once_of, asks, first_false, operand_at, operand_from, is_value, cell_fault, waits_of, masks_of, waits_from, empty_from, bit_from, ◌orelse◌, first_fault}
use Rattle.stream_image.specs.Keeps.{IsTrueTest, IsTrueCell, AreItems, ItemFits, count_in, count_all, once_if}
use Rattle.stream_image.specs.Firsts.{numbers_in, numbers, count_of, IsForeign, IsEmptyMask, IsMissing, IsTwice, IsForeignBit, IsFirst}
use Rattle.stream_image.proofs.Once.{some_none, chosen, once_none, at, AllSeen, all_ok, set_length, one_seen, seeing_ok, start_at, none_length, no_ok, err_same}
use Rattle.stream_image.proofs.Keeping.{foreign_none, operand_none, cell_none, waits_none, empty_none, false_none, some_same, eq_true, true_eq, small_zero, zero_small, pow_some}

front_one : {A : Type 0} (P : A → Type 0) (x : A) (xs : List A) → P x → AllByRecursion P xs → AllByRecursion P (x ∷ xs)
front_one P x xs p h = (p, h)

-- ---- a processor

lt_false : (a b : ℕ) → nat_lt a b ≡ false → b ≤ a
lt_false a b h = grind (arith, nat_tests)

true_lt : (a b : ℕ) → nat_lt a b ≡ true → a < b
true_lt a b h = grind (arith, nat_tests)

abbrev ForeignIs : ℕ → ℕ → List Stream → ImageFault → Type 0
ForeignIs block n ss f = (p : ℕ) × ((f ≡ Processor block p) × IsForeign n ss p)

more_foreign : {block : ℕ} (n : ℕ) (s : Stream) (ss : List Stream) (f : ImageFault) → s.processor < n → ForeignIs block n ss f → ForeignIs block n (s ∷ ss) f
more_foreign {block} n s ss f l h = (h.0, (h.1.0, record { front = s ∷ h.1.1.front; stream = h.1.1.stream; rest = h.1.1.rest; streams_are = ap (λ x. s ∷ x) h.1.1.streams_are; own = (l, h.1.1.own); is = h.1.1.is; lacked = h.1.1.lacked }))

foreign_is : {block : ℕ} (n : ℕ) (ss : List Stream) (f : ImageFault) → foreign block n ss ≡ Some f → ForeignIs block n ss f
foreign_is {block} n [] f h = absurd (some_none (sym h))
foreign_is {block} n (s ∷ ss) f h = elim (chosen (nat_lt s.processor n) (foreign block n ss) (Some (Processor block s.processor)) (Some f) h) [
  | inl p ↦ more_foreign n s ss f (true_lt s.processor n p.0) (foreign_is n ss f p.1)
  | inr p ↦ (s.processor, (sym (some_same p.1), record { front = []; stream = s; rest = ss; streams_are = refl; own = tt; is = refl; lacked = lt_false s.processor n p.0 }))
]

-- ---- masks

abbrev EmptyIs : ℕ → ℕ → List ℕ → ImageFault → Type 0
EmptyIs block k ms f = (j : ℕ) × ((f ≡ MaskEmpty block (k + j)) × IsEmptyMask ms j)

more_empty : {block : ℕ} (k m : ℕ) (ms : List ℕ) (f : ImageFault) → (m ≡ 0 → ⊥) → EmptyIs block (k + 1) ms f → EmptyIs block k (m ∷ ms) f
more_empty {block} k m ms f n h = (suc h.0, (h.1.0 ∙ ap (MaskEmpty block) (let z : (k + 1) + h.0 ≡ k + suc h.0 = omega arith in z), record { at = h.1.1.at; before = by h.0 h.1.1.before }))
  where
    by : (j : ℕ) → ((i x : ℕ) → i < j → slice_get ms i ≡ Some x → x ≡ 0 → ⊥) → (i x : ℕ) → i < suc j → slice_get (m ∷ ms) i ≡ Some x → x ≡ 0 → ⊥
    by j b zero x l g e = n (some_same g ∙ e)
    by j b (suc i) x l g e = b i x (omega arith) g e

empty_is : {block : ℕ} (k : ℕ) (ms : List ℕ) (f : ImageFault) → empty_from block k ms ≡ Some f → EmptyIs block k ms f
empty_is {block} k [] f h = absurd (some_none (sym h))
empty_is {block} k (m ∷ ms) f h = elim (chosen (m == 0) (Some (MaskEmpty block k)) (empty_from block (k + 1) ms) (Some f) h) [
  | inl p ↦ (0, (sym (some_same p.1) ∙ ap (MaskEmpty block) (let z : k ≡ k + 0 = omega arith in z), record { at = ap Some (true_eq m 0 p.0); before = λ i x l. absurd (omega arith) }))
  | inr p ↦ more_empty k m ms f (λ e. true≢false (sym (eq_true m 0 e) ∙ p.0)) (empty_is (k + 1) ms f p.1)
]

abbrev BitIs : ℕ → ℕ → ℕ → List ℕ → ImageFault → Type 0
BitIs block n k ms f = (j : ℕ) × ((f ≡ MaskBit block (k + j)) × IsForeignBit n ms j)

more_bit : {block : ℕ} (n k m : ℕ) (ms : List ℕ) (f : ImageFault) → m < 2 ^ n → BitIs block n (k + 1) ms f → BitIs block n k (m ∷ ms) f
more_bit {block} n k m ms f l h = (suc h.0, (h.1.0 ∙ ap (MaskBit block) (let z : (k + 1) + h.0 ≡ k + suc h.0 = omega arith in z), record { mask = h.1.1.mask; at = h.1.1.at; lacked = h.1.1.lacked; before = by h.0 h.1.1.before }))
  where
    by : (j : ℕ) → ((i x : ℕ) → i < j → slice_get ms i ≡ Some x → x < 2 ^ n) → (i x : ℕ) → i < suc j → slice_get (m ∷ ms) i ≡ Some x → x < 2 ^ n
    by j b zero x q g = subst (λ (y : ℕ). y < 2 ^ n) (some_same g) l
    by j b (suc i) x q g = b i x (omega arith) g

bit_is : {block : ℕ} (n k : ℕ) (ms : List ℕ) (f : ImageFault) → bit_from block n k ms ≡ Some f → BitIs block n k ms f
bit_is {block} n k [] f h = absurd (some_none (sym h))
bit_is {block} n k (m ∷ ms) f h = elim (chosen (m / 2 ^ n == 0) (bit_from block n (k + 1) ms) (Some (MaskBit block k)) (Some f) h) [
  | inl p ↦ more_bit n k m ms f (zero_small m (2 ^ n) (pow_some n) (true_eq (m / 2 ^ n) 0 p.0)) (bit_is n (k + 1) ms f p.1)
  | inr p ↦ (0, (sym (some_same p.1) ∙ ap (MaskBit block) (let z : k ≡ k + 0 = omega arith in z), record { mask = m; at = refl; lacked = great m (2 ^ n) (λ l. true≢false (sym (eq_true (m / 2 ^ n) 0 (small_zero m (2 ^ n) l)) ∙ p.0)); before = λ i x l. absurd (omega arith) }))
]
  where
    great : (a b : ℕ) → (a < b → ⊥) → b ≤ a
    great a b h = omega arith

-- ---- waits

abbrev WaitsIs : ℕ → ℕ → ℕ → List Stream → List ℕ → ImageFault → Type 0
WaitsIs block p n ss ms f = (q : ℕ) × (p ≤ q) × (q < p + n) × (f ≡ Waits block q (waits_of q ss) (masks_of q ms)) × (waits_of q ss ≡ masks_of q ms → ⊥) × ((r : ℕ) → p ≤ r → r < q → waits_of r ss ≡ masks_of r ms)

waits_is : {block : ℕ} (p n : ℕ) (ss : List Stream) (ms : List ℕ) (f : ImageFault) → waits_from block p n ss ms ≡ Some f → WaitsIs block p n ss ms f
waits_is {block} p zero ss ms f h = absurd (some_none (sym h))
waits_is {block} p (suc n) ss ms f h = elim (chosen (waits_of p ss == masks_of p ms) (waits_from block (p + 1) n ss ms) _ (Some f) h) [
  | inr k ↦ (p, omega arith, omega arith, sym (some_same k.1), (λ e. true≢false (sym (eq_true (waits_of p ss) (masks_of p ms) e) ∙ k.0)), λ r l m. absurd (omega arith))
  | inl k ↦ more (true_eq (waits_of p ss) (masks_of p ms) k.0) (waits_is (p + 1) n ss ms f k.1)
]
  where
    above : (q p : ℕ) → (q == p) ≡ false → p ≤ q → p + 1 ≤ q
    above q p e l = grind (arith, nat_tests)

    by : (q r : ℕ) (t : Bool) → (r == p) ≡ t → waits_of p ss ≡ masks_of p ms → p ≤ r → (p + 1 ≤ r → waits_of r ss ≡ masks_of r ms) → waits_of r ss ≡ masks_of r ms
    by q r true e first l rest = subst (λ (x : ℕ). waits_of x ss ≡ masks_of x ms) (sym (true_eq r p e)) first
    by q r false e first l rest = rest (above r p e l)

    more : waits_of p ss ≡ masks_of p ms → WaitsIs block (p + 1) n ss ms f → WaitsIs block p (suc n) ss ms f
    more e w = (w.0, omega (arith, w.1), omega (arith, w.2), w.3, w.4, λ r l m. by w.0 r (r == p) refl e l (λ a. w.5 r a m))

-- ---- operands

false_is : (k : ℕ) (bs : List Bool) (p : ℕ) → first_false k bs ≡ Some p → (j : ℕ) × (p ≡ k + j) × (slice_get bs j ≡ Some false) × ((i : ℕ) (b : Bool) → i < j → slice_get bs i ≡ Some b → b ≡ true)
false_is k [] p h = absurd (some_none (sym h))
false_is k (b ∷ bs) p h = elim (chosen b (first_false (k + 1) bs) (Some k) (Some p) h) [
  | inr q ↦ (0, sym (some_same q.1) ∙ (let z : k ≡ k + 0 = omega arith in z), ap Some q.0, λ i c l. absurd (omega arith))
  | inl q ↦ more q.0 (false_is (k + 1) bs p q.1)
]
  where
    by : (j : ℕ) → b ≡ true → ((i : ℕ) (c : Bool) → i < j → slice_get bs i ≡ Some c → c ≡ true) → (i : ℕ) (c : Bool) → i < suc j → slice_get (b ∷ bs) i ≡ Some c → c ≡ true
    by j e r zero c l g = sym (some_same g) ∙ e
    by j e r (suc i) c l g = r i c (omega arith) g

    more : b ≡ true → ((j : ℕ) × (p ≡ (k + 1) + j) × (slice_get bs j ≡ Some false) × ((i : ℕ) (c : Bool) → i < j → slice_get bs i ≡ Some c → c ≡ true)) → (j : ℕ) × (p ≡ k + j) × (slice_get (b ∷ bs) j ≡ Some false) × ((i : ℕ) (c : Bool) → i < j → slice_get (b ∷ bs) i ≡ Some c → c ≡ true)
    more e r = (suc r.0, omega (arith, r.1), r.2, by r.0 e r.3)

-- ---- a number that stands twice

pub count_append : (t : ℕ) (xs ys : List ℕ) → count_of t (xs ++ ys) ≡ count_of t xs + count_of t ys
count_append t [] ys = omega arith
count_append t (x ∷ xs) ys = elim (x == t) as (λ b. cond b (count_of t (xs ++ ys) + 1) (count_of t (xs ++ ys)) ≡ cond b (count_of t xs + 1) (count_of t xs) + count_of t ys) [ true ↦ omega (arith, count_append t xs ys) | false ↦ count_append t xs ys ]

count_numbers : (t : ℕ) (is : List StreamItem) → count_of t (numbers_in is) ≡ count_in t is
count_numbers t [] = refl
count_numbers t (Wait ∷ is) = count_numbers t is
count_numbers t (Do u ∷ is) = ap (λ (n : ℕ). cond (u == t) (n + 1) n) (count_numbers t is)

abbrev Tracks : List Bool → List ℕ → Type 0
Tracks seen front = (u : ℕ) → at seen u ≡ count_of u front

few_at : (seen : List Bool) (u : ℕ) → at seen u ≤ 1
few_at seen u = elim (get_or seen u false) as (λ b. once_if b ≤ 1) [ true ↦ omega arith | false ↦ omega arith ]

record TwiceIn (front : List ℕ) (all : List ℕ) (t : ℕ) : Type 0 where
  more : List ℕ
  rest : List ℕ
  all_is : all ≡ more ++ t ∷ rest
  again : 1 ≤ count_of t (front ++ more)
  few : (u : ℕ) → count_of u (front ++ more) ≤ 1

append_none : (xs : List ℕ) → xs ++ [] ≡ xs
append_none [] = refl
append_none (x ∷ xs) = ap (λ l. x ∷ l) (append_none xs)

track_more : (seen : List Bool) (front : List ℕ) (u : ℕ) → length seen ≡ 256 → u < 256 → get_or seen u false ≡ false → Tracks seen front → Tracks (slice_set seen u true) (front ++ u ∷ [])
track_more seen front u l h f tr v =
    let a : at (slice_set seen u true) v + 0 ≡ at seen v + count_of v (u ∷ []) = one_seen seen u v 0 l h f in
    omega (arith, count_append v front (u ∷ []), tr v)

twice_more : (front : List ℕ) (u : ℕ) (all : List ℕ) (t : ℕ) → TwiceIn (front ++ u ∷ []) all t → TwiceIn front (u ∷ all) t
twice_more front u all t h = record {
  more = u ∷ h.more;
  rest = h.rest;
  all_is = ap (λ l. u ∷ l) h.all_is;
  again = subst (λ (l : List ℕ). 1 ≤ count_of t l) (append_assoc front (u ∷ []) h.more) h.again;
  few = λ v. subst (λ (l : List ℕ). count_of v l ≤ 1) (append_assoc front (u ∷ []) h.more) (h.few v);
}

seen_twice : (seen : List Bool) (front : List ℕ) (is : List StreamItem) (t : ℕ) → length seen ≡ 256 → Tracks seen front → AllByRecursion ItemFits is → seeing seen is ≡ Err t → TwiceIn front (numbers_in is) t
seen_twice seen front [] t l tr f h = absurd (no_ok (sym h))
seen_twice seen front (Wait ∷ is) t l tr f h = seen_twice seen front is t l tr f.1 h
seen_twice seen front (Do u ∷ is) t l tr f h = elim (chosen (get_or seen u false) (Err u) (seeing (slice_set seen u true) is) (Err t) h) [
  | inl p ↦
      (let s : u ≡ t = err_same p.1 in
      let one : count_of t front ≡ 1 = sym (tr t) ∙ ap (λ (x : ℕ). at seen x) (sym s) ∙ ap once_if p.0 in
      record { more = []; rest = numbers_in is; all_is = ap (λ (x : ℕ). x ∷ numbers_in is) s; again = subst (λ (l : List ℕ). 1 ≤ count_of t l) (sym (append_none front)) (omega arith); few = λ v. subst (λ (l : List ℕ). count_of v l ≤ 1) (sym (append_none front)) (omega (arith, tr v, few_at seen v)) })
  | inr p ↦ twice_more front u (numbers_in is) t (seen_twice (slice_set seen u true) (front ++ u ∷ []) is t (set_length seen u true ∙ l) (track_more seen front u l f.0 p.0 tr) f.1 p.1)
]

abbrev on_rest : List Stream → Result (List Bool) ℕ → Result (List Bool) ℕ
on_rest ss (Ok seen) = seeing_all seen ss
on_rest ss (Err t) = Err t

all_twice : (seen : List Bool) (front : List ℕ) (ss : List Stream) (t : ℕ) → length seen ≡ 256 → Tracks seen front → AreItems ss → seeing_all seen ss ≡ Err t → TwiceIn front (numbers ss) t
all_twice seen front [] t l tr f h = absurd (no_ok (sym h))
all_twice seen front (s ∷ ss) t l tr f h = by (seeing seen s.items) refl h (λ mid k q p. all_twice mid (front ++ numbers_in s.items) ss t k q f.1 p)
  where
    by : (r : Result (List Bool) ℕ) → seeing seen s.items ≡ r → on_rest ss r ≡ Err t → ((mid : List Bool) → length mid ≡ 256 → Tracks mid (front ++ numbers_in s.items) → seeing_all mid ss ≡ Err t → TwiceIn (front ++ numbers_in s.items) (numbers ss) t) → TwiceIn front (numbers (s ∷ ss)) t
    by (Err u) e p next =
        let k = seen_twice seen front s.items t l tr f.0 (e ∙ p) in
        record { more = k.more; rest = k.rest ++ numbers ss; all_is = ap (λ l. l ++ numbers ss) k.all_is ∙ append_assoc k.more (t ∷ k.rest) (numbers ss); again = k.again; few = k.few }
    by (Ok mid) e p next =
        let k = seeing_ok seen s.items mid l f.0 e in
        let n = next mid k.0 (λ u. omega (arith, k.1 u, tr u, count_append u front (numbers_in s.items), count_numbers u s.items)) p in
        record { more = numbers_in s.items ++ n.more; rest = n.rest; all_is = ap (λ l. numbers_in s.items ++ l) n.all_is ∙ sym (append_assoc (numbers_in s.items) n.more (t ∷ n.rest)); again = subst (λ (l : List ℕ). 1 ≤ count_of t l) (append_assoc front (numbers_in s.items) n.more) n.again; few = λ u. subst (λ (l : List ℕ). count_of u l ≤ 1) (append_assoc front (numbers_in s.items) n.more) (n.few u) }

twice_is : (ss : List Stream) (t : ℕ) → AreItems ss → seeing_all none_seen ss ≡ Err t → IsTwice ss t
twice_is ss t f h =
    let k = all_twice none_seen [] ss t (none_length 256) start_at f h in
    record { front = k.more; rest = k.rest; numbers_are = k.all_is; again = k.again; before = k.few }

-- ---- a number that is missing

record MissingIs (t count : ℕ) (bs : List Bool) (u : ℕ) : Type 0 where
  i : ℕ
  number : u ≡ t + i
  here : i < length bs
  differs : get_or bs i false ≡ nat_lt u count → ⊥
  before : (j : ℕ) → j < i → get_or bs j false ≡ nat_lt (t + j) count

missing_more : (t count : ℕ) (b : Bool) (bs : List Bool) (u : ℕ) → b ≡ nat_lt t count → MissingIs (t + 1) count bs u → MissingIs t count (b ∷ bs) u
missing_more t count b bs u e h = record { i = suc h.i; number = omega (arith, h.number); here = omega (arith, h.here); differs = h.differs; before = by h.i h.before }
  where
    by : (i : ℕ) → ((j : ℕ) → j < i → get_or bs j false ≡ nat_lt ((t + 1) + j) count) → (j : ℕ) → j < suc i → get_or (b ∷ bs) j false ≡ nat_lt (t + j) count
    by i r zero l = e ∙ ap (λ (n : ℕ). nat_lt n count) (omega arith)
    by i r (suc j) l = r j (omega arith) ∙ ap (λ (n : ℕ). nat_lt n count) (omega arith)

missing_here : (t count : ℕ) (b : Bool) (bs : List Bool) (u : ℕ) → t ≡ u → (b ≡ nat_lt t count → ⊥) → MissingIs t count (b ∷ bs) u
missing_here t count b bs u e n = record { i = 0; number = sym e ∙ omega arith; here = omega arith; differs = λ s. n (s ∙ ap (λ (x : ℕ). nat_lt x count) (sym e)); before = λ j l. absurd (omega arith) }

missing_is : (t count : ℕ) (bs : List Bool) (u : ℕ) → missing_from t count bs ≡ Some u → MissingIs t count bs u
missing_is t count [] u h = absurd (some_none (sym h))
missing_is t count (b ∷ bs) u h = by (nat_lt t count) b refl refl h (λ p. missing_is (t + 1) count bs u p)
  where
    by : (x c : Bool) → nat_lt t count ≡ x → b ≡ c → cond x (cond c (missing_from (t + 1) count bs) (Some t)) (cond c (Some t) (missing_from (t + 1) count bs)) ≡ Some u → (missing_from (t + 1) count bs ≡ Some u → MissingIs (t + 1) count bs u) → MissingIs t count (b ∷ bs) u
    by true true e f p next = missing_more t count b bs u (f ∙ sym e) (next p)
    by false false e f p next = missing_more t count b bs u (f ∙ sym e) (next p)
    by true false e f p next = missing_here t count b bs u (some_same p) (λ s. true≢false (sym e ∙ sym s ∙ f))
    by false true e f p next = missing_here t count b bs u (some_same p) (λ s. true≢false (sym f ∙ s ∙ e))

once_apart : (x y : Bool) → (x ≡ y → ⊥) → once_if x ≡ once_if y → ⊥
once_apart true true h e = h refl
once_apart false false h e = h refl
once_apart true false h e = omega arith
once_apart false true h e = omega arith

missing_stands : (count : ℕ) (ss : List Stream) (seen : List Bool) (u : ℕ) → AllSeen none_seen ss seen → missing_from 0 count seen ≡ Some u → ((v : ℕ) → v < 256 → count_all v ss ≤ 1) × IsMissing count ss u
missing_stands count ss seen u k h =
    let m = missing_is 0 count seen u h in
    let e : u ≡ m.i = omega (arith, m.number) in
    let counts : (v : ℕ) → count_all v ss ≡ at seen v = λ v. omega (arith, k.1 v, start_at v) in (
      (λ v l. omega (arith, counts v, few_at seen v)),
      record { below = omega (arith, m.here, k.0); differs = λ s. once_apart (get_or seen m.i false) (nat_lt u count) m.differs (ap (λ (x : ℕ). at seen x) (sym e) ∙ sym (counts u) ∙ s); before = λ v l. counts v ∙ ap once_if (m.before v (omega arith) ∙ ap (λ (n : ℕ). nat_lt n count) (omega arith)) },
    )

-- ---- operands

record OperandIs (block : ℕ) (names : List Entry) (all : List Tuple) (i : ℕ) (ts : List Tuple) (f : ImageFault) : Type 0 where
  j : ℕ
  tuple : Tuple
  place : ℕ
  fault : f ≡ Operand block (i + j) place
  here : slice_get ts j ≡ Some tuple
  wrong : slice_get (asks names all (i + j) tuple) place ≡ Some false
  before_place : (k : ℕ) (b : Bool) → k < place → slice_get (asks names all (i + j) tuple) k ≡ Some b → b ≡ true
  before : (k : ℕ) (t : Tuple) → k < j → slice_get ts k ≡ Some t → AllByRecursion IsTrueTest (asks names all (i + k) t)

operand_here : {block : ℕ} (names : List Entry) (all : List Tuple) (i : ℕ) (t : Tuple) (ts : List Tuple) (f : ImageFault) (p : ℕ) → first_false 0 (asks names all i t) ≡ Some p → Operand block i p ≡ f → OperandIs block names all i (t ∷ ts) f
operand_here {block} names all i t ts f p h e =
    let k = false_is 0 (asks names all i t) p h in
    let z : i ≡ i + 0 = omega arith in
    let q : k.0 ≡ p = omega (arith, k.1) in
    record {
      j = 0;
      tuple = t;
      place = p;
      fault = sym e ∙ ap (λ (n : ℕ). Operand block n p) z;
      here = refl;
      wrong = ap (λ (n : ℕ). slice_get (asks names all n t) p) (sym z) ∙ ap (λ (n : ℕ). slice_get (asks names all i t) n) (sym q) ∙ k.2;
      before_place = λ m b l g. k.3 m b (omega arith) (ap (λ (n : ℕ). slice_get (asks names all n t) m) z ∙ g);
      before = λ m x l. absurd (omega arith);
    }

operand_later : {block : ℕ} (names : List Entry) (all : List Tuple) (i : ℕ) (t : Tuple) (ts : List Tuple) (f : ImageFault) → first_false 0 (asks names all i t) ≡ None → OperandIs block names all (i + 1) ts f → OperandIs block names all i (t ∷ ts) f
operand_later {block} names all i t ts f h k =
    let z : (i + 1) + k.j ≡ i + suc k.j = omega arith in
    record {
      j = suc k.j;
      tuple = k.tuple;
      place = k.place;
      fault = k.fault ∙ ap (λ (n : ℕ). Operand block n k.place) z;
      here = k.here;
      wrong = ap (λ (n : ℕ). slice_get (asks names all n k.tuple) k.place) (sym z) ∙ k.wrong;
      before_place = λ m b l g. k.before_place m b l (ap (λ (n : ℕ). slice_get (asks names all n k.tuple) m) z ∙ g);
      before = by k.j k.before;
    }
  where
    by : (j : ℕ) → ((m : ℕ) (x : Tuple) → m < j → slice_get ts m ≡ Some x → AllByRecursion IsTrueTest (asks names all ((i + 1) + m) x)) → (m : ℕ) (x : Tuple) → m < suc j → slice_get (t ∷ ts) m ≡ Some x → AllByRecursion IsTrueTest (asks names all (i + m) x)
    by j r zero x l g = let y : i ≡ i + 0 = omega arith in subst (λ (n : ℕ). AllByRecursion IsTrueTest (asks names all n x)) y (subst (λ (w : Tuple). AllByRecursion IsTrueTest (asks names all i w)) (some_same g) (false_none 0 (asks names all i t) h))
    by j r (suc m) x l g = let y : (i + 1) + m ≡ i + suc m = omega arith in subst (λ (n : ℕ). AllByRecursion IsTrueTest (asks names all n x)) y (r m x (omega arith) g)

operand_is : {block : ℕ} (names : List Entry) (all : List Tuple) (i : ℕ) (ts : List Tuple) (f : ImageFault) → operand_from block names all i ts ≡ Some f → OperandIs block names all i ts f
operand_is {block} names all i [] f h = absurd (some_none (sym h))
operand_is {block} names all i (t ∷ ts) f h = by (first_false 0 (asks names all i t)) refl h (λ p. operand_is names all (i + 1) ts f p)
  where
    by : (o : Option ℕ) → first_false 0 (asks names all i t) ≡ o → operand_at block i o (operand_from block names all (i + 1) ts) ≡ Some f → (operand_from block names all (i + 1) ts ≡ Some f → OperandIs block names all (i + 1) ts f) → OperandIs block names all i (t ∷ ts) f
    by (Some p) e q next = operand_here names all i t ts f p e (some_same q)
    by None e q next = operand_later names all i t ts f e (next q)

-- ---- all together

first_of : (a b : Option ImageFault) (f : ImageFault) → (a orelse b) ≡ Some f → (a ≡ Some f) ⊎ ((a ≡ None) × (b ≡ Some f))
first_of None b f h = inr (refl, h)
first_of (Some e) b f h = inl h

module _ (block : ℕ) (names : List Entry) (processors : ℕ) (tuples : List Tuple) (next : Next) (streams : List Stream) (masks : List ℕ) (fits : AreItems streams) where
  abbrev First : ImageFault → Type 0
  First f = IsFirst block names processors tuples next streams masks f

  once_first : (f : ImageFault) → foreign block processors streams ≡ None → once_of block (length tuples) (seeing_all none_seen streams) ≡ Some f → First f
  once_first f none h = by (seeing_all none_seen streams) refl h
    where
      own : AllByRecursion (λ (s : Stream). s.processor < processors) streams
      own = foreign_none block processors streams none

      by_missing : (seen : List Bool) → AllSeen none_seen streams seen → (o : Option ℕ) → missing_from 0 (length tuples) seen ≡ o → elim o as (λ _. Option ImageFault) [ Some t ↦ Some (TupleMissing block t) | None ↦ None ] ≡ Some f → First f
      by_missing seen k None e p = absurd (some_none (sym p))
      by_missing seen k (Some t) e p = let m = missing_stands (length tuples) streams seen t k e in subst First (some_same p) (refl, own, m.0, m.1)

      by : (r : Result (List Bool) ℕ) → seeing_all none_seen streams ≡ r → once_of block (length tuples) r ≡ Some f → First f
      by (Err t) e p = subst First (some_same p) (refl, own, twice_is streams t fits e)
      by (Ok seen) e p = by_missing seen (all_ok none_seen streams seen (none_length 256) fits e) (missing_from 0 (length tuples) seen) refl p

  operand_first : (f : ImageFault) → once_of block (length tuples) (seeing_all none_seen streams) ≡ None → operand_from block names tuples 0 tuples ≡ Some f → First f
  operand_first f none h =
      let k = operand_is names tuples 0 tuples f h in
      let z : 0 + k.j ≡ k.j = omega arith in
      subst First (sym (k.fault ∙ ap (λ (n : ℕ). Operand block n k.place) z)) (
        refl,
        once_none block (length tuples) streams fits none,
        record {
          tuple = k.tuple;
          at = k.here;
          wrong = ap (λ (n : ℕ). slice_get (asks names tuples n k.tuple) k.place) (sym z) ∙ k.wrong;
          before_place = λ m b l g. k.before_place m b l (ap (λ (n : ℕ). slice_get (asks names tuples n k.tuple) m) z ∙ g);
          before = λ m t l g. subst (λ (n : ℕ). AllByRecursion IsTrueTest (asks names tuples n t)) (let y : 0 + m ≡ m = omega arith in y) (k.before m t l g);
        },
      )

  cell_first : (f : ImageFault) → operand_from block names tuples 0 tuples ≡ None → cell_fault block tuples next ≡ Some f → First f
  cell_first f none h = by next refl h
    where
      all : (j : ℕ) (t : Tuple) → slice_get tuples j ≡ Some t → AllByRecursion IsTrueTest (asks names tuples j t)
      all j t g = subst (λ (n : ℕ). AllByRecursion IsTrueTest (asks names tuples n t)) (let y : 0 + j ≡ j = omega arith in y) (operand_none block names tuples 0 tuples none j t g)

      by : (n : Next) → next ≡ n → cell_fault block tuples n ≡ Some f → First f
      by Halt e p = absurd (some_none (sym p))
      by (Goto b) e p = absurd (some_none (sym p))
      by (If c x y) e p = elim (chosen (is_value tuples (length tuples) c) None (Some (Cell block c)) (Some f) p) [
        | inl q ↦ absurd (some_none (sym q.1))
        | inr q ↦ subst First (some_same q.1) (refl, all, λ t. (let u : IsTrueCell tuples (If c x y) = subst (IsTrueCell tuples) e t in true≢false (sym u ∙ q.0)))
      ]

  waits_first : (f : ImageFault) → cell_fault block tuples next ≡ None → waits_from block 0 processors streams masks ≡ Some f → First f
  waits_first f none h =
      let w = waits_is 0 processors streams masks f h in
      subst First (sym w.3) (refl, cell_none block tuples next none, record { within = omega (arith, w.2); waits = refl; masks_are = refl; uneven = w.4; before = λ q l. w.5 q (omega arith) l })

  empty_first : (f : ImageFault) → waits_from block 0 processors streams masks ≡ None → empty_from block 0 masks ≡ Some f → First f
  empty_first f none h =
      let k = empty_is 0 masks f h in
      let z : 0 + k.0 ≡ k.0 = omega arith in
      subst First (sym (k.1.0 ∙ ap (MaskEmpty block) z)) (refl, (λ q l. waits_none block 0 processors streams masks none q (omega arith) (omega arith)), k.1.1)

  bit_first : (f : ImageFault) → empty_from block 0 masks ≡ None → bit_from block processors 0 masks ≡ Some f → First f
  bit_first f none h =
      let k = bit_is processors 0 masks f h in
      let z : 0 + k.0 ≡ k.0 = omega arith in
      subst First (sym (k.1.0 ∙ ap (MaskBit block) z)) (refl, empty_none block 0 masks none, k.1.1)

  foreign_first : (f : ImageFault) → foreign block processors streams ≡ Some f → First f
  foreign_first f h = let k = foreign_is processors streams f h in subst First (sym k.1.0) (refl, k.1.1)

  -- the fault that is told is the first
  pub told_first : (f : ImageFault) → first_fault block names processors tuples next streams masks ≡ Some f → First f
  told_first f h = elim (first_of (foreign block processors streams) _ f h) [
    | inl p ↦ foreign_first f p
    | inr p ↦ elim (first_of (once_of block (length tuples) (seeing_all none_seen streams)) _ f p.1) [
      | inl q ↦ once_first f p.0 q
      | inr q ↦ elim (first_of (operand_from block names tuples 0 tuples) _ f q.1) [
        | inl r ↦ operand_first f q.0 r
        | inr r ↦ elim (first_of (cell_fault block tuples next) _ f r.1) [
          | inl s ↦ cell_first f r.0 s
          | inr s ↦ elim (first_of (waits_from block 0 processors streams masks) _ f s.1) [
            | inl t ↦ waits_first f s.0 t
            | inr t ↦ elim (first_of (empty_from block 0 masks) (bit_from block processors 0 masks) f t.1) [
              | inl u ↦ empty_first f t.0 u
              | inr u ↦ bit_first f u.0 u.1
            ]
          ]
        ]
      ]
    ]
  ]
