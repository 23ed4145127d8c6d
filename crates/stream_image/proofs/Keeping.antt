-- The first fault is none exactly where a block keeps all.
use Rattle.std.proofs.Common.{◌≡◌, ℕ, ◌+◌, ◌*◌, ◌/◌, ◌%◌, ◌^◌, ◌<◌, ◌≤◌, zero, suc, refl, sym, ap, subst, ◌∙◌, arith, Bool, true, false, List, [], ◌∷◌, length, Some, None, Option, true≢false, cond, pow-suc}
use Rattle.std.specs.Prelude.{◌==◌, nat_lt, slice_get}
use Rattle.std.proofs.Common.{inl, inr}
use Rattle.std.specs.List.{AllByRecursion}
use Rattle.std.proofs.Math.Nat.{div-add-mod, mod-lt}
use Rattle.std.proofs.lemmas.Bool.Decides.{nat_tests}
use Rattle.bm_base.specs.Entry.{Entry}
use Rattle.tuple_ir.specs.declared.tuple.Tuple.{Tuple}
use Rattle.tuple_ir.specs.declared.block.Next.{Next}
use Rattle.tuple_ir.specs.declared.block.Next.TheVariants.{Halt, Goto, If}
use Rattle.stream_image.specs.declared.given.Stream.{Stream}
use Rattle.stream_image.specs.declared.fault.ImageFault.{ImageFault}
use Rattle.stream_image.specs.declared.fault.ImageFault.TheVariants.{Processor, Cell, Waits, MaskEmpty, MaskBit}
use Rattle.stream_image.specs.Check.{foreign, seeing_all, none_seen, once_of, asks, first_false, operand_at, operand_from, is_value, cell_fault, waits_of, masks_of, waits_from, empty_from, bit_from, ◌orelse◌, first_fault}
use Rattle.stream_image.specs.Keeps.{Keeps, IsTrueTest, IsTrueCell, AreItems}
use Rattle.stream_image.proofs.Once.{some_none, chosen, once_none, none_once}

either : (a b : Option ImageFault) → (a orelse b) ≡ None → (a ≡ None) × (b ≡ None)
either None b h = (refl, h)
either (Some e) b h = absurd (some_none h)

both : (a b : Option ImageFault) → a ≡ None → b ≡ None → (a orelse b) ≡ None
both None b h k = k
both (Some e) b h k = absurd (some_none h)

pub lt_true : (a b : ℕ) → a < b → nat_lt a b ≡ true
lt_true a b h = grind (arith, nat_tests)

true_lt : (a b : ℕ) → nat_lt a b ≡ true → a < b
true_lt a b h = grind (arith, nat_tests)

pub eq_true : (a b : ℕ) → a ≡ b → (a == b) ≡ true
eq_true a b h = grind (arith, nat_tests)

pub true_eq : (a b : ℕ) → (a == b) ≡ true → a ≡ b
true_eq a b h = grind (arith, nat_tests)

abbrev Within : ℕ → Stream → Type 0
Within n s = s.processor < n

pub foreign_none : (block : ℕ) (n : ℕ) (ss : List Stream) → foreign block n ss ≡ None → AllByRecursion (Within n) ss
foreign_none block n [] h = tt
foreign_none block n (s ∷ ss) h = elim (chosen (nat_lt s.processor n) (foreign block n ss) (Some (Processor block s.processor)) None h) [
  | inl p ↦ (true_lt s.processor n p.0, foreign_none block n ss p.1)
  | inr p ↦ absurd (some_none p.1)
]

none_foreign : (block : ℕ) (n : ℕ) (ss : List Stream) → AllByRecursion (Within n) ss → foreign block n ss ≡ None
none_foreign block n [] h = refl
none_foreign block n (s ∷ ss) h = ap (λ (t : Bool). cond t (foreign block n ss) (Some (Processor block s.processor))) (lt_true s.processor n h.0) ∙ none_foreign block n ss h.1

pub false_none : (k : ℕ) (bs : List Bool) → first_false k bs ≡ None → AllByRecursion IsTrueTest bs
false_none k [] h = tt
false_none k (b ∷ bs) h = elim (chosen b (first_false (k + 1) bs) (Some k) None h) [
  | inl p ↦ (p.0, false_none (k + 1) bs p.1)
  | inr p ↦ absurd (some_none p.1)
]

none_false : (k : ℕ) (bs : List Bool) → AllByRecursion IsTrueTest bs → first_false k bs ≡ None
none_false k [] h = refl
none_false k (b ∷ bs) h = ap (λ (t : Bool). cond t (first_false (k + 1) bs) (Some k)) h.0 ∙ none_false (k + 1) bs h.1

abbrev Asks : List Entry → List Tuple → ℕ → List Tuple → Type 0
Asks names all i ts = (j : ℕ) (t : Tuple) → slice_get ts j ≡ Some t → AllByRecursion IsTrueTest (asks names all (i + j) t)

pub split_operand : (block : ℕ) (i : ℕ) (o : Option ℕ) (rest : Option ImageFault) → operand_at block i o rest ≡ None → (o ≡ None) × (rest ≡ None)
split_operand block i None rest h = (refl, h)
split_operand block i (Some p) rest h = absurd (some_none h)

pub some_same : {A : Type 0} {x y : A} → Some x ≡ Some y → x ≡ y
some_same h = cc

pub no_get : {A : Type 0} (j : ℕ) (x : A) → slice_get [] j ≡ Some x → ⊥
no_get zero x h = some_none (sym h)
no_get (suc j) x h = some_none (sym h)

pub operand_none : (block : ℕ) (names : List Entry) (all : List Tuple) (i : ℕ) (ts : List Tuple) → operand_from block names all i ts ≡ None → Asks names all i ts
operand_none block names all i [] h j t g = absurd (no_get j t g)
operand_none block names all i (x ∷ xs) h zero t g =
    let k = split_operand block i (first_false 0 (asks names all i x)) (operand_from block names all (i + 1) xs) h in
    let z : i ≡ i + 0 = omega arith in
    subst (λ (n : ℕ). AllByRecursion IsTrueTest (asks names all n t)) z (subst (λ (y : Tuple). AllByRecursion IsTrueTest (asks names all i y)) (some_same g) (false_none 0 (asks names all i x) k.0))
operand_none block names all i (x ∷ xs) h (suc j) t g =
    let k = split_operand block i (first_false 0 (asks names all i x)) (operand_from block names all (i + 1) xs) h in
    let z : (i + 1) + j ≡ i + suc j = omega arith in
    subst (λ (n : ℕ). AllByRecursion IsTrueTest (asks names all n t)) z (operand_none block names all (i + 1) xs k.1 j t g)

none_operand : (block : ℕ) (names : List Entry) (all : List Tuple) (i : ℕ) (ts : List Tuple) → Asks names all i ts → operand_from block names all i ts ≡ None
none_operand block names all i [] h = refl
none_operand block names all i (x ∷ xs) h =
    let z : i + 0 ≡ i = omega arith in
    let a = none_false 0 (asks names all i x) (subst (λ (n : ℕ). AllByRecursion IsTrueTest (asks names all n x)) z (h 0 x refl)) in
    ap (λ (o : Option ℕ). operand_at block i o (operand_from block names all (i + 1) xs)) a
    ∙ none_operand block names all (i + 1) xs (λ j t g. subst (λ (n : ℕ). AllByRecursion IsTrueTest (asks names all n t)) (let y : i + suc j ≡ (i + 1) + j = omega arith in y) (h (suc j) t g))

pub cell_none : (block : ℕ) (ts : List Tuple) (n : Next) → cell_fault block ts n ≡ None → IsTrueCell ts n
cell_none block ts Halt h = tt
cell_none block ts (Goto b) h = tt
cell_none block ts (If c x y) h = elim (chosen (is_value ts (length ts) c) None (Some (Cell block c)) None h) [ inl p ↦ p.0 | inr p ↦ absurd (some_none p.1) ]

none_cell : (block : ℕ) (ts : List Tuple) (n : Next) → IsTrueCell ts n → cell_fault block ts n ≡ None
none_cell block ts Halt h = refl
none_cell block ts (Goto b) h = refl
none_cell block ts (If c x y) h = ap (λ (t : Bool). cond t None (Some (Cell block c))) h

pub waits_none : (block : ℕ) (p n : ℕ) (ss : List Stream) (ms : List ℕ) → waits_from block p n ss ms ≡ None → (q : ℕ) → p ≤ q → q < p + n → waits_of q ss ≡ masks_of q ms
waits_none block p zero ss ms h q l k = absurd (omega arith)
waits_none block p (suc n) ss ms h q l k = elim (chosen (waits_of p ss == masks_of p ms) (waits_from block (p + 1) n ss ms) _ None h) [
  | inr r ↦ absurd (some_none r.1)
  | inl r ↦ by (q == p) refl (true_eq (waits_of p ss) (masks_of p ms) r.0) (λ m. waits_none block (p + 1) n ss ms r.1 q m (omega arith))
]
  where
    above : (q p : ℕ) → (q == p) ≡ false → p ≤ q → p + 1 ≤ q
    above q p e l = grind (arith, nat_tests)

    by : (t : Bool) → (q == p) ≡ t → waits_of p ss ≡ masks_of p ms → (p + 1 ≤ q → waits_of q ss ≡ masks_of q ms) → waits_of q ss ≡ masks_of q ms
    by true e first rest = subst (λ (x : ℕ). waits_of x ss ≡ masks_of x ms) (sym (true_eq q p e)) first
    by false e first rest = rest (above q p e l)

none_waits : (block : ℕ) (p n : ℕ) (ss : List Stream) (ms : List ℕ) → ((q : ℕ) → p ≤ q → q < p + n → waits_of q ss ≡ masks_of q ms) → waits_from block p n ss ms ≡ None
none_waits block p zero ss ms h = refl
none_waits block p (suc n) ss ms h =
    ap (λ (t : Bool). cond t (waits_from block (p + 1) n ss ms) (Some (Waits block p (waits_of p ss) (masks_of p ms)))) (eq_true (waits_of p ss) (masks_of p ms) (h p (omega arith) (omega arith)))
    ∙ none_waits block (p + 1) n ss ms (λ q l k. h q (omega arith) (omega arith))

abbrev NotZero : ℕ → Type 0
NotZero m = m ≡ 0 → ⊥

pub empty_none : (block : ℕ) (j : ℕ) (ms : List ℕ) → empty_from block j ms ≡ None → AllByRecursion NotZero ms
empty_none block j [] h = tt
empty_none block j (m ∷ ms) h = elim (chosen (m == 0) (Some (MaskEmpty block j)) (empty_from block (j + 1) ms) None h) [
  | inl p ↦ absurd (some_none p.1)
  | inr p ↦ ((λ e. true≢false (sym (eq_true m 0 e) ∙ p.0)), empty_none block (j + 1) ms p.1)
]

pub ne_false : (a b : ℕ) → (a ≡ b → ⊥) → (a == b) ≡ false
ne_false a b h = elim (a == b) as (λ t. (a == b) ≡ t → t ≡ false) [ true ↦ λ e. absurd (h (true_eq a b e)) | false ↦ λ e. refl ] refl

none_empty : (block : ℕ) (j : ℕ) (ms : List ℕ) → AllByRecursion NotZero ms → empty_from block j ms ≡ None
none_empty block j [] h = refl
none_empty block j (m ∷ ms) h = ap (λ (t : Bool). cond t (Some (MaskEmpty block j)) (empty_from block (j + 1) ms)) (ne_false m 0 h.0) ∙ none_empty block (j + 1) ms h.1

pub pow_some : (n : ℕ) → 0 < 2 ^ n
pow_some zero = omega arith
pow_some (suc n) = omega (arith, pow_some n, pow-suc 2 n)

pub small_zero : (a b : ℕ) → a < b → a / b ≡ 0
small_zero a b h = grind arith

pub zero_small : (a b : ℕ) → 0 < b → a / b ≡ 0 → a < b
zero_small a b p h = by (a / b) h (div_mod a b p)
  where
    div_mod : (a b : ℕ) → 0 < b → (b * (a / b) + a % b ≡ a) × (a % b < b)
    div_mod a b p = (div-add-mod a b, mod-lt a p)

    by : (q : ℕ) → q ≡ 0 → (b * q + a % b ≡ a) × (a % b < b) → a < b
    by q z k =
        let e : b * 0 + a % b ≡ a = subst (λ (x : ℕ). b * x + a % b ≡ a) z k.0 in
        omega (arith, k.1)

bit_none : (block : ℕ) (n j : ℕ) (ms : List ℕ) → bit_from block n j ms ≡ None → AllByRecursion (λ (m : ℕ). m < 2 ^ n) ms
bit_none block n j [] h = tt
bit_none block n j (m ∷ ms) h = elim (chosen (m / 2 ^ n == 0) (bit_from block n (j + 1) ms) (Some (MaskBit block j)) None h) [
  | inl p ↦ (zero_small m (2 ^ n) (pow_some n) (true_eq (m / 2 ^ n) 0 p.0), bit_none block n (j + 1) ms p.1)
  | inr p ↦ absurd (some_none p.1)
]

none_bit : (block : ℕ) (n j : ℕ) (ms : List ℕ) → AllByRecursion (λ (m : ℕ). m < 2 ^ n) ms → bit_from block n j ms ≡ None
none_bit block n j [] h = refl
none_bit block n j (m ∷ ms) h = ap (λ (t : Bool). cond t (bit_from block n (j + 1) ms) (Some (MaskBit block j))) (eq_true (m / 2 ^ n) 0 (small_zero m (2 ^ n) h.0)) ∙ none_bit block n (j + 1) ms h.1

module _ (block : ℕ) (names : List Entry) (processors : ℕ) (tuples : List Tuple) (next : Next) (streams : List Stream) (masks : List ℕ) where
  pub keeps_all : AreItems streams → first_fault block names processors tuples next streams masks ≡ None → Keeps names processors tuples next streams masks
  keeps_all f h =
      let e1 = either (foreign block processors streams) _ h in
      let e2 = either (once_of block (length tuples) (seeing_all none_seen streams)) _ e1.1 in
      let e3 = either (operand_from block names tuples 0 tuples) _ e2.1 in
      let e4 = either (cell_fault block tuples next) _ e3.1 in
      let e5 = either (waits_from block 0 processors streams masks) _ e4.1 in
      let e6 = either (empty_from block 0 masks) (bit_from block processors 0 masks) e5.1 in
      record {
        within = foreign_none block processors streams e1.0;
        once = once_none block (length tuples) streams f e2.0;
        operands = λ i t g. subst (λ (n : ℕ). AllByRecursion IsTrueTest (asks names tuples n t)) (let z : 0 + i ≡ i = omega arith in z) (operand_none block names tuples 0 tuples e3.0 i t g);
        cell = cell_none block tuples next e4.0;
        waits = λ p l. waits_none block 0 processors streams masks e5.0 p (omega arith) (omega arith);
        some = empty_none block 0 masks e6.0;
        own = bit_none block processors 0 masks e6.1;
      }

  pub kept_none : AreItems streams → Keeps names processors tuples next streams masks → first_fault block names processors tuples next streams masks ≡ None
  kept_none f k =
      both (foreign block processors streams) _ (none_foreign block processors streams k.within)
      (both (once_of block (length tuples) (seeing_all none_seen streams)) _ (none_once block (length tuples) streams f k.once)
      (both (operand_from block names tuples 0 tuples) _ (none_operand block names tuples 0 tuples (λ j t g. subst (λ (n : ℕ). AllByRecursion IsTrueTest (asks names tuples n t)) (let z : j ≡ 0 + j = omega arith in z) (k.operands j t g)))
      (both (cell_fault block tuples next) _ (none_cell block tuples next k.cell)
      (both (waits_from block 0 processors streams masks) _ (none_waits block 0 processors streams masks (λ q l m. k.waits q (omega arith)))
      (both (empty_from block 0 masks) (bit_from block processors 0 masks) (none_empty block 0 masks k.some) (none_bit block processors 0 masks k.own))))))
