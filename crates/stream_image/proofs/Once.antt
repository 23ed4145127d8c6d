-- Each number stands once.
use Rattle.std.proofs.Common.{◌≡◌, ℕ, ◌+◌, ◌<◌, ◌≤◌, zero, suc, refl, sym, ap, subst, ◌∙◌, arith, Bool, true, false, List, [], ◌∷◌, length, Some, None, Option, Ok, Err, Result, true≢false, cond, get_or, replicate}
use Rattle.std.specs.Prelude.{◌==◌, nat_lt, slice_set, ◌⊎◌}
use Rattle.std.proofs.Common.{inl, inr}
use Rattle.std.specs.List.{AllByRecursion}
use Rattle.std.proofs.lemmas.Bool.Decides.{nat_tests}
use Rattle.line_model.specs.declared.line.StreamItem.{StreamItem}
use Rattle.line_model.specs.declared.line.StreamItem.TheVariants.{Do, Wait}
use Rattle.stream_image.specs.declared.given.Stream.{Stream}
use Rattle.stream_image.specs.declared.fault.ImageFault.{ImageFault}
use Rattle.stream_image.specs.declared.fault.ImageFault.TheVariants.{TupleMissing}
use Rattle.stream_image.specs.Check.{seeing, seeing_all, missing_from, none_seen, once_of}
use Rattle.stream_image.specs.Keeps.{count_in, count_all, once_if, ItemFits, AreItems}

pub no_ok : {A E : Type 0} {e : E} {x : A} → ◌≡◌ {A = Result A E} (Err e) (Ok x) → ⊥
no_ok h = cc

pub ok_same : {A E : Type 0} {x y : A} → ◌≡◌ {A = Result A E} (Ok x) (Ok y) → x ≡ y
ok_same h = cc

pub err_same : {A E : Type 0} {x y : E} → ◌≡◌ {A = Result A E} (Err x) (Err y) → x ≡ y
err_same h = cc

pub some_none : {A : Type 0} {x : A} → Some x ≡ None → ⊥
some_none h = cc

pub chosen : {A : Type 0} (b : Bool) (x y z : A) → cond b x y ≡ z → ((b ≡ true) × (x ≡ z)) ⊎ ((b ≡ false) × (y ≡ z))
chosen true x y z e = inl (refl, e)
chosen false x y z e = inr (refl, e)

abbrev pub at : List Bool → ℕ → ℕ
at seen t = once_if (get_or seen t false)

pub set_length : (xs : List Bool) (i : ℕ) (v : Bool) → length (slice_set xs i v) ≡ length xs
set_length [] i v = refl
set_length (x ∷ xs) zero v = refl
set_length (x ∷ xs) (suc i) v = ap suc (set_length xs i v)

pub set_same : (xs : List Bool) (i : ℕ) (v : Bool) → i < length xs → get_or (slice_set xs i v) i false ≡ v
set_same [] i v h = absurd (omega arith)
set_same (x ∷ xs) zero v h = refl
set_same (x ∷ xs) (suc i) v h = set_same xs i v (omega arith)

pub set_other : (xs : List Bool) (i j : ℕ) (v : Bool) → (i ≡ j → ⊥) → get_or (slice_set xs i v) j false ≡ get_or xs j false
set_other [] i j v h = refl
set_other (x ∷ xs) zero zero v h = absurd (h refl)
set_other (x ∷ xs) zero (suc j) v h = refl
set_other (x ∷ xs) (suc i) zero v h = refl
set_other (x ∷ xs) (suc i) (suc j) v h = set_other xs i j v (λ e. h (ap suc e))

-- one number more
pub one_seen : (seen : List Bool) (u t n : ℕ) → length seen ≡ 256 → u < 256 → get_or seen u false ≡ false → at (slice_set seen u true) t + n ≡ at seen t + cond (u == t) (n + 1) n
one_seen seen u t n l h f = by (u == t) refl
  where
    by : (b : Bool) → (u == t) ≡ b → at (slice_set seen u true) t + n ≡ at seen t + cond b (n + 1) n
    by true e =
        let s : u ≡ t = grind (arith, nat_tests) in
        let a : at (slice_set seen u true) t ≡ 1 = ap (λ (x : ℕ). at (slice_set seen u true) x) (sym s) ∙ ap once_if (set_same seen u true (omega arith)) in
        let b : at seen t ≡ 0 = ap (λ (x : ℕ). at seen x) (sym s) ∙ ap once_if f in
        omega arith
    by false e =
        let a : at (slice_set seen u true) t ≡ at seen t = ap once_if (set_other seen u t true (λ s. differ u t e s)) in
        omega arith
      where
        differ : (a b : ℕ) → (a == b) ≡ false → a ≡ b → ⊥
        differ a b e s = grind (arith, nat_tests)

abbrev Seen : List Bool → List StreamItem → List Bool → Type 0
Seen seen is more = (length more ≡ 256) × ((t : ℕ) → at more t ≡ at seen t + count_in t is)

pub seeing_ok : (seen : List Bool) (is : List StreamItem) (more : List Bool) → length seen ≡ 256 → AllByRecursion ItemFits is → seeing seen is ≡ Ok more → Seen seen is more
seeing_ok seen [] more l f h = subst (Seen seen []) (ok_same h) (l, λ t. omega arith)
seeing_ok seen (Wait ∷ is) more l f h = seeing_ok seen is more l f.1 h
seeing_ok seen (Do u ∷ is) more l f h = elim (chosen (get_or seen u false) (Err u) (seeing (slice_set seen u true) is) (Ok more) h) [
  | inl p ↦ absurd (no_ok p.1)
  | inr p ↦
      (let k = seeing_ok (slice_set seen u true) is more (set_length seen u true ∙ l) f.1 p.1 in
      (k.0, λ t. k.1 t ∙ one_seen seen u t (count_in t is) l f.0 p.0))
]

seeing_err : (seen : List Bool) (is : List StreamItem) (t : ℕ) → length seen ≡ 256 → AllByRecursion ItemFits is → seeing seen is ≡ Err t → (t < 256) × (2 ≤ at seen t + count_in t is)
seeing_err seen [] t l f h = absurd (no_ok (sym h))
seeing_err seen (Wait ∷ is) t l f h = seeing_err seen is t l f.1 h
seeing_err seen (Do u ∷ is) t l f h = elim (chosen (get_or seen u false) (Err u) (seeing (slice_set seen u true) is) (Err t) h) [
  | inl p ↦
      (let s : u ≡ t = err_same p.1 in
      let b : (u == t) ≡ true = grind (arith, nat_tests) in
      let n : count_in t (Do u ∷ is) ≡ count_in t is + 1 = ap (λ (x : Bool). cond x (count_in t is + 1) (count_in t is)) b in
      let a : at seen t ≡ 1 = ap (λ (x : ℕ). at seen x) (sym s) ∙ ap once_if p.0 in
      let below : u < 256 = f.0 in
      (omega arith, omega arith))
  | inr p ↦
      (let k = seeing_err (slice_set seen u true) is t (set_length seen u true ∙ l) f.1 p.1 in
      (k.0, omega (arith, one_seen seen u t (count_in t is) l f.0 p.0)))
]

abbrev pub AllSeen : List Bool → List Stream → List Bool → Type 0
AllSeen seen ss more = (length more ≡ 256) × ((t : ℕ) → at more t ≡ at seen t + count_all t ss)

abbrev on : List Stream → Result (List Bool) ℕ → Result (List Bool) ℕ
on ss (Ok seen) = seeing_all seen ss
on ss (Err t) = Err t

pub all_ok : (seen : List Bool) (ss : List Stream) (more : List Bool) → length seen ≡ 256 → AreItems ss → seeing_all seen ss ≡ Ok more → AllSeen seen ss more
all_ok seen [] more l f h = subst (AllSeen seen []) (ok_same h) (l, λ t. omega arith)
all_ok seen (s ∷ ss) more l f h = by (seeing seen s.items) refl h (λ mid k p. all_ok mid ss more k f.1 p)
  where
    by : (r : Result (List Bool) ℕ) → seeing seen s.items ≡ r → on ss r ≡ Ok more → ((mid : List Bool) → length mid ≡ 256 → seeing_all mid ss ≡ Ok more → AllSeen mid ss more) → AllSeen seen (s ∷ ss) more
    by (Err t) e p next = absurd (no_ok p)
    by (Ok mid) e p next =
        let k = seeing_ok seen s.items mid l f.0 e in
        let n = next mid k.0 p in
        (n.0, λ t. omega (arith, n.1 t, k.1 t))

all_err : (seen : List Bool) (ss : List Stream) (t : ℕ) → length seen ≡ 256 → AreItems ss → seeing_all seen ss ≡ Err t → (t < 256) × (2 ≤ at seen t + count_all t ss)
all_err seen [] t l f h = absurd (no_ok (sym h))
all_err seen (s ∷ ss) t l f h = by (seeing seen s.items) refl h (λ mid k p. all_err mid ss t k f.1 p)
  where
    by : (r : Result (List Bool) ℕ) → seeing seen s.items ≡ r → on ss r ≡ Err t → ((mid : List Bool) → length mid ≡ 256 → seeing_all mid ss ≡ Err t → (t < 256) × (2 ≤ at mid t + count_all t ss)) → (t < 256) × (2 ≤ at seen t + count_all t (s ∷ ss))
    by (Err u) e p next =
        let k = seeing_err seen s.items t l f.0 (e ∙ p) in
        (k.0, omega (arith, k.1))
    by (Ok mid) e p next =
        let k = seeing_ok seen s.items mid l f.0 e in
        let n = next mid k.0 p in
        (n.0, omega (arith, n.1, k.1 t))

pub none_at : (n t : ℕ) → get_or (replicate n false) t false ≡ false
none_at zero t = refl
none_at (suc n) zero = refl
none_at (suc n) (suc t) = none_at n t

pub none_length : (n : ℕ) → length (replicate n false) ≡ n
none_length zero = refl
none_length (suc n) = ap suc (none_length n)

-- none is missing where each number is seen as it is a tuple
none_missing : (t count : ℕ) (bs : List Bool) → missing_from t count bs ≡ None → (i : ℕ) → i < length bs → get_or bs i false ≡ nat_lt (t + i) count
none_missing t count [] h i l = absurd (omega arith)
none_missing t count (b ∷ bs) h i l = by (nat_lt t count) b i refl h l (λ p j k. none_missing (t + 1) count bs p j k)
  where
    same : (x y : ℕ) → x ≡ y → nat_lt x count ≡ nat_lt y count
    same x y e = ap (λ (n : ℕ). nat_lt n count) e

    by : (x c : Bool) (i : ℕ) → nat_lt t count ≡ x → cond x (cond c (missing_from (t + 1) count bs) (Some t)) (cond c (Some t) (missing_from (t + 1) count bs)) ≡ None → i < length (c ∷ bs) → (missing_from (t + 1) count bs ≡ None → (j : ℕ) → j < length bs → get_or bs j false ≡ nat_lt ((t + 1) + j) count) → get_or (c ∷ bs) i false ≡ nat_lt (t + i) count
    by true true zero e h l next = sym (same (t + 0) t (omega arith) ∙ e)
    by true true (suc i) e h l next = next h i (omega arith) ∙ same ((t + 1) + i) (t + suc i) (omega arith)
    by true false i e h l next = absurd (some_none h)
    by false true i e h l next = absurd (some_none h)
    by false false zero e h l next = sym (same (t + 0) t (omega arith) ∙ e)
    by false false (suc i) e h l next = next h i (omega arith) ∙ same ((t + 1) + i) (t + suc i) (omega arith)

missing_none : (t count : ℕ) (bs : List Bool) → ((i : ℕ) → i < length bs → get_or bs i false ≡ nat_lt (t + i) count) → missing_from t count bs ≡ None
missing_none t count [] h = refl
missing_none t count (b ∷ bs) h =
    let first : b ≡ nat_lt t count = h 0 (omega arith) ∙ ap (λ (n : ℕ). nat_lt n count) (omega arith) in
    let rest = missing_none (t + 1) count bs (λ i l. h (suc i) (omega arith) ∙ ap (λ (n : ℕ). nat_lt n count) (omega arith)) in
    by (nat_lt t count) b first rest
  where
    by : (x c : Bool) → c ≡ x → missing_from (t + 1) count bs ≡ None → cond x (cond c (missing_from (t + 1) count bs) (Some t)) (cond c (Some t) (missing_from (t + 1) count bs)) ≡ None
    by true true e r = r
    by false false e r = r
    by true false e r = absurd (true≢false (sym e))
    by false true e r = absurd (true≢false e)

abbrev Once : ℕ → List Stream → Type 0
Once count ss = (t : ℕ) → t < 256 → count_all t ss ≡ once_if (nat_lt t count)

once_same : (x y : Bool) → once_if x ≡ once_if y → x ≡ y
once_same true true e = refl
once_same false false e = refl
once_same true false e = absurd (omega arith)
once_same false true e = absurd (omega arith)

once_few : (x : Bool) → once_if x ≤ 1
once_few true = omega arith
once_few false = omega arith

pub start_at : (t : ℕ) → at none_seen t ≡ 0
start_at t = ap once_if (none_at 256 t)

-- the test of numbers passes exactly where each tuple stands once, and nothing else
pub once_none : (block : ℕ) (count : ℕ) (ss : List Stream) → AreItems ss → once_of block count (seeing_all none_seen ss) ≡ None → Once count ss
once_none block count ss f h = by (seeing_all none_seen ss) refl h
  where
    by_missing : (seen : List Bool) → AllSeen none_seen ss seen → (o : Option ℕ) → missing_from 0 count seen ≡ o → elim o as (λ _. Option ImageFault) [ Some t ↦ Some (TupleMissing block t) | None ↦ None ] ≡ None → Once count ss
    by_missing seen k (Some t) e p = absurd (some_none p)
    by_missing seen k None e p = λ t l.
        (let m = none_missing 0 count seen e t (omega (arith, k.0)) in
        let z : 0 + t ≡ t = omega arith in
        let a : at seen t ≡ once_if (nat_lt t count) = ap once_if (m ∙ ap (λ (n : ℕ). nat_lt n count) z) in
        omega (arith, k.1 t, start_at t))

    by : (r : Result (List Bool) ℕ) → seeing_all none_seen ss ≡ r → once_of block count r ≡ None → Once count ss
    by (Err t) e p = absurd (some_none p)
    by (Ok seen) e p = by_missing seen (all_ok none_seen ss seen (none_length 256) f e) (missing_from 0 count seen) refl p

pub none_once : (block : ℕ) (count : ℕ) (ss : List Stream) → AreItems ss → Once count ss → once_of block count (seeing_all none_seen ss) ≡ None
none_once block count ss f h = by (seeing_all none_seen ss) refl
  where
    by : (r : Result (List Bool) ℕ) → seeing_all none_seen ss ≡ r → once_of block count r ≡ None
    by (Err t) e =
        let k = all_err none_seen ss t (none_length 256) f e in
        absurd (omega (arith, start_at t, h t k.0, once_few (nat_lt t count), k.1))
    by (Ok seen) e =
        let k = all_ok none_seen ss seen (none_length 256) f e in
        let m = missing_none 0 count seen (λ i l. once_same (get_or seen i false) (nat_lt (0 + i) count) (k.1 i ∙ each i (omega (arith, k.0)))) in
        ap (λ (o : Option ℕ). elim o as (λ _. Option ImageFault) [ Some t ↦ Some (TupleMissing block t) | None ↦ None ]) m
      where
        each : (i : ℕ) → i < 256 → at none_seen i + count_all i ss ≡ once_if (nat_lt (0 + i) count)
        each i l =
            let z : i ≡ 0 + i = omega arith in
            let c : count_all i ss ≡ once_if (nat_lt (0 + i) count) = h i l ∙ ap (λ (n : ℕ). once_if (nat_lt n count)) z in
            omega (arith, start_at i)
