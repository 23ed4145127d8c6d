-- The line of streams and masks has each tuple as often as the streams, and its items are lawful.
use Rattle.std.proofs.Common.{◌≡◌, ℕ, zero, suc, ◌+◌, ◌<◌, ◌≤◌, Bool, true, false, nat_eq, List, [], ◌∷◌, ◌++◌, Contains, refl, sym, ap, ◌∙◌, arith, subst, eqb-true, eq-eqb, if◌then◌else◌, true≢false, cond}
use Rattle.std.specs.Prelude.{◌==◌}
use Rattle.std.specs.List.{AllByRecursion, IsDistinct}
use Rattle.bm_base.specs.Mask.{has_bit}
use Rattle.line_model.specs.declared.line.Item.TheVariants.{Bar}
use Rattle.line_model.specs.declared.line.StreamItem.{StreamItem}
use Rattle.line_model.specs.declared.line.StreamItem.TheVariants.{Do, Wait}
use Rattle.time_interval.specs.Lines.{IsItem, tuples}
use Rattle.time_interval.proofs.NextFacts.{tuples-append}
use Rattle.stream_image.specs.Keeps.{count_in}
use Rattle.stream_image.specs.Firsts.{count_of}
use Rattle.stream_image.specs.Line.{runs_ahead, behind_wait, ahead, passed, line_of}
use Rattle.stream_image.proofs.FirstFaults.{count_append}
use Rattle.stream_image.proofs.LineStreams.{AreEven, front, no_waits, even_next}

-- how often a tuple stands in the streams of the processors below n
abbrev pub total : ℕ → ℕ → (ℕ → List StreamItem) → ℕ
total zero t ss = 0
total (suc p) t ss = total p t ss + count_in t (ss p)

runs_count : (t p : ℕ) (items : List StreamItem) → count_of t (tuples (runs_ahead p items)) ≡ count_in t (front items)
runs_count t p [] = refl
runs_count t p (Do u ∷ items) = ap (λ k. cond (u == t) (k + 1) k) (runs_count t p items)
runs_count t p (Wait ∷ items) = refl

count_split : (t : ℕ) (items : List StreamItem) → count_in t (front items) + count_in t (behind_wait items) ≡ count_in t items
count_split t [] = refl
count_split t (Do u ∷ items) = go (u == t) (count_split t items)
  where
    go : (b : Bool) → count_in t (front items) + count_in t (behind_wait items) ≡ count_in t items → cond b (count_in t (front items) + 1) (count_in t (front items)) + count_in t (behind_wait items) ≡ cond b (count_in t items + 1) (count_in t items)
    go true e = omega arith
    go false e = e
count_split t (Wait ∷ items) = omega arith

-- what is taken, and what is left
ahead_count : (n t : ℕ) (c : ℕ → Bool) (ss rest : ℕ → List StreamItem) → ((p : ℕ) → p < n → count_of t (tuples (if c p then runs_ahead p (ss p) else [])) + count_in t (rest p) ≡ count_in t (ss p)) → count_of t (tuples (ahead n c ss)) + total n t rest ≡ total n t ss
ahead_count zero t c ss rest h = refl
ahead_count (suc q) t c ss rest h =
    let part = if c q then runs_ahead q (ss q) else [] in
    let e : count_of t (tuples (ahead q c ss ++ part)) ≡ count_of t (tuples (ahead q c ss)) + count_of t (tuples part) = ap (count_of t) (tuples-append (ahead q c ss) part) ∙ count_append t (tuples (ahead q c ss)) (tuples part) in
    let i : count_of t (tuples (ahead q c ss)) + total q t rest ≡ total q t ss = ahead_count q t c ss rest (λ p l. h p (omega arith)) in
    let k : count_of t (tuples part) + count_in t (rest q) ≡ count_in t (ss q) = h q (omega arith) in
    omega arith

total_none : (n t : ℕ) → total n t (λ p. []) ≡ 0
total_none zero t = refl
total_none (suc n) t = let e = total_none n t in omega arith

pub line_count : (n t : ℕ) (ms : List ℕ) (ss : ℕ → List StreamItem) → AreEven n ss ms → count_of t (tuples (line_of n ss ms)) ≡ total n t ss
line_count n t [] ss h =
    let a : count_of t (tuples (ahead n (λ p. true) ss)) + total n t (λ p. []) ≡ total n t ss = ahead_count n t (λ p. true) ss (λ p. []) (λ p l. let r = runs_count t p (ss p) in let w : count_in t (front (ss p)) ≡ count_in t (ss p) = ap (count_in t) (no_waits (ss p) (h p l)) in omega arith) in
    let z = total_none n t in
    omega arith
line_count n t (m ∷ ms) ss h =
    let e : count_of t (tuples (ahead n (has_bit m) ss ++ Bar m ∷ line_of n (passed m ss) ms)) ≡ count_of t (tuples (ahead n (has_bit m) ss)) + count_of t (tuples (line_of n (passed m ss) ms)) = ap (count_of t) (tuples-append (ahead n (has_bit m) ss) (Bar m ∷ line_of n (passed m ss) ms)) ∙ count_append t (tuples (ahead n (has_bit m) ss)) (tuples (line_of n (passed m ss) ms)) in
    let i = line_count n t ms (passed m ss) (even_next n m ss ms h) in
    let a = ahead_count n t (has_bit m) ss (passed m ss) (λ p l. part p (has_bit m p)) in
    omega arith
  where
    part : (p : ℕ) (b : Bool) → count_of t (tuples (if b then runs_ahead p (ss p) else [])) + count_in t (if b then behind_wait (ss p) else ss p) ≡ count_in t (ss p)
    part p true = let r = runs_count t p (ss p) in let s = count_split t (ss p) in omega arith
    part p false = omega arith

-- ---- a list in which each number stands once at most

one_more : (u t k : ℕ) → k ≤ cond (u == t) (k + 1) k
one_more u t k = go (u == t)
  where
    go : (b : Bool) → k ≤ cond b (k + 1) k
    go true = omega arith
    go false = omega arith

same_more : (u k : ℕ) → cond (u == u) (k + 1) k ≡ k + 1
same_more u k = ap (λ b. cond b (k + 1) k) (eq-eqb u u refl)

none_there : (u : ℕ) (us : List ℕ) → count_of u us ≡ 0 → AllByRecursion (λ y. nat_eq u y ≡ false) us
none_there u [] h = tt
none_there u (v ∷ us) h = go (nat_eq u v) refl (none_there u us)
  where
    go : (b : Bool) → nat_eq u v ≡ b → (count_of u us ≡ 0 → AllByRecursion (λ y. nat_eq u y ≡ false) us) → AllByRecursion (λ y. nat_eq u y ≡ false) (v ∷ us)
    go true e rec =
        let s : count_of u us + 1 ≡ 0 = sym (subst (λ x. cond (x == u) (count_of u us + 1) (count_of u us) ≡ count_of u us + 1) (eqb-true u v e) (same_more u (count_of u us))) ∙ h in
        absurd (omega arith)
    go false e rec = (e, rec (let l = one_more v u (count_of u us) in omega (arith, l, h)))

pub distinct_of : (us : List ℕ) → ((t : ℕ) → count_of t us ≤ 1) → IsDistinct nat_eq us
unfolding IsDistinct
distinct_of [] h = tt
distinct_of (u ∷ us) h = (none_there u us (let a = h u in let s = same_more u (count_of u us) in omega (arith, a, s)), distinct_of us (λ t. let a = h t in let l = one_more u t (count_of t us) in omega (arith, a, l)))

no_count : (t : ℕ) (us : List ℕ) → AllByRecursion (λ y. nat_eq t y ≡ false) us → count_of t us ≡ 0
no_count t [] h = refl
no_count t (u ∷ us) h = go (u == t) refl (no_count t us h.1)
  where
    go : (b : Bool) → (u == t) ≡ b → count_of t us ≡ 0 → count_of t (u ∷ us) ≡ 0
    go true e rec = absurd (true≢false (sym (eq-eqb t u (sym (eqb-true u t e))) ∙ h.0))
    go false e rec = ap (λ b. cond b (count_of t us + 1) (count_of t us)) e ∙ rec

pub count_distinct : (us : List ℕ) → IsDistinct nat_eq us → (t : ℕ) → count_of t us ≤ 1
unfolding IsDistinct
count_distinct [] h t = omega arith
count_distinct (u ∷ us) h t = go (u == t) refl (count_distinct us h.1 t)
  where
    go : (b : Bool) → (u == t) ≡ b → count_of t us ≤ 1 → cond (u == t) (count_of t us + 1) (count_of t us) ≤ 1
    go true e rec = let z : count_of t us ≡ 0 = no_count t us (subst (λ x. AllByRecursion (λ y. nat_eq x y ≡ false) us) (eqb-true u t e) h.0) in subst (λ b. cond b (count_of t us + 1) (count_of t us) ≤ 1) (sym e) (omega arith)
    go false e rec = subst (λ b. cond b (count_of t us + 1) (count_of t us) ≤ 1) (sym e) rec

-- ---- a number that stands in a list

pub contains_of : (us : List ℕ) (t : ℕ) → 1 ≤ count_of t us → Contains us t
contains_of [] t h = absurd (omega arith)
contains_of (u ∷ us) t h = go (u == t) refl h (contains_of us t)
  where
    go : (b : Bool) → (u == t) ≡ b → 1 ≤ cond b (count_of t us + 1) (count_of t us) → (1 ≤ count_of t us → Contains us t) → Contains (u ∷ us) t
    go true e k rec = (0, omega arith, eqb-true u t e)
    go false e k rec = let r = rec k in (suc r.0, omega (arith, r.1), r.2)

pub count_contains : (us : List ℕ) (t : ℕ) → Contains us t → 1 ≤ count_of t us
count_contains [] t h = absurd (omega (arith, h.1))
count_contains (u ∷ us) t (zero, l, e) = subst (λ x. 1 ≤ cond (x == t) (count_of t us + 1) (count_of t us)) (sym e) (let s = same_more t (count_of t us) in omega (arith, s))
count_contains (u ∷ us) t (suc k, l, e) = let r = count_contains us t (k, omega arith, e) in let m = one_more u t (count_of t us) in omega (arith, r, m)

-- ---- the items

-- a tuple is one of so many
abbrev pub IsBelow : ℕ → StreamItem → Type 0
IsBelow c (Do t) = t < c
IsBelow c Wait = Unit {0}

each_append : {A : Type 0} (P : A → Type 0) (xs ys : List A) → AllByRecursion P xs → AllByRecursion P ys → AllByRecursion P (xs ++ ys)
each_append P [] ys h k = k
each_append P (x ∷ xs) ys h k = (h.0, each_append P xs ys h.1 k)

runs_items : (c n p : ℕ) (items : List StreamItem) → p < n → AllByRecursion (IsBelow c) items → AllByRecursion (IsItem c n) (runs_ahead p items)
runs_items c n p [] l h = tt
runs_items c n p (Do t ∷ items) l h = ((l, h.0), runs_items c n p items l h.1)
runs_items c n p (Wait ∷ items) l h = tt

ahead_items : (c n k : ℕ) (ch : ℕ → Bool) (ss : ℕ → List StreamItem) → k ≤ n → ((p : ℕ) → p < k → AllByRecursion (IsBelow c) (ss p)) → AllByRecursion (IsItem c n) (ahead k ch ss)
ahead_items c n zero ch ss l h = tt
ahead_items c n (suc q) ch ss l h = each_append (IsItem c n) (ahead q ch ss) (if ch q then runs_ahead q (ss q) else []) (ahead_items c n q ch ss (omega arith) (λ p m. h p (omega arith))) (part (ch q))
  where
    part : (b : Bool) → AllByRecursion (IsItem c n) (if b then runs_ahead q (ss q) else [])
    part true = runs_items c n q (ss q) (omega arith) (h q (omega arith))
    part false = tt

behind_below : (c : ℕ) (items : List StreamItem) → AllByRecursion (IsBelow c) items → AllByRecursion (IsBelow c) (behind_wait items)
behind_below c [] h = tt
behind_below c (Do t ∷ items) h = behind_below c items h.1
behind_below c (Wait ∷ items) h = h.1

passed_below : (c : ℕ) (b : Bool) (items : List StreamItem) → AllByRecursion (IsBelow c) items → AllByRecursion (IsBelow c) (if b then behind_wait items else items)
passed_below c true items h = behind_below c items h
passed_below c false items h = h

pub line_items : (c n : ℕ) (ms : List ℕ) (ss : ℕ → List StreamItem) → ((p : ℕ) → p < n → AllByRecursion (IsBelow c) (ss p)) → AllByRecursion (λ m. IsItem c n (Bar m)) ms → AllByRecursion (IsItem c n) (line_of n ss ms)
line_items c n [] ss h k = ahead_items c n n (λ p. true) ss (omega arith) h
line_items c n (m ∷ ms) ss h k = each_append (IsItem c n) (ahead n (has_bit m) ss) (Bar m ∷ line_of n (passed m ss) ms) (ahead_items c n n (has_bit m) ss (omega arith) h) (k.0, line_items c n ms (passed m ss) (λ p l. passed_below c (has_bit m p) (ss p) (h p l)) k.1)

-- items that count no tuple from a number on are below it
pub below_of : (c : ℕ) (items : List StreamItem) → ((t : ℕ) → 1 ≤ count_in t items → t < c) → AllByRecursion (IsBelow c) items
below_of c [] h = tt
below_of c (Do t ∷ items) h = (h t (let s = same_more t (count_in t items) in omega (arith, s)), below_of c items (λ u l. h u (let m = one_more t u (count_in u items) in omega (arith, l, m))))
below_of c (Wait ∷ items) h = (tt, below_of c items h)
