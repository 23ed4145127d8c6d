-- Where one tuple stands before another on one processor, the other is not ordered before it.
use Rattle.std.proofs.Common.{◌≡◌, ℕ, zero, suc, ◌+◌, ◌<◌, ◌≤◌, Bool, true, false, nat_eq, List, [], ◌∷◌, ◌++◌, max, Option, Some, None, refl, sym, ap, ap₂, ◌∙◌, arith, ◌⊎◌, inl, inr, subst, eq-eqb, if◌then◌else◌}
use Rattle.std.specs.List.{IsDistinct}
use Rattle.std.proofs.lemmas.Bool.{cases_lt}
use Rattle.bm_base.specs.Mask.{has_bit}
use Rattle.line_model.specs.declared.line.Item.{Item}
use Rattle.line_model.specs.declared.line.Item.TheVariants.{Run, Bar}
use Rattle.line_model.specs.Streams.{masks}
use Rattle.line_model.specs.Streams as lines
use Rattle.line_model.specs.Order.{IsOrderedByProcessor, IsOrderedByBarrier}
use Rattle.line_model.proofs.LineFacts.{before_grows}
use Rattle.time_interval.specs.declared.reference.Reference.{Reference}
use Rattle.time_interval.specs.declared.reference.Reference.TheVariants as since
use Rattle.time_interval.specs.Bounds.{Pace, Known, known, along, since_bar, at_start, at_bar, past_run, past_bar, fire_lo, fire_up, greater_known, greater_of_both, later, time, front_of_run, processor_of}
use Rattle.time_interval.specs.Lines.{tuples}
use Rattle.time_interval.specs.Ordered.{IsOrdered, IsInTime}
use Rattle.time_interval.proofs.NextFacts.{front_kept}
use Rattle.time_interval.proofs.Once.{split_at, stand_once, stands_among, stands_behind}
use Rattle.time_interval.proofs.Parts.{chain_up, member_within}
use Rattle.time_interval.proofs.SeenFacts.{by_processor_is}

-- ---- a least bound grows along a line

record AtLeast (x : ℕ) (y : Option ℕ) : Type 0 where
  value : ℕ
  is : y ≡ Some value
  least : x ≤ value

not_known : {A : Type 0} (y : ℕ) → None ≡ Some y → A
not_known y e = absurd (cc)

same_known : (x y : ℕ) → Some x ≡ Some y → x ≡ y
same_known x y e = cc

later_least : (x n : ℕ) (o : Option ℕ) → AtLeast x o → AtLeast (x + n) (later o n)
later_least x n None h = not_known h.value h.is
later_least x n (Some y) h = let e = same_known y h.value h.is in record { value = y + n; is = refl; least = omega (arith, e, h.least) }

less_least : (x y : ℕ) (o : Option ℕ) → y ≤ x → AtLeast x o → AtLeast y o
less_least x y o l h = record { value = h.value; is = h.is; least = omega (arith, l, h.least) }

greater_left : (x : ℕ) (a b : Option ℕ) → AtLeast x a → AtLeast x (greater_known a b)
greater_left x None b h = not_known h.value h.is
greater_left x (Some y) None h = h
greater_left x (Some y) (Some z) h = let e = same_known y h.value h.is in record { value = max y z; is = refl; least = omega (arith, e, h.least) }

greater_right : (x : ℕ) (a b : Option ℕ) → AtLeast x b → AtLeast x (greater_known a b)
greater_right x None b h = h
greater_right x (Some y) None h = not_known h.value h.is
greater_right x (Some y) (Some z) h = let e = same_known z h.value h.is in record { value = max y z; is = refl; least = omega (arith, e, h.least) }

fire_least : (n m p x : ℕ) (lo : ℕ → Option ℕ) → p < n → has_bit m p ≡ true → AtLeast x (lo p) → AtLeast x (fire_lo n m lo)
fire_least zero m p x lo l h e = absurd (omega arith)
fire_least (suc n) m p x lo l h e = go (cases_lt p n) (λ s. fire_least n m p x lo s h e)
  where
    kept : (b : Bool) → AtLeast x (fire_lo n m lo) → AtLeast x (if b then greater_known (fire_lo n m lo) (lo n) else fire_lo n m lo)
    kept true a = greater_left x (fire_lo n m lo) (lo n) a
    kept false a = a

    go : (p < n) ⊎ (n ≤ p) → (p < n → AtLeast x (fire_lo n m lo)) → AtLeast x (if has_bit m n then greater_known (fire_lo n m lo) (lo n) else fire_lo n m lo)
    go (inl s) r = kept (has_bit m n) (r s)
    go (inr s) r =
        let same : p ≡ n = omega arith in
        let hn : has_bit m n ≡ true = subst (λ z. has_bit m z ≡ true) same h in
        subst (λ b. AtLeast x (if b then greater_known (fire_lo n m lo) (lo n) else fire_lo n m lo)) (sym hn) (greater_right x (fire_lo n m lo) (lo n) (subst (λ z. AtLeast x (lo z)) same e))

module _ (pace : Pace) (p : ℕ) (within : p < pace.processors) where
  grows : (x : ℕ) (k : Known) (items : List Item) → AtLeast x (k.lo p) → AtLeast x ((along pace k items).lo p)
  grows x k [] h = h
  grows x k (Run q t ∷ items) h = grows x (past_run pace q t k) items (go (nat_eq q p))
    where
      go : (b : Bool) → AtLeast x (if b then later (k.lo p) (time pace t).least else k.lo p)
      go true = less_least (x + (time pace t).least) x (later (k.lo p) (time pace t).least) (omega arith) (later_least x (time pace t).least (k.lo p) h)
      go false = h
  grows x k (Bar m ∷ items) h = grows x (past_bar pace m k) items (go (has_bit m p) refl)
    where
      go : (b : Bool) → has_bit m p ≡ b → AtLeast x (if b then later (fire_lo pace.processors m k.lo) pace.delay else k.lo p)
      go true e = less_least (x + pace.delay) x (later (fire_lo pace.processors m k.lo) pace.delay) (omega arith) (later_least x pace.delay (fire_lo pace.processors m k.lo) (fire_least pace.processors m p x k.lo within e h))
      go false e = h

-- ---- what is known further on

along_more : (pace : Pace) (k : Known) (xs ys : List Item) → along pace k (xs ++ ys) ≡ along pace (along pace k xs) ys
along_more pace k [] ys = refl
along_more pace k (Run q t ∷ xs) ys = along_more pace (past_run pace q t k) xs ys
along_more pace k (Bar m ∷ xs) ys = along_more pace (past_bar pace m k) xs ys

since_more : (pace : Pace) (j p x : ℕ) (xs ys : List Item) → (since_bar pace j xs).lo p ≡ Some x → since_bar pace j (xs ++ ys) ≡ along pace (since_bar pace j xs) ys
since_more pace j p x [] ys e = not_known x e
since_more pace j p x (Run q t ∷ xs) ys e = since_more pace j p x xs ys e
since_more pace zero p x (Bar m ∷ xs) ys e = along_more pace (at_bar pace m) xs ys
since_more pace (suc j) p x (Bar m ∷ xs) ys e = since_more pace j p x xs ys e

known_more : (pace : Pace) (r : Reference) (p x : ℕ) (xs ys : List Item) → (known pace r xs).lo p ≡ Some x → known pace r (xs ++ ys) ≡ along pace (known pace r xs) ys
known_more pace since.Start p x xs ys e = along_more pace (at_start pace) xs ys
known_more pace (since.Bar j) p x xs ys e = since_more pace j p x xs ys e

-- ---- a least bound is no greater than the greatest one

abbrev AreUpTo : Option ℕ → Option ℕ → Type 0
AreUpTo lo up = (x y : ℕ) → lo ≡ Some x → up ≡ Some y → x ≤ y

abbrev AreInOrder : Known → Type 0
AreInOrder k = (p : ℕ) → AreUpTo (k.lo p) (k.up p)

later_up : (n m : ℕ) (lo up : Option ℕ) → n ≤ m → AreUpTo lo up → AreUpTo (later lo n) (later up m)
later_up n m None up l h x y e f = not_known x e
later_up n m (Some a) None l h x y e f = not_known y f
later_up n m (Some a) (Some b) l h x y e f = let k = h a b refl refl in let u = same_known (a + n) x e in let v = same_known (b + m) y f in omega (arith, l, k, u, v)

greater_up : (a b c d : Option ℕ) → AreUpTo a c → AreUpTo b d → AreUpTo (greater_known a b) (greater_of_both c d)
greater_up a b None d h k x y e f = not_known y f
greater_up a b (Some u) None h k x y e f = not_known y f
greater_up None b (Some u) (Some v) h k x y e f = let l = k x v e refl in let s = same_known (max u v) y f in omega (arith, l, s)
greater_up (Some w) None (Some u) (Some v) h k x y e f = let l = h w u refl refl in let r = same_known w x e in let s = same_known (max u v) y f in omega (arith, l, r, s)
greater_up (Some w) (Some z) (Some u) (Some v) h k x y e f = let l = h w u refl refl in let o = k z v refl refl in let r = same_known (max w z) x e in let s = same_known (max u v) y f in omega (arith, l, o, r, s)

fires_up : (n m : ℕ) (fired : Option ℕ) (lo up : ℕ → Option ℕ) → ((p : ℕ) → AreUpTo (lo p) (up p)) → AreUpTo (fire_lo n m lo) (fire_up n m fired up)
fires_up zero m fired lo up h = λ x y e f. not_known x e
fires_up (suc n) m fired lo up h = go (has_bit m n) (fires_up n m fired lo up h)
  where
    go : (b : Bool) → AreUpTo (fire_lo n m lo) (fire_up n m fired up) → AreUpTo (if b then greater_known (fire_lo n m lo) (lo n) else fire_lo n m lo) (if b then greater_of_both (fire_up n m fired up) (up n) else fire_up n m fired up)
    go true k = greater_up (fire_lo n m lo) (lo n) (fire_up n m fired up) (up n) k (h n)
    go false k = k

even_up : (b : Bool) (n : ℕ) → AreUpTo (if b then Some n else None) (if b then Some n else None)
even_up true n x y e f = let u = same_known n x e in let v = same_known n y f in omega (arith, u, v)
even_up false n x y e f = not_known x e

module _ (pace : Pace) (times : (t : ℕ) → (time pace t).least ≤ (time pace t).most) where
  in_order : (k : Known) (items : List Item) → AreInOrder k → AreInOrder (along pace k items)
  in_order k [] h = h
  in_order k (Run q t ∷ items) h = in_order (past_run pace q t k) items (λ p. go p (nat_eq q p))
    where
      go : (p : ℕ) (b : Bool) → AreUpTo (if b then later (k.lo p) (time pace t).least else k.lo p) (if b then later (k.up p) (time pace t).most else k.up p)
      go p true = later_up (time pace t).least (time pace t).most (k.lo p) (k.up p) (times t) (h p)
      go p false = h p
  in_order k (Bar m ∷ items) h = in_order (past_bar pace m k) items (λ p. go p (has_bit m p))
    where
      go : (p : ℕ) (b : Bool) → AreUpTo (if b then later (fire_lo pace.processors m k.lo) pace.delay else k.lo p) (if b then later (fire_up pace.processors m k.fired k.up) pace.delay else k.up p)
      go p true = later_up pace.delay pace.delay (fire_lo pace.processors m k.lo) (fire_up pace.processors m k.fired k.up) (omega arith) (fires_up pace.processors m k.fired k.lo k.up h)
      go p false = h p

  since_in_order : (j : ℕ) (items : List Item) → AreInOrder (since_bar pace j items)
  since_in_order j [] = λ p x y e f. not_known x e
  since_in_order j (Run q t ∷ items) = since_in_order j items
  since_in_order zero (Bar m ∷ items) = in_order (at_bar pace m) items (λ p. even_up (has_bit m p) pace.delay)
  since_in_order (suc j) (Bar m ∷ items) = since_in_order j items

  known_in_order : (r : Reference) (items : List Item) → AreInOrder (known pace r items)
  known_in_order since.Start items = in_order (at_start pace) items (λ p. even_up _ 0)
  known_in_order (since.Bar j) items = since_in_order j items

-- ---- a tuple that stands behind another is not ordered before it

later_some : (o : Option ℕ) (n x : ℕ) → later o n ≡ Some x → (y : ℕ) × (o ≡ Some y) × (y + n ≡ x)
later_some None n x e = not_known x e
later_some (Some y) n x e = (y, refl, same_known (y + n) x e)

module _ (pace : Pace) (line : List Item) (a b : ℕ) (once : IsDistinct nat_eq (tuples line)) (before : IsOrderedByProcessor line b a) where
  not_processor : IsOrderedByProcessor line a b → ⊥
  not_processor o =
      let g = stand_once line a o.p o.kg before.p before.ki once o.g_at.item before.i_at.item in
      let i = stand_once line b o.p o.ki before.p before.kg once o.i_at.item before.g_at.item in
      let f = o.first in
      let k = before.first in
      absurd (omega (arith, g.1, i.1, f, k))

  not_barrier : IsOrderedByBarrier line a b → ⊥
  not_barrier o =
      let g = stand_once line a o.p o.kg before.p before.ki once o.g_at.item before.i_at.item in
      let i = stand_once line b o.q o.ki before.p before.kg once o.i_at.item before.g_at.item in
      let up = chain_up o.chain in
      go g.0 g.1 i.0 i.1 (cases_lt o.a o.b)
    where
      go : o.p ≡ before.p → o.kg ≡ before.ki → o.q ≡ before.p → o.ki ≡ before.kg → (o.a < o.b) ⊎ (o.b ≤ o.a) → ⊥
      go ep eg eq ei (inl l) =
          let grown : lines.before o.p o.a line < lines.before o.p o.b line = before_grows o.p line o.a o.b o.first.mask o.first.at o.first.has l (member_within line o.b o.q o.last) in
          let there : lines.before o.p o.b line ≡ lines.before o.q o.b line = ap (λ p. lines.before p o.b line) (ep ∙ sym eq) in
          let x = o.after_g in
          let y = o.before_i in
          let k = before.first in
          absurd (omega (arith, eg, ei, grown, there, x, y, k))
      go ep eg eq ei (inr l) =
          let up = chain_up o.chain in
          let same : o.a ≡ o.b = omega arith in
          let there : lines.before o.p o.a line ≡ lines.before o.q o.b line = ap₂ (λ p j. lines.before p j line) (ep ∙ sym eq) same in
          let x = o.after_g in
          let y = o.before_i in
          let k = before.first in
          absurd (omega (arith, eg, ei, there, x, y, k))

  module _ (few : before.p < pace.processors) (times : (t : ℕ) → (0 < (time pace t).least) × ((time pace t).least ≤ (time pace t).most)) where
    abbrev front : List Item
    front = front_of_run a line

    not_time : (r : Reference) → IsInTime pace line a b r → ⊥
    not_time r o =
        let first_at = stands_behind line b once (stands_among line b before.p before.kg before.g_at.item) in
        let then_at = stands_behind line a once (stands_among line a before.p before.ki before.i_at.item) in
        let pb : before.p ≡ processor_of b line = (first_at.once before.p before.kg before.g_at).0 in
        let pa : before.p ≡ processor_of a line = (then_at.once before.p before.ki before.i_at).0 in
        let there = (by_processor_is line front (processor_of a line) a b then_at).0 before in
        let kept = front_kept front (Run (processor_of a line) a ∷ then_at.back) b (stands_among front b (processor_of a line) there.0 there.1.item) in
        let fb : front_of_run b line ≡ front_of_run b front = ap (front_of_run b) then_at.split ∙ kept.0 in
        let qb : processor_of b line ≡ processor_of b front = ap (processor_of b) then_at.split ∙ kept.1 in
        let s = split_at front b (stands_among front b (processor_of a line) there.0 there.1.item) in
        let own : processor_of b front ≡ before.p = sym qb ∙ sym pb in
        let start : (known pace r (front_of_run b front)).lo before.p ≡ Some o.earliest = ap₂ (λ xs q. (known pace r xs).lo q) (sym fb) pb ∙ o.start in
        let end = later_some ((known pace r front).up (processor_of a line)) (time pace a).most o.latest o.finish in
        reach s.back (processor_of b front) own start s.same end.0 (ap (known pace r front).up pa ∙ end.1) end.2
      where
        reach : (mid : List Item) (q : ℕ) → q ≡ before.p → (known pace r (front_of_run b front)).lo before.p ≡ Some o.earliest → front ≡ front_of_run b front ++ Run q b ∷ mid → (up : ℕ) → (known pace r front).up before.p ≡ Some up → up + (time pace a).most ≡ o.latest → ⊥
        reach mid q e start split up known_up last =
            let k = known pace r (front_of_run b front) in
            let behind : AtLeast (o.earliest + (time pace b).least) ((past_run pace q b k).lo before.p) =
            subst (λ t. AtLeast (o.earliest + (time pace b).least) (if t then later (k.lo before.p) (time pace b).least else k.lo before.p)) (sym (eq-eqb q before.p e)) (later_least o.earliest (time pace b).least (k.lo before.p) (record { value = o.earliest; is = start; least = omega arith })) in
            let far : AtLeast (o.earliest + (time pace b).least) ((known pace r front).lo before.p) =
            subst (λ (w : Known). AtLeast (o.earliest + (time pace b).least) (w.lo before.p)) (sym (ap (known pace r) split ∙ known_more pace r before.p o.earliest (front_of_run b front) (Run q b ∷ mid) start)) (grows pace before.p few (o.earliest + (time pace b).least) (past_run pace q b k) mid behind) in
            let l = known_in_order pace (λ t. (times t).1) r front before.p far.value up far.is known_up in
            let x = far.least in
            let some = (times b).0 in
            let order = o.order in
            absurd (omega (arith, l, x, some, order, last))

    pub not_ordered : IsOrdered pace line a b → ⊥
    not_ordered (inl (inl o)) = not_processor o
    not_ordered (inl (inr o)) = not_barrier o
    not_ordered (inr (r, l, o)) = not_time r o
