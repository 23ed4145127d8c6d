-- What is known since a Bar, against what is known since the start.
use Rattle.std.proofs.Common.{◌≡◌, ℕ, zero, suc, ◌+◌, ◌<◌, ◌≤◌, Bool, true, false, nat_eq, nat_lt, List, [], ◌∷◌, ◌++◌, length, max, Option, Some, None, refl, sym, ap, ap₂, subst, ◌∙◌, arith, ◌⊎◌, inl, inr, if◌then◌else◌, drop, get_or}
use Rattle.std.proofs.lemmas.Bool.{cases_lt}
use Rattle.std.proofs.lemmas.Bool.Decides.{nat_tests}
use Rattle.bm_base.specs.Mask.{has_bit}
use Rattle.line_model.specs.declared.line.Item.{Item}
use Rattle.line_model.specs.declared.line.Item.TheVariants.{Run, Bar}
use Rattle.line_model.specs.Streams.{masks}
use Rattle.line_model.specs.Reductions.{mask_at}
use Rattle.time_interval.specs.declared.reference.Reference.TheVariants as since
use Rattle.time_interval.specs.declared.reference.Point.TheVariants.{FinishOf, FireOf}
use Rattle.time_interval.specs.Bounds.{Pace, Known, along, at_start, at_bar, since_bar, past_run, past_bar, fire_lo, fire_up, greater_known, greater_of_both, later, time, front_of_run, front_of_bar, processor_of, up_of, lo_of}
use Rattle.time_interval.specs.declared.least.LeastWalk.{LeastWalk}
use Rattle.time_interval.specs.Steps.{is_up_to, IsUpTo}
use Rattle.time_interval.specs.Walks.{least_of}
use Rattle.time_interval.proofs.Extend.{AtLeast, greater_left, greater_right}
use Rattle.time_interval.proofs.KnowsFacts.{since_none}
use Rattle.time_interval.proofs.Tables.{drop_next}

-- ---- the firing of a Bar in a longer line

pub front_of_bar_more : (j : ℕ) (xs more : List Item) → j < length (masks xs) → front_of_bar j (xs ++ more) ≡ front_of_bar j xs
front_of_bar_more j [] more h = absurd (omega arith)
front_of_bar_more j (Run q t ∷ xs) more h = ap (λ l. Run q t ∷ l) (front_of_bar_more j xs more h)
front_of_bar_more zero (Bar m ∷ xs) more h = refl
front_of_bar_more (suc j) (Bar m ∷ xs) more h = ap (λ l. Bar m ∷ l) (front_of_bar_more j xs more (omega arith))

front_of_bar_new : (xs : List Item) (m : ℕ) → front_of_bar (length (masks xs)) (xs ++ Bar m ∷ []) ≡ xs
front_of_bar_new [] m = refl
front_of_bar_new (Run q t ∷ xs) m = ap (λ l. Run q t ∷ l) (front_of_bar_new xs m)
front_of_bar_new (Bar w ∷ xs) m = ap (λ l. Bar w ∷ l) (front_of_bar_new xs m)

mask_at_more : (j : ℕ) (xs more : List Item) → j < length (masks xs) → mask_at (xs ++ more) j ≡ mask_at xs j
mask_at_more j [] more h = absurd (omega arith)
mask_at_more j (Run q t ∷ xs) more h = mask_at_more j xs more h
mask_at_more zero (Bar m ∷ xs) more h = refl
mask_at_more (suc j) (Bar m ∷ xs) more h = mask_at_more j xs more (omega arith)

mask_at_new : (xs : List Item) (m : ℕ) → mask_at (xs ++ Bar m ∷ []) (length (masks xs)) ≡ m
mask_at_new [] m = refl
mask_at_new (Run q t ∷ xs) m = mask_at_new xs m
mask_at_new (Bar w ∷ xs) m = mask_at_new xs m

abbrev start_up : Pace → List Item → ℕ → Option ℕ
start_up pace xs m = fire_up pace.processors m (along pace (at_start pace) xs).fired (along pace (at_start pace) xs).up

abbrev start_lo : Pace → List Item → ℕ → Option ℕ
start_lo pace xs m = fire_lo pace.processors m (along pace (at_start pace) xs).lo

pub fires_more : (pace : Pace) (j : ℕ) (xs more : List Item) → j < length (masks xs) → (up_of pace (xs ++ more) since.Start (FireOf j) ≡ up_of pace xs since.Start (FireOf j)) × (lo_of pace (xs ++ more) since.Start (FireOf j) ≡ lo_of pace xs since.Start (FireOf j))
fires_more pace j xs more h = (ap₂ (start_up pace) (front_of_bar_more j xs more h) (mask_at_more j xs more h), ap₂ (start_lo pace) (front_of_bar_more j xs more h) (mask_at_more j xs more h))

pub fires_new : (pace : Pace) (xs : List Item) (m : ℕ) → (up_of pace (xs ++ Bar m ∷ []) since.Start (FireOf (length (masks xs))) ≡ start_up pace xs m) × (lo_of pace (xs ++ Bar m ∷ []) since.Start (FireOf (length (masks xs))) ≡ start_lo pace xs m)
fires_new pace xs m = (ap₂ (start_up pace) (front_of_bar_new xs m) (mask_at_new xs m), ap₂ (start_lo pace) (front_of_bar_new xs m) (mask_at_new xs m))

-- ---- since the start all latest ticks are known

pub record AllKnown (n : ℕ) (k : Known) : Type 0 where
  pub up : (p : ℕ) → p < n → (x : ℕ) × (k.up p ≡ Some x)
  pub fired : (x : ℕ) × (k.fired ≡ Some x)

later_is : (y : Option ℕ) (d : ℕ) → ((x : ℕ) × (y ≡ Some x)) → (x : ℕ) × (later y d ≡ Some x)
later_is y d (x, e) = (x + d, ap (λ z. later z d) e)

fire_is : (n mask : ℕ) (fired : Option ℕ) (up : ℕ → Option ℕ) → ((x : ℕ) × (fired ≡ Some x)) → ((p : ℕ) → p < n → (x : ℕ) × (up p ≡ Some x)) → (x : ℕ) × (fire_up n mask fired up ≡ Some x)
fire_is zero mask fired up f h = f
fire_is (suc n) mask fired up f h = go (has_bit mask n) (fire_is n mask fired up f (λ p l. h p (omega arith))) (h n (omega arith))
  where
    go : (b : Bool) → ((x : ℕ) × (fire_up n mask fired up ≡ Some x)) → ((x : ℕ) × (up n ≡ Some x)) → (x : ℕ) × ((if b then greater_of_both (fire_up n mask fired up) (up n) else fire_up n mask fired up) ≡ Some x)
    go true (x, e) (y, f) = (max x y, ap₂ greater_of_both e f)
    go false r s = r

all_known : (pace : Pace) (k : Known) (items : List Item) → AllKnown pace.processors k → AllKnown pace.processors (along pace k items)
all_known pace k [] h = h
all_known pace k (Run q t ∷ items) h = all_known pace (past_run pace q t k) items (record { up = λ p l. go p (nat_eq q p) (h.up p l); fired = h.fired })
  where
    go : (p : ℕ) (b : Bool) → ((x : ℕ) × (k.up p ≡ Some x)) → (x : ℕ) × ((if b then later (k.up p) (time pace t).most else k.up p) ≡ Some x)
    go p true r = later_is (k.up p) (time pace t).most r
    go p false r = r
all_known pace k (Bar m ∷ items) h = all_known pace (past_bar pace m k) items (record { up = λ p l. go p (has_bit m p) (h.up p l); fired = fire })
  where
    fire : (x : ℕ) × (fire_up pace.processors m k.fired k.up ≡ Some x)
    fire = fire_is pace.processors m k.fired k.up h.fired h.up

    go : (p : ℕ) (b : Bool) → ((x : ℕ) × (k.up p ≡ Some x)) → (x : ℕ) × ((if b then later (fire_up pace.processors m k.fired k.up) pace.delay else k.up p) ≡ Some x)
    go p true r = later_is (fire_up pace.processors m k.fired k.up) pace.delay fire
    go p false r = r

lt_test : (p n : ℕ) → p < n → nat_lt p n ≡ true
lt_test p n h = grind (arith, nat_tests)

start_known : (pace : Pace) (items : List Item) → AllKnown pace.processors (along pace (at_start pace) items)
start_known pace items = all_known pace (at_start pace) items (record { up = λ p l. (0, ap (λ b. if b then Some 0 else None) (lt_test p pace.processors l)); fired = (0, refl) })

pub fire_known_since_start : (pace : Pace) (items : List Item) (j : ℕ) → (x : ℕ) × (up_of pace items since.Start (FireOf j) ≡ Some x)
fire_known_since_start pace items j = let s = start_known pace (front_of_bar j items) in fire_is pace.processors (mask_at items j) _ _ s.fired s.up

-- ---- latest ticks that are known since a Bar are those since the start, less the Bar's own

record IsLater (c : ℕ) (k l : Known) : Type 0 where
  up : (p x : ℕ) → l.up p ≡ Some x → k.up p ≡ Some (x + c)
  fired : (x : ℕ) → l.fired ≡ Some x → k.fired ≡ Some (x + c)

later_both : (c d : ℕ) (k l : Option ℕ) → ((x : ℕ) → l ≡ Some x → k ≡ Some (x + c)) → (x : ℕ) → later l d ≡ Some x → later k d ≡ Some (x + c)
later_both c d k None h x e = absurd (cc)
later_both c d k (Some y) h x e = let f : y + d ≡ x = cc in ap (λ z. later z d) (h y refl) ∙ ap Some (let g : (y + c) + d ≡ x + c = omega arith in g)

greater_both : (c : ℕ) (k l a b : Option ℕ) → ((x : ℕ) → l ≡ Some x → k ≡ Some (x + c)) → ((x : ℕ) → b ≡ Some x → a ≡ Some (x + c)) → (x : ℕ) → greater_of_both l b ≡ Some x → greater_of_both k a ≡ Some (x + c)
greater_both c k None a b h g x e = absurd (cc)
greater_both c k (Some y) a None h g x e = absurd (cc)
greater_both c k (Some y) a (Some z) h g x e = let f : max y z ≡ x = cc in ap₂ greater_of_both (h y refl) (g z refl) ∙ ap Some (let w : max (y + c) (z + c) ≡ x + c = omega arith in w)

fire_later : (n m c : ℕ) (kf lf : Option ℕ) (ku lu : ℕ → Option ℕ) → ((x : ℕ) → lf ≡ Some x → kf ≡ Some (x + c)) → ((p x : ℕ) → lu p ≡ Some x → ku p ≡ Some (x + c)) → (x : ℕ) → fire_up n m lf lu ≡ Some x → fire_up n m kf ku ≡ Some (x + c)
fire_later zero m c kf lf ku lu f h x e = f x e
fire_later (suc n) m c kf lf ku lu f h x e = go (has_bit m n) (fire_later n m c kf lf ku lu f h) e
  where
    go : (b : Bool) → ((x : ℕ) → fire_up n m lf lu ≡ Some x → fire_up n m kf ku ≡ Some (x + c)) → (if b then greater_of_both (fire_up n m lf lu) (lu n) else fire_up n m lf lu) ≡ Some x → (if b then greater_of_both (fire_up n m kf ku) (ku n) else fire_up n m kf ku) ≡ Some (x + c)
    go true w r = greater_both c (fire_up n m kf ku) (fire_up n m lf lu) (ku n) (lu n) w (h n) x r
    go false w r = w x r

along_later : (pace : Pace) (c : ℕ) (k l : Known) (items : List Item) → IsLater c k l → IsLater c (along pace k items) (along pace l items)
along_later pace c k l [] h = h
along_later pace c k l (Run q t ∷ items) h = along_later pace c (past_run pace q t k) (past_run pace q t l) items (record { up = λ p. go p (nat_eq q p); fired = h.fired })
  where
    go : (p : ℕ) (b : Bool) (x : ℕ) → (if b then later (l.up p) (time pace t).most else l.up p) ≡ Some x → (if b then later (k.up p) (time pace t).most else k.up p) ≡ Some (x + c)
    go p true x e = later_both c (time pace t).most (k.up p) (l.up p) (h.up p) x e
    go p false x e = h.up p x e
along_later pace c k l (Bar m ∷ items) h = along_later pace c (past_bar pace m k) (past_bar pace m l) items (record { up = λ p. go p (has_bit m p); fired = fire })
  where
    fire : (x : ℕ) → fire_up pace.processors m l.fired l.up ≡ Some x → fire_up pace.processors m k.fired k.up ≡ Some (x + c)
    fire = fire_later pace.processors m c k.fired l.fired k.up l.up h.fired h.up

    go : (p : ℕ) (b : Bool) (x : ℕ) → (if b then later (fire_up pace.processors m l.fired l.up) pace.delay else l.up p) ≡ Some x → (if b then later (fire_up pace.processors m k.fired k.up) pace.delay else k.up p) ≡ Some (x + c)
    go p true x e = later_both c pace.delay (fire_up pace.processors m k.fired k.up) (fire_up pace.processors m l.fired l.up) fire x e
    go p false x e = h.up p x e

bar_later : (pace : Pace) (m c : ℕ) (k : Known) → fire_up pace.processors m k.fired k.up ≡ Some c → IsLater c (past_bar pace m k) (at_bar pace m)
bar_later pace m c k e = record {
  up = λ p. go p (has_bit m p);
  fired = λ x f. let g : 0 ≡ x = cc in e ∙ ap Some (let w : c ≡ x + c = omega arith in w);
}
  where
    go : (p : ℕ) (b : Bool) (x : ℕ) → (if b then Some pace.delay else None) ≡ Some x → (if b then later (fire_up pace.processors m k.fired k.up) pace.delay else k.up p) ≡ Some (x + c)
    go p true x f = let g : pace.delay ≡ x = cc in ap (λ z. later z pace.delay) e ∙ ap Some (let w : c + pace.delay ≡ x + c = omega arith in w)
    go p false x f = absurd (cc)

since_later : (pace : Pace) (c : ℕ) (k : Known) (j : ℕ) (items : List Item) → j < length (masks items) → fire_up pace.processors (mask_at items j) (along pace k (front_of_bar j items)).fired (along pace k (front_of_bar j items)).up ≡ Some c → IsLater c (along pace k items) (since_bar pace j items)
since_later pace c k j [] l e = absurd (omega arith)
since_later pace c k j (Run q t ∷ items) l e = since_later pace c (past_run pace q t k) j items l e
since_later pace c k zero (Bar m ∷ items) l e = along_later pace c (past_bar pace m k) (at_bar pace m) items (bar_later pace m c k e)
since_later pace c k (suc j) (Bar m ∷ items) l e = since_later pace c (past_bar pace m k) j items (omega arith) e

rest_of_run : (g : ℕ) (items : List Item) → (more : List Item) × (items ≡ front_of_run g items ++ more)
rest_of_run g [] = ([], refl)
rest_of_run g (Run q u ∷ items) = go (nat_eq u g) (rest_of_run g items)
  where
    go : (b : Bool) → ((more : List Item) × (items ≡ front_of_run g items ++ more)) → (more : List Item) × (Run q u ∷ items ≡ (if b then [] else Run q u ∷ front_of_run g items) ++ more)
    go true r = (Run q u ∷ items, refl)
    go false (more, e) = (more, ap (λ l. Run q u ∷ l) e)
rest_of_run g (Bar m ∷ items) = let r = rest_of_run g items in (r.0, ap (λ l. Bar m ∷ l) r.1)

pub finish_later : (pace : Pace) (items : List Item) (j g c x : ℕ) → up_of pace items since.Start (FireOf j) ≡ Some c → up_of pace items (since.Bar j) (FinishOf g) ≡ Some x → up_of pace items since.Start (FinishOf g) ≡ Some (x + c)
finish_later pace items j g c x e f = go (cases_lt j (length (masks (front_of_run g items))))
  where
    front : List Item
    front = front_of_run g items

    p : ℕ
    p = processor_of g items

    go : (j < length (masks (front_of_run g items))) ⊎ (length (masks (front_of_run g items)) ≤ j) → up_of pace items since.Start (FinishOf g) ≡ Some (x + c)
    go (inl l) =
        let r = rest_of_run g items in
        let fire : up_of pace (front_of_run g items) since.Start (FireOf j) ≡ Some c = sym (fires_more pace j (front_of_run g items) r.0 l).0 ∙ ap (λ ys. up_of pace ys since.Start (FireOf j)) (sym r.1) ∙ e in
        let h = since_later pace c (at_start pace) j (front_of_run g items) l fire in
        later_both c (time pace g).most ((along pace (at_start pace) (front_of_run g items)).up (processor_of g items)) ((since_bar pace j (front_of_run g items)).up (processor_of g items)) (h.up (processor_of g items)) x f
    go (inr l) = absurd (let n : later ((since_bar pace j (front_of_run g items)).up (processor_of g items)) (time pace g).most ≡ None = ap (λ (w : Known). later (w.up (processor_of g items)) (time pace g).most) (since_none pace j (front_of_run g items) l) in let w : None ≡ Some x = sym n ∙ f in cc)

-- ---- earliest ticks since the start are no less than those since a Bar and the Bar's own

record IsAbove (c : ℕ) (k l : Known) : Type 0 where
  lo : (p x : ℕ) → l.lo p ≡ Some x → AtLeast (x + c) (k.lo p)

later_above : (c d : ℕ) (k l : Option ℕ) → ((x : ℕ) → l ≡ Some x → AtLeast (x + c) k) → (x : ℕ) → later l d ≡ Some x → AtLeast (x + c) (later k d)
later_above c d k None h x e = absurd (cc)
later_above c d k (Some y) h x e = let f : y + d ≡ x = cc in let r = h y refl in record { value = r.value + d; is = ap (λ z. later z d) r.is; least = omega (arith, r.least) }

at_least_less : (x y : ℕ) (a : Option ℕ) → x ≤ y → AtLeast y a → AtLeast x a
at_least_less x y a le h = record { value = h.value; is = h.is; least = omega (arith, h.least) }

greater_above : (c : ℕ) (k l a b : Option ℕ) → ((x : ℕ) → l ≡ Some x → AtLeast (x + c) k) → ((x : ℕ) → b ≡ Some x → AtLeast (x + c) a) → (x : ℕ) → greater_known l b ≡ Some x → AtLeast (x + c) (greater_known k a)
greater_above c k l a b h g x e = pick l b h g x e
  where
    right : (y : ℕ) → AtLeast y a → AtLeast y (greater_known k a)
    right y r = subst (λ z. AtLeast y (greater_known k z)) (sym r.is) (at_least_less y r.value (greater_known k (Some r.value)) r.least (greater_right r.value k))

    larger : (y z : ℕ) → (y ≤ z) ⊎ (z ≤ y)
    larger y z = grind arith

    pick : (l b : Option ℕ) → ((x : ℕ) → l ≡ Some x → AtLeast (x + c) k) → ((x : ℕ) → b ≡ Some x → AtLeast (x + c) a) → (x : ℕ) → greater_known l b ≡ Some x → AtLeast (x + c) (greater_known k a)
    pick None b h g x e = right (x + c) (g x e)
    pick (Some y) None h g x e = greater_left (x + c) k a (h x e)
    pick (Some y) (Some z) h g x e = let f : max y z ≡ x = cc in elim (larger y z) [
      | inl le ↦ right (x + c) (at_least_less (x + c) (z + c) a (omega arith) (g z refl))
      | inr le ↦ greater_left (x + c) k a (at_least_less (x + c) (y + c) k (omega arith) (h y refl))
    ]

fire_above : (n m c : ℕ) (ku lu : ℕ → Option ℕ) → ((p x : ℕ) → lu p ≡ Some x → AtLeast (x + c) (ku p)) → (x : ℕ) → fire_lo n m lu ≡ Some x → AtLeast (x + c) (fire_lo n m ku)
fire_above zero m c ku lu h x e = absurd (cc)
fire_above (suc n) m c ku lu h x e = go (has_bit m n) (fire_above n m c ku lu h) e
  where
    go : (b : Bool) → ((x : ℕ) → fire_lo n m lu ≡ Some x → AtLeast (x + c) (fire_lo n m ku)) → (if b then greater_known (fire_lo n m lu) (lu n) else fire_lo n m lu) ≡ Some x → AtLeast (x + c) (if b then greater_known (fire_lo n m ku) (ku n) else fire_lo n m ku)
    go true w r = greater_above c (fire_lo n m ku) (fire_lo n m lu) (ku n) (lu n) w (h n) x r
    go false w r = w x r

along_above : (pace : Pace) (c : ℕ) (k l : Known) (items : List Item) → IsAbove c k l → IsAbove c (along pace k items) (along pace l items)
along_above pace c k l [] h = h
along_above pace c k l (Run q t ∷ items) h = along_above pace c (past_run pace q t k) (past_run pace q t l) items (record { lo = λ p. go p (nat_eq q p) })
  where
    go : (p : ℕ) (b : Bool) (x : ℕ) → (if b then later (l.lo p) (time pace t).least else l.lo p) ≡ Some x → AtLeast (x + c) (if b then later (k.lo p) (time pace t).least else k.lo p)
    go p true x e = later_above c (time pace t).least (k.lo p) (l.lo p) (h.lo p) x e
    go p false x e = h.lo p x e
along_above pace c k l (Bar m ∷ items) h = along_above pace c (past_bar pace m k) (past_bar pace m l) items (record { lo = λ p. go p (has_bit m p) })
  where
    fire : (x : ℕ) → fire_lo pace.processors m l.lo ≡ Some x → AtLeast (x + c) (fire_lo pace.processors m k.lo)
    fire = fire_above pace.processors m c k.lo l.lo h.lo

    go : (p : ℕ) (b : Bool) (x : ℕ) → (if b then later (fire_lo pace.processors m l.lo) pace.delay else l.lo p) ≡ Some x → AtLeast (x + c) (if b then later (fire_lo pace.processors m k.lo) pace.delay else k.lo p)
    go p true x e = later_above c pace.delay (fire_lo pace.processors m k.lo) (fire_lo pace.processors m l.lo) fire x e
    go p false x e = h.lo p x e

bar_above : (pace : Pace) (m c : ℕ) (k : Known) → fire_lo pace.processors m k.lo ≡ Some c → IsAbove c (past_bar pace m k) (at_bar pace m)
bar_above pace m c k e = record { lo = λ p. go p (has_bit m p) }
  where
    go : (p : ℕ) (b : Bool) (x : ℕ) → (if b then Some pace.delay else None) ≡ Some x → AtLeast (x + c) (if b then later (fire_lo pace.processors m k.lo) pace.delay else k.lo p)
    go p true x f = let g : pace.delay ≡ x = cc in record { value = c + pace.delay; is = ap (λ z. later z pace.delay) e; least = omega arith }
    go p false x f = absurd (cc)

since_above : (pace : Pace) (c : ℕ) (k : Known) (j : ℕ) (items : List Item) → j < length (masks items) → fire_lo pace.processors (mask_at items j) (along pace k (front_of_bar j items)).lo ≡ Some c → IsAbove c (along pace k items) (since_bar pace j items)
since_above pace c k j [] l e = absurd (omega arith)
since_above pace c k j (Run q t ∷ items) l e = since_above pace c (past_run pace q t k) j items l e
since_above pace c k zero (Bar m ∷ items) l e = along_above pace c (past_bar pace m k) (at_bar pace m) items (bar_above pace m c k e)
since_above pace c k (suc j) (Bar m ∷ items) l e = since_above pace c (past_bar pace m k) j items (omega arith) e

pub start_above : (pace : Pace) (items : List Item) (j p c x : ℕ) → j < length (masks items) → lo_of pace items since.Start (FireOf j) ≡ Some c → (since_bar pace j items).lo p ≡ Some x → AtLeast (x + c) ((along pace (at_start pace) items).lo p)
start_above pace items j p c x l e f = let h = since_above pace c (at_start pace) j items l e in h.lo p x f

-- ---- earliest ticks depend on nothing else

pub lo_alone : (pace : Pace) (k l : Known) (items : List Item) → k.lo ≡ l.lo → (along pace k items).lo ≡ (along pace l items).lo
lo_alone pace k l [] h = h
lo_alone pace k l (Run q t ∷ items) h = lo_alone pace (past_run pace q t k) (past_run pace q t l) items (ap (λ f p. if nat_eq q p then later (f p) (time pace t).least else f p) h)
lo_alone pace k l (Bar m ∷ items) h = lo_alone pace (past_bar pace m k) (past_bar pace m l) items (ap (λ f p. if has_bit m p then later (fire_lo pace.processors m f) pace.delay else f p) h)

pub low_up_to : (n : ℕ) (k : Known) (w : LeastWalk) → (least_of w).lo ≡ k.lo → IsUpTo n k → IsUpTo n (least_of w)
low_up_to n k w e h = record { lo = λ p. subst (is_up_to n) (sym (ap (λ f. f p) e)) (h.lo p); up = λ p. tt; fired = tt }

pub since_here : (pace : Pace) (left : ℕ) (items : List Item) (n : ℕ) (x : Item) (m : ℕ) → n < length items → x ≡ get_or items n x → x ≡ Bar m → left ≡ 0 → since_bar pace left (drop n items) ≡ along pace (at_bar pace m) (drop (n + 1) items)
since_here pace left items n x m l e f z = ap₂ (since_bar pace) z (drop_next items n x l e ∙ ap (λ y. y ∷ drop (n + 1) items) f)
