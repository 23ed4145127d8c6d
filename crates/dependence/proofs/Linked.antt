-- Links, and what a walk along them passes over.
use Rattle.std.proofs.Common.{◌≡◌, ℕ, zero, suc, ◌+◌, ◌-◌, ◌<◌, ◌≤◌, ◌⊎◌, Bool, true, false, ◌||◌, ◌&&◌, not, nat_eq, List, [], ◌∷◌, ◌++◌, length, filter, map, get_or, Option, Some, None, slice_get, if◌then◌else◌, refl, sym, ap, ◌∙◌, inl, inr, arith, append_assoc, slice_index}
use Rattle.std.specs.List.{range_with_len}
use Rattle.std.specs.Option.{unwrap_or}
use Rattle.std.proofs.lemmas.Bool.{both_ways, cases_Bool, cases_eq, cases_lt, eqb-true, eq-eqb, or_left, or_right, false_from_ne_true}
use Rattle.std.proofs.lemmas.Option.{slice_get-get_or}
use Rattle.std.proofs.lemmas.List.FromFn.{length-map-range_with_len, get_or-map-range_with_len, map-range_with_len_more}
use Rattle.tuple_ir.specs.declared.tuple.Tuple.{Tuple}
use Rattle.tuple_ir.specs.declared.tuple.Tuple.TheVariants.{Load, Store, LoadEl, StoreEl, Print}
use Rattle.tuple_ir.specs.Conflict.{uses, share_variable, share_array, both_print, are_apart, clash}
use Rattle.dependence.specs.Producers.{in_conflict}
use Rattle.dependence.specs.Links.{Thing, Name, Output, touched, is_one, thing_at, latest, link_to, link_at, links_of}
use Rattle.dependence.specs.Laws.{LinksAreGreatest, LoneTuplesHaveNoLink}
use Rattle.dependence.specs.Walk.{IsGreatest, kept_of}
use Rattle.dependence.specs.declared.links.Latest.{Latest}
use Rattle.dependence.proofs.Kept.{kept_one, kept_none}

never_both : {X : Type 0} → (b : Bool) → b ≡ true → b ≡ false → X
never_both b t f = absurd (both_ways b f t)

-- ---- things
same_thing : (o p : Option Thing) → is_one o p ≡ true → o ≡ p
same_thing (Some (Name x)) (Some (Name y)) e = ap (λ z. Some (Name z)) (eqb-true x y e)
same_thing (Some Output) (Some Output) e = refl
same_thing _ _ e = absurd (both_ways true (sym e) refl)

no_thing : (o : Option Thing) → is_one o None ≡ false
no_thing None = refl
no_thing (Some (Name x)) = refl
no_thing (Some Output) = refl

-- ---- tuples that touch nothing in common conflict by a cell alone
apart_variable : (s t : Tuple) → is_one (touched s) (touched t) ≡ false → share_variable s t ≡ false
apart_variable (Store x v) (Store y w) e = e
apart_variable (Store x v) (Load y) e = e
apart_variable (Load x) (Store y w) e = e
apart_variable _ _ e = refl

apart_array : (ts : List Tuple) (s t : Tuple) → is_one (touched s) (touched t) ≡ false → share_array ts s t ≡ false
apart_array ts (StoreEl x i v) (StoreEl y j w) e = ap (λ b. b && not (are_apart (slice_get ts i) (slice_get ts j))) e
apart_array ts (StoreEl x i v) (LoadEl y j) e = ap (λ b. b && not (are_apart (slice_get ts i) (slice_get ts j))) e
apart_array ts (LoadEl x i) (StoreEl y j w) e = ap (λ b. b && not (are_apart (slice_get ts i) (slice_get ts j))) e
apart_array ts _ _ e = refl

apart_print : (s t : Tuple) → is_one (touched s) (touched t) ≡ false → both_print s t ≡ false
apart_print (Print v) (Print w) e = e
apart_print _ _ e = refl

none_of : (a b c d : Bool) → a ≡ false → b ≡ false → c ≡ false → d ≡ false → (a || b || c || d) ≡ false
none_of false false false false p q r s = refl
none_of true b c d p q r s = p
none_of false true c d p q r s = q
none_of false false true d p q r s = r
none_of false false false true p q r s = s

pub quiet : (ts : List Tuple) (c b : ℕ) (t : Tuple) → slice_get ts b ≡ Some t → uses t c ≡ false → is_one (thing_at ts c) (thing_at ts b) ≡ false → in_conflict ts b c ≡ false
quiet ts c b t at u e =
    ap (clash ts c (slice_get ts c)) at ∙ go (slice_get ts c) (ap (λ o. is_one (thing_at ts c) (elim o as (λ _. Option Thing) [ Some x ↦ touched x | None ↦ None ])) (sym at) ∙ e)
  where
    go : (o : Option Tuple) → is_one (elim o as (λ _. Option Thing) [ Some x ↦ touched x | None ↦ None ]) (touched t) ≡ false → clash ts c o (Some t) ≡ false
    go None h = refl
    go (Some s) h = none_of (uses t c) (share_variable s t) (share_array ts s t) (both_print s t) u (apart_variable s t h) (apart_array ts s t h) (apart_print s t h)

-- ---- the latest
one_more : (p : ℕ → Bool) (n : ℕ) (r : Option ℕ) (b : Bool) → p n ≡ b → IsGreatest p n r → IsGreatest p (suc n) (if b then Some n else r)
one_more p n r true e h = (omega arith, e, λ c lo hi. absurd (omega arith))
one_more p n None false e h = λ a lt. here a lt (cases_eq a n)
  where
    here : (a : ℕ) → a < suc n → (a ≡ n) ⊎ (a ≡ n → ⊥) → p a ≡ false
    here a lt (inl q) = ap p q ∙ e
    here a lt (inr ne) = h a (let x : a ≡ n → ⊥ = ne in grind arith)
one_more p n (Some l) false e h = (let x = h.0 in omega arith, h.1, λ c lo hi. here c lo hi (cases_eq c n))
  where
    here : (c : ℕ) → l < c → c < suc n → (c ≡ n) ⊎ (c ≡ n → ⊥) → p c ≡ false
    here c lo hi (inl q) = ap p q ∙ e
    here c lo hi (inr ne) = h.2 c lo (let x : c ≡ n → ⊥ = ne in grind arith)

pub latest_is : (ts : List Tuple) (o : Option Thing) (n : ℕ) → IsGreatest (λ a. is_one (thing_at ts a) o) n (latest ts o n)
latest_is ts o zero = λ a lt. absurd (omega arith)
latest_is ts o (suc n) = one_more (λ a. is_one (thing_at ts a) o) n (latest ts o n) (is_one (thing_at ts n) o) refl (latest_is ts o n)

pub latest_nothing : (ts : List Tuple) (n : ℕ) → latest ts None n ≡ None
latest_nothing ts zero = refl
latest_nothing ts (suc n) = ap (λ b. if b then Some n else latest ts None n) (no_thing (thing_at ts n)) ∙ latest_nothing ts n

-- the link is the greatest earlier tuple that touches the same
by_greatest : (p : ℕ → Bool) (a n : ℕ) (r : Option ℕ) → IsGreatest p n r → a < n → p a ≡ true → (a ≤ link_to r) × (link_to r < n) × (p (link_to r) ≡ true)
by_greatest p a n None h lt e = never_both (p a) e (h a lt)
by_greatest p a n (Some l) h lt e = (here (cases_lt l a), h.0, h.1)
  where
    here : (l < a) ⊎ (a ≤ l) → a ≤ l
    here (inl lo) = never_both (p a) e (h.2 a lo lt)
    here (inr le) = le

pub link_greatest : LinksAreGreatest
link_greatest ts a b lt e = by_greatest (λ c. is_one (thing_at ts c) (thing_at ts b)) a b (latest ts (thing_at ts b) b) (latest_is ts (thing_at ts b) b) lt e

by_none : (p : ℕ → Bool) (n : ℕ) (r : Option ℕ) → IsGreatest p n r → ((a : ℕ) → a < n → p a ≡ false) → link_to r ≡ 255
by_none p n None h none = refl
by_none p n (Some l) h none = never_both (p l) h.1 (none l h.0)

pub link_none : LoneTuplesHaveNoLink
link_none ts b none = by_none (λ c. is_one (thing_at ts c) (thing_at ts b)) b (latest ts (thing_at ts b) b) (latest_is ts (thing_at ts b) b) none

-- where none from a on touches it, the latest is one below a
latest_same : (ts : List Tuple) (o : Option Thing) (a d : ℕ) → ((c : ℕ) → a ≤ c → c < a + d → is_one (thing_at ts c) o ≡ false) → latest ts o (a + d) ≡ latest ts o a
latest_same ts o a zero h = let e : a + 0 ≡ a = omega arith in ap (latest ts o) e
latest_same ts o a (suc d) h =
    let e : a + suc d ≡ suc (a + d) = omega arith in
    ap (latest ts o) e
    ∙ ap (λ b. if b then Some (a + d) else latest ts o (a + d)) (h (a + d) (omega arith) (omega arith))
    ∙ latest_same ts o a d (λ c lo hi. h c lo (omega arith))

-- ---- numbers that pass no test
kept_gap : (p : ℕ → Bool) (a d : ℕ) → ((c : ℕ) → a ≤ c → c < a + d → p c ≡ false) → filter p (range_with_len 0 (a + d)) ≡ filter p (range_with_len 0 a)
kept_gap p a zero h = let e : a + 0 ≡ a = omega arith in ap (λ n. filter p (range_with_len 0 n)) e
kept_gap p a (suc d) h = kept_none p (a + d) (a + suc d) (omega arith) (h (a + d) (omega arith) (omega arith)) ∙ kept_gap p a d (λ c lo hi. h c lo (omega arith))

-- ---- a step of the walk of tuple b, from a bound down
module _ (ts : List Tuple) (b : ℕ) (t : Tuple) (at : slice_get ts b ≡ Some t) (link bound : ℕ) (few : bound ≤ 128) (link_is : link ≡ link_to (latest ts (thing_at ts b) bound)) where
  abbrev touches : ℕ → Bool
  touches c = is_one (thing_at ts c) (thing_at ts b)

  abbrev seen : ℕ → Bool
  seen c = uses t c || nat_eq link c

  -- what touches the same below the bound is at or below the link
  up_to_link : (c : ℕ) → c < bound → touches c ≡ true → (link < bound) × (c ≤ link) × (touches link ≡ true)
  up_to_link c lt e =
      let x = by_greatest touches c bound (latest ts (thing_at ts b) bound) (latest_is ts (thing_at ts b) bound) lt e in
      (let y = x.1 in omega (arith, link_is), let y = x.0 in omega (arith, link_is), ap touches link_is ∙ x.2)

  seen_link : seen link ≡ true
  seen_link = or_right (uses t link) (nat_eq link link) (eq-eqb link link refl)

  unseen_use : (c : ℕ) → seen c ≡ false → uses t c ≡ false
  unseen_use c e = false_from_ne_true _ (λ u. never_both (seen c) (or_left (uses t c) (nat_eq link c) u) e)

  pub none_below : IsGreatest seen bound None → filter (in_conflict ts b) (range_with_len 0 bound) ≡ []
  none_below h =
      let e : 0 + bound ≡ bound = omega arith in
      ap (λ n. filter (in_conflict ts b) (range_with_len 0 n)) (sym e)
      ∙ kept_gap (in_conflict ts b) 0 bound (λ c lo hi. quiet ts c b t at (unseen_use c (h c (omega arith))) (false_from_ne_true _ (λ u. let x = up_to_link c (omega arith) u in never_both (seen link) seen_link (h link x.0))))

  module _ (a : ℕ) (h : IsGreatest seen bound (Some a)) where
    -- from a on only the link itself touches the same
    only_link : (c : ℕ) → a ≤ c → c < bound → touches c ≡ true → (link ≡ a) × (c ≡ a)
    only_link c le lt e = let x = up_to_link c lt e in go x.0 x.1 (cases_lt a link)
      where
        go : link < bound → c ≤ link → (a < link) ⊎ (link ≤ a) → (link ≡ a) × (c ≡ a)
        go lo hi (inl more) = never_both (seen link) seen_link (h.2 link more lo)
        go lo hi (inr below) = (omega arith, omega arith)

    gap : (c : ℕ) → suc a ≤ c → c < bound → in_conflict ts b c ≡ false
    gap c lo hi = quiet ts c b t at (unseen_use c (h.2 c (omega arith) hi)) (false_from_ne_true _ (λ u. let x = only_link c (omega arith) hi u in let y = x.1 in absurd (omega arith)))

    up_to : filter (in_conflict ts b) (range_with_len 0 bound) ≡ filter (in_conflict ts b) (range_with_len 0 (suc a))
    up_to =
        let lt = h.0 in
        let e : suc a + (bound - suc a) ≡ bound = omega arith in
        ap (λ n. filter (in_conflict ts b) (range_with_len 0 n)) (sym e) ∙ kept_gap (in_conflict ts b) (suc a) (bound - suc a) (λ c lo hi. gap c lo (omega arith))

    pub with_it : in_conflict ts b a ≡ true → (old mid new : List ℕ) → mid ≡ old ++ filter (in_conflict ts b) (range_with_len 0 a) → new ≡ mid ++ a ∷ [] → new ≡ old ++ filter (in_conflict ts b) (range_with_len 0 bound)
    with_it e old mid new m n =
        n ∙ ap (λ l. l ++ a ∷ []) m ∙ append_assoc old (filter (in_conflict ts b) (range_with_len 0 a)) (a ∷ []) ∙ ap (λ l. old ++ l) (sym (up_to ∙ kept_one (in_conflict ts b) a (suc a) (omega arith) e))

    pub without_it : in_conflict ts b a ≡ false → (old new : List ℕ) → new ≡ old ++ filter (in_conflict ts b) (range_with_len 0 a) → new ≡ old ++ filter (in_conflict ts b) (range_with_len 0 bound)
    without_it e old new m = m ∙ ap (λ l. old ++ l) (sym (up_to ∙ kept_none (in_conflict ts b) a (suc a) (omega arith) e))

    -- the link that leads on
    pub next_link : (links : List ℕ) → links ≡ links_of ts → a < length ts → (if nat_eq link a then slice_index links a else link) ≡ link_to (latest ts (thing_at ts b) a)
    next_link links is within = go (cases_Bool (nat_eq link a))
      where
        at_link : nat_eq link a ≡ true → slice_index links a ≡ link_to (latest ts (thing_at ts b) a)
        at_link e =
            let q : link ≡ a = eqb-true link a e in
            let row : slice_index links a ≡ link_at ts a = ap (λ l. slice_index l a) is ∙ get_or-map-range_with_len (link_at ts) 0 (length ts) a a 0 within (omega arith) in
            let one : touches a ≡ true = touched_at (latest ts (thing_at ts b) bound) (latest_is ts (thing_at ts b) bound) link_is q in
            row ∙ ap (λ o. link_to (latest ts o a)) (same_thing _ _ one)
          where
            touched_at : (r : Option ℕ) → IsGreatest touches bound r → link ≡ link_to r → link ≡ a → touches a ≡ true
            touched_at None g q e = let lt = h.0 in absurd (omega arith)
            touched_at (Some l) g q e = ap touches (sym e ∙ q) ∙ g.1

        past : nat_eq link a ≡ false → link ≡ link_to (latest ts (thing_at ts b) a)
        past e =
            let lt = h.0 in
            let d : a + (bound - a) ≡ bound = omega arith in
            link_is ∙ ap (λ n. link_to (latest ts (thing_at ts b) n)) (sym d)
            ∙ ap link_to (latest_same ts (thing_at ts b) a (bound - a) (λ c lo hi. false_from_ne_true _ (λ u. never_both (nat_eq link a) (eq-eqb link a (only_link c lo (omega arith) u).0) e)))

        go : (nat_eq link a ≡ true) ⊎ (nat_eq link a ≡ false) → (if nat_eq link a then slice_index links a else link) ≡ link_to (latest ts (thing_at ts b) a)
        go (inl e) = ap (λ x. if x then slice_index links a else link) e ∙ at_link e
        go (inr e) = ap (λ x. if x then slice_index links a else link) e ∙ past e

-- ---- the loop that makes the links
thing_here : (ts : List Tuple) (b : ℕ) (d : Tuple) → b < length ts → touched (get_or ts b d) ≡ thing_at ts b
thing_here ts b d lt = ap (λ o. elim o as (λ _. Option Thing) [ Some x ↦ touched x | None ↦ None ]) (sym (slice_get-get_or ts b d lt))

-- what is kept is that of the first b tuples
abbrev pub AreKept : List Tuple → ℕ → Latest → Type 0
AreKept ts b kept = (thing : Thing) → kept_of kept (Some thing) ≡ latest ts (Some thing) b

pub before_is : (ts : List Tuple) (b : ℕ) (d : Tuple) (kept : Latest) (before : Option ℕ) → b < length ts → AreKept ts b kept → before ≡ kept_of kept (touched (get_or ts b d)) → before ≡ latest ts (thing_at ts b) b
before_is ts b d kept before lt inv e = e ∙ go (touched (get_or ts b d)) ∙ ap (λ o. latest ts o b) (thing_here ts b d lt)
  where
    go : (o : Option Thing) → kept_of kept o ≡ latest ts o b
    go None = sym (latest_nothing ts b)
    go (Some thing) = inv thing

pub kept_next : (ts : List Tuple) (b : ℕ) (d : Tuple) (kept new : Latest) → b < length ts → AreKept ts b kept
    → ((thing : Thing) → kept_of new (Some thing) ≡ (if is_one (touched (get_or ts b d)) (Some thing) then Some b else kept_of kept (Some thing))) → AreKept ts (b + 1) new
kept_next ts b d kept new lt inv e thing =
    let on : b + 1 ≡ suc b = omega arith in
    e thing
    ∙ ap (λ o. if is_one o (Some thing) then Some b else kept_of kept (Some thing)) (thing_here ts b d lt)
    ∙ ap (λ r. if is_one (thing_at ts b) (Some thing) then Some b else r) (inv thing)
    ∙ ap (latest ts (Some thing)) (sym on)

link_by : (o : Option ℕ) → unwrap_or o 255 ≡ link_to o
link_by None = refl
link_by (Some a) = refl

pub links_next : (ts : List Tuple) (b : ℕ) (links new : List ℕ) (before : Option ℕ) (link : ℕ) → links ≡ map (link_at ts) (range_with_len 0 b) → before ≡ latest ts (thing_at ts b) b → link ≡ unwrap_or before 255 → new ≡ links ++ link ∷ [] → new ≡ map (link_at ts) (range_with_len 0 (b + 1))
links_next ts b links new before link so_far is to more =
    more ∙ ap (λ l. l ++ link ∷ []) so_far ∙ ap (λ l. map (link_at ts) (range_with_len 0 b) ++ l ∷ []) (to ∙ link_by before ∙ ap link_to is)
    ∙ sym (map-range_with_len_more (link_at ts) 0 b b (omega arith))

pub links_long : (ts : List Tuple) → length (links_of ts) ≡ length ts
links_long ts = length-map-range_with_len (link_at ts) 0 (length ts)

pub link_there : (ts : List Tuple) (b d : ℕ) → b < length ts → get_or (links_of ts) b d ≡ link_at ts b
link_there ts b d within = get_or-map-range_with_len (link_at ts) 0 (length ts) b b d within (omega arith)
