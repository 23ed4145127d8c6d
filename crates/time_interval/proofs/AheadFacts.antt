-- A front that is walked along a line.
use Rattle.std.proofs.Common.{◌≡◌, ◌≢◌, ℕ, zero, suc, ◌+◌, ◌*◌, ◌<◌, ◌≤◌, Bool, true, false, nat_eq, ◌||◌, List, [], ◌∷◌, ◌++◌, length, length-append, Option, Some, None, is_some, take, drop, get_or, refl, sym, ap, ap₂, ◌∙◌, arith, ◌⊎◌, inl, inr, subst, subst₂, eqb-true, eq-eqb, true≢false, All, Decides, if◌then◌else◌, append-nil, append_assoc, slice_index_or}
use Rattle.std.proofs.lemmas.List.{take_more}
use Rattle.std.proofs.lemmas.List.Elements.{All-weaker}
use Rattle.std.proofs.Math.Seq.{take-suc, split_at}
use Rattle.std.specs.List.{IsDistinct, list_any}
use Rattle.std.proofs.lemmas.Bool.{cases_lt}
use Rattle.bm_base.specs.Mask.{has_bit}
use Rattle.line_model.specs.declared.line.Item.{Item}
use Rattle.line_model.specs.declared.line.Item.TheVariants.{Run, Bar}
use Rattle.line_model.specs.Streams.{masks}
use Rattle.line_model.proofs.LineFacts.{masks_bar, masks_run}
use Rattle.time_interval.specs.declared.reference.Reference.{Reference}
use Rattle.time_interval.specs.declared.reference.Reference.TheVariants as since
use Rattle.time_interval.specs.declared.reference.Point.TheVariants.{FinishOf, FireOf}
use Rattle.time_interval.specs.declared.front.Front.{Front}
use Rattle.time_interval.specs.Ahead.{IsAhead, IsNew, IsAtMost, IsBefore, IsInTimeSince, StandsOrdered, MayStand, ProducersStand, has_passed}
use Rattle.time_interval.specs.Ordered.{AreBehind}
use Rattle.time_interval.specs.Next.{IsInTimeNext, IsSomeInTimeNext}
use Rattle.time_interval.proofs.SeenFacts.{seen_tells}
use Rattle.time_interval.specs.Bounds.{Pace, Known, along, at_start, past_run, past_bar, known, since_bar, up_of, lo_of, fire_lo, fire_up, later, time}
use Rattle.time_interval.specs.Knows.{Knows, knows_along, knows_nothing, past_bar_knows}
use Rattle.time_interval.specs.Lines.{Timed, IsTimed, IsItem, tuples}
use Rattle.time_interval.specs.Seen.{IsSeen, seen_along, past_run_seen, past_bar_seen}
use Rattle.time_interval.specs.Sets.{seen_of, knows_of, set_at}
use Rattle.time_interval.specs.Steps.{by_processor, IsUpTo}
use Rattle.time_interval.specs.Walks.{known_of}
use Rattle.time_interval.proofs.EditFacts.{taken_masks}
use Rattle.time_interval.proofs.Extend.{along_bar}
use Rattle.time_interval.proofs.Fronts.{line_length}
use Rattle.time_interval.proofs.KnowsFacts.{knows_tells, later_known}
use Rattle.time_interval.proofs.NextFacts.{front_kept, front_new, tuples-append}
use Rattle.time_interval.proofs.Once.{none_of_them, any_there}
use Rattle.time_interval.proofs.SinceFacts.{fires_more, fires_new, fire_known_since_start, finish_later, start_above}
use Rattle.time_interval.proofs.Tables.{up_to_more}

-- ---- one item more

seen_run : (n : ℕ) (s : ℕ → ℕ → Bool) (xs : List Item) (q t : ℕ) → seen_along n s (xs ++ Run q t ∷ []) ≡ past_run_seen q t (seen_along n s xs)
seen_run n s [] q t = refl
seen_run n s (Run r u ∷ xs) q t = seen_run n (past_run_seen r u s) xs q t
seen_run n s (Bar m ∷ xs) q t = seen_run n (past_bar_seen n m s) xs q t

seen_bar : (n : ℕ) (s : ℕ → ℕ → Bool) (xs : List Item) (m : ℕ) → seen_along n s (xs ++ Bar m ∷ []) ≡ past_bar_seen n m (seen_along n s xs)
seen_bar n s [] m = refl
seen_bar n s (Run r u ∷ xs) m = seen_bar n (past_run_seen r u s) xs m
seen_bar n s (Bar w ∷ xs) m = seen_bar n (past_bar_seen n w s) xs m

knows_run : (n : ℕ) (k : Knows) (xs : List Item) (q t : ℕ) → knows_along n k (xs ++ Run q t ∷ []) ≡ knows_along n k xs
knows_run n k [] q t = refl
knows_run n k (Run r u ∷ xs) q t = knows_run n k xs q t
knows_run n k (Bar m ∷ xs) q t = knows_run n (past_bar_knows n m k) xs q t

knows_bar : (n : ℕ) (k : Knows) (xs : List Item) (m : ℕ) → knows_along n k (xs ++ Bar m ∷ []) ≡ past_bar_knows n m (knows_along n k xs)
knows_bar n k [] m = refl
knows_bar n k (Run r u ∷ xs) m = knows_bar n k xs m
knows_bar n k (Bar w ∷ xs) m = knows_bar n (past_bar_knows n w k) xs m

along_run : (pace : Pace) (k : Known) (xs : List Item) (q t : ℕ) → along pace k (xs ++ Run q t ∷ []) ≡ past_run pace q t (along pace k xs)
along_run pace k [] q t = refl
along_run pace k (Run r u ∷ xs) q t = along_run pace (past_run pace r u k) xs q t
along_run pace k (Bar m ∷ xs) q t = along_run pace (past_bar pace m k) xs q t

pub kept_finish : (pace : Pace) (xs more : List Item) (g : ℕ) (r : Reference) → list_any (nat_eq g) (tuples xs) ≡ true → up_of pace (xs ++ more) r (FinishOf g) ≡ up_of pace xs r (FinishOf g)
kept_finish pace xs more g r here = let k = front_kept xs more g here in ap₂ (λ ys p. later ((known pace r ys).up p) (time pace g).most) k.0 k.1

new_finish : (pace : Pace) (xs : List Item) (q t : ℕ) (r : Reference) → list_any (nat_eq t) (tuples xs) ≡ false → up_of pace (xs ++ Run q t ∷ []) r (FinishOf t) ≡ later ((known pace r xs).up q) (time pace t).most
new_finish pace xs q t r new = let k = front_new xs q t new in ap₂ (λ ys p. later ((known pace r ys).up p) (time pace t).most) k.0 k.1

any_last : (us : List ℕ) (t g : ℕ) → nat_eq t g ≡ false → list_any (nat_eq g) (us ++ t ∷ []) ≡ true → list_any (nat_eq g) us ≡ true
any_last [] t g n e = go (nat_eq g t) refl e
  where
    go : (b : Bool) → nat_eq g t ≡ b → (b || false) ≡ true → false ≡ true
    go true f h = absurd (true≢false (sym (eq-eqb t g (sym (eqb-true g t f))) ∙ n))
    go false f h = h
any_last (u ∷ us) t g n e = go (nat_eq g u) e (any_last us t g n)
  where
    go : (b : Bool) → (b || list_any (nat_eq g) (us ++ t ∷ [])) ≡ true → (list_any (nat_eq g) (us ++ t ∷ []) ≡ true → list_any (nat_eq g) us ≡ true) → (b || list_any (nat_eq g) us) ≡ true
    go true h r = refl
    go false h r = r h

up_to_next : (xs : List Item) (x : Item) (k : Known) → IsUpTo ((1000 + 1100 * length xs) + 1100) k → IsUpTo (1000 + 1100 * length (xs ++ x ∷ [])) k
up_to_next xs x k h =
    let e : length (xs ++ x ∷ []) ≡ length xs + 1 = length-append xs (x ∷ []) in
    let f : (1000 + 1100 * length xs) + 1100 ≡ 1000 + 1100 * length (xs ++ x ∷ []) = (let z : (1000 + 1100 * length xs) + 1100 ≡ 1000 + 1100 * (length xs + 1) = omega arith in z ∙ ap (λ n. 1000 + 1100 * n) (sym e)) in
    subst (λ n. IsUpTo n k) f h

-- what a tuple changes
pub record IsPastRun (pace : Pace) (q t : ℕ) (old new : Front) : Type 0 where
  pub seen : seen_of new.seen ≡ past_run_seen q t (seen_of old.seen)
  pub knows : new.knows ≡ old.knows
  pub walk : known_of new.walk ≡ past_run pace q t (known_of old.walk)
  pub small : (n : ℕ) → IsUpTo n (known_of old.walk) → IsUpTo (n + 1100) (known_of new.walk)
  pub finish : (g : ℕ) → by_processor new.finish g ≡ (if nat_eq t g then (known_of new.walk).up q else by_processor old.finish g)
  pub since : (g : ℕ) → set_at new.since g ≡ (if nat_eq t g then set_at old.knows.ups q else set_at old.since g)
  pub fires : new.fires ≡ old.fires
  pub lows : new.lows ≡ old.lows

pub ahead_run : (pace : Pace) (xs : List Item) (q t : ℕ) (old new : Front) → IsAhead pace xs old → list_any (nat_eq t) (tuples xs) ≡ false → IsPastRun pace q t old new → IsAhead pace (xs ++ Run q t ∷ []) new
ahead_run pace xs q t old new h fresh s = record {
  seen = s.seen ∙ ap (past_run_seen q t) h.seen ∙ sym (seen_run pace.processors (λ p g. false) xs q t);
  knows = ap knows_of s.knows ∙ h.knows ∙ sym (knows_run pace.processors knows_nothing xs q t);
  walk = s.walk ∙ ap (past_run pace q t) h.walk ∙ sym (along_run pace (at_start pace) xs q t);
  finish = λ g here. finish_is g (nat_eq t g) refl (ap (list_any (nat_eq g)) (sym (tuples-append xs (Run q t ∷ []))) ∙ here);
  since = λ g r here. since_is g r (nat_eq t g) refl (ap (list_any (nat_eq g)) (sym (tuples-append xs (Run q t ∷ []))) ∙ here);
  small = up_to_next xs (Run q t) (known_of new.walk) (s.small (1000 + 1100 * length xs) h.small);
  fires = λ j l. ap (λ fs. by_processor fs j) s.fires ∙ h.fires j (within j l) ∙ sym (fires_more pace j xs (Run q t ∷ []) (within j l)).0;
  lows = λ j l. ap (λ fs. by_processor fs j) s.lows ∙ h.lows j (within j l) ∙ sym (fires_more pace j xs (Run q t ∷ []) (within j l)).1;
}
  where
    within : (j : ℕ) → j < length (masks (xs ++ Run q t ∷ [])) → j < length (masks xs)
    within j l = let e : length (masks (xs ++ Run q t ∷ [])) ≡ length (masks xs) = masks_run xs q t in omega arith

    at_end : (known_of new.walk).up q ≡ later ((along pace (at_start pace) xs).up q) (time pace t).most
    at_end = ap (λ (k : Known). k.up q) (s.walk ∙ ap (past_run pace q t) h.walk) ∙ ap (λ b. if b then later ((along pace (at_start pace) xs).up q) (time pace t).most else (along pace (at_start pace) xs).up q) (eq-eqb q q refl)

    finish_is : (g : ℕ) (b : Bool) → nat_eq t g ≡ b → list_any (nat_eq g) (tuples xs ++ t ∷ []) ≡ true → by_processor new.finish g ≡ up_of pace (xs ++ Run q t ∷ []) since.Start (FinishOf g)
    finish_is g true e here =
        s.finish g ∙ ap (λ b. if b then (known_of new.walk).up q else by_processor old.finish g) e ∙ at_end ∙ sym (new_finish pace xs q t since.Start fresh) ∙ ap (λ u. up_of pace (xs ++ Run q t ∷ []) since.Start (FinishOf u)) (eqb-true t g e)
    finish_is g false e here =
        s.finish g ∙ ap (λ b. if b then (known_of new.walk).up q else by_processor old.finish g) e ∙ h.finish g (any_last (tuples xs) t g e here) ∙ sym (kept_finish pace xs (Run q t ∷ []) g since.Start (any_last (tuples xs) t g e here))

    since_is : (g r : ℕ) (b : Bool) → nat_eq t g ≡ b → list_any (nat_eq g) (tuples xs ++ t ∷ []) ≡ true → has_bit (set_at new.since g) r ≡ is_some (up_of pace (xs ++ Run q t ∷ []) (since.Bar r) (FinishOf g))
    since_is g r true e here =
        ap (λ u. has_bit u r) (s.since g ∙ ap (λ b. if b then set_at old.knows.ups q else set_at old.since g) e)
        ∙ ap (λ (k : Knows). k.up q r) h.knows ∙ (knows_tells pace xs).up q r
        ∙ sym (later_known ((since_bar pace r xs).up q) (time pace t).most)
        ∙ ap is_some (sym (new_finish pace xs q t (since.Bar r) fresh)) ∙ ap (λ u. is_some (up_of pace (xs ++ Run q t ∷ []) (since.Bar r) (FinishOf u))) (eqb-true t g e)
    since_is g r false e here =
        ap (λ u. has_bit u r) (s.since g ∙ ap (λ b. if b then set_at old.knows.ups q else set_at old.since g) e)
        ∙ h.since g r (any_last (tuples xs) t g e here) ∙ ap is_some (sym (kept_finish pace xs (Run q t ∷ []) g (since.Bar r) (any_last (tuples xs) t g e here)))

-- what a Bar changes
pub record IsPastBar (pace : Pace) (m : ℕ) (old new : Front) : Type 0 where
  pub seen : seen_of new.seen ≡ past_bar_seen pace.processors m (seen_of old.seen)
  pub knows : knows_of new.knows ≡ past_bar_knows pace.processors m (knows_of old.knows)
  pub walk : known_of new.walk ≡ past_bar pace m (known_of old.walk)
  pub small : (n : ℕ) → IsUpTo n (known_of old.walk) → IsUpTo (n + 1100) (known_of new.walk)
  pub finish : new.finish ≡ old.finish
  pub since : new.since ≡ old.since
  pub fires : (j : ℕ) → by_processor new.fires j ≡ (if nat_eq old.knows.bars j then fire_up pace.processors m (known_of old.walk).fired (known_of old.walk).up else by_processor old.fires j)
  pub lows : (j : ℕ) → by_processor new.lows j ≡ (if nat_eq old.knows.bars j then fire_lo pace.processors m (known_of old.walk).lo else by_processor old.lows j)

pub ahead_bar : (pace : Pace) (xs : List Item) (m : ℕ) (old new : Front) → IsAhead pace xs old → IsPastBar pace m old new → IsAhead pace (xs ++ Bar m ∷ []) new
ahead_bar pace xs m old new h s = record {
  seen = s.seen ∙ ap (past_bar_seen pace.processors m) h.seen ∙ sym (seen_bar pace.processors (λ p g. false) xs m);
  knows = s.knows ∙ ap (past_bar_knows pace.processors m) h.knows ∙ sym (knows_bar pace.processors knows_nothing xs m);
  walk = s.walk ∙ ap (past_bar pace m) h.walk ∙ sym (along_bar pace (at_start pace) xs m);
  finish = λ g here. ap (λ l. by_processor l g) s.finish ∙ h.finish g (same g here) ∙ sym (kept_finish pace xs (Bar m ∷ []) g since.Start (same g here));
  since = λ g r here. ap (λ l. has_bit (set_at l g) r) s.since ∙ h.since g r (same g here) ∙ ap is_some (sym (kept_finish pace xs (Bar m ∷ []) g (since.Bar r) (same g here)));
  small = up_to_next xs (Bar m) (known_of new.walk) (s.small (1000 + 1100 * length xs) h.small);
  fires = λ j l. s.fires j ∙ ap (λ n. if nat_eq n j then fire_up pace.processors m (known_of old.walk).fired (known_of old.walk).up else by_processor old.fires j) bars ∙ ap (λ (k : Known). if nat_eq (length (masks xs)) j then fire_up pace.processors m k.fired k.up else by_processor old.fires j) h.walk ∙ fires_is j l (nat_eq (length (masks xs)) j) refl;
  lows = λ j l. s.lows j ∙ ap (λ n. if nat_eq n j then fire_lo pace.processors m (known_of old.walk).lo else by_processor old.lows j) bars ∙ ap (λ (k : Known). if nat_eq (length (masks xs)) j then fire_lo pace.processors m k.lo else by_processor old.lows j) h.walk ∙ lows_is j l (nat_eq (length (masks xs)) j) refl;
}
  where
    bars : old.knows.bars ≡ length (masks xs)
    bars = ap (λ (k : Knows). k.bars) h.knows ∙ (knows_tells pace xs).bars

    within : (j : ℕ) → j < length (masks (xs ++ Bar m ∷ [])) → nat_eq (length (masks xs)) j ≡ false → j < length (masks xs)
    within j l e = let f : length (masks (xs ++ Bar m ∷ [])) ≡ suc (length (masks xs)) = masks_bar xs m in let n : length (masks xs) ≢ j = (λ x. true≢false (sym (eq-eqb (length (masks xs)) j x) ∙ e)) in omega arith

    fires_is : (j : ℕ) → j < length (masks (xs ++ Bar m ∷ [])) → (b : Bool) → nat_eq (length (masks xs)) j ≡ b → (if b then fire_up pace.processors m (along pace (at_start pace) xs).fired (along pace (at_start pace) xs).up else by_processor old.fires j) ≡ up_of pace (xs ++ Bar m ∷ []) since.Start (FireOf j)
    fires_is j l true e = sym (fires_new pace xs m).0 ∙ ap (λ i. up_of pace (xs ++ Bar m ∷ []) since.Start (FireOf i)) (eqb-true (length (masks xs)) j e)
    fires_is j l false e = h.fires j (within j l e) ∙ sym (fires_more pace j xs (Bar m ∷ []) (within j l e)).0

    lows_is : (j : ℕ) → j < length (masks (xs ++ Bar m ∷ [])) → (b : Bool) → nat_eq (length (masks xs)) j ≡ b → (if b then fire_lo pace.processors m (along pace (at_start pace) xs).lo else by_processor old.lows j) ≡ lo_of pace (xs ++ Bar m ∷ []) since.Start (FireOf j)
    lows_is j l true e = sym (fires_new pace xs m).1 ∙ ap (λ i. lo_of pace (xs ++ Bar m ∷ []) since.Start (FireOf i)) (eqb-true (length (masks xs)) j e)
    lows_is j l false e = h.lows j (within j l e) ∙ sym (fires_more pace j xs (Bar m ∷ []) (within j l e)).1

    same : (g : ℕ) → list_any (nat_eq g) (tuples (xs ++ Bar m ∷ [])) ≡ true → list_any (nat_eq g) (tuples xs) ≡ true
    same g here = ap (list_any (nat_eq g)) (sym (tuples-append xs (Bar m ∷ []) ∙ append-nil (tuples xs))) ∙ here

-- ---- along a line

up_to_all : (n m : ℕ) (k : Known) → n ≤ m → IsUpTo n k → IsUpTo m k
up_to_all n m k le h = record { lo = λ p. up_to_more n m (k.lo p) le (h.lo p); up = λ p. up_to_more n m (k.up p) le (h.up p); fired = up_to_more n m k.fired le h.fired }

pub taken_length : (k : ℕ) (xs : List Item) → length (take k xs) ≤ length xs
taken_length zero xs = omega arith
taken_length (suc k) [] = omega arith
taken_length (suc k) (x ∷ xs) = let r : length (take k xs) ≤ length xs = taken_length k xs in omega arith

pub ahead_small : (timed : Timed) → IsTimed timed → (k : ℕ) (f : Front) → IsAhead timed.pace (take k timed.line) f → IsUpTo 3000000000 (known_of f.walk)
ahead_small timed h k f a = up_to_all (1000 + 1100 * length (take k timed.line)) 3000000000 (known_of f.walk) (let l : length timed.line ≤ 384 = line_length (length timed.pace.times) timed.pace.processors timed.line h.few h.line in let t : length (take k timed.line) ≤ length timed.line = taken_length k timed.line in omega arith) a.small

pub taken_next : (line : List Item) (k : ℕ) (x : Item) → k < length line → get_or line k x ≡ x → take (suc k) line ≡ take k line ++ x ∷ []
taken_next line k x l e = take-suc line k x l ∙ ap (λ y. take k line ++ y ∷ []) e

pub ahead_bars : (pace : Pace) (xs : List Item) (f : Front) → IsAhead pace xs f → f.knows.bars ≡ length (masks xs)
ahead_bars pace xs f a = ap (λ (k : Knows). k.bars) a.knows ∙ (knows_tells pace xs).bars

pub ahead_room : (timed : Timed) → IsTimed timed → (k : ℕ) (f : Front) → IsAhead timed.pace (take k timed.line) f → (m : ℕ) → k < length timed.line → get_or timed.line k (Bar m) ≡ Bar m → f.knows.bars < 128
ahead_room timed h k f a m l e =
    let b : f.knows.bars ≡ length (masks (take k timed.line)) = ahead_bars timed.pace (take k timed.line) f a in
    let n : length (masks (take (suc k) timed.line)) ≡ suc (length (masks (take k timed.line))) = ap (λ ys. length (masks ys)) (taken_next timed.line k (Bar m) l e) ∙ masks_bar (take k timed.line) m in
    let t : length (masks (take (suc k) timed.line)) ≤ length (masks timed.line) = taken_masks (suc k) timed.line in
    omega (arith, h.line.few)

pub any_middle : (us vs : List ℕ) (t : ℕ) → list_any (nat_eq t) (us ++ t ∷ vs) ≡ true
any_middle [] vs t = ap (λ b. b || list_any (nat_eq t) vs) (eq-eqb t t refl)
any_middle (u ∷ us) vs t = any_there t u (us ++ t ∷ vs) (any_middle us vs t)

distinct_middle : (us vs : List ℕ) (t : ℕ) → IsDistinct nat_eq (us ++ t ∷ vs) → list_any (nat_eq t) us ≡ false
unfolding IsDistinct
distinct_middle [] vs t h = refl
distinct_middle (u ∷ us) vs t h = go (nat_eq t u) refl (distinct_middle us vs t h.1)
  where
    go : (b : Bool) → nat_eq t u ≡ b → list_any (nat_eq t) us ≡ false → (b || list_any (nat_eq t) us) ≡ false
    go true e r = absurd (none_of_them u (us ++ t ∷ vs) h.0 (subst (λ x. list_any (nat_eq x) (us ++ t ∷ vs) ≡ true) (eqb-true t u e) (any_middle us vs t)))
    go false e r = r

pub new_at : (line : List Item) (k : ℕ) (x : Item) → IsDistinct nat_eq (tuples line) → k < length line → get_or line k x ≡ x → IsNew (take k line) x
new_at line k (Bar m) d l e = tt
new_at line k (Run q t) d l e = distinct_middle (tuples (take k line)) (tuples (drop (suc k) line)) t (subst (IsDistinct nat_eq) (ap tuples (split_at line k (Run q t) l ∙ ap (λ y. take k line ++ y ∷ drop (suc k) line) e) ∙ tuples-append (take k line) (Run q t ∷ drop (suc k) line)) d)

-- ---- what is ordered before the next item

pub seen_before : (pace : Pace) (c : ℕ) (xs : List Item) (f : Front) (g p : ℕ) → All (IsItem c pace.processors) xs → IsAhead pace xs f → Decides (seen_of f.seen p g) (IsSeen xs p g)
seen_before pace c xs f g p all h = subst (λ s. Decides (s p g) (IsSeen xs p g)) (sym h.seen) (seen_tells pace.processors c xs all p g)

pub since_start : (pace : Pace) (xs : List Item) (f : Front) (g p : ℕ) → list_any (nat_eq g) (tuples xs) ≡ true → IsAhead pace xs f → (IsAtMost (by_processor f.finish g) ((known_of f.walk).lo p) → IsInTimeNext pace xs g p since.Start) × (IsInTimeNext pace xs g p since.Start → IsAtMost (by_processor f.finish g) ((known_of f.walk).lo p))
since_start pace xs f g p here h = (
  λ m. record { latest = m.latest; earliest = m.earliest; finish = sym (h.finish g here) ∙ m.a_is; start = ap (λ (k : Known). k.lo p) (sym h.walk) ∙ m.b_is; order = m.order },
  λ t. record { latest = t.latest; earliest = t.earliest; a_is = h.finish g here ∙ t.finish; b_is = ap (λ (k : Known). k.lo p) h.walk ∙ t.start; order = t.order },
)

pub not_since_bar : (pace : Pace) (xs : List Item) (f : Front) (g p r : ℕ) → list_any (nat_eq g) (tuples xs) ≡ true → IsAhead pace xs f → has_bit (set_at f.since g) r ≡ false → ¬ IsInTimeNext pace xs g p (since.Bar r)
not_since_bar pace xs f g p r here h e t = true≢false (sym (h.since g r here ∙ ap is_some t.finish) ∙ e)

-- what is known of a finish since a Bar
some_is : (x : Option ℕ) → is_some x ≡ true → (n : ℕ) × (x ≡ Some n)
some_is None e = absurd (true≢false (sym e))
some_is (Some n) e = (n, refl)

pub record FinishSince (pace : Pace) (xs : List Item) (f : Front) (g r : ℕ) : Type 0 where
  pub latest : ℕ
  pub fire : ℕ
  pub fires : by_processor f.fires r ≡ Some fire
  pub finish : by_processor f.finish g ≡ Some (latest + fire)
  pub is : up_of pace xs (since.Bar r) (FinishOf g) ≡ Some latest

pub finish_since : (pace : Pace) (xs : List Item) (f : Front) (g r : ℕ) → list_any (nat_eq g) (tuples xs) ≡ true → IsAhead pace xs f → r < f.knows.bars → has_bit (set_at f.since g) r ≡ true → FinishSince pace xs f g r
finish_since pace xs f g r here h l e =
    let x = some_is (up_of pace xs (since.Bar r) (FinishOf g)) (sym (h.since g r here) ∙ e) in
    let c = fire_known_since_start pace xs r in
    let bars : f.knows.bars ≡ length (masks xs) = ap (λ (k : Knows). k.bars) h.knows ∙ (knows_tells pace xs).bars in
    record { latest = x.0; fire = c.0; fires = h.fires r (omega arith) ∙ c.1; finish = h.finish g here ∙ finish_later pace xs r g c.0 x.0 c.1 x.1; is = x.1 }

pub too_early : (pace : Pace) (xs : List Item) (f : Front) (g p r latest : ℕ) → IsAhead pace xs f → r < f.knows.bars → up_of pace xs (since.Bar r) (FinishOf g) ≡ Some latest → (s c : ℕ) × ((known_of f.walk).lo p ≡ Some s) × (by_processor f.lows r ≡ Some c) × (s < latest + c) → ¬ IsInTimeNext pace xs g p (since.Bar r)
too_early pace xs f g p r latest h l is (s, c, lo, low, lt) t =
    let bars : f.knows.bars ≡ length (masks xs) = ap (λ (k : Knows). k.bars) h.knows ∙ (knows_tells pace xs).bars in
    let in_line : r < length (masks xs) = omega arith in
    let a = start_above pace xs r p c t.earliest in_line (sym (h.lows r in_line) ∙ low) t.start in
    let u : s ≡ a.value = (let w : Some s ≡ Some a.value = sym lo ∙ ap (λ (k : Known). k.lo p) h.walk ∙ a.is in cc) in
    let v : latest ≡ t.latest = (let w : Some latest ≡ Some t.latest = sym is ∙ t.finish in cc) in
    omega (arith, a.least, t.order)

pub next_decided : (pace : Pace) (xs : List Item) (f : Front) (g p bars : ℕ) (r : Bool) → bars ≡ length (masks xs) → ¬ IsSeen xs p g → ¬ IsInTimeNext pace xs g p since.Start → Decides r (IsInTimeSince bars pace xs g p) → Decides r (IsBefore pace xs g p)
next_decided pace xs f g p bars r e ns nt d = (λ t. inr (there (d.0 t)), back)
  where
    there : IsInTimeSince bars pace xs g p → IsSomeInTimeNext pace xs g p
    there (j, l, t) = (since.Bar j, (omega arith), t)

    back : IsBefore pace xs g p → r ≡ true
    back (inl s) = absurd (ns s)
    back (inr (since.Start, l, t)) = absurd (nt t)
    back (inr (since.Bar j, l, t)) = d.1 (j, (let z : j < length (masks xs) = l in omega arith), t)

pub same_default : (xs : List ℕ) (k d e : ℕ) → k < length xs → get_or xs k d ≡ get_or xs k e
same_default [] k d e h = absurd (omega arith)
same_default (x ∷ xs) zero d e h = refl
same_default (x ∷ xs) (suc k) d e h = same_default xs k d e (omega arith)

pub same_read : (xs : List Item) (k : ℕ) (x y : Item) → k < length xs → get_or xs k x ≡ x → y ≡ get_or xs k y → x ≡ y
same_read [] k x y h e f = absurd (omega arith)
same_read (z ∷ xs) zero x y h e f = sym e ∙ sym f
same_read (z ∷ xs) (suc k) x y h e f = same_read xs k x y (omega arith) e f

-- ---- tuples behind their producers

behind_snoc : (ps : List (List ℕ)) (passed us : List ℕ) (t : ℕ) → AreBehind ps passed us → t < length ps → All (λ g. list_any (nat_eq g) (passed ++ us) ≡ true) (slice_index_or ps t []) → AreBehind ps passed (us ++ t ∷ [])
behind_snoc ps passed [] t h l a = (l, subst (λ vs. All (λ g. list_any (nat_eq g) vs ≡ true) (slice_index_or ps t [])) (append-nil passed) a, tt)
behind_snoc ps passed (u ∷ us) t h l a = (h.0, h.1, behind_snoc ps (passed ++ u ∷ []) us t h.2 l (subst (λ vs. All (λ g. list_any (nat_eq g) vs ≡ true) (slice_index_or ps t [])) (sym (append_assoc passed (u ∷ []) us)) a))

any_snoc : (us : List ℕ) (t g : ℕ) → list_any (nat_eq g) (us ++ t ∷ []) ≡ (list_any (nat_eq g) us || nat_eq g t)
any_snoc [] t g = go (nat_eq g t)
  where
    go : (b : Bool) → (b || false) ≡ b
    go true = refl
    go false = refl
any_snoc (u ∷ us) t g = go (nat_eq g u) (any_snoc us t g)
  where
    go : (b : Bool) → list_any (nat_eq g) (us ++ t ∷ []) ≡ (list_any (nat_eq g) us || nat_eq g t) → (b || list_any (nat_eq g) (us ++ t ∷ [])) ≡ ((b || list_any (nat_eq g) us) || nat_eq g t)
    go true r = refl
    go false r = r

-- the set is that of the tuples in front
abbrev pub IsPassed : ℕ → List Item → Type 0
IsPassed passed xs = (g : ℕ) → has_bit passed g ≡ list_any (nat_eq g) (tuples xs)

pub record IsInOrderTo (ps : List (List ℕ)) (line : List Item) (k passed : ℕ) : Type 0 where
  pub behind : AreBehind ps [] (tuples (take k line))
  pub known : IsPassed passed (take k line)

-- an item may stand where its producers stand in front
may_stand_is : (ps : List (List ℕ)) (passed : ℕ) (xs : List Item) (x : Item) → IsPassed passed xs → (MayStand ps passed x → ProducersStand ps (tuples xs) x) × (ProducersStand ps (tuples xs) x → MayStand ps passed x)
may_stand_is ps passed xs (Bar m) k = (λ h. h, λ h. h)
may_stand_is ps passed xs (Run q t) k = (
  λ h. (h.0, All-weaker (λ g. has_bit passed g ≡ true) (λ g. list_any (nat_eq g) (tuples xs) ≡ true) (λ g e. sym (k g) ∙ e) (slice_index_or ps t []) h.1),
  λ h. (h.0, All-weaker (λ g. list_any (nat_eq g) (tuples xs) ≡ true) (λ g. has_bit passed g ≡ true) (λ g e. k g ∙ e) (slice_index_or ps t []) h.1),
)

one_more : (ps : List (List ℕ)) (xs : List Item) (x : Item) (passed new : ℕ) → AreBehind ps [] (tuples xs) → IsPassed passed xs → ProducersStand ps (tuples xs) x → ((g : ℕ) → has_bit new g ≡ has_passed x (has_bit passed) g) → AreBehind ps [] (tuples (xs ++ x ∷ [])) × IsPassed new (xs ++ x ∷ [])
one_more ps xs (Bar m) passed new h k s n =
    let e : tuples (xs ++ Bar m ∷ []) ≡ tuples xs = tuples-append xs (Bar m ∷ []) ∙ append-nil (tuples xs) in
    (subst (AreBehind ps []) (sym e) h, λ g. n g ∙ k g ∙ ap (list_any (nat_eq g)) (sym e))
one_more ps xs (Run q t) passed new h k s n =
    let e : tuples (xs ++ Run q t ∷ []) ≡ tuples xs ++ t ∷ [] = tuples-append xs (Run q t ∷ []) in
    (subst (AreBehind ps []) (sym e) (behind_snoc ps [] (tuples xs) t h s.0 s.1), λ g. n g ∙ ap (λ b. b || nat_eq g t) (k g) ∙ sym (any_snoc (tuples xs) t g) ∙ ap (list_any (nat_eq g)) (sym e))

pub in_order_next : (ps : List (List ℕ)) (line : List Item) (k : ℕ) (x : Item) (passed new : ℕ) → k < length line → x ≡ get_or line k x → AreBehind ps [] (tuples (take k line)) → IsPassed passed (take k line) → MayStand ps passed x → ((g : ℕ) → has_bit new g ≡ has_passed x (has_bit passed) g) → IsInOrderTo ps line (k + 1) new
in_order_next ps line k x passed new l e h n s w =
    let r = one_more ps (take k line) x passed new h n ((may_stand_is ps passed (take k line) x n).0 s) w in
    let f : take (k + 1) line ≡ take k line ++ x ∷ [] = take_more line k x l ∙ ap (λ y. take k line ++ y ∷ []) (sym e) in
    record { behind = subst (λ ys. AreBehind ps [] (tuples ys)) (sym f) r.0; known = λ g. r.1 g ∙ ap (λ ys. list_any (nat_eq g) (tuples ys)) (sym f) }

behind_at_list : (ps : List (List ℕ)) (passed us vs : List ℕ) (t : ℕ) → AreBehind ps passed (us ++ t ∷ vs) → (t < length ps) × All (λ g. list_any (nat_eq g) (passed ++ us) ≡ true) (slice_index_or ps t [])
behind_at_list ps passed [] vs t h = (h.0, subst (λ ws. All (λ g. list_any (nat_eq g) ws ≡ true) (slice_index_or ps t [])) (sym (append-nil passed)) h.1)
behind_at_list ps passed (u ∷ us) vs t h = let r = behind_at_list ps (passed ++ u ∷ []) us vs t h.2 in (r.0, subst (λ ws. All (λ g. list_any (nat_eq g) ws ≡ true) (slice_index_or ps t [])) (append_assoc passed (u ∷ []) us) r.1)

pub behind_at : (ps : List (List ℕ)) (line : List Item) (k : ℕ) (x : Item) → AreBehind ps [] (tuples line) → k < length line → get_or line k x ≡ x → ProducersStand ps (tuples (take k line)) x
behind_at ps line k (Bar m) h l e = tt
behind_at ps line k (Run q t) h l e = behind_at_list ps [] (tuples (take k line)) (tuples (drop (suc k) line)) t (subst (AreBehind ps []) (ap tuples (split_at line k (Run q t) l ∙ ap (λ y. take k line ++ y ∷ drop (suc k) line) e) ∙ tuples-append (take k line) (Run q t ∷ drop (suc k) line)) h)

-- where all are in order each item may stand
pub may_stand_there : (ps : List (List ℕ)) (line : List Item) (k : ℕ) (x : Item) (passed : ℕ) → k < length line → x ≡ get_or line k x → IsPassed passed (take k line) → AreBehind ps [] (tuples line) → MayStand ps passed x
may_stand_there ps line k x passed l e n h = (may_stand_is ps passed (take k line) x n).1 (behind_at ps line k x h l (sym e))

pub line_split : (line : List Item) (k : ℕ) (x : Item) → k < length line → get_or line k x ≡ x → line ≡ take k line ++ x ∷ drop (suc k) line
line_split line k x l e = split_at line k x l ∙ ap (λ y. take k line ++ y ∷ drop (suc k) line) e

pub held_more : (pace : Pace) (ps : List (List ℕ)) (items : List Item) (from k : ℕ) (y : Item) → ((j : ℕ) (x : Item) → from ≤ j → j < k → get_or items j x ≡ x → StandsOrdered pace ps (take j items) x) → k < length items → y ≡ get_or items k y → StandsOrdered pace ps (take k items) y → (j : ℕ) (x : Item) → from ≤ j → j < k + 1 → get_or items j x ≡ x → StandsOrdered pace ps (take j items) x
held_more pace ps items from k y h l e s j x lf lj g = go (cases_lt j k)
  where
    go : (j < k) ⊎ (k ≤ j) → StandsOrdered pace ps (take j items) x
    go (inl lt) = h j x lf lt g
    go (inr ge) =
        let n : j ≡ k = omega arith in
        let same : x ≡ y = same_read items k x y l (subst (λ i. get_or items i x ≡ x) n g) e in
        subst₂ (λ i z. StandsOrdered pace ps (take i items) z) (sym n) (sym same) s
