-- Tables by processor, and what they hold as functions.
use Rattle.std.proofs.Common.{◌≡◌, ℕ, zero, suc, ◌+◌, ◌<◌, ◌≤◌, Bool, true, false, nat_eq, List, [], ◌∷◌, length, get_or, set, drop, replicate, drop-cons, ap₂, add-one, slice_index_or, Option, Some, None, refl, sym, ap, ◌∙◌, arith, if◌then◌else◌, eqb-true}
use Rattle.std.proofs.lemmas.Grind.{common_steps}
use Rattle.std.proofs.lemmas.Bool.Decides.{nat_tests}
use Rattle.bm_base.specs.Mask.{has_bit}
use Rattle.time_interval.specs.Bounds.{Known, Pace, fire_lo, fire_up, greater_known, greater_of_both, later, time, past_run, past_bar, along}
use Rattle.line_model.specs.declared.line.Item.{Item}
use Rattle.line_model.specs.declared.line.Item.TheVariants.{Run, Bar}
use Rattle.time_interval.specs.Steps.{by_processor, is_up_to, IsUpTo, IsPace}
use Rattle.bm_base.specs.Spec.{interval}
use Rattle.bm_base.specs.declared.spec.Interval.{Interval}

pub known_ext : (k l : Known) → ((p : ℕ) → k.lo p ≡ l.lo p) → ((p : ℕ) → k.up p ≡ l.up p) → k.fired ≡ l.fired → k ≡ l
known_ext k l lo up fired = λ i. record { lo = λ p. lo p i; up = λ p. up p i; fired = fired i }

pub set_at : (xs : List (Option ℕ)) (q p : ℕ) (y : Option ℕ) → q < length xs → by_processor (set xs q y) p ≡ (if nat_eq q p then y else by_processor xs p)
set_at xs q p y h = grind (arith, common_steps, nat_tests)

-- the members' bounds are among the processors' bounds
pub fire_lo_up_to : (n mask : ℕ) (lo : ℕ → Option ℕ) (b : ℕ) → ((p : ℕ) → is_up_to b (lo p)) → is_up_to b (fire_lo n mask lo)
fire_lo_up_to zero mask lo b h = tt
fire_lo_up_to (suc n) mask lo b h = go (has_bit mask n) (fire_lo_up_to n mask lo b h) (h n)
  where
    two : (x y : Option ℕ) → is_up_to b x → is_up_to b y → is_up_to b (greater_known x y)
    two None y hx hy = hy
    two (Some x) None hx hy = hx
    two (Some x) (Some y) hx hy = omega arith

    go : (t : Bool) → is_up_to b (fire_lo n mask lo) → is_up_to b (lo n) → is_up_to b (if t then greater_known (fire_lo n mask lo) (lo n) else fire_lo n mask lo)
    go true x y = two _ _ x y
    go false x y = x

pub fire_up_up_to : (n mask : ℕ) (fired : Option ℕ) (up : ℕ → Option ℕ) (b : ℕ) → is_up_to b fired → ((p : ℕ) → is_up_to b (up p)) → is_up_to b (fire_up n mask fired up)
fire_up_up_to zero mask fired up b f h = f
fire_up_up_to (suc n) mask fired up b f h = go (has_bit mask n) (fire_up_up_to n mask fired up b f h) (h n)
  where
    two : (x y : Option ℕ) → is_up_to b x → is_up_to b y → is_up_to b (greater_of_both x y)
    two None y hx hy = tt
    two (Some x) None hx hy = tt
    two (Some x) (Some y) hx hy = omega arith

    go : (t : Bool) → is_up_to b (fire_up n mask fired up) → is_up_to b (up n) → is_up_to b (if t then greater_of_both (fire_up n mask fired up) (up n) else fire_up n mask fired up)
    go true x y = two _ _ x y
    go false x y = x

pub up_to_more : (b c : ℕ) (x : Option ℕ) → b ≤ c → is_up_to b x → is_up_to c x
up_to_more b c None le h = tt
up_to_more b c (Some x) le h = omega arith

pub none_of : (n q : ℕ) → by_processor (replicate n None) q ≡ None
none_of zero q = refl
none_of (suc n) zero = refl
none_of (suc n) (suc q) = none_of n q

abbrev pub AllShort : List Interval → Type 0
AllShort xs = (k : ℕ) (d : Interval) → k < length xs → ((slice_index_or xs k d).least ≤ 1000) × ((slice_index_or xs k d).most ≤ 1000) × (1 ≤ (slice_index_or xs k d).most)

pub short_at : (xs : List Interval) (t : ℕ) → AllShort xs → ((slice_index_or xs t (interval 1 1)).least ≤ 1000) × ((slice_index_or xs t (interval 1 1)).most ≤ 1000) × (1 ≤ (slice_index_or xs t (interval 1 1)).most)
short_at [] t h = (omega arith, omega arith, omega arith)
short_at (x ∷ xs) zero h = h 0 x (omega arith)
short_at (x ∷ xs) (suc t) h = short_at xs t (λ k d l. h (suc k) d (omega arith))

pub pace_from : (n d : ℕ) (xs : List Interval) → n ≤ 128 → d ≤ 100 → AllShort xs → IsPace (record { processors = n; delay = d; times = xs })
pace_from n d xs few short h = record { few = few; short = short; least = λ t. (short_at xs t h).0; most = λ t. (short_at xs t h).1; some = λ t. (short_at xs t h).2 }

pub set_later : (xs : List (Option ℕ)) (q p : ℕ) (y : Option ℕ) (n : ℕ) → q < length xs → y ≡ later (by_processor xs q) n → by_processor (set xs q y) p ≡ (if nat_eq q p then later (by_processor xs p) n else by_processor xs p)
set_later xs q p y n h e = set_at xs q p y h ∙ go (nat_eq q p) refl
  where
    go : (b : Bool) → nat_eq q p ≡ b → (if b then y else by_processor xs p) ≡ (if b then later (by_processor xs p) n else by_processor xs p)
    go true t = e ∙ ap (λ r. later (by_processor xs r) n) (eqb-true q p t)
    go false t = refl

later_up_to : (x : Option ℕ) (n d e : ℕ) → is_up_to n x → d ≤ e → is_up_to (n + e) (later x d)
later_up_to None n d e h le = tt
later_up_to (Some x) n d e h le = omega arith

pub past_run_up_to : (pace : Pace) (q t n : ℕ) (k : Known) → (time pace t).least ≤ 1000 → (time pace t).most ≤ 1000 → IsUpTo n k → IsUpTo (n + 1100) (past_run pace q t k)
past_run_up_to pace q t n k least most h = record {
  lo = λ p. go (nat_eq q p) (k.lo p) (time pace t).least (omega arith) (h.lo p);
  up = λ p. go (nat_eq q p) (k.up p) (time pace t).most (omega arith) (h.up p);
  fired = up_to_more n (n + 1100) k.fired (omega arith) h.fired;
}
  where
    go : (b : Bool) (x : Option ℕ) (d : ℕ) → d ≤ 1100 → is_up_to n x → is_up_to (n + 1100) (if b then later x d else x)
    go true x d le u = later_up_to x n d 1100 u le
    go false x d le u = up_to_more n (n + 1100) x (omega arith) u

pub past_bar_up_to : (pace : Pace) (mask n : ℕ) (k : Known) → pace.delay ≤ 100 → IsUpTo n k → IsUpTo (n + 1100) (past_bar pace mask k)
past_bar_up_to pace mask n k short h = record {
  lo = λ p. go (has_bit mask p) (k.lo p) (fire_lo pace.processors mask k.lo) (h.lo p) (fire_lo_up_to pace.processors mask k.lo n h.lo);
  up = λ p. go (has_bit mask p) (k.up p) (fire_up pace.processors mask k.fired k.up) (h.up p) (fire_up_up_to pace.processors mask k.fired k.up n h.fired h.up);
  fired = up_to_more n (n + 1100) (fire_up pace.processors mask k.fired k.up) (omega arith) (fire_up_up_to pace.processors mask k.fired k.up n h.fired h.up);
}
  where
    go : (b : Bool) (x y : Option ℕ) → is_up_to n x → is_up_to n y → is_up_to (n + 1100) (if b then later y pace.delay else x)
    go true x y u v = later_up_to y n pace.delay 1100 v (omega arith)
    go false x y u v = up_to_more n (n + 1100) x (omega arith) u

-- ---- one item further along a list

pub drop_next : {X : Type 0} (xs : List X) (i : ℕ) (x : X) → i < length xs → x ≡ get_or xs i x → drop i xs ≡ x ∷ drop (i + 1) xs
drop_next xs i x h e = drop-cons xs i x h ∙ ap₂ (λ y ys. y ∷ ys) (sym e) (ap (λ j. drop j xs) (sym (add-one i)))

pub run_along : (pace : Pace) (k l : Known) (items : List Item) (i : ℕ) (x : Item) (q t : ℕ) → i < length items → x ≡ get_or items i x → x ≡ Run q t → l ≡ past_run pace q t k → along pace k (drop i items) ≡ along pace l (drop (i + 1) items)
run_along pace k l items i x q t h e f g = ap (along pace k) (drop_next items i x h e ∙ ap (λ y. y ∷ drop (i + 1) items) f) ∙ ap (λ m. along pace m (drop (i + 1) items)) (sym g)

pub bar_along : (pace : Pace) (k l : Known) (items : List Item) (i : ℕ) (x : Item) (mask : ℕ) → i < length items → x ≡ get_or items i x → x ≡ Bar mask → l ≡ past_bar pace mask k → along pace k (drop i items) ≡ along pace l (drop (i + 1) items)
bar_along pace k l items i x mask h e f g = ap (along pace k) (drop_next items i x h e ∙ ap (λ y. y ∷ drop (i + 1) items) f) ∙ ap (λ m. along pace m (drop (i + 1) items)) (sym g)
