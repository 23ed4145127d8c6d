-- A mask is ready where as many processors as it has members wait and have it as their first unfired mask.
use Rattle.std.proofs.Common.{◌≡◌, ℕ, zero, suc, ◌+◌, ◌-◌, ◌<◌, ◌≤◌, Bool, true, false, not, ◌&&◌, nat_lt, List, length, get_or, Option, None, Some, refl, sym, ap, ◌∙◌, arith, ◌⊎◌, inl, inr, if◌then◌else◌}
use Rattle.std.proofs.lemmas.Bool.{cases_Bool, both_ways, and_parts, and_from, and_left, and_right, not-true, eq-eqb, eqb-true, lt-ltb, ltb-true}
use Rattle.std.proofs.lemmas.Option.{slice_get_within, slice_get-get_or, get_or_from_slice_get, slice_get_past}
use Rattle.bm_base.specs.Mask.{has_bit}
use Rattle.unit_law.specs.Units.{IsReady, is_ready, is_ready_mask, first_from, dynamic_choice}
use Rattle.unit_law.proofs.ReadyFacts.{first_passes, first_none, first_at, ready_of, test_of}
use Rattle.dbm_unit.specs.Table.{awaits, first_unfired, is_at, how_many, count}
use Rattle.dbm_unit.specs.Kept.{is_in, least_in, is_member, is_full, IsKept}
use Rattle.dbm_unit.proofs.Firsts.{first_same}
use Rattle.dbm_unit.proofs.Counts.{same_many, all_pass}

-- tests that pass in the same cases
pub same_test : (a b : Bool) → (a ≡ true → b ≡ true) → (b ≡ true → a ≡ true) → a ≡ b
same_test true b f g = sym (f refl)
same_test false true f g = g refl
same_test false false f g = refl

pub is_at-some : (j : ℕ) (o : Option ℕ) → is_at j o ≡ true → o ≡ Some j
is_at-some j None e = absurd (both_ways true (sym e) refl)
is_at-some j (Some i) e = ap Some (eqb-true i j e)

pub at_is : (j : ℕ) (o : Option ℕ) → o ≡ Some j → is_at j o ≡ true
at_is j o e = ap (is_at j) e ∙ eq-eqb j j refl

-- what it is to be the first unfired mask of a processor
pub record IsFirst (masks : List ℕ) (fired : List Bool) (p j : ℕ) : Type 0 where
  pub below : j < length masks
  pub unfired : get_or fired j false ≡ false
  pub member : is_member masks p j ≡ true
  pub before : (i : ℕ) → i < j → is_member masks p i ≡ true → get_or fired i false ≡ true

pub first_is : (masks : List ℕ) (fired : List Bool) (p j : ℕ) → first_unfired masks fired p ≡ Some j → IsFirst masks fired p j
first_is masks fired p j e =
    let (a, b, c, d) = first_passes (awaits masks fired p) 0 (length masks) j e in
    let (x, y) = and_parts (not (get_or fired j false)) (is_member masks p j) a in
    record { below = omega (arith, c); unfired = not-true _ x; member = y; before = λ i lt m. earlier i m (cases_Bool (get_or fired i false)) (d i (omega arith) lt) }
  where
    earlier : (i : ℕ) → is_member masks p i ≡ true → (get_or fired i false ≡ true) ⊎ (get_or fired i false ≡ false) → awaits masks fired p i ≡ false → get_or fired i false ≡ true
    earlier i m (inl f) e = f
    earlier i m (inr f) e = absurd (both_ways _ e (and_from _ _ (ap not f) m))

pub first_from_is : (masks : List ℕ) (fired : List Bool) (p j : ℕ) → IsFirst masks fired p j → first_unfired masks fired p ≡ Some j
first_from_is masks fired p j h = first_at (awaits masks fired p) 0 (length masks) j (omega arith) (let x = h.below in omega arith) (and_from _ _ (ap not h.unfired) h.member) (λ i lo lt. earlier i lt (cases_Bool (is_member masks p i)))
  where
    earlier : (i : ℕ) → i < j → (is_member masks p i ≡ true) ⊎ (is_member masks p i ≡ false) → awaits masks fired p i ≡ false
    earlier i lt (inl m) = and_left _ _ (ap not (h.before i lt m))
    earlier i lt (inr m) = and_right (not (get_or fired i false)) _ m

abbrev pub waits_for : List ℕ → List Bool → ℕ → ℕ → ℕ → Bool
waits_for masks fired waiting j p = has_bit waiting p && is_at j (first_unfired masks fired p)

-- who waits for a mask is its member
pub waits_member : (masks : List ℕ) (fired : List Bool) (waiting j p : ℕ) → waits_for masks fired waiting j p ≡ true → is_member masks p j ≡ true
waits_member masks fired waiting j p e = (first_is masks fired p j (is_at-some j (first_unfired masks fired p) (and_parts (has_bit waiting p) _ e).1)).member

-- a ready mask has all its members waiting for it
pub ready_waits : (masks : List ℕ) (fired : List Bool) (waiting j p : ℕ) → IsReady masks fired (has_bit waiting) j → is_member masks p j ≡ true → (has_bit waiting p ≡ true) × (IsFirst masks fired p j)
ready_waits masks fired waiting j p r m = (r.all_wait p here, record { below = slice_get_within masks j r.mask r.at; unfired = r.unfired; member = m; before = λ i lt h. r.first i (get_or masks i 0) p lt (slice_get-get_or masks i 0 (let x = slice_get_within masks j r.mask r.at in omega arith)) h here })
  where
    here : has_bit r.mask p ≡ true
    here = ap (λ n. has_bit n p) (sym (get_or_from_slice_get masks j r.mask 0 r.at)) ∙ m

-- a mask for which all its members wait is ready
pub waits_ready : (masks : List ℕ) (fired : List Bool) (waiting j : ℕ) → j < length masks → get_or fired j false ≡ false → ((p : ℕ) → is_member masks p j ≡ true → (has_bit waiting p ≡ true) × (IsFirst masks fired p j)) → IsReady masks fired (has_bit waiting) j
waits_ready masks fired waiting j lt un h = record {
  mask = get_or masks j 0;
  at = slice_get-get_or masks j 0 lt;
  unfired = un;
  all_wait = λ p m. (h p m).0;
  first = λ i other p l e g m. (h p m).1.before i l (ap (λ n. has_bit n p) (get_or_from_slice_get masks i other 0 e) ∙ g);
}

-- the test of counts and sizes is that of a ready mask
pub full_is_ready : {masks : List ℕ} {fired : List Bool} {waiting : ℕ} {first next : List (Option ℕ)} {sizes counts : List ℕ} {ready : List Bool} → IsKept masks fired waiting first next sizes counts ready → (j : ℕ) → is_in ready j ≡ is_ready masks fired waiting j
full_is_ready {masks = masks} {fired = fired} {waiting = waiting} {sizes = sizes} {counts = counts} k j = k.ready_are j ∙ same_test _ _ there back
  where
    there : is_full masks fired sizes counts j ≡ true → is_ready masks fired waiting j ≡ true
    there e =
        let (a, b) = and_parts (nat_lt j (length masks)) _ e in
        let (c, d) = and_parts (not (get_or fired j false)) _ b in
        let lt : j < length masks = ltb-true j (length masks) a in
        let same : count masks fired waiting j ≡ how_many (has_bit (get_or masks j 0)) 128 = sym (k.counted j lt) ∙ eqb-true _ _ d ∙ k.sized j lt in
        test_of masks fired waiting j (waits_ready masks fired waiting j lt (not-true _ c) (λ p m. all p (all_pass (waits_for masks fired waiting j) (has_bit (get_or masks j 0)) 128 (λ p l e. waits_member masks fired waiting j p e) same p (k.members j p m) m)))
      where
        all : (p : ℕ) → waits_for masks fired waiting j p ≡ true → (has_bit waiting p ≡ true) × (IsFirst masks fired p j)
        all p e = let (x, y) = and_parts (has_bit waiting p) _ e in (x, first_is masks fired p j (is_at-some j (first_unfired masks fired p) y))

    back : is_ready masks fired waiting j ≡ true → is_full masks fired sizes counts j ≡ true
    back e =
        let r : IsReady masks fired (has_bit waiting) j = ready_of masks fired waiting j e in
        let lt : j < length masks = slice_get_within masks j r.mask r.at in
        let same : count masks fired waiting j ≡ how_many (has_bit (get_or masks j 0)) 128 = same_many (waits_for masks fired waiting j) (has_bit (get_or masks j 0)) 128 (λ p l. same_test _ _ (waits_member masks fired waiting j p) (λ m. all p (ready_waits masks fired waiting j p r m))) in
        and_from _ _ (lt-ltb j (length masks) lt) (and_from _ _ (ap not r.unfired) (eq-eqb _ _ (k.counted j lt ∙ same ∙ sym (k.sized j lt))))
      where
        all : (p : ℕ) → (has_bit waiting p ≡ true) × (IsFirst masks fired p j) → waits_for masks fired waiting j p ≡ true
        all p h = and_from _ _ h.0 (at_is j (first_unfired masks fired p) (first_from_is masks fired p j h.1))

-- no number passes from n on
longer : (f : ℕ → Bool) (k n d : ℕ) → ((i : ℕ) → k + n ≤ i → f i ≡ false) → first_from f k (n + d) ≡ first_from f k n
longer f k zero d h = first_none f k (0 + d) (λ i lo hi. h i (omega arith))
longer f k (suc n) d h = let e : suc n + d ≡ suc (n + d) = omega arith in ap (first_from f k) e ∙ ap (λ o. if f k then Some k else o) (longer f (suc k) n d (λ i lo. h i (omega arith)))

-- the least ready mask is the dynamic choice
pub least_is_choice : {masks : List ℕ} {fired : List Bool} {waiting : ℕ} {first next : List (Option ℕ)} {sizes counts : List ℕ} {ready : List Bool} → IsKept masks fired waiting first next sizes counts ready → length masks ≤ length ready → least_in ready ≡ dynamic_choice masks fired waiting
least_is_choice {masks = masks} {fired = fired} {waiting = waiting} {ready = ready} k le =
    let e : length ready ≡ length masks + (length ready - length masks) = omega arith in
    first_same (is_in ready) (is_ready masks fired waiting) 0 (length ready) (λ i lo hi. full_is_ready k i)
    ∙ ap (first_from (is_ready masks fired waiting) 0) e
    ∙ longer (is_ready masks fired waiting) 0 (length masks) (length ready - length masks) (λ i lo. ap (is_ready_mask masks fired waiting i) (slice_get_past masks i (omega arith)))
