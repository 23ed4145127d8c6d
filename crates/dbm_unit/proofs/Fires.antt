-- A ready mask that fires: its members go on in their lists, and no other mask is touched.
use Rattle.std.proofs.Common.{◌≡◌, ℕ, suc, ◌+◌, ◌-◌, ◌*◌, ◌<◌, ◌≤◌, Bool, true, false, not, ◌&&◌, nat_lt, nat_eq, List, length, set, get_or, Option, None, Some, refl, sym, ap, ◌∙◌, arith, ◌⊎◌, inl, inr, get_or-set_same, get_or-set_other}
use Rattle.std.proofs.lemmas.Bool.{cases_Bool, cases_eq, both_ways, and_from, and_left, and_right, cond-true, cond-false, false_from_ne_true}
use Rattle.bm_base.specs.Mask.{has_bit, without}
use Rattle.bm_base.proofs.MaskBits.{has_bit-without}
use Rattle.unit_law.specs.Units.{IsReady}
use Rattle.unit_law.proofs.ReadyFacts.{ready_of}
use Rattle.dbm_unit.specs.Table.{awaits, first_unfired, is_at, count}
use Rattle.dbm_unit.specs.Kept.{is_in, is_member, is_full, mask_behind, IsKept}
use Rattle.dbm_unit.proofs.Firsts.{first_same, first_after}
use Rattle.dbm_unit.proofs.Counts.{same_many, none_pass}
use Rattle.dbm_unit.specs.Lists.{advanced}
use Rattle.dbm_unit.proofs.Readiness.{first_is, first_from_is, is_at-some, waits_for, ready_waits, full_is_ready}

-- what is known where mask j, which is ready, fires
record Fires (masks : List ℕ) (fired : List Bool) (waiting j : ℕ) : Type 0 where
  ready : IsReady masks fired (has_bit waiting) j
  below : j < length masks
  room : length fired ≡ length masks
  in_order : (i j p : ℕ) → i < j → is_member masks p i ≡ true → is_member masks p j ≡ true → get_or fired j false ≡ true → get_or fired i false ≡ true

now_fired : {masks : List ℕ} {fired : List Bool} {waiting j : ℕ} → Fires masks fired waiting j → get_or (set fired j true) j false ≡ true
now_fired {fired = fired} {j = j} h = get_or-set_same fired j true false (let x = h.below in let y = h.room in omega arith)

as_before : (fired : List Bool) (j i : ℕ) → (i ≡ j → ⊥) → get_or (set fired j true) i false ≡ get_or fired i false
as_before fired j i ne = get_or-set_other fired j i true false ne

-- the first unfired mask of a processor that is no member
not_member : (masks : List ℕ) (fired : List Bool) (j p : ℕ) → is_member masks p j ≡ false → first_unfired masks fired p ≡ first_unfired masks (set fired j true) p
not_member masks fired j p out = first_same _ _ 0 (length masks) (λ i lo hi. go i (cases_eq i j))
  where
    go : (i : ℕ) → (i ≡ j) ⊎ (i ≡ j → ⊥) → awaits masks fired p i ≡ awaits masks (set fired j true) p i
    go i (inl q) = and_right (not (get_or fired i false)) _ (ap (is_member masks p) q ∙ out) ∙ sym (and_right (not (get_or (set fired j true) i false)) _ (ap (is_member masks p) q ∙ out))
    go i (inr ne) = ap (λ b. not b && is_member masks p i) (sym (as_before fired j i ne))

-- that of a member is the mask that follows in its list
a_member : {masks : List ℕ} {fired : List Bool} {waiting j : ℕ} → Fires masks fired waiting j → (p : ℕ) → is_member masks p j ≡ true → mask_behind masks p j ≡ first_unfired masks (set fired j true) p
a_member {masks = masks} {fired = fired} {waiting = waiting} {j = j} h p m =
    first_same _ _ (suc j) (length masks - suc j) (λ i lo hi. above i lo (cases_Bool (is_member masks p i)))
    ∙ sym (first_after (awaits masks (set fired j true) p) (suc j) (length masks) (let x = h.below in omega arith) (λ i lt. below i lt (cases_eq i j) (cases_Bool (is_member masks p i))))
  where
    above : (i : ℕ) → suc j ≤ i → (is_member masks p i ≡ true) ⊎ (is_member masks p i ≡ false) → is_member masks p i ≡ awaits masks (set fired j true) p i
    above i lo (inr e) = e ∙ sym (and_right (not (get_or (set fired j true) i false)) _ e)
    above i lo (inl e) = e ∙ sym (and_from _ _ (ap not (as_before fired j i (λ q. absurd (omega arith)) ∙ false_from_ne_true _ (λ f. both_ways _ h.ready.unfired (h.in_order j i p (omega arith) m e f)))) e)

    below : (i : ℕ) → i < suc j → (i ≡ j) ⊎ (i ≡ j → ⊥) → (is_member masks p i ≡ true) ⊎ (is_member masks p i ≡ false) → awaits masks (set fired j true) p i ≡ false
    below i lt e (inr out) = and_right (not (get_or (set fired j true) i false)) _ out
    below i lt (inl q) (inl e) = and_left _ _ (ap not (ap (λ i. get_or (set fired j true) i false) q ∙ now_fired h))
    below i lt (inr ne) (inl e) = and_left _ _ (ap not (as_before fired j i ne ∙ (ready_waits masks fired waiting j p h.ready m).1.before i (omega arith) e))

-- no processor has a fired mask as its first
none_at : {masks : List ℕ} {fired : List Bool} {waiting j : ℕ} → Fires masks fired waiting j → (p : ℕ) → is_at j (first_unfired masks (set fired j true) p) ≡ false
none_at {masks = masks} {fired = fired} {waiting = waiting} {j = j} h p = false_from_ne_true _ (λ e. both_ways _ (first_is masks (set fired j true) p j (is_at-some j (first_unfired masks (set fired j true) p) e)).unfired (now_fired h))

-- the counts of the other masks are as before
count_kept : {masks : List ℕ} {fired : List Bool} {waiting j : ℕ} → Fires masks fired waiting j → (i : ℕ) → (i ≡ j → ⊥) → count masks fired waiting i ≡ count masks (set fired j true) (without waiting (get_or masks j 0)) i
count_kept {masks = masks} {fired = fired} {waiting = waiting} {j = j} h i ne = same_many (waits_for masks fired waiting i) (waits_for masks (set fired j true) (without waiting (get_or masks j 0)) i) 128 (λ p lt. go p (cases_Bool (is_member masks p j)))
  where
    left : (p : ℕ) → has_bit (without waiting (get_or masks j 0)) p ≡ (has_bit waiting p && not (is_member masks p j))
    left p = has_bit-without waiting (get_or masks j 0) p

    and-true : (b : Bool) → (b && true) ≡ b
    and-true true = refl
    and-true false = refl

    go : (p : ℕ) → (is_member masks p j ≡ true) ⊎ (is_member masks p j ≡ false) → waits_for masks fired waiting i p ≡ waits_for masks (set fired j true) (without waiting (get_or masks j 0)) i p
    go p (inl m) =
        let at : first_unfired masks fired p ≡ Some j = first_from_is masks fired p j (ready_waits masks fired waiting j p h.ready m).1 in
        and_right (has_bit waiting p) _ (false_from_ne_true _ (λ e. let x : Some i ≡ Some j = sym (is_at-some i (first_unfired masks fired p) e) ∙ at in ne (cc)))
        ∙ sym (and_left _ _ (left p ∙ and_right (has_bit waiting p) _ (ap not m)))
    go p (inr out) =
        ap (λ b. b && is_at i (first_unfired masks fired p)) (sym (left p ∙ ap (λ b. has_bit waiting p && not b) out ∙ and-true (has_bit waiting p)))
        ∙ ap (λ o. has_bit (without waiting (get_or masks j 0)) p && is_at i o) (not_member masks fired j p out)

-- all that is kept when a ready mask fires
pub fires : {masks : List ℕ} {fired : List Bool} {waiting : ℕ} {first next : List (Option ℕ)} {sizes counts : List ℕ} {ready : List Bool} → IsKept masks fired waiting first next sizes counts ready → (j : ℕ) → is_in ready j ≡ true → j < length masks → length fired ≡ length masks → length masks ≤ length counts → length masks ≤ length ready → (first' : List (Option ℕ)) → ((p : ℕ) → p < 128 → get_or first' p None ≡ advanced (get_or masks j 0) (get_or next (j * 128 + p) None) p (get_or first p None)) → IsKept masks (set fired j true) (without waiting (get_or masks j 0)) first' next sizes (set counts j 0) (set ready j false)
fires {masks = masks} {fired = fired} {waiting = waiting} {first = first} {next = next} {sizes = sizes} {counts = counts} {ready = ready} k j t below room counts_room ready_room first' led = record {
  members = k.members;
  in_order = λ i l p lt a b f. order i l p lt a b f (cases_eq i j) (cases_eq l j);
  firsts = λ p lt. front p lt (cases_Bool (is_member masks p j));
  links = k.links;
  sized = k.sized;
  counted = λ i lt. counted i lt (cases_eq i j);
  ready_are = λ i. are i (cases_eq i j);
}
  where
    h : Fires masks fired waiting j
    h = record { ready = ready_of masks fired waiting j (sym (full_is_ready k j) ∙ t); below = below; room = room; in_order = k.in_order }

    order : (i l p : ℕ) → i < l → is_member masks p i ≡ true → is_member masks p l ≡ true → get_or (set fired j true) l false ≡ true → (i ≡ j) ⊎ (i ≡ j → ⊥) → (l ≡ j) ⊎ (l ≡ j → ⊥) → get_or (set fired j true) i false ≡ true
    order i l p lt a b f (inl q) d = ap (λ i. get_or (set fired j true) i false) q ∙ now_fired h
    order i l p lt a b f (inr ne) (inl q) = as_before fired j i ne ∙ (ready_waits masks fired waiting j p h.ready (ap (is_member masks p) (sym q) ∙ b)).1.before i (omega arith) a
    order i l p lt a b f (inr ne) (inr nl) = as_before fired j i ne ∙ k.in_order i l p lt a b (sym (as_before fired j l nl) ∙ f)

    front : (p : ℕ) → p < 128 → (is_member masks p j ≡ true) ⊎ (is_member masks p j ≡ false) → get_or first' p None ≡ first_unfired masks (set fired j true) p
    front p lt (inl m) = led p lt ∙ cond-true _ _ _ m ∙ k.links j p below m ∙ a_member h p m
    front p lt (inr out) = led p lt ∙ cond-false _ _ _ out ∙ k.firsts p lt ∙ not_member masks fired j p out

    counted : (i : ℕ) → i < length masks → (i ≡ j) ⊎ (i ≡ j → ⊥) → get_or (set counts j 0) i 0 ≡ count masks (set fired j true) (without waiting (get_or masks j 0)) i
    counted i lt (inl q) = ap (λ i. get_or (set counts j 0) i 0) q ∙ get_or-set_same counts j 0 0 (omega arith) ∙ sym (none_pass (waits_for masks (set fired j true) (without waiting (get_or masks j 0)) j) 128 (λ p l. and_right (has_bit (without waiting (get_or masks j 0)) p) _ (none_at h p))) ∙ ap (count masks (set fired j true) (without waiting (get_or masks j 0))) (sym q)
    counted i lt (inr ne) = get_or-set_other counts j i 0 0 ne ∙ k.counted i lt ∙ count_kept h i ne

    are : (i : ℕ) → (i ≡ j) ⊎ (i ≡ j → ⊥) → is_in (set ready j false) i ≡ is_full masks (set fired j true) sizes (set counts j 0) i
    are i (inl q) = ap (is_in (set ready j false)) q ∙ get_or-set_same ready j false false (omega arith) ∙ sym (and_right (nat_lt i (length masks)) _ (and_left _ _ (ap not (ap (λ i. get_or (set fired j true) i false) q ∙ now_fired h))))
    are i (inr ne) = get_or-set_other ready j i false false ne ∙ k.ready_are i ∙ ap (λ b. nat_lt i (length masks) && (not b && nat_eq (get_or counts i 0) (get_or sizes i 0))) (sym (as_before fired j i ne)) ∙ ap (λ n. nat_lt i (length masks) && (not (get_or (set fired j true) i false) && nat_eq n (get_or sizes i 0))) (sym (get_or-set_other counts j i 0 0 ne))
