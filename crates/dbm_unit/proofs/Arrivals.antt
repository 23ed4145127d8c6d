-- A processor that waits from now on: what that leaves of the counts and of the ready masks.
use Rattle.std.proofs.Common.{◌≡◌, ℕ, ◌+◌, ◌<◌, ◌≤◌, Bool, true, false, not, ◌&&◌, ◌||◌, nat_lt, nat_eq, List, length, set, take, length-take-le, get_or-take, get_or, map, Option, None, Some, refl, sym, ap, ◌∙◌, arith, ◌⊎◌, inl, inr, get_or-set_same, get_or-set_other}
use Rattle.std.specs.Prelude.{◌==◌, ◌^◌, bit_or}
use Rattle.std.specs.List.{range_with_len}
use Rattle.std.proofs.lemmas.List.FromFn.{fill_by_all}
use Rattle.std.proofs.lemmas.Bool.{cases_eq, and_from, and_left, and_right, eq-eqb, ne_eqb, lt-ltb, false_from_ne_true}
use Rattle.bm_base.specs.Mask.{has_bit}
use Rattle.bm_base.proofs.MaskBits.{has_bit-insert}
use Rattle.dbm_unit.specs.Table.{first_unfired, is_at, how_many, count}
use Rattle.dbm_unit.specs.Kept.{is_in, is_full, IsKept}
use Rattle.dbm_unit.proofs.Counts.{same_many, more_pass, many_le, one_joins}
use Rattle.dbm_unit.proofs.Readiness.{IsFirst, first_is, is_at-some, waits_for, waits_member}

-- the counts that are lent
pub lent : {masks : List ℕ} {fired : List Bool} {waiting : ℕ} {first next : List (Option ℕ)} {sizes counts : List ℕ} {ready : List Bool} → IsKept masks fired waiting first next sizes counts ready → (n : ℕ) → length masks ≡ n → n ≤ length counts → take n counts ≡ map (count masks fired waiting) (range_with_len 0 (length masks))
lent {masks = masks} {fired = fired} {waiting = waiting} {counts = counts} k n e le =
    fill_by_all (count masks fired waiting) (take n counts) (length masks) 0 (length-take-le n counts le ∙ sym e) (λ i lt. get_or-take n counts i 0 (omega arith) ∙ k.counted i lt)

-- who waits now
joined : (w p : ℕ) → has_bit (bit_or w (2 ^ p)) p ≡ true
joined w p = has_bit-insert w p p ∙ go (has_bit w p)
  where
    go : (b : Bool) → (b || p == p) ≡ true
    go true = refl
    go false = eq-eqb p p refl

others : (w p q : ℕ) → (q ≡ p → ⊥) → has_bit w q ≡ has_bit (bit_or w (2 ^ p)) q
others w p q ne = sym (has_bit-insert w p q ∙ ap (λ b. has_bit w q || b) (ne_eqb q p ne) ∙ go (has_bit w q))
  where
    go : (b : Bool) → (b || false) ≡ b
    go true = refl
    go false = refl

-- the counts of masks that are not the processor's first are as before
pub count_stays : (masks : List ℕ) (fired : List Bool) (w p i : ℕ) → (first_unfired masks fired p ≡ Some i → ⊥) → count masks fired w i ≡ count masks fired (bit_or w (2 ^ p)) i
count_stays masks fired w p i ne = same_many (waits_for masks fired w i) (waits_for masks fired (bit_or w (2 ^ p)) i) 128 (λ q l. go q (cases_eq q p))
  where
    go : (q : ℕ) → (q ≡ p) ⊎ (q ≡ p → ⊥) → waits_for masks fired w i q ≡ waits_for masks fired (bit_or w (2 ^ p)) i q
    go q (inl e) = and_right (has_bit w q) _ (apart q e) ∙ sym (and_right (has_bit (bit_or w (2 ^ p)) q) _ (apart q e))
      where
        apart : (q : ℕ) → q ≡ p → is_at i (first_unfired masks fired q) ≡ false
        apart q e = false_from_ne_true _ (λ t. ne (ap (first_unfired masks fired) (sym e) ∙ is_at-some i (first_unfired masks fired q) t))
    go q (inr e) = ap (λ b. b && is_at i (first_unfired masks fired q)) (others w p q e)

-- that of its first is one more
pub count_rises : (masks : List ℕ) (fired : List Bool) (w p i : ℕ) → p < 128 → has_bit w p ≡ false → first_unfired masks fired p ≡ Some i → count masks fired (bit_or w (2 ^ p)) i ≡ count masks fired w i + 1
count_rises masks fired w p i lt new e = one_joins (waits_for masks fired w i) (waits_for masks fired (bit_or w (2 ^ p)) i) 128 p lt (and_left _ _ new) (and_from _ _ (joined w p) (ap (is_at i) e ∙ eq-eqb i i refl)) (λ q ne. ap (λ b. b && is_at i (first_unfired masks fired q)) (others w p q ne))

-- no more wait for a mask than it has members, and they are 128 at most
pub count_few : (masks : List ℕ) (fired : List Bool) (w i : ℕ) → count masks fired w i ≤ how_many (has_bit (get_or masks i 0)) 128
count_few masks fired w i = more_pass (waits_for masks fired w i) (has_bit (get_or masks i 0)) 128 (λ p l e. waits_member masks fired w i p e)

-- a processor that has no unfired mask
pub arrived_nowhere : {masks : List ℕ} {fired : List Bool} {w : ℕ} {first next : List (Option ℕ)} {sizes counts : List ℕ} {ready : List Bool} → IsKept masks fired w first next sizes counts ready → (p : ℕ) → p < 128 → get_or first p None ≡ None → IsKept masks fired (bit_or w (2 ^ p)) first next sizes counts ready
arrived_nowhere {masks = masks} {fired = fired} {w = w} k p lt e = record {
  members = k.members;
  in_order = k.in_order;
  firsts = k.firsts;
  links = k.links;
  sized = k.sized;
  counted = λ j l. k.counted j l ∙ count_stays masks fired w p j (λ s. let x : Some j ≡ None = sym s ∙ sym (k.firsts p lt) ∙ e in absurd (cc));
  ready_are = k.ready_are;
}

-- where processor p has mask j as its first unfired mask, and did not wait before
pub record Arrival (masks : List ℕ) (fired : List Bool) (sizes counts : List ℕ) (ready : List Bool) (j : ℕ) : Type 0 where
  pub below : j < length masks
  pub few : get_or counts j 0 + 1 ≤ get_or sizes j 0
  pub most : get_or counts j 0 + 1 ≤ 128
  pub new : is_in ready j ≡ false

pub arrival : {masks : List ℕ} {fired : List Bool} {w : ℕ} {first next : List (Option ℕ)} {sizes counts : List ℕ} {ready : List Bool} → IsKept masks fired w first next sizes counts ready → (p j : ℕ) → p < 128 → has_bit w p ≡ false → get_or first p None ≡ Some j → Arrival masks fired sizes counts ready j
arrival {masks = masks} {fired = fired} {w = w} {sizes = sizes} {counts = counts} k p j lt new e =
    let at : first_unfired masks fired p ≡ Some j = sym (k.firsts p lt) ∙ e in
    let first = first_is masks fired p j at in
    let below : j < length masks = first.below in
    let rises = count_rises masks fired w p j lt new at in
    let few = count_few masks fired (bit_or w (2 ^ p)) j in
    let most = many_le (waits_for masks fired (bit_or w (2 ^ p)) j) 128 in
    let now = k.counted j below in
    let size = k.sized j below in
    record {
      below = below;
      few = omega arith;
      most = omega arith;
      new = k.ready_are j ∙ and_right (nat_lt j (length masks)) _ (and_right (not (get_or fired j false)) _ (ne_eqb _ _ (λ q. absurd (omega arith))));
    }

-- the count of its first unfired mask rises, and where it reaches the number of its members the mask is ready
pub arrived : {masks : List ℕ} {fired : List Bool} {w : ℕ} {first next : List (Option ℕ)} {sizes counts : List ℕ} {ready : List Bool} → IsKept masks fired w first next sizes counts ready → (p j : ℕ) → p < 128 → has_bit w p ≡ false → get_or first p None ≡ Some j → length masks ≤ length counts → (ready' : List Bool) → ((i : ℕ) → (i ≡ j → ⊥) → is_in ready' i ≡ is_in ready i) → is_in ready' j ≡ nat_eq (get_or counts j 0 + 1) (get_or sizes j 0) → IsKept masks fired (bit_or w (2 ^ p)) first next sizes (set counts j (get_or counts j 0 + 1)) ready'
arrived {masks = masks} {fired = fired} {w = w} {sizes = sizes} {counts = counts} {ready = ready} k p j lt new e room ready' kept here = record {
  members = k.members;
  in_order = k.in_order;
  firsts = k.firsts;
  links = k.links;
  sized = k.sized;
  counted = λ i l. counted i l (cases_eq i j);
  ready_are = λ i. are i (cases_eq i j);
}
  where
    at : first_unfired masks fired p ≡ Some j
    at = sym (k.firsts p lt) ∙ e

    first : IsFirst masks fired p j
    first = first_is masks fired p j at

    more : get_or (set counts j (get_or counts j 0 + 1)) j 0 ≡ get_or counts j 0 + 1
    more = get_or-set_same counts j (get_or counts j 0 + 1) 0 (let x = first.below in omega arith)

    counted : (i : ℕ) → i < length masks → (i ≡ j) ⊎ (i ≡ j → ⊥) → get_or (set counts j (get_or counts j 0 + 1)) i 0 ≡ count masks fired (bit_or w (2 ^ p)) i
    counted i l (inl q) = ap (λ i. get_or (set counts j (get_or counts j 0 + 1)) i 0) q ∙ more ∙ ap (λ n. n + 1) (k.counted j first.below) ∙ sym (count_rises masks fired w p j lt new at) ∙ ap (count masks fired (bit_or w (2 ^ p))) (sym q)
    counted i l (inr ne) = get_or-set_other counts j i (get_or counts j 0 + 1) 0 ne ∙ k.counted i l ∙ count_stays masks fired w p i (λ s. let x : Some i ≡ Some j = sym s ∙ at in ne (cc))

    are : (i : ℕ) → (i ≡ j) ⊎ (i ≡ j → ⊥) → is_in ready' i ≡ is_full masks fired sizes (set counts j (get_or counts j 0 + 1)) i
    are i (inl q) = ap (is_in ready') q ∙ here ∙ sym full ∙ ap (is_full masks fired sizes (set counts j (get_or counts j 0 + 1))) (sym q)
      where
        full : is_full masks fired sizes (set counts j (get_or counts j 0 + 1)) j ≡ nat_eq (get_or counts j 0 + 1) (get_or sizes j 0)
        full = ap (λ b. b && (not (get_or fired j false) && nat_eq (get_or (set counts j (get_or counts j 0 + 1)) j 0) (get_or sizes j 0))) (lt-ltb j (length masks) first.below) ∙ ap (λ b. not b && nat_eq (get_or (set counts j (get_or counts j 0 + 1)) j 0) (get_or sizes j 0)) first.unfired ∙ ap (λ n. nat_eq n (get_or sizes j 0)) more
    are i (inr ne) = kept i ne ∙ k.ready_are i ∙ ap (λ n. nat_lt i (length masks) && (not (get_or fired i false) && nat_eq n (get_or sizes i 0))) (sym (get_or-set_other counts j i (get_or counts j 0 + 1) 0 ne))
