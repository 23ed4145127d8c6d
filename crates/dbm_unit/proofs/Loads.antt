-- A block's masks are loaded, the last first.
use Rattle.std.proofs.Common.{◌≡◌, ℕ, zero, suc, ◌+◌, ◌-◌, ◌*◌, ◌<◌, ◌≤◌, Bool, true, false, not, ◌&&◌, nat_eq, List, [], ◌∷◌, length, take, set, get_or, map, replicate, Option, None, Some, refl, sym, ap, ◌∙◌, subst, arith, ◌⊎◌, inl, inr, length-set, length-take-le, get_or-take, get_or-set_same, get_or-set_other, if◌then◌else◌}
use Rattle.std.proofs.lemmas.Bool.{cases_eq, cases_lt, both_ways, and_left, lt-ltb, le-ltb}
use Rattle.std.proofs.lemmas.List.{ext_get_or, get_or_past, get_or_read, get_or-replicate, length-map}
use Rattle.bm_base.specs.Mask.{has_bit}
use Rattle.bm_base.proofs.MaskBits.{has_bit-none}
use Rattle.unit_law.specs.Units.{first_from}
use Rattle.dbm_unit.specs.Table.{awaits, how_many}
use Rattle.dbm_unit.specs.Kept.{is_in, is_member, is_full, mask_behind, IsKept, HasRoom}
use Rattle.dbm_unit.proofs.Firsts.{first_same}
use Rattle.dbm_unit.proofs.Counts.{none_pass}
use Rattle.dbm_unit.proofs.Chains.{none_in}
use Rattle.dbm_unit.specs.Lists.{led}
use Rattle.dbm_unit.proofs.Readiness.{waits_for}

-- the masks from number i on are loaded
pub record IsLoading (masks : List ℕ) (i : ℕ) (slots : List ℕ) (fired : List Bool) (first next : List (Option ℕ)) (sizes counts : List ℕ) (ready : List Bool) : Type 0 where
  pub copied : (k : ℕ) → i ≤ k → k < length masks → get_or slots k 0 ≡ get_or masks k 0
  pub unfired : (k : ℕ) → i ≤ k → k < length masks → get_or fired k false ≡ false
  pub members : (k p : ℕ) → i ≤ k → k < length masks → is_member masks p k ≡ true → p < 128
  pub firsts : (p : ℕ) → p < 128 → get_or first p None ≡ first_from (is_member masks p) i (length masks - i)
  pub links : (k p : ℕ) → i ≤ k → k < length masks → is_member masks p k ≡ true → get_or next (k * 128 + p) None ≡ mask_behind masks p k
  pub sized : (k : ℕ) → i ≤ k → k < length masks → get_or sizes k 0 ≡ how_many (has_bit (get_or masks k 0)) 128
  pub counted : (k : ℕ) → i ≤ k → k < length masks → get_or counts k 0 ≡ 0
  pub ready_are : (k : ℕ) → i ≤ k → k < length masks → is_in ready k ≡ nat_eq 0 (get_or sizes k 0)
  pub before : (k : ℕ) → k < i → is_in ready k ≡ false
  pub behind : (k : ℕ) → length masks ≤ k → is_in ready k ≡ false

-- none is loaded yet
pub none_loaded : (masks slots : List ℕ) (fired : List Bool) (first next : List (Option ℕ)) (sizes counts : List ℕ) (ready : List Bool) (n m : ℕ) → m ≡ 128 → first ≡ replicate m None → ready ≡ replicate n false → IsLoading masks (length masks) slots fired first next sizes counts ready
none_loaded masks slots fired first next sizes counts ready n m long e f = record {
  copied = λ k lo hi. absurd (omega arith);
  unfired = λ k lo hi. absurd (omega arith);
  members = λ k p lo hi h. absurd (omega arith);
  firsts = λ p lt. let z : length masks - length masks ≡ 0 = omega arith in ap (λ l. get_or l p None) e ∙ get_or-replicate m p None None (omega arith) ∙ sym (ap (first_from (is_member masks p) (length masks)) z);
  links = λ k p lo hi h. absurd (omega arith);
  sized = λ k lo hi. absurd (omega arith);
  counted = λ k lo hi. absurd (omega arith);
  ready_are = λ k lo hi. absurd (omega arith);
  before = λ k lt. ap (λ r. is_in r k) f ∙ none_in n k;
  behind = λ k le. ap (λ r. is_in r k) f ∙ none_in n k;
}

-- what is put in front of the lists of its members, as the lists say
pub record IsPut (mask j size : ℕ) (first next first' next' : List (Option ℕ)) : Type 0 where
  pub sized : size ≡ how_many (has_bit mask) 128
  pub members : (p : ℕ) → has_bit mask p ≡ true → p < 128
  pub firsts : (p : ℕ) → p < 128 → get_or first' p None ≡ led mask j p (get_or first p None)
  pub links : (p : ℕ) → p < 128 → has_bit mask p ≡ true → get_or next' (j * 128 + p) None ≡ get_or first p None
  pub behind : (k : ℕ) → j * 128 + 128 ≤ k → get_or next' k None ≡ get_or next k None

-- one more is loaded
pub one_loaded : (masks : List ℕ) (j : ℕ) {slots : List ℕ} {fired : List Bool} {first next : List (Option ℕ)} {sizes counts : List ℕ} {ready : List Bool} → IsLoading masks (suc j) slots fired first next sizes counts ready → j < length masks → HasRoom (length slots) (length masks) fired first next sizes counts ready → (size : ℕ) (first' next' : List (Option ℕ)) → IsPut (get_or masks j 0) j size first next first' next' → (ready' : List Bool) → ((k : ℕ) → (k ≡ j → ⊥) → is_in ready' k ≡ is_in ready k) → is_in ready' j ≡ nat_eq 0 size → IsLoading masks j (set slots j (get_or masks j 0)) (set fired j false) first' next' (set sizes j size) (set counts j 0) ready'
one_loaded masks j {slots = slots} {fired = fired} {first = first} {next = next} {sizes = sizes} {counts = counts} {ready = ready} l below room size first' next' put ready' others here = record {
  copied = λ k lo hi. copied k lo hi (cases_eq k j);
  unfired = λ k lo hi. unfired k lo hi (cases_eq k j);
  members = λ k p lo hi h. members k p lo hi h (cases_eq k j);
  firsts = λ p lt. let e : length masks - j ≡ suc (length masks - suc j) = omega arith in put.firsts p lt ∙ ap (λ o. if is_member masks p j then Some j else o) (l.firsts p lt) ∙ sym (ap (first_from (is_member masks p) j) e);
  links = λ k p lo hi h. links k p lo hi h (cases_eq k j);
  sized = λ k lo hi. sized k lo hi (cases_eq k j);
  counted = λ k lo hi. counted k lo hi (cases_eq k j);
  ready_are = λ k lo hi. are k lo hi (cases_eq k j);
  before = λ k lt. others k (λ e. absurd (omega arith)) ∙ l.before k (omega arith);
  behind = λ k le. others k (λ e. absurd (omega arith)) ∙ l.behind k le;
}
  where
    in_room : j < length slots
    in_room = let x = room.loads in omega arith

    copied : (k : ℕ) → j ≤ k → k < length masks → (k ≡ j) ⊎ (k ≡ j → ⊥) → get_or (set slots j (get_or masks j 0)) k 0 ≡ get_or masks k 0
    copied k lo hi (inl q) = ap (λ k. get_or (set slots j (get_or masks j 0)) k 0) q ∙ get_or-set_same slots j (get_or masks j 0) 0 in_room ∙ ap (λ k. get_or masks k 0) (sym q)
    copied k lo hi (inr ne) = get_or-set_other slots j k (get_or masks j 0) 0 ne ∙ l.copied k (omega arith) hi

    unfired : (k : ℕ) → j ≤ k → k < length masks → (k ≡ j) ⊎ (k ≡ j → ⊥) → get_or (set fired j false) k false ≡ false
    unfired k lo hi (inl q) = ap (λ k. get_or (set fired j false) k false) q ∙ get_or-set_same fired j false false (let x = room.fired_room in omega (arith, in_room))
    unfired k lo hi (inr ne) = get_or-set_other fired j k false false ne ∙ l.unfired k (omega arith) hi

    members : (k p : ℕ) → j ≤ k → k < length masks → is_member masks p k ≡ true → (k ≡ j) ⊎ (k ≡ j → ⊥) → p < 128
    members k p lo hi h (inl q) = put.members p (ap (is_member masks p) (sym q) ∙ h)
    members k p lo hi h (inr ne) = l.members k p (omega arith) hi h

    links : (k p : ℕ) → j ≤ k → k < length masks → is_member masks p k ≡ true → (k ≡ j) ⊎ (k ≡ j → ⊥) → get_or next' (k * 128 + p) None ≡ mask_behind masks p k
    links k p lo hi h (inl q) =
        let m : is_member masks p j ≡ true = ap (is_member masks p) (sym q) ∙ h in
        ap (λ k. get_or next' (k * 128 + p) None) q ∙ put.links p (put.members p m) m ∙ l.firsts p (put.members p m) ∙ ap (mask_behind masks p) (sym q)
    links k p lo hi h (inr ne) = put.behind (k * 128 + p) (omega arith) ∙ l.links k p (omega arith) hi h

    sized : (k : ℕ) → j ≤ k → k < length masks → (k ≡ j) ⊎ (k ≡ j → ⊥) → get_or (set sizes j size) k 0 ≡ how_many (has_bit (get_or masks k 0)) 128
    sized k lo hi (inl q) = ap (λ k. get_or (set sizes j size) k 0) q ∙ get_or-set_same sizes j size 0 (let x = room.sizes_room in omega (arith, in_room)) ∙ put.sized ∙ ap (λ k. how_many (has_bit (get_or masks k 0)) 128) (sym q)
    sized k lo hi (inr ne) = get_or-set_other sizes j k size 0 ne ∙ l.sized k (omega arith) hi

    counted : (k : ℕ) → j ≤ k → k < length masks → (k ≡ j) ⊎ (k ≡ j → ⊥) → get_or (set counts j 0) k 0 ≡ 0
    counted k lo hi (inl q) = ap (λ k. get_or (set counts j 0) k 0) q ∙ get_or-set_same counts j 0 0 (let x = room.counts_room in omega (arith, in_room))
    counted k lo hi (inr ne) = get_or-set_other counts j k 0 0 ne ∙ l.counted k (omega arith) hi

    are : (k : ℕ) → j ≤ k → k < length masks → (k ≡ j) ⊎ (k ≡ j → ⊥) → is_in ready' k ≡ nat_eq 0 (get_or (set sizes j size) k 0)
    are k lo hi (inl q) = ap (is_in ready') q ∙ here ∙ ap (nat_eq 0) (sym (get_or-set_same sizes j size 0 (let x = room.sizes_room in omega (arith, in_room)))) ∙ ap (λ k. nat_eq 0 (get_or (set sizes j size) k 0)) (sym q)
    are k lo hi (inr ne) = others k ne ∙ l.ready_are k (omega arith) hi ∙ ap (nat_eq 0) (sym (get_or-set_other sizes j k size 0 ne))

-- none has fired
pub none_fired : (masks : List ℕ) (k : ℕ) → get_or (map (λ _. false) masks) k false ≡ false
none_fired [] k = refl
none_fired (m ∷ masks) zero = refl
none_fired (m ∷ masks) (suc k) = none_fired masks k

-- what the unit then holds
pub loaded_masks : {masks slots : List ℕ} {fired : List Bool} {first next : List (Option ℕ)} {sizes counts : List ℕ} {ready : List Bool} → IsLoading masks 0 slots fired first next sizes counts ready → length masks ≤ length slots → take (length masks) slots ≡ masks
loaded_masks {masks = masks} {slots = slots} l le = ext_get_or 0 (take (length masks) slots) masks (length-take-le (length masks) slots le) (λ i lt. let x = length-take-le (length masks) slots le in get_or-take (length masks) slots i 0 (omega arith) ∙ l.copied i (omega arith) (omega arith))

pub loaded_fired : {masks slots : List ℕ} {fired : List Bool} {first next : List (Option ℕ)} {sizes counts : List ℕ} {ready : List Bool} → IsLoading masks 0 slots fired first next sizes counts ready → length masks ≤ length fired → take (length masks) fired ≡ map (λ _. false) masks
loaded_fired {masks = masks} {fired = fired} l le = ext_get_or false (take (length masks) fired) (map (λ _. false) masks) (length-take-le (length masks) fired le ∙ sym (length-map masks (λ _. false))) (λ i lt. let x = length-take-le (length masks) fired le in get_or-take (length masks) fired i false (omega arith) ∙ l.unfired i (omega arith) (omega arith) ∙ sym (none_fired masks i))

-- all are loaded
pub all_loaded : {masks slots : List ℕ} {fired : List Bool} {first next : List (Option ℕ)} {sizes counts : List ℕ} {ready : List Bool} → IsLoading masks 0 slots fired first next sizes counts ready → IsKept masks (map (λ _. false) masks) 0 first next sizes counts ready
all_loaded {masks = masks} {sizes = sizes} {counts = counts} {ready = ready} l = record {
  members = λ k p h. in_masks k p h (cases_lt k (length masks));
  in_order = λ i j p lt a b f. absurd (both_ways _ (none_fired masks j) f);
  firsts = λ p lt. let e : length masks - 0 ≡ length masks = omega arith in l.firsts p lt ∙ ap (first_from (is_member masks p) 0) e ∙ first_same (is_member masks p) (awaits masks (map (λ _. false) masks) p) 0 (length masks) (λ i lo hi. ap (λ b. not b && is_member masks p i) (sym (none_fired masks i)));
  links = λ k p lt h. l.links k p (omega arith) lt h;
  sized = λ k lt. l.sized k (omega arith) lt;
  counted = λ k lt. l.counted k (omega arith) lt ∙ sym (none_pass (waits_for masks (map (λ _. false) masks) 0 k) 128 (λ p i. and_left _ _ (has_bit-none p)));
  ready_are = λ k. are k (cases_lt k (length masks));
}
  where
    in_masks : (k p : ℕ) → is_member masks p k ≡ true → (k < length masks) ⊎ (length masks ≤ k) → p < 128
    in_masks k p h (inl lt) = l.members k p (omega arith) lt h
    in_masks k p h (inr ge) = absurd (both_ways _ (ap (λ n. has_bit n p) (get_or_past masks k 0 ge) ∙ has_bit-none p) h)

    are : (k : ℕ) → (k < length masks) ⊎ (length masks ≤ k) → is_in ready k ≡ is_full masks (map (λ _. false) masks) sizes counts k
    are k (inr ge) = l.behind k ge ∙ sym (and_left _ _ (le-ltb k (length masks) ge))
    are k (inl lt) =
        l.ready_are k (omega arith) lt
        ∙ ap (λ n. nat_eq n (get_or sizes k 0)) (sym (l.counted k (omega arith) lt))
        ∙ ap (λ b. not b && nat_eq (get_or counts k 0) (get_or sizes k 0)) (sym (none_fired masks k))
        ∙ ap (λ b. b && (not (get_or (map (λ _. false) masks) k false) && nat_eq (get_or counts k 0) (get_or sizes k 0))) (sym (lt-ltb k (length masks) lt))

-- the same, as the unit writes it: mask n - 1 is loaded
pub loaded_next : (masks : List ℕ) (n : ℕ) {slots : List ℕ} {fired : List Bool} {first next : List (Option ℕ)} {sizes counts : List ℕ} {ready : List Bool} → IsLoading masks n slots fired first next sizes counts ready → 0 < n → n ≤ length masks → HasRoom (length slots) (length masks) fired first next sizes counts ready → (mask size : ℕ) (first' next' : List (Option ℕ)) → mask ≡ get_or masks (n - 1) mask → IsPut mask (n - 1) size first next first' next' → (ready' : List Bool) → ((k : ℕ) → (k ≡ n - 1 → ⊥) → is_in ready' k ≡ is_in ready k) → is_in ready' (n - 1) ≡ nat_eq 0 size → IsLoading masks (n - 1) (set slots (n - 1) mask) (set fired (n - 1) false) first' next' (set sizes (n - 1) size) (set counts (n - 1) 0) ready'
loaded_next masks n {slots = slots} {fired = fired} {first = first} {next = next} {sizes = sizes} {counts = counts} {ready = ready} l pos le room mask size first' next' at put ready' others here =
    let e : n ≡ suc (n - 1) = omega arith in
    let same : mask ≡ get_or masks (n - 1) 0 = get_or_read masks (n - 1) mask (omega arith) at 0 in
    subst (λ m. IsLoading masks (n - 1) (set slots (n - 1) m) (set fired (n - 1) false) first' next' (set sizes (n - 1) size) (set counts (n - 1) 0) ready') (sym same)
    (one_loaded masks (n - 1) (subst (λ i. IsLoading masks i slots fired first next sizes counts ready) e l) (omega arith) room size first' next' (subst (λ m. IsPut m (n - 1) size first next first' next') same put) ready' others here)

pub room_next : (slots : List ℕ) {loaded : ℕ} {fired : List Bool} {first next : List (Option ℕ)} {sizes counts : List ℕ} {ready : List Bool} → HasRoom (length slots) loaded fired first next sizes counts ready → (j mask size : ℕ) (first' next' : List (Option ℕ)) (ready' : List Bool) → length first' ≡ length first → length next' ≡ length next → length ready' ≡ length ready → HasRoom (length (set slots j mask)) loaded (set fired j false) first' next' (set sizes j size) (set counts j 0) ready'
room_next slots {fired = fired} {sizes = sizes} {counts = counts} h j mask size first' next' ready' a b c =
    let e = length-set slots j mask in
    record {
      loads = let x = h.loads in omega arith;
      fired_room = length-set fired j false ∙ h.fired_room ∙ sym e;
      first_room = a ∙ h.first_room;
      next_room = b ∙ h.next_room ∙ ap (λ n. n * 128) (sym e);
      sizes_room = length-set sizes j size ∙ h.sizes_room ∙ sym e;
      counts_room = length-set counts j 0 ∙ h.counts_room ∙ sym e;
      ready_room = c ∙ h.ready_room ∙ sym e;
    }
