-- What the four calls of the unit have in common.
use Rattle.std.proofs.Common.{◌≡◌, ℕ, zero, suc, ◌+◌, ◌*◌, ◌<◌, ◌≤◌, Bool, true, false, List, [], ◌∷◌, length, take, set, get_or, Option, None, Some, refl, sym, ap, ◌∙◌, subst, arith, length-take-le, get_or-take}
use Rattle.std.proofs.lemmas.List.{get_or_read}
use Rattle.std.proofs.lemmas.Option.{slice_get_within}
use Rattle.bm_base.specs.Mask.{has_bit, without}
use Rattle.unit_law.specs.Units.{IsReady, dynamic_choice}
use Rattle.unit_law.proofs.ReadyFacts.{first_passes, ready_of}
use Rattle.dbm_unit.specs.Kept.{is_in, least_in, IsKept, HasRoom}
use Rattle.dbm_unit.proofs.Readiness.{full_is_ready, least_is_choice}
use Rattle.dbm_unit.specs.Lists.{advanced}
use Rattle.dbm_unit.proofs.Fires.{fires}

pub take_set : {A : Type 0} (n : ℕ) (xs : List A) (i : ℕ) (y : A) → take n (set xs i y) ≡ set (take n xs) i y
take_set zero xs i y = refl
take_set (suc n) [] i y = refl
take_set (suc n) (x ∷ xs) zero y = refl
take_set (suc n) (x ∷ xs) (suc i) y = ap (λ l. x ∷ l) (take_set n xs i y)

-- the least ready mask is a mask of the block
pub least_ready : {masks : List ℕ} {fired : List Bool} {waiting : ℕ} {first next : List (Option ℕ)} {sizes counts : List ℕ} {ready : List Bool} → IsKept masks fired waiting first next sizes counts ready → (j : ℕ) → Some j ≡ least_in ready → (is_in ready j ≡ true) × (j < length masks)
least_ready {masks = masks} {fired = fired} {waiting = waiting} {ready = ready} k j e =
    let t : is_in ready j ≡ true = (first_passes (is_in ready) 0 (length ready) j (sym e)).0 in
    let r : IsReady masks fired (has_bit waiting) j = ready_of masks fired waiting j (sym (full_is_ready k j) ∙ t) in
    (t, slice_get_within masks j r.mask r.at)

-- the slot that is read is the mask of the block
pub slot_mask : (slots : List ℕ) (n j mask : ℕ) → j < n → n ≤ length slots → mask ≡ get_or slots j mask → mask ≡ get_or (take n slots) j 0
slot_mask slots n j mask lt le e = get_or_read slots j mask (omega arith) e 0 ∙ sym (get_or-take n slots j 0 lt)

-- the same, written another way
pub kept_so : {masks : List ℕ} {fired fired' : List Bool} {waiting waiting' : ℕ} {first next next' : List (Option ℕ)} {sizes counts : List ℕ} {ready ready' : List Bool} → fired ≡ fired' → waiting ≡ waiting' → next ≡ next' → ready ≡ ready' → IsKept masks fired waiting first next sizes counts ready → IsKept masks fired' waiting' first next' sizes counts ready'
kept_so {masks = masks} {fired = fired} {fired' = fired'} {waiting = waiting} {waiting' = waiting'} {first = first} {next = next} {next' = next'} {sizes = sizes} {counts = counts} {ready = ready} {ready' = ready'} a b c d k =
    subst (λ x. IsKept masks x waiting' first next' sizes counts ready') a
    (subst (λ x. IsKept masks fired x first next' sizes counts ready') b
    (subst (λ x. IsKept masks fired waiting first x sizes counts ready') c
    (subst (λ x. IsKept masks fired waiting first next sizes counts x) d k)))

-- of a unit: the least ready mask is its choice, and is among those that are loaded
pub choice_of : (slots : List ℕ) {loaded : ℕ} {fired : List Bool} {waiting : ℕ} {first next : List (Option ℕ)} {sizes counts : List ℕ} {ready : List Bool} → HasRoom (length slots) loaded fired first next sizes counts ready → IsKept (take loaded slots) (take loaded fired) waiting first next sizes counts ready → least_in ready ≡ dynamic_choice (take loaded slots) (take loaded fired) waiting
choice_of slots {loaded = loaded} h k = least_is_choice k (let x = length-take-le loaded slots h.loads in let y = h.loads in let z = h.ready_room in omega arith)

pub picked : (slots : List ℕ) {loaded : ℕ} {fired : List Bool} {waiting : ℕ} {first next : List (Option ℕ)} {sizes counts : List ℕ} {ready : List Bool} → HasRoom (length slots) loaded fired first next sizes counts ready → IsKept (take loaded slots) (take loaded fired) waiting first next sizes counts ready → (j : ℕ) → Some j ≡ least_in ready → (is_in ready j ≡ true) × (j < loaded)
picked slots {loaded = loaded} h k j e = let (a, b) = least_ready k j e in (a, let x = length-take-le loaded slots h.loads in omega arith)

-- what fires leaves, as the unit writes it
pub after_pick : (slots : List ℕ) {loaded : ℕ} {fired : List Bool} {waiting : ℕ} {first next : List (Option ℕ)} {sizes counts : List ℕ} {ready : List Bool} → HasRoom (length slots) loaded fired first next sizes counts ready → IsKept (take loaded slots) (take loaded fired) waiting first next sizes counts ready → (j mask waiting' : ℕ) (first' next' : List (Option ℕ)) (ready' : List Bool) → Some j ≡ least_in ready → mask ≡ get_or slots j mask → waiting' ≡ without waiting mask → ((p : ℕ) → p < 128 → get_or first' p None ≡ advanced mask (get_or next (j * 128 + p) None) p (get_or first p None)) → next' ≡ next → ready' ≡ set ready j false → IsKept (take loaded slots) (take loaded (set fired j true)) waiting' first' next' sizes (set counts j 0) ready'
after_pick slots {loaded = loaded} {fired = fired} {waiting = waiting} {first = first} {next = next} {counts = counts} {ready = ready} h k j mask waiting' first' next' ready' least at left led nodes popped =
    let (t, lt) = picked slots h k j least in
    let long = length-take-le loaded slots h.loads in
    let long2 = length-take-le loaded fired (let x = h.loads in let y = h.fired_room in omega arith) in
    let same : mask ≡ get_or (take loaded slots) j 0 = slot_mask slots loaded j mask lt h.loads at in
    kept_so (sym (take_set loaded fired j true)) (ap (without waiting) (sym same) ∙ sym left) (sym nodes) (sym popped)
    (fires k j t (omega arith) (long2 ∙ sym long) (let x = h.counts_room in let y = h.loads in omega arith) (let x = h.ready_room in let y = h.loads in omega arith) first' (λ p l. led p l ∙ ap (λ m. advanced m (get_or next (j * 128 + p) None) p (get_or first p None)) same))
