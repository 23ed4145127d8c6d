-- An arrival, as the unit writes it.
use Rattle.std.proofs.Common.{◌≡◌, ◌≢◌, ℕ, ◌+◌, ◌<◌, Bool, true, false, nat_eq, List, length, take, set, get_or, Option, None, Some, refl, sym, ap, ◌∙◌, subst, arith, length-set, length-take-le, get_or-set_same, get_or-set_other}
use Rattle.std.specs.Prelude.{◌^◌, bit_or}
use Rattle.std.proofs.lemmas.List.{get_or_read}
use Rattle.std.proofs.lemmas.Bool.{eq-eqb, ne_eqb}
use Rattle.bm_base.specs.Mask.{has_bit}
use Rattle.dbm_unit.specs.Kept.{is_in, IsKept, HasRoom}
use Rattle.dbm_unit.proofs.Arrivals.{Arrival, arrival, arrived}

-- a unit at which processor p, which did not wait before, has mask j as its first unfired mask
pub record Front (slots : List ℕ) (loaded : ℕ) (fired : List Bool) (waiting : ℕ) (first next : List (Option ℕ)) (sizes counts : List ℕ) (ready : List Bool) (p j : ℕ) : Type 0 where
  pub room : HasRoom (length slots) loaded fired first next sizes counts ready
  pub kept : IsKept (take loaded slots) (take loaded fired) waiting first next sizes counts ready
  pub one : p < 128
  pub new : has_bit waiting p ≡ false
  pub at : get_or first p None ≡ Some j

pub front_arrival : {slots : List ℕ} {loaded : ℕ} {fired : List Bool} {waiting : ℕ} {first next : List (Option ℕ)} {sizes counts : List ℕ} {ready : List Bool} {p j : ℕ} → Front slots loaded fired waiting first next sizes counts ready p j → Arrival (take loaded slots) (take loaded fired) sizes counts ready j
front_arrival {p = p} {j = j} f = arrival f.kept p j f.one f.new f.at

pub front_below : {slots : List ℕ} {loaded : ℕ} {fired : List Bool} {waiting : ℕ} {first next : List (Option ℕ)} {sizes counts : List ℕ} {ready : List Bool} {p j : ℕ} → Front slots loaded fired waiting first next sizes counts ready p j → j < length slots
front_below {slots = slots} {loaded = loaded} f = let x = (front_arrival f).below in let y = length-take-le loaded slots f.room.loads in let z = f.room.loads in omega arith

-- what is read of the processor's list
pub read_front : (first : List (Option ℕ)) (p k : ℕ) (o : Option ℕ) → length first ≡ 128 → p < 128 → k ≡ p → o ≡ get_or first k o → get_or first p None ≡ o
read_front first p k o long lt e was = sym (get_or_read first p o (omega arith) (was ∙ ap (λ k. get_or first k o) e) None)

-- what is read at mask j
pub read_count : {slots : List ℕ} {loaded : ℕ} {fired : List Bool} {waiting : ℕ} {first next : List (Option ℕ)} {sizes counts : List ℕ} {ready : List Bool} {p j : ℕ} → Front slots loaded fired waiting first next sizes counts ready p j → (n : ℕ) → n ≡ get_or counts j n → n ≡ get_or counts j 0
read_count {counts = counts} {j = j} f n e = get_or_read counts j n (let x = front_below f in let y = f.room.counts_room in omega arith) e 0

-- the room after the count has risen
pub risen_room : {room loaded : ℕ} {fired : List Bool} {first next : List (Option ℕ)} {sizes counts : List ℕ} {ready : List Bool} → HasRoom room loaded fired first next sizes counts ready → (j n : ℕ) (ready' : List Bool) → length ready' ≡ length ready → HasRoom room loaded fired first next sizes (set counts j n) ready'
risen_room {counts = counts} h j n ready' e = record {
  loads = h.loads;
  fired_room = h.fired_room;
  first_room = h.first_room;
  next_room = h.next_room;
  sizes_room = h.sizes_room;
  counts_room = length-set counts j n ∙ h.counts_room;
  ready_room = e ∙ h.ready_room;
}

-- with what was read of the counts and sizes
risen : {slots : List ℕ} {loaded : ℕ} {fired : List Bool} {waiting : ℕ} {first next : List (Option ℕ)} {sizes counts : List ℕ} {ready : List Bool} {p j : ℕ} → Front slots loaded fired waiting first next sizes counts ready p j → (n waiting' : ℕ) → n ≡ get_or counts j n → waiting' ≡ bit_or waiting (2 ^ p) → (ready' : List Bool) → ((i : ℕ) → (i ≡ j → ⊥) → is_in ready' i ≡ is_in ready i) → is_in ready' j ≡ nat_eq (n + 1) (get_or sizes j 0) → IsKept (take loaded slots) (take loaded fired) waiting' first next sizes (set counts j (n + 1)) ready'
risen {slots = slots} {loaded = loaded} {fired = fired} {waiting = waiting} {first = first} {next = next} {sizes = sizes} {counts = counts} {p = p} {j = j} f n waiting' was waits ready' others here =
    let e : n ≡ get_or counts j 0 = read_count f n was in
    subst (λ w. IsKept (take loaded slots) (take loaded fired) w first next sizes (set counts j (n + 1)) ready') (sym waits)
    (subst (λ k. IsKept (take loaded slots) (take loaded fired) (bit_or waiting (2 ^ p)) first next sizes (set counts j (k + 1)) ready') (sym e)
    (arrived f.kept p j f.one f.new f.at (let x = length-take-le loaded slots f.room.loads in let y = f.room.counts_room in let z = f.room.loads in omega arith) ready' others (here ∙ ap (λ k. nat_eq (k + 1) (get_or sizes j 0)) e)))

-- the count and the size that are compared
compared : {slots : List ℕ} {loaded : ℕ} {fired : List Bool} {waiting : ℕ} {first next : List (Option ℕ)} {sizes counts : List ℕ} {ready : List Bool} {p j : ℕ} → Front slots loaded fired waiting first next sizes counts ready p j → (n m size : ℕ) → m ≡ get_or (set counts j (n + 1)) j m → size ≡ get_or sizes j size → (m ≡ n + 1) × (size ≡ get_or sizes j 0)
compared {sizes = sizes} {counts = counts} {j = j} f n m size more is =
    (more ∙ get_or-set_same counts j (n + 1) m (let x = front_below f in let y = f.room.counts_room in omega arith), get_or_read sizes j size (let x = front_below f in let y = f.room.sizes_room in omega arith) is 0)

-- the count reaches the number of members, or it does not
pub reaches : {slots : List ℕ} {loaded : ℕ} {fired : List Bool} {waiting : ℕ} {first next : List (Option ℕ)} {sizes counts : List ℕ} {ready : List Bool} {p j : ℕ} → Front slots loaded fired waiting first next sizes counts ready p j → (n m size waiting' : ℕ) → n ≡ get_or counts j n → m ≡ get_or (set counts j (n + 1)) j m → size ≡ get_or sizes j size → waiting' ≡ bit_or waiting (2 ^ p) → m ≡ size → (ready' : List Bool) → ready' ≡ set ready j true → IsKept (take loaded slots) (take loaded fired) waiting' first next sizes (set counts j (n + 1)) ready'
reaches {ready = ready} {j = j} f n m size waiting' was more is waits same ready' put =
    let (a, b) = compared f n m size more is in
    risen f n waiting' was waits ready' (λ i ne. ap (λ r. is_in r i) put ∙ get_or-set_other ready j i true false ne) (ap (λ r. is_in r j) put ∙ get_or-set_same ready j true false (let x = front_below f in let y = f.room.ready_room in omega arith) ∙ sym (eq-eqb _ _ (sym a ∙ same ∙ b)))

pub stays_below : {slots : List ℕ} {loaded : ℕ} {fired : List Bool} {waiting : ℕ} {first next : List (Option ℕ)} {sizes counts : List ℕ} {ready : List Bool} {p j : ℕ} → Front slots loaded fired waiting first next sizes counts ready p j → (n m size waiting' : ℕ) → n ≡ get_or counts j n → m ≡ get_or (set counts j (n + 1)) j m → size ≡ get_or sizes j size → waiting' ≡ bit_or waiting (2 ^ p) → m ≢ size → IsKept (take loaded slots) (take loaded fired) waiting' first next sizes (set counts j (n + 1)) ready
stays_below {ready = ready} f n m size waiting' was more is waits other =
    let (a, b) = compared f n m size more is in
    risen f n waiting' was waits ready (λ i ne. refl) ((front_arrival f).new ∙ sym (ne_eqb _ _ (λ e. other (a ∙ e ∙ sym b))))
