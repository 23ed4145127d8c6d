-- The static unit's choice, by its head, is lawful.
use Rattle.std.proofs.Common.{◌≡◌, ℕ, zero, suc, ◌+◌, ◌<◌, ◌≤◌, Bool, true, false, not, ◌&&◌, List, [], ◌∷◌, length, get_or, set, Some, None, slice_get, map, refl, sym, ap, ◌∙◌, arith, if◌then◌else◌}
use Rattle.std.proofs.lemmas.Bool.{both_ways, false_from_ne_true}
use Rattle.std.proofs.lemmas.Option.{slice_get_within}
use Rattle.bm_base.specs.Mask.{has_bit, is_within}
use Rattle.unit_law.specs.Units.{IsLawful, static_choice, if_ready, is_ready_mask, is_clear}
use Rattle.unit_law.proofs.ReadyFacts.{static_lawful, clear_from, first_at, first_none}
use Rattle.sbm_unit.specs.Queue.{Queue, fired_front}

pub front_fired : (n : ℕ) (ms : List ℕ) (j : ℕ) → get_or (fired_front n ms) j false ≡ true → j < n
front_fired n [] j e = absurd (both_ways true (sym e) refl)
front_fired zero (m ∷ ms) zero e = absurd (both_ways true (sym e) refl)
front_fired zero (m ∷ ms) (suc j) e = absurd (let x = front_fired zero ms j e in omega arith)
front_fired (suc n) (m ∷ ms) zero e = omega arith
front_fired (suc n) (m ∷ ms) (suc j) e = let x = front_fired n ms j e in omega arith

pub front_is : (n : ℕ) (ms : List ℕ) (i j : ℕ) → i < j → get_or (fired_front n ms) j false ≡ true → get_or (fired_front n ms) i false ≡ true
front_is n [] i j lt e = e
front_is zero (m ∷ ms) i zero lt e = absurd (omega arith)
front_is zero (m ∷ ms) i (suc j) lt e = absurd (let x = front_fired zero ms j e in omega arith)
front_is (suc n) (m ∷ ms) i zero lt e = absurd (omega arith)
front_is (suc n) (m ∷ ms) zero (suc j) lt e = refl
front_is (suc n) (m ∷ ms) (suc i) (suc j) lt e = front_is n ms i j (omega arith) e

pub queue_lawful : (u : Queue) → IsLawful u.masks (fired_front u.head u.masks) (has_bit u.waiting) (static_choice u.masks (fired_front u.head u.masks) u.waiting)
queue_lawful u = static_lawful u.masks (fired_front u.head u.masks) u.waiting (front_is u.head u.masks)

front_at : (n : ℕ) (ms : List ℕ) (j : ℕ) → j < length ms → j < n → get_or (fired_front n ms) j false ≡ true
front_at n [] j lt le = absurd (omega arith)
front_at zero (m ∷ ms) j lt le = absurd (omega arith)
front_at (suc n) (m ∷ ms) zero lt le = refl
front_at (suc n) (m ∷ ms) (suc j) lt le = front_at n ms j (omega arith) (omega arith)

-- where all have fired, the choice is none
pub choice_past : (n : ℕ) (ms : List ℕ) (w : ℕ) → length ms ≤ n → static_choice ms (fired_front n ms) w ≡ None
choice_past n ms w le = ap (if_ready ms (fired_front n ms) w) (first_none (λ j. not (get_or (fired_front n ms) j false)) 0 (length ms) (λ i lo lt. ap not (front_at n ms i (omega arith) (omega arith))))

-- the head's readiness is that its members wait
pub choice_head : (n : ℕ) (ms : List ℕ) (w mask : ℕ) → slice_get ms n ≡ Some mask → static_choice ms (fired_front n ms) w ≡ (if is_within mask w then Some n else None)
choice_head n ms w mask at =
    ap (if_ready ms (fired_front n ms) w) (first_at (λ j. not (get_or (fired_front n ms) j false)) 0 (length ms) n (omega arith) lt (ap not unfired) (λ i lo l. ap not (front_at n ms i (omega (arith, lt)) l)))
    ∙ ap (λ v. if v then Some n else None) (ap (is_ready_mask ms (fired_front n ms) w n) at ∙ ap (λ v. (not v && is_within mask w) && is_clear n mask 0 ms (fired_front n ms)) unfired ∙ ap (λ v. is_within mask w && v) clear ∙ and-true (is_within mask w))
  where
    lt : n < 0 + length ms
    lt = let x = slice_get_within ms n mask at in omega arith

    unfired : get_or (fired_front n ms) n false ≡ false
    unfired = false_from_ne_true _ (λ e. let x = front_fired n ms n e in omega arith)

    clear : is_clear n mask 0 ms (fired_front n ms) ≡ true
    clear = clear_from n mask 0 ms (fired_front n ms) (λ k other e l f. absurd (both_ways _ f (front_at n ms (0 + k) (let x = slice_get_within ms k other e in omega arith) l)))

    and-true : (v : Bool) → (v && true) ≡ v
    and-true true = refl
    and-true false = refl

pub front_more : (n : ℕ) (ms : List ℕ) → n < length ms → fired_front (n + 1) ms ≡ set (fired_front n ms) n true
front_more n ms lt = let e : n + 1 ≡ suc n = omega arith in ap (λ k. fired_front k ms) e ∙ go n ms lt
  where
    go : (n : ℕ) (ms : List ℕ) → n < length ms → fired_front (suc n) ms ≡ set (fired_front n ms) n true
    go n [] lt = absurd (omega arith)
    go zero (m ∷ ms) lt = refl
    go (suc n) (m ∷ ms) lt = ap (λ l. true ∷ l) (go n ms (omega arith))

pub front_none : (ms : List ℕ) → fired_front 0 ms ≡ map (λ _. false) ms
front_none [] = refl
front_none (m ∷ ms) = ap (λ l. false ∷ l) (front_none ms)
