-- The lists of the processors' masks, as a mask is put in front of those of its members.
use Rattle.std.proofs.Common.{◌≡◌, ℕ, suc, ◌+◌, ◌*◌, ◌<◌, ◌≤◌, true, false, List, length, set, get_or, Option, None, Some, refl, sym, ap, ◌∙◌, arith, get_or-set_same, get_or-set_other, length-set, ◌⊎◌, inl, inr}
use Rattle.std.proofs.lemmas.Bool.{cases_eq, cases_lt, both_ways, cond-true, cond-false}
use Rattle.bm_base.specs.Mask.{has_bit, IsFirstMember}
use Rattle.dbm_unit.specs.Table.{how_many}
use Rattle.dbm_unit.specs.Lists.{led}
use Rattle.dbm_unit.proofs.Counts.{none_yet, one_more, none_join}

-- mask j is in front of the lists of its members below n, and was in none
pub record IsLed (mask j n : ℕ) (old_first old_next first next : List (Option ℕ)) (size : ℕ) : Type 0 where
  pub room : length first ≡ length old_first
  pub nodes : length next ≡ length old_next
  pub sized : size ≡ how_many (has_bit mask) n
  pub few : size ≤ n
  pub firsts : (p : ℕ) → p < n → get_or first p None ≡ led mask j p (get_or old_first p None)
  pub ahead : (p : ℕ) → n ≤ p → get_or first p None ≡ get_or old_first p None
  pub links : (p : ℕ) → p < n → has_bit mask p ≡ true → get_or next (j * 128 + p) None ≡ get_or old_first p None
  pub behind : (k : ℕ) → j * 128 + 128 ≤ k → get_or next k None ≡ get_or old_next k None

pub none_led : (mask j : ℕ) (first next : List (Option ℕ)) → IsLed mask j 0 first next first next 0
none_led mask j first next = record { room = refl; nodes = refl; sized = sym (none_yet _); few = omega arith; firsts = λ p lt. absurd (omega arith); ahead = λ p lt. refl; links = λ p lt h. absurd (omega arith); behind = λ k le. refl }

next_place : (n p : ℕ) → p < n + 1 → (p ≡ n → ⊥) → p < n
next_place n p lt ne = omega arith

-- no member stands between
pub skip_led : (mask j n m : ℕ) (old_first old_next first next : List (Option ℕ)) (size : ℕ) → IsLed mask j n old_first old_next first next size → n ≤ m → ((q : ℕ) → n ≤ q → q < m → has_bit mask q ≡ false) → IsLed mask j m old_first old_next first next size
skip_led mask j n m old_first old_next first next size l le out = record {
  room = l.room;
  nodes = l.nodes;
  sized = l.sized ∙ sym (none_join (has_bit mask) n m le out);
  few = let x = l.few in omega arith;
  firsts = λ p lt. front p lt (cases_lt p n);
  ahead = λ p from. l.ahead p (omega arith);
  links = λ p lt h. link p lt h (cases_lt p n);
  behind = l.behind;
}
  where
    front : (p : ℕ) → p < m → (p < n) ⊎ (n ≤ p) → get_or first p None ≡ led mask j p (get_or old_first p None)
    front p lt (inl below) = l.firsts p below
    front p lt (inr from) = l.ahead p from ∙ sym (cond-false _ _ _ (out p from lt))

    link : (p : ℕ) → p < m → has_bit mask p ≡ true → (p < n) ⊎ (n ≤ p) → get_or next (j * 128 + p) None ≡ get_or old_first p None
    link p lt h (inl below) = l.links p below h
    link p lt h (inr from) = absurd (both_ways _ (out p from lt) h)

pub member_led : (mask j n : ℕ) (old_first old_next first next : List (Option ℕ)) (size : ℕ) → IsLed mask j n old_first old_next first next size → n < 128 → length first ≡ 128 → j * 128 + 128 ≤ length next → has_bit mask n ≡ true → IsLed mask j (n + 1) old_first old_next (set first n (Some j)) (set next (j * 128 + n) (get_or first n None)) (size + 1)
member_led mask j n old_first old_next first next size l lt128 long far is_in = record {
  room = length-set first n (Some j) ∙ l.room;
  nodes = length-set next (j * 128 + n) (get_or first n None) ∙ l.nodes;
  sized = let q : suc n ≡ n + 1 = omega arith in ap (λ k. k + 1) l.sized ∙ sym (one_more (has_bit mask) n is_in) ∙ ap (how_many (has_bit mask)) q;
  few = let x = l.few in omega arith;
  firsts = λ p lt. front p lt (cases_eq p n);
  ahead = λ p le. get_or-set_other first n p (Some j) None (λ e. absurd (omega arith)) ∙ l.ahead p (omega arith);
  links = λ p lt h. link p lt h (cases_eq p n);
  behind = λ k le. get_or-set_other next (j * 128 + n) k (get_or first n None) None (λ e. absurd (omega arith)) ∙ l.behind k le;
}
  where
    front : (p : ℕ) → p < n + 1 → (p ≡ n) ⊎ (p ≡ n → ⊥) → get_or (set first n (Some j)) p None ≡ led mask j p (get_or old_first p None)
    front p lt (inl q) = ap (λ p. get_or (set first n (Some j)) p None) q ∙ get_or-set_same first n (Some j) None (omega arith) ∙ sym (cond-true _ _ _ (ap (has_bit mask) q ∙ is_in))
    front p lt (inr ne) = get_or-set_other first n p (Some j) None ne ∙ l.firsts p (next_place n p lt ne)

    link : (p : ℕ) → p < n + 1 → has_bit mask p ≡ true → (p ≡ n) ⊎ (p ≡ n → ⊥) → get_or (set next (j * 128 + n) (get_or first n None)) (j * 128 + p) None ≡ get_or old_first p None
    link p lt h (inl q) = ap (λ p. get_or (set next (j * 128 + n) (get_or first n None)) (j * 128 + p) None) q ∙ get_or-set_same next (j * 128 + n) (get_or first n None) None (omega arith) ∙ l.ahead n (omega arith) ∙ ap (λ p. get_or old_first p None) (sym q)
    link p lt h (inr ne) = get_or-set_other next (j * 128 + n) (j * 128 + p) (get_or first n None) None (λ e. ne (omega arith)) ∙ l.links p (next_place n p lt ne) h

-- the next member
pub next_led : (mask j n p : ℕ) (old_first old_next first next : List (Option ℕ)) (size : ℕ) → IsLed mask j n old_first old_next first next size → IsFirstMember mask n p → length first ≡ 128 → j * 128 + 128 ≤ length next → IsLed mask j (p + 1) old_first old_next (set first p (Some j)) (set next (j * 128 + p) (get_or first p None)) (size + 1)
next_led mask j n p old_first old_next first next size l h long far = member_led mask j p old_first old_next first next size (skip_led mask j n p old_first old_next first next size l h.low h.skipped) h.high long far h.member
